-- A client's record, and what happens to it.
use Rattle.std.specs.Prelude.{ℕ, ◌+◌, Bool, true, false, ◌||◌, List, [], ◌∷◌, ◌++◌, drop, Option, Some, None}
use Rattle.std.specs.Option.{option_map}
use Rattle.std.specs.List.{list_any}
use Rattle.std.specs.Ordering.{nat_cmp, eq_by_cmp}
use Rattle.std.specs.Cmp.Lexicographic.{slice_cmp}
use Rattle.std.specs.BTreeSet.{insert_key}
use Rattle.client_book.specs.declared.client.Client.{Client}
use Rattle.client_book.specs.declared.pending.Pending.{Pending}
use Rattle.client_book.specs.Queue.{with_command, spoiled}

-- one that has just joined
abbrev pub new_client : Client
new_client = record {
  closing = false;
  waiting = None;
  pending = [];
  queue = None;
  watched = [];
  touched = false;
  from = 0;
  told = [];
}

-- its replies: the text is told behind what was told so far; the first n bytes are let go
abbrev pub tells : List ℕ → Client → Client
tells text client = record client { told = client.told ++ text }

abbrev pub passes : ℕ → Client → Client
passes n client = record client { from = client.from + n; told = drop n client.told }

-- what it waits for, and what waits for it
abbrev pub waits_for : Option ℕ → Client → Client
waits_for ticket client = record client { waiting = ticket }

abbrev pub pends : Pending → Client → Client
pends item client = record client { pending = client.pending ++ item ∷ [] }

abbrev pub without_first_pending : Client → Client
without_first_pending client = record client { pending = drop 1 client.pending }

-- a transaction: begun with an empty queue, lengthened, spoiled
abbrev pub begins_queue : Client → Client
begins_queue client = record client { queue = Some (record { commands = []; spoiled = false }) }

abbrev pub queues : List (List ℕ) → Client → Client
queues words client = record client { queue = option_map (with_command words) client.queue }

abbrev pub spoils_queue : Client → Client
spoils_queue client = record client { queue = option_map spoiled client.queue }

-- whether a key is among the watched ones, which stand in byte order, each once
abbrev pub is_among : List ℕ → List (List ℕ) → Bool
is_among key keys = list_any (eq_by_cmp (slice_cmp nat_cmp) key) keys

abbrev pub watches : List ℕ → Client → Client
watches key client = record client { watched = insert_key (slice_cmp nat_cmp) client.watched key }

-- the mark of one that watches the key is set
abbrev pub sees_change : List ℕ → Client → Client
sees_change key client = record client { touched = client.touched || is_among key client.watched }

-- the watches end, and their mark with them
abbrev pub unwatches : Client → Client
unwatches client = record client { watched = []; touched = false }

-- with the queue the watches end
abbrev pub ends_queue : Client → Client
ends_queue client = record client { queue = None; watched = []; touched = false }

-- it is closing: nothing waits for it any longer, and its queue and its watches end
abbrev pub closes : Client → Client
closes client = record client {
  closing = true;
  pending = [];
  queue = None;
  watched = [];
  touched =
      false;
}
