-- What an entry of the book's table stands for, and how it fits the rest of the book.
use Rattle.std.specs.Prelude.{◌≡◌, ℕ, ◌+◌, ◌-◌, ◌^◌, ◌==◌, ◌≤◌, ◌<◌, ◌||◌, true, List, length, IfSome, if◌then◌else◌}
use Rattle.std.specs.Option.{option_map}
use Rattle.std.specs.Ordering.{nat_cmp}
use Rattle.std.specs.BTreeMap.{BTreeMap, get}
use Rattle.client_book.specs.declared.entry.Entry.{Entry}
use Rattle.client_book.specs.declared.watchers.Watchers.{Watchers}
use Rattle.client_book.specs.declared.client.Client.{Client}
use Rattle.client_book.specs.Client.{is_among}
use Rattle.client_book.specs.Register.{Listed}
use Rattle.client_book.specs.inner.Outbox.{free_at}
use Rattle.client_book.specs.inner.Watching.{is_listed}

abbrev pub client_of : Entry → Client
client_of entry = record {
  closing = entry.closing;
  waiting = entry.waiting;
  pending = entry.pending.items;
  queue = entry.queue;
  watched = entry.watched;
  touched = entry.touched;
  from = entry.outbox.from;
  told = entry.outbox.told;
}

-- after this number of flushes
abbrev pub shown : ℕ → Entry → Listed
shown flushes entry =
    record { client = client_of entry; may = entry.outbox.from + free_at flushes entry.outbox }

-- the mark of one that watches the key is set
abbrev pub marked : List ℕ → Entry → Entry
marked key entry = record entry { touched = entry.touched || is_among key entry.watched }

-- it knows no later flush than the last one, each key that it watches lists it, and at most 1,024
-- items wait for it
pub record Fits (flushes : ℕ) (watchers : Watchers) (client : ℕ) (entry : Entry) : Type 0 where
  pub past : entry.outbox.flushes ≤ flushes
  pub early : entry.outbox.flushes < 2 ^ 64 - 1
  pub indexed : (key : List ℕ) → is_among key entry.watched ≡ true
      → is_listed watchers key client ≡ true
  pub few : length entry.pending.items ≤ 1024

abbrev pub AllFit : ℕ → Watchers → BTreeMap ℕ Entry → Type 0
AllFit flushes watchers clients = (client : ℕ)
    → IfSome (get nat_cmp clients client) (Fits flushes watchers client)

-- one client's entry becomes f of it, or each does
abbrev pub BecomesAt : ℕ → (Entry → Entry) → BTreeMap ℕ Entry → BTreeMap ℕ Entry → Type 0
BecomesAt client f before now =
    (q : ℕ) → get nat_cmp now q
    ≡ (if q == client then option_map f (get nat_cmp before q) else get nat_cmp before q)

abbrev pub BecomesAll : (Entry → Entry) → BTreeMap ℕ Entry → BTreeMap ℕ Entry → Type 0
BecomesAll f before now = (q : ℕ) → get nat_cmp now q ≡ option_map f (get nat_cmp before q)
