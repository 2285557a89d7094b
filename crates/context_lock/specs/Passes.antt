-- What the holder of a pass knows.
use Rattle.std.specs.Prelude.{refl, ℕ, ◌+◌, ◌<◌, ◌≤◌, ◌++◌, List, [], ◌∷◌, max}
use Rattle.std.specs.List.{AllByRecursion}
use Rattle.std.specs.Coded.{Coded, code_by, coded×, coded_ℕ, coded_list}
use Rattle.atomic_table.specs.Seated.{TableId, table_id_coded}
use Rattle.core_types.specs.Shown.{Shown}
use Rattle.context_lock.specs.declared.view.History.{History}
use Rattle.context_lock.specs.declared.view.Pair.{Pair}
use Rattle.context_lock.specs.declared.view.Stay.{Stay}
use Rattle.context_lock.specs.contracts.view.Pair as pair
use Rattle.context_lock.specs.contracts.view.Stay as stay
use Rattle.context_lock.specs.Histories.{Stands, added, end}
use Rattle.context_lock.specs.Pairs.{Rising, merged, numbered}

-- which lock the pass is of; how many events it has seen; its parts; the events that its holder
-- added, with their numbers; and its holder's stays, in order
pub record Held : Type 0 where
  pub lock : TableId
  pub seen : ℕ
  pub parts : ℕ
  pub mine : List Pair
  pub stays : List Stay

abbrev pub held_code : Coded Held
held_code =
    code_by (TableId × (ℕ × (ℕ × (List Pair × List Stay))))
    (coded× table_id_coded (coded× coded_ℕ (coded× coded_ℕ
    (coded× (coded_list pair.the_row.coded) (coded_list stay.the_row.coded)))))
    (λ h. (h.lock, (h.seen, (h.parts, (h.mine, h.stays)))))
    (λ p. record { lock = p.0; seen = p.1.0; parts = p.1.1.0; mine = p.1.1.1.0; stays = p.1.1.1.1 })
    (λ _. refl)

-- the history has all that the pass has seen, and what its holder added stands in it
pub record Fits (history : History) (pass : Held) : Type 0 where
  pub seen : pass.seen ≤ end history
  pub rising : Rising pass.mine
  pub below : AllByRecursion (λ pair. pair.number < pass.seen) pass.mine
  pub stands : AllByRecursion (Stands history) pass.mine

-- what a state showed as its holder came and as it went
abbrev pub stay_of : Shown → Shown → Stay
stay_of came went = record { came = record { shown = came }; went = record { shown = went } }

-- the pass after a stay, from a history to another
abbrev pub left : History → History → Stay → Held → Held
left before after stay pass =
    record pass {
      seen = end after;
      mine = pass.mine ++ numbered (end before) (added before after);
      stays = pass.stays ++ stay ∷ [];
    }

-- a pass with one part, which was split from this one
abbrev pub fresh : Held → Held
fresh pass = record pass { parts = 1; mine = []; stays = [] }

-- two passes of one lock, joined
abbrev pub joined : Held → Held → Held
joined a b =
    record {
      lock = a.lock;
      seen = max a.seen b.seen;
      parts = a.parts + b.parts;
      mine = merged a.mine b.mine;
      stays = a.stays ++ b.stays;
    }
