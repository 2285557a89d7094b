-- The rule of the lock's table, and what each step on it tells. Word 0 is 1 while a seat has the
-- turn, and else 0; word 1 is the number at which the history ends; the one slot has the state.
use Rattle.std.specs.Prelude.{◌≡◌, ◌≢◌, ℕ, ◌+◌, ◌-◌, ◌≤◌, ◌<◌, List, [], ◌∷◌, ◌++◌, max, false, Option, Some, None}
use Rattle.std.specs.List.{AllByRecursion}
use Rattle.std.specs.FinMap as finite
use mathlib.Core.Option.{some}
use lib.ListN.{get_elem?}
use Rattle.atomic_table.specs.Table.{Me, State, Step, rest}
use Rattle.core_types.specs.Keys.{no_keys}
use Rattle.core_types.specs.Shown.{Shown}
use Rattle.context_lock.specs.declared.view.History.{History}
use Rattle.context_lock.specs.declared.view.View.{View}
use Rattle.context_lock.specs.Histories.{GoesOn, Stands, added, end}
use Rattle.context_lock.specs.Pairs.{Rising, merged, numbered, once_within, times}
use Rattle.context_lock.specs.Passes.{stay_of}

-- f of each, added up
abbrev pub total : {A : Type 0} → (A → ℕ) → List A → ℕ
total f [] = 0
total f (x ∷ xs) = f x + total f xs

-- what a view says holds of the history
pub record Knows (history : History) (v : View) : Type 0 where
  pub seen : v.seen ≤ end history
  pub rising : Rising v.mine
  pub below : AllByRecursion (λ pair. pair.number < v.seen) v.mine
  pub stands : AllByRecursion (Stands history) v.mine
  pub spent : v.parts ≡ 0 → (v.mine ≡ []) × (v.turn ≡ 0)
  pub inside : v.turn ≡ 1 → v.history ≡ history

module _ {S : Type 0} (history_of : S → History) where
  -- `opened` is the number at which the history ended as the lock was made
  pub record Kept (opened : ℕ) (s : State (Option S) View) : Type 0 where
    pub turn : ℕ
    pub history : History
    pub words : s.words ≡ turn ∷ end history ∷ []
    pub one : turn ≤ 1
    -- the turn is with one seat at most, and the state is home while no seat has it
    pub with_one : total (λ v. v.turn) s.views ≡ turn
    pub home : turn ≡ 0
        → (state : S) × (get_elem? s.homes 0 ≡ some (some (Some state)))
        × (history_of state ≡ history)
    pub parts : total (λ v. v.parts) s.views ≡ 1048576
    -- each event since then was added by one seat, once
    pub since : opened ≤ end history
    pub once : (number : ℕ)
        → total (λ v. times number v.mine) s.views ≡ once_within opened (end history) number
    pub knows : (j : ℕ) (v : View) → get_elem? s.views j ≡ some v → Knows history v

module _ {S : Type 0} (history_of : S → History) (shows : S → Shown) where
  abbrev pub entered : S → View → View
  entered state v =
      record v { turn = 1; history = history_of state; came = record { shown = shows state } }

  abbrev pub gained : S → View → View
  gained state v =
      record v {
        seen = end (history_of state);
        mine = v.mine ++ numbered (end v.history) (added v.history (history_of state));
        stays = v.stays ++ stay_of v.came.shown (shows state) ∷ [];
        history = history_of state;
      }

  -- the turn was free, and the state is with the seat
  abbrev pub Begins : Me (Option S) View → Me (Option S) View → Type 0
  Begins before after =
      (state : S) × (after ≡ (entered state before.0, (0, Some state) ∷ []))
      × Knows (history_of state) before.0

  abbrev pub begun : Step (Option S) → Me (Option S) View → ℕ → Me (Option S) View → Type 0
  begun step before found after =
      (found ≡ 0 → Begins before after) × (found ≢ 0 → after ≡ before)

  abbrev pub raised : Step (Option S) → Me (Option S) View → ℕ → Me (Option S) View → Type 0
  raised step before found after =
      (state : S) → before.1 ≡ (0, Some state) ∷ [] → after ≡ (gained state before.0, before.1)

abbrev pub ended : {S : Type 0} → Step (Option S) → Me (Option S) View → ℕ → Me (Option S) View
    → Type 0
ended step before found after = after ≡ (record before.0 { turn = 0 }, rest before.1)

abbrev pub no_history : History
no_history = record { first = 0; events = [] }

abbrev pub nothing_shown : Shown
nothing_shown =
    record {
      first = 0;
      end = 0;
      log = 0;
      swapped = 0;
      rewriting = None;
      stopped = None;
      ending = false;
      orders = [];
      taken_orders = 0;
      keys = no_keys;
      backlog = None;
      queued = 0;
      clients = finite.empty;
    }

-- the view of a seat that was joined into another
abbrev pub spent : View
spent =
    record {
      seen = 0;
      parts = 0;
      mine = [];
      stays = [];
      turn = 0;
      history = no_history;
      came = record { shown = nothing_shown };
    }

-- that of the first seat
abbrev pub opening : ℕ → View
opening opened = record spent { seen = opened; parts = 1048576 }

abbrev pub split_left : View → View
split_left v = record v { parts = v.parts - 1 }

abbrev pub split_right : View → View
split_right v = record v { parts = 1; mine = []; stays = [] }

abbrev pub both : View → View → View
both v w =
    record v {
      seen = max v.seen w.seen;
      parts = v.parts + w.parts;
      mine = merged v.mine w.mine;
      stays = v.stays ++ w.stays;
    }
