-- The lines of the names agree with the names of the clients.
use Rattle.std.specs.Prelude.{◌≡◌, ℕ, ◌==◌, ◌&&◌, Bool, true, not, List}
use Rattle.std.specs.List.{list_any}
use Rattle.std.specs.List.Sorted.{IsStrictlySortedBy}
use Rattle.std.specs.Ordering.{nat_cmp}
use Rattle.std.specs.BTreeMap.{is_at}
use Rattle.key_events.specs.Patterns.{matches}
use Rattle.key_events.specs.Rolls.{RollMap, NameList, has_name, names_at}
use Rattle.key_events.specs.inner.Lines.{LinesMap, holds}

-- a client stands in the line of each of its names, and in no other
abbrev pub Agree : RollMap → LinesMap → Type 0
Agree roll lines = (name : List ℕ) (client : ℕ)
    → holds lines name client ≡ has_name name (names_at roll client)

-- a client stands no longer in the lines of these names, and nothing else changes
abbrev pub Leaves : NameList → ℕ → LinesMap → LinesMap → Type 0
Leaves names leaver old new = (name : List ℕ) (client : ℕ)
    → holds new name client
    ≡ (not ((client == leaver) && has_name name names) && holds old name client)

abbrev pub is_among : ℕ → List ℕ → Bool
is_among client clients = list_any (is_at (nat_cmp client)) clients

-- just these clients, by rising number
pub record Lists (clients : List ℕ) (is_one : ℕ → Bool) : Type 0 where
  pub rises : IsStrictlySortedBy nat_cmp clients
  pub same : (client : ℕ) → is_among client clients ≡ is_one client

-- all who have a name that matches the text, by rising number
pub record Finds (clients : List ℕ) (lines : LinesMap) (text : List ℕ) : Type 0 where
  pub rises : IsStrictlySortedBy nat_cmp clients
  pub all : (name : List ℕ) (client : ℕ) → matches name text ≡ true
      → holds lines name client ≡ true → is_among client clients ≡ true

-- the same, by the names of the clients
pub record FindsIn (clients : List ℕ) (roll : RollMap) (text : List ℕ) : Type 0 where
  pub rises : IsStrictlySortedBy nat_cmp clients
  pub all : (client : ℕ) → list_any (λ n. matches n text) (names_at roll client) ≡ true
      → is_among client clients ≡ true
