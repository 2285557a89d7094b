-- What the index of watchers says.
use Rattle.std.specs.Prelude.{◌≡◌, ◌≢◌, ◌⊎◌, ℕ, Bool, true, false, List, Option, Some, None}
use Rattle.std.specs.Ordering.{nat_cmp}
use Rattle.std.specs.Cmp.Lexicographic.{slice_cmp}
use Rattle.std.specs.BTreeMap.{get_by}
use Rattle.std.specs.BTreeSet.{BTreeSet, contains}
use Rattle.client_book.specs.declared.watchers.Watchers.{Watchers}

-- whether the client is among them
abbrev pub is_in : Option (BTreeSet ℕ) → ℕ → Bool
is_in None client = false
is_in (Some clients) client = contains nat_cmp clients client

-- the clients that are listed for a key
abbrev pub watchers_of : Watchers → List ℕ → Option (BTreeSet ℕ)
watchers_of watchers key = get_by (λ k. slice_cmp nat_cmp key k.items) watchers.clients

abbrev pub is_listed : Watchers → List ℕ → ℕ → Bool
is_listed watchers key client = is_in (watchers_of watchers key) client

-- who is listed stays so
abbrev pub Keeps : Watchers → Watchers → Type 0
Keeps before now = (key : List ℕ) (client : ℕ) → is_listed before key client ≡ true
    → is_listed now key client ≡ true

-- but for one client at one key
abbrev pub KeepsOthers : List ℕ → ℕ → Watchers → Watchers → Type 0
KeepsOthers gone leaver before now =
    (key : List ℕ) (client : ℕ) → is_listed before key client ≡ true
    → (is_listed now key client ≡ true) ⊎ ((key ≡ gone) × (client ≡ leaver))

-- but for one client
abbrev pub KeepsAllBut : ℕ → Watchers → Watchers → Type 0
KeepsAllBut leaver before now =
    (key : List ℕ) (client : ℕ) → client ≢ leaver → is_listed before key client ≡ true
    → is_listed now key client ≡ true
