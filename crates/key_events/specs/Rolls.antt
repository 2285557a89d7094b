-- Which names each client has, the oldest first, and each step on them.
use Rattle.std.specs.Prelude.{ℕ, ◌==◌, Bool, not, if◌then◌else◌, List, [], ◌∷◌, ◌++◌, length}
use Rattle.std.specs.Prelude.{filter, unwrap_or}
use Rattle.std.specs.List.{list_any}
use Rattle.std.specs.Ordering.{nat_cmp}
use Rattle.std.specs.Str.{bytes_eq}
use Rattle.std.specs.FinMap as map
use Rattle.std.specs.Coded.{Coded, coded_ℕ, coded_list}

abbrev pub NameList : Type 0
NameList = List (List ℕ)

abbrev pub has_name : List ℕ → NameList → Bool
has_name name names = list_any (λ n. bytes_eq n name) names

-- the names of each client that has one
abbrev pub RollMap : Type 0
RollMap = map.FinMap nat_cmp NameList

abbrev pub coded_roll : Coded RollMap
coded_roll = map.code coded_ℕ (coded_list (coded_list coded_ℕ))

abbrev pub names_at : RollMap → ℕ → NameList
names_at roll client = unwrap_or (map.get roll client) []

-- a client has these names; one without a name is not kept
abbrev pub with_names : RollMap → ℕ → NameList → RollMap
with_names roll client names =
    if length names == 0 then map.remove roll client else map.insert roll client names

-- with a name behind those that the client has
abbrev pub with_new_name : RollMap → ℕ → List ℕ → RollMap
with_new_name roll client name = map.insert roll client (names_at roll client ++ name ∷ [])

-- the same, where it has the name not yet
abbrev pub with_name : RollMap → ℕ → List ℕ → RollMap
with_name roll client name =
    if has_name name (names_at roll client) then roll else with_new_name roll client name

-- without a name of the client
abbrev pub without_name : RollMap → ℕ → List ℕ → RollMap
without_name roll client name =
    with_names roll client (filter (λ n. not (bytes_eq n name)) (names_at roll client))

-- without the client
abbrev pub without_client : RollMap → ℕ → RollMap
without_client roll client = map.remove roll client
