-- What a search finds among commands in the order of their names, and what stands there after one
-- was added. It serves the clauses of `find` and `add`, and the invariant.
use Rattle.std.proofs.Common.{◌≡◌, ℕ, ◌+◌, ◌<◌, ◌≤◌, zero, suc, cond, is_some, IsSome, List, [], ◌∷◌, length, map, get_or, Some, None, Result, Ok, Err, add-one, refl, sym, ap, subst, ◌∙◌, arith}
use Rattle.std.specs.declared.cmp.Ordering.{Ordering}
use Rattle.std.specs.declared.cmp.Ordering.TheVariants.{Less}
use Rattle.std.specs.Ordering.{nat_cmp, is_eq, is_lt, eq_by_cmp, ordering_reverse}
use Rattle.std.specs.Option.{option_map}
use Rattle.std.specs.List.{AllByRecursion, insert, slice_get}
use Rattle.std.specs.List.Sorted.{IsStrictlySortedBy, IsBinarySearchResult, IsSortedBy}
use Rattle.std.specs.Map.{lookup, keys_of}
use Rattle.std.specs.BTreeMap.{is_at}
use Rattle.std.specs.Cmp.{eq_by_cmp_equiv}
use Rattle.std.specs.Cmp.Lexicographic.{slice_cmp, nat_list_cmp_total}
use Rattle.std.specs.FinMap as maps
use Rattle.std.specs.FinMap.{find, from_entries, get-from_entries, get-insert, same_map}
use Rattle.std.proofs.lemmas.List.{get_or-map}
use Rattle.std.proofs.lemmas.List.Edits.{length-insert}
use Rattle.std.proofs.lemmas.List.Elements.{recursion_from_All}
use Rattle.std.proofs.lemmas.List.Sorted.{searchable_from_sorted}
use Rattle.std.proofs.lemmas.Map.{lookup-insert, none_passes_from_lookup}
use Rattle.std.proofs.lemmas.Map.Entries.{lookup_from_place, lookup_at_gap}
use Rattle.std.proofs.lemmas.Map.Keys.{IsDistinct-from_sorted, Less-from_sorted}
use Rattle.std.proofs.lemmas.Map.Lookups.{exact_bytes}
use Rattle.std.proofs.lemmas.Option.{slice_get-map, slice_get-get_or, slice_get_within, same_Some}
use Rattle.command_registry.specs.Registry.{Command, name_of, most_commands}
use Rattle.command_registry.specs.inner.Sorted.{named, IsSorted}

abbrev pub by_name : List ℕ → List ℕ → Ordering
by_name = slice_cmp nat_cmp

-- ---- the map that the commands make

find-lookup : (es : List (List ℕ × Command)) (q : List ℕ) → find by_name q es ≡ lookup (is_at (by_name q)) es
find-lookup [] q = refl
find-lookup (e ∷ es) q = ap (cond (is_at (by_name q) e.0) (Some e.1)) (find-lookup es q)

get-named : (es : List (List ℕ × Command)) (q : List ℕ) → maps.get (from_entries {R = by_name} es) q ≡ lookup (is_at (by_name q)) es
get-named es q = get-from_entries nat_list_cmp_total es q ∙ find-lookup es q

keys_named : (cs : List Command) → keys_of (named cs) ≡ map name_of cs
keys_named [] = refl
keys_named (c ∷ cs) = ap (λ ks. name_of c ∷ ks) (keys_named cs)

none_at : (k : List ℕ) (es : List (List ℕ × Command)) → AllByRecursion (λ y. by_name k y ≡ Less) (keys_of es) → find by_name k es ≡ None
none_at k [] above = refl
none_at k (e ∷ es) above = ap (λ o. cond (is_eq o) (Some e.1) (find by_name k es)) above.0 ∙ none_at k es above.1

len-sorted : (es : List (List ℕ × Command)) → IsStrictlySortedBy by_name (keys_of es) → maps.len (from_entries {R = by_name} es) ≡ length es
unfolding IsStrictlySortedBy
len-sorted [] rises = maps.len-empty by_name Command
len-sorted (e ∷ es) rises =
    let rest = maps.len (from_entries {R = by_name} es) in
    maps.len-insert nat_list_cmp_total (from_entries es) e.0 e.1
    ∙ ap (λ o. cond (is_some o) rest (rest + 1)) (get-from_entries nat_list_cmp_total es e.0 ∙ none_at e.0 es rises.0)
    ∙ ap (λ n. n + 1) (len-sorted es rises.1) ∙ add-one (length es)

rising : (cs : List Command) → IsSorted cs → IsStrictlySortedBy by_name (keys_of (named cs))
rising cs sorted = subst (IsStrictlySortedBy by_name) (sym (keys_named cs)) sorted.rising

length-named : (cs : List Command) → length (named cs) ≡ length cs
length-named [] = refl
length-named (c ∷ cs) = ap suc (length-named cs)

length-names : (cs : List Command) → length (map name_of cs) ≡ length cs
length-names [] = refl
length-names (c ∷ cs) = ap suc (length-names cs)

-- the map has as many commands as the list
pub len-named : (cs : List Command) → IsSorted cs → maps.len (from_entries {R = by_name} (named cs)) ≡ length cs
len-named cs sorted = len-sorted (named cs) (rising cs sorted) ∙ length-named cs

-- ---- a search

-- the names of commands that stand in order rise
names_rise : (cs : List Command) (i j : ℕ) (d : Command) → IsSorted cs → i < j → j < length cs → by_name (name_of (get_or cs i d)) (name_of (get_or cs j d)) ≡ Less
names_rise cs i j d sorted lt within =
    let all = length-names cs in
    let less = Less-from_sorted by_name (map name_of cs) i j (name_of d) sorted.rising lt (omega arith) in
    subst (λ k. by_name k (name_of (get_or cs j d)) ≡ Less) (get_or-map name_of cs i d (name_of d) (omega arith))
    (subst (λ k. by_name (get_or (map name_of cs) i (name_of d)) k ≡ Less) (get_or-map name_of cs j d (name_of d) within) less)

adjacent : (cs : List Command) → IsSorted cs → IsSortedBy (λ a b. is_lt (by_name (name_of a) (name_of b))) cs
adjacent cs sorted k d low more =
    ap is_lt (nat_list_cmp_total.antisymm (name_of (get_or cs (k + 1) d)) (name_of (get_or cs k d)) ∙ ap ordering_reverse (names_rise cs k (k + 1) d sorted (omega arith) more))

-- what a search for a name answers
abbrev pub Found : List Command → List ℕ → Result ℕ ℕ → Type 0
Found cs q result = IsBinarySearchResult (λ c. by_name (name_of c) q) cs result

named_at : (cs : List Command) (i : ℕ) (d : Command) → i < length cs → slice_get (named cs) i ≡ Some (name_of (get_or cs i d), get_or cs i d)
named_at cs i d within = slice_get-map (λ c. (name_of c, c)) cs i ∙ ap (option_map (λ c. (name_of c, c))) (slice_get-get_or cs i d within)

-- a command that was found has the name,
pub has_name : (cs : List Command) (q : List ℕ) (i : ℕ) (d : Command) → Found cs q (Ok i) → name_of (get_or cs i d) ≡ q
has_name cs q i d found = exact_bytes (name_of (get_or cs i d)) q (found d)

-- and is the one of the name
pub hit : (cs : List Command) (q : List ℕ) (i : ℕ) (d : Command) → IsSorted cs → i < length cs → Found cs q (Ok i) → maps.get (from_entries {R = by_name} (named cs)) q ≡ Some (get_or cs i d)
hit cs q i d sorted within found =
    let command = get_or cs i d in
    let same = has_name cs q i d found in
    get-named (named cs) q
    ∙ lookup_from_place (eq_by_cmp_equiv nat_list_cmp_total) (named cs) i q command (IsDistinct-from_sorted by_name (keys_of (named cs)) (rising cs sorted))
    (named_at cs i d within ∙ ap (λ k. Some (k, command)) same)

-- where none was found, the names before the place are lower and those from it on are higher
pub parted : (cs : List Command) (q : List ℕ) (i : ℕ) → IsSorted cs → Found cs q (Err i)
    → ((j : ℕ) (d : Command) → j < i → by_name (name_of (get_or cs j d)) q ≡ Less) × ((j : ℕ) (d : Command) → i ≤ j → j < length cs → by_name q (name_of (get_or cs j d)) ≡ Less)
parted cs q i sorted found =
    let parts = found (searchable_from_sorted nat_list_cmp_total name_of cs q (adjacent cs sorted)) in (
      λ j d lt. parts.0 j d (omega arith) lt,
      λ j d le within. nat_list_cmp_total.antisymm q (name_of (get_or cs j d)) ∙ ap ordering_reverse (parts.1 j d le within),
    )

entry_is : (cs : List Command) (j : ℕ) (e : List ℕ × Command) → slice_get (named cs) j ≡ Some e → (j < length cs) × (e ≡ (name_of (get_or cs j e.1), get_or cs j e.1))
entry_is cs j e at =
    let within : j < length cs = subst (λ n. j < n) (length-named cs) (slice_get_within (named cs) j e at) in
    (within, same_Some e _ (sym at ∙ named_at cs j e.1 within))

-- and no command has the name
pub miss : (cs : List Command) (q : List ℕ) (i : ℕ) → IsSorted cs → Found cs q (Err i) → lookup (is_at (by_name q)) (named cs) ≡ None
miss cs q i sorted found =
    let parts = parted cs q i sorted found in
    lookup_at_gap nat_list_cmp_total q (named cs) i (rising cs sorted)
    (λ j e lt at.
    let is = (entry_is cs j e at).1 in
    ap (by_name q) (ap (λ x. x.0) is) ∙ nat_list_cmp_total.antisymm q (name_of (get_or cs j e.1)) ∙ ap ordering_reverse (parts.0 j e.1 lt))
    (λ e at.
    let is = entry_is cs i e at in
    ap (by_name q) (ap (λ x. x.0) is.1) ∙ parts.1 i e.1 (omega arith) is.0)

pub not_known : (cs : List Command) (q : List ℕ) (i : ℕ) → IsSorted cs → Found cs q (Err i) → maps.get (from_entries {R = by_name} (named cs)) q ≡ None
not_known cs q i sorted found = get-named (named cs) q ∙ miss cs q i sorted found

-- ---- one command more

map-insert : {A B : Type 0} (f : A → B) (xs : List A) (i : ℕ) (x : A) → map f (insert xs i x) ≡ insert (map f xs) i (f x)
map-insert f [] zero x = refl
map-insert f [] (suc i) x = refl
map-insert f (y ∷ xs) zero x = refl
map-insert f (y ∷ xs) (suc i) x = ap (λ ys. f y ∷ ys) (map-insert f xs i x)

all_insert : {A : Type 0} (P : A → Type 0) (xs : List A) (i : ℕ) (x : A) → AllByRecursion P xs → P x → AllByRecursion P (insert xs i x)
all_insert P [] zero x all here = (here, tt)
all_insert P [] (suc i) x all here = (here, tt)
all_insert P (y ∷ xs) zero x all here = (here, all)
all_insert P (y ∷ xs) (suc i) x all here = (all.0, all_insert P xs i x all.1 here)

all_above : (q : List ℕ) (ks : List (List ℕ)) → ((j : ℕ) (d : List ℕ) → j < length ks → by_name q (get_or ks j d) ≡ Less) → AllByRecursion (λ k. by_name q k ≡ Less) ks
all_above q ks above = recursion_from_All (λ k. by_name q k ≡ Less) ks above

-- names stay in order where one is put between what is lower and what is higher
rises_with : (ks : List (List ℕ)) (i : ℕ) (q : List ℕ) → IsStrictlySortedBy by_name ks → i ≤ length ks → ((j : ℕ) (d : List ℕ) → j < i → by_name (get_or ks j d) q ≡ Less)
    → ((j : ℕ) (d : List ℕ) → i ≤ j → j < length ks → by_name q (get_or ks j d) ≡ Less) → IsStrictlySortedBy by_name (insert ks i q)
unfolding IsStrictlySortedBy
rises_with [] zero q rises within lower higher = (tt, tt)
rises_with [] (suc i) q rises within lower higher = (tt, tt)
rises_with (k ∷ ks) zero q rises within lower higher = (all_above q (k ∷ ks) (λ j d lt. higher j d (omega arith) lt), rises)
rises_with (k ∷ ks) (suc i) q rises within lower higher = (
  all_insert (λ y. by_name k y ≡ Less) ks i q rises.0 (lower 0 q (omega arith)),
  rises_with ks i q rises.1 (omega arith) (λ j d lt. lower (suc j) d (omega arith)) (λ j d le lt. higher (suc j) d (omega arith) (omega arith)),
)

pub sorted_with : (cs : List Command) (i : ℕ) (c : Command) → IsSorted cs → i ≤ length cs → Found cs (name_of c) (Err i) → length cs < most_commands → IsSorted (insert cs i c)
sorted_with cs i c sorted within found room =
    let parts = parted cs (name_of c) i sorted found in
    let all = length-names cs in
    let names = map name_of cs in
    record {
      rising = subst (IsStrictlySortedBy by_name) (sym (map-insert name_of cs i c)) (rises_with names i (name_of c) sorted.rising (omega arith)
          (λ j d lt. ap (λ k. by_name k (name_of c)) (get_or-map name_of cs j c d (omega arith)) ∙ parts.0 j c lt)
          (λ j d le lt. ap (by_name (name_of c)) (get_or-map name_of cs j c d (omega arith)) ∙ parts.1 j c le (omega arith)));
      few = let longer = length-insert cs i c within in omega arith;
    }

pub map_with : (cs : List Command) (i : ℕ) (c : Command) → IsSorted cs → Found cs (name_of c) (Err i)
    → from_entries {R = by_name} (named (insert cs i c)) ≡ maps.insert (from_entries (named cs)) (name_of c) c
map_with cs i c sorted found =
    let q = name_of c in
    let laws = eq_by_cmp_equiv nat_list_cmp_total in
    let old = from_entries {R = by_name} (named cs) in
    same_map nat_list_cmp_total exact_bytes _ _ (λ k.
    get-named (named (insert cs i c)) k
    ∙ ap (lookup (is_at (by_name k))) (map-insert (λ x. (name_of x, x)) cs i c)
    ∙ lookup-insert laws q c k (named cs) i (none_passes_from_lookup (is_at (by_name q)) (named cs) (miss cs q i sorted found))
    ∙ ap (cond (eq_by_cmp by_name q k) (Some c)) (sym (get-named (named cs) k))
    ∙ ap (λ b. cond b (Some c) (maps.get old k)) (laws.symm q k)
    ∙ sym (get-insert nat_list_cmp_total old q c k))

pub sorted_none : IsSorted []
unfolding IsStrictlySortedBy
sorted_none = record { rising = tt; few = omega arith }

-- where a command was found, one of the name is known
pub known : (cs : List Command) (q : List ℕ) (i : ℕ) → IsSorted cs → i < length cs → Found cs q (Ok i) → IsSome (maps.get (from_entries {R = by_name} (named cs)) q)
known cs q i sorted within found = by cs i within (λ d. ap is_some (hit cs q i d sorted within found))
  where
    by : (xs : List Command) (j : ℕ) → j < length xs → ((d : Command) → IsSome (maps.get (from_entries {R = by_name} (named cs)) q)) → IsSome (maps.get (from_entries {R = by_name} (named cs)) q)
    by [] j lt gives = absurd (omega arith)
    by (x ∷ xs) j lt gives = gives x
