-- The entries of a tree, their keys read, as the finite map that they make. Serves the clauses of
-- `Table`.
use Rattle.std.proofs.Common.{◌+◌, Bool, false, is_some, suc, arith, ⊎_elim, ◌≡◌, refl, sym, ap, ◌∙◌, true, cond, List, [], ◌∷◌, map, length, Option, Some, None, IfSome, IsSome, ◌↔◌, ◌<◌, subst, slice_get, MutBor}
use Rattle.std.specs.declared.cmp.Ordering.{Ordering}
use Rattle.std.specs.declared.cmp.Ordering.TheVariants.{Less, Equal, Greater}
use Rattle.std.specs.Ordering.{eq_by_cmp, is_eq}
use Rattle.std.specs.Cmp.{IsTotalOrder, eq_by_cmp_equiv}
use Rattle.std.specs.Option.{option_map, option_copied_mut, MatchOption, OnSome}
use Rattle.std.specs.Prelude.{⊤}
use Rattle.std.specs.List.{All, AllByRecursion}
use Rattle.std.specs.List.Sorted.{IsStrictlySortedBy}
use Rattle.std.specs.Map.{lookup, keys_of, KeepsOthers}
use Rattle.std.specs.BTreeMap.{BTreeMap, btree_map_len, get_by, is_at, UpdatesBy, WritesThrough}
use Rattle.std.specs.FinMap as finite
use Rattle.std.specs.FinMap.{find, from_entries, get, insert, remove, get-from_entries, get-insert, get-remove, same_map, entries-insert, len-entries, len-empty, len-insert, empty_of_len, get-empty, put}
use Rattle.std.specs.FinMap.Entries.{by_order}
use Rattle.std.proofs.lemmas.Bool.{cases_Bool, cond-true, cond-false, false≢true}
use Rattle.std.proofs.lemmas.List.Elements.{recursion_from_All}
use Rattle.std.proofs.lemmas.Map.Lookups.{CmpEqualImpliesEq}

pub equal : (r : Ordering) → is_eq r ≡ true → r ≡ Equal
equal Less is = absurd (false≢true is)
equal Equal is = refl
equal Greater is = absurd (false≢true is)

no_length : {A : Type 0} (es : List A) → length es ≡ 0 → es ≡ []
no_length [] e = refl
no_length (x ∷ es) e = absurd (omega arith)

no_entries : {A : Type 0} (es : List A) → (0 < length es → ⊥) → es ≡ []
no_entries [] none = refl
no_entries (x ∷ es) none = absurd (none (omega arith))

module _ {K X B : Type 0} {R : B → B → Ordering} (total : IsTotalOrder R) (exact : CmpEqualImpliesEq R) (read : K → B) where
  -- the entries, their keys read
  abbrev pub by_read : List (K × X) → List (B × X)
  by_read es = map (λ (e : K × X). (read e.0, e.1)) es

  -- what the entries have at a key
  abbrev pub value_of : List (K × X) → B → Option X
  value_of es key = lookup (is_at (λ k. R key (read k))) es

  -- found as it was read, and by the tree's comparison
  find-by_read : (es : List (K × X)) (key : B) → find R key (by_read es) ≡ value_of es key
  find-by_read [] key = refl
  find-by_read (e ∷ es) key = ap (cond (eq_by_cmp R key (read e.0)) (Some e.1)) (find-by_read es key)

  -- the map has what the entries have
  pub get-by_read : (es : List (K × X)) (key : B) → get (from_entries {R = R} (by_read es)) key ≡ value_of es key
  get-by_read es key = get-from_entries total _ key ∙ find-by_read es key

  -- a change at one key, read at any
  value_of-changed : (m n : BTreeMap K X) (key : B) (w : Option X) → UpdatesBy (λ x y. R (read x) (read y)) (λ k. R key (read k)) m n w
      → (q : B) → value_of n.entries q ≡ cond (eq_by_cmp R q key) w (value_of m.entries q)
  unfolding KeepsOthers
  value_of-changed m n key w updates q =
      let same = eq_by_cmp_equiv total in
      ⊎_elim
      (λ here. ap (value_of n.entries) (exact q key (equal (R q key) here)) ∙ updates.1 ∙ sym (cond-true (eq_by_cmp R q key) w (value_of m.entries q) here))
      (λ apart. updates.3 (λ k. eq_by_cmp R q (read k)) (λ x y. same.congr q (read x) (read y)) (λ k found. same.symm q (read k) ∙ sym (same.congr key (read k) q found) ∙ same.symm key q ∙ apart)
      ∙ sym (cond-false (eq_by_cmp R q key) w (value_of m.entries q) apart))
      (cases_Bool (eq_by_cmp R q key))

  -- an entry that was put into the tree is put into the map
  pub from_entries-put : (m n : BTreeMap K X) (key : B) (v : X) → UpdatesBy (λ x y. R (read x) (read y)) (λ k. R key (read k)) m n (Some v)
      → from_entries {R = R} (by_read n.entries) ≡ insert (from_entries (by_read m.entries)) key v
  from_entries-put m n key v updates = same_map total exact _ _ (λ q.
      get-by_read n.entries q ∙ value_of-changed m n key (Some v) updates q
      ∙ sym (get-insert total (from_entries (by_read m.entries)) key v q ∙ ap (cond (eq_by_cmp R q key) (Some v)) (get-by_read m.entries q)))

  -- and one that was removed is removed
  pub from_entries-removed : (m n : BTreeMap K X) (key : B) → UpdatesBy (λ x y. R (read x) (read y)) (λ k. R key (read k)) m n None
      → from_entries {R = R} (by_read n.entries) ≡ remove (from_entries (by_read m.entries)) key
  from_entries-removed m n key updates = same_map total exact _ _ (λ q.
      get-by_read n.entries q ∙ value_of-changed m n key None updates q
      ∙ sym (get-remove total (from_entries (by_read m.entries)) key q ∙ ap (cond (eq_by_cmp R q key) None) (get-by_read m.entries q)))

  put_first : (e : K × X) (es : List (K × X)) → AllByRecursion (λ y. R (read e.0) (read y) ≡ Less) (keys_of es) → put R (read e.0) e.1 (by_read es) ≡ (read e.0, e.1) ∷ by_read es
  put_first e [] above = refl
  put_first e (f ∷ es) above =
      ap (λ r. by_order r ((read e.0, e.1) ∷ by_read (f ∷ es)) ((read f.0, e.1) ∷ by_read es) ((read f.0, f.1) ∷ put R (read e.0) e.1 (by_read es))) above.0

  -- the entries of the map are those of the tree, where the tree is in order
  pub entries-read : (es : List (K × X)) → IsStrictlySortedBy (λ x y. R (read x) (read y)) (keys_of es) → finite.entries (from_entries {R = R} (by_read es)) ≡ by_read es
  unfolding IsStrictlySortedBy
  entries-read [] rises = no_length (finite.entries (finite.empty {X = X} {R = R})) (sym (len-entries (finite.empty {X = X} {R = R})) ∙ len-empty R X)
  entries-read (e ∷ es) rises =
      entries-insert total (from_entries (by_read es)) (read e.0) e.1
      ∙ ap (put R (read e.0) e.1) (entries-read es rises.1)
      ∙ put_first e es rises.0

  some_left : (m : finite.FinMap R X) (k : B) (v : X) → finite.len (insert m k v) ≡ 0 → ⊥
  some_left m k v none = by_count (is_some (get m k)) refl (sym (len-insert total m k v) ∙ none)
    where
      by_count : (b : Bool) → is_some (get m k) ≡ b → cond b (finite.len m) (finite.len m + 1) ≡ 0 → ⊥
      by_count true there n = false≢true (sym (ap (λ x. is_some (get x k)) (empty_of_len m n) ∙ ap is_some (get-empty R k)) ∙ there)
      by_count false there n = omega arith

  -- a map without keys is made of no entries
  pub none_left : (es : List (K × X)) → finite.len (from_entries {R = R} (by_read es)) ≡ 0 → es ≡ []
  none_left [] none = refl
  none_left (e ∷ es) none = absurd (some_left (from_entries (by_read es)) (read e.0) e.1 none)

  length-read : (es : List (K × X)) → length (by_read es) ≡ length es
  length-read [] = refl
  length-read (e ∷ es) = ap suc (length-read es)

  pub len-read : (es : List (K × X)) → IsStrictlySortedBy (λ x y. R (read x) (read y)) (keys_of es) → finite.len (from_entries {R = R} (by_read es)) ≡ length es
  len-read es rises = len-entries (from_entries (by_read es)) ∙ ap length (entries-read es rises) ∙ length-read es

-- an entry that was found under a key has that key
pub same_key : {K X B : Type 0} {R : B → B → Ordering} → CmpEqualImpliesEq R → (read : K → B) (key : B) (found : Option (K × X))
    → IfSome found (λ p. R key (read p.0) ≡ Equal) → IfSome found (λ p. read p.0 ≡ key)
same_key exact read key None same = tt
same_key exact read key (Some p) same = sym (exact key (read p.0) same)

module _ {K X B : Type 0} {R : B → B → Ordering} (total : IsTotalOrder R) (exact : CmpEqualImpliesEq R) (read : K → B) where
  -- the entries of a tree with its first one rise, where the rest does
  rises : (p : K × X) (es fs : List (K × X)) → es ≡ p ∷ fs → All (λ y. R (read p.0) (read y) ≡ Less) (keys_of fs) → IsStrictlySortedBy (λ x y. R (read x) (read y)) (keys_of fs)
      → IsStrictlySortedBy (λ x y. R (read x) (read y)) (keys_of es)
  unfolding IsStrictlySortedBy
  rises p es fs is above rest = subst (λ xs. IsStrictlySortedBy (λ x y. R (read x) (read y)) (keys_of xs)) (sym is) (recursion_from_All (λ y. R (read p.0) (read y) ≡ Less) (keys_of fs) above, rest)

  -- the first entry of the tree is the first one of the map
  pub first_taken : (m n : BTreeMap K X) (taken : Option (K × X)) → (IsSome taken ↔ (0 < btree_map_len m)) → IfSome taken (λ p. m.entries ≡ p ∷ n.entries)
      → IfSome taken (λ p. All (λ y. R (read p.0) (read y) ≡ Less) (keys_of n.entries)) → IsStrictlySortedBy (λ x y. R (read x) (read y)) (keys_of n.entries)
      → option_map (λ (p : K × X). (read p.0, p.1)) taken ≡ slice_get (finite.entries (from_entries {R = R} (by_read total exact read m.entries))) 0
  first_taken m n None some is above rest =
      let none : m.entries ≡ [] = no_entries m.entries (λ more. false≢true (some.1 more)) in
      sym (ap (λ es. slice_get es 0) (ap (λ es. finite.entries (from_entries {R = R} (by_read total exact read es))) none ∙ no_length _ (sym (len-entries (finite.empty {X = X} {R = R})) ∙ len-empty R X)))
  first_taken m n (Some p) some is above rest =
      sym (ap (λ es. slice_get es 0) (entries-read total exact read m.entries (rises p m.entries n.entries is above rest) ∙ ap (by_read total exact read) is))

  -- and the others are left
  pub rest_left : (m n : BTreeMap K X) (taken : Option (K × X)) (keys : finite.FinMap R X)
      → IfSome taken (λ p. UpdatesBy (λ x y. R (read x) (read y)) (λ k. R (read p.0) (read k)) m n None) → MatchOption taken (n.entries ≡ m.entries) (λ _. ⊤)
      → from_entries {R = R} (by_read total exact read m.entries) ≡ keys
      → MatchOption taken (from_entries {R = R} (by_read total exact read n.entries) ≡ keys) (λ p. from_entries {R = R} (by_read total exact read n.entries) ≡ remove keys (read p.0))
  rest_left m n None keys updates same is = ap (λ es. from_entries {R = R} (by_read total exact read es)) same ∙ is
  rest_left m n (Some p) keys updates same is = from_entries-removed total exact read m n (read p.0) updates ∙ ap (λ old. remove old (read p.0)) is

  -- a value that was written through what was lent is put into the map
  pub written : (m n : BTreeMap K X) (key : B) (lent : Option (MutBor X)) (w : X) (keys : finite.FinMap R X)
      → option_copied_mut lent ≡ get_by (λ k. R key (read k)) m → WritesThrough (λ x y. R (read x) (read y)) (λ k. R key (read k)) m w n
      → from_entries {R = R} (by_read total exact read m.entries) ≡ keys
      → OnSome lent (from_entries {R = R} (by_read total exact read n.entries) ≡ insert keys key w)
  written m n key None w keys found writes is = tt
  written m n key (Some r) w keys found writes is =
      from_entries-put total exact read m n key w (writes.3 (subst IsSome found refl)) ∙ ap (λ old. insert old key w) is

module _ {K X B : Type 0} {R : B → B → Ordering} (total : IsTotalOrder R) (exact : CmpEqualImpliesEq R) (read : K → B) where
  -- the first key of the tree is the first one of the map
  pub first_name : (es : List (K × X)) (keys : finite.FinMap R X) (first : Option (K × X)) → IsStrictlySortedBy (λ x y. R (read x) (read y)) (keys_of es)
      → from_entries {R = R} (by_read total exact read es) ≡ keys → slice_get es 0 ≡ first → option_map (λ (p : K × X). read p.0) first ≡ option_map (λ (e : B × X). e.0) (slice_get (finite.entries keys) 0)
  first_name es keys first rises is found =
      sym (ap (option_map (λ (p : K × X). read p.0)) found)
      ∙ by es
      ∙ ap (λ xs. option_map (λ (e : B × X). e.0) (slice_get xs 0)) (sym (entries-read total exact read es rises) ∙ ap finite.entries is)
    where
      by : (es : List (K × X)) → option_map (λ (p : K × X). read p.0) (slice_get es 0) ≡ option_map (λ (e : B × X). e.0) (slice_get (by_read total exact read es) 0)
      by [] = refl
      by (e ∷ es) = refl

pub none_first : {A : Type 0} (es : List A) → length es ≡ 0 → slice_get es 0 ≡ None
none_first es none = ap (λ xs. slice_get xs 0) (no_length es none)
