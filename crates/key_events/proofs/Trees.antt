-- The entries of a tree, their keys read, as the finite map that they make. It serves the clauses
-- of `Lines`.
use Rattle.std.proofs.Common.{⊎_elim, ◌≡◌, refl, sym, ap, ◌∙◌, true, cond, List, [], ◌∷◌, map}
use Rattle.std.proofs.Common.{Option, Some, None}
use Rattle.std.specs.declared.cmp.Ordering.{Ordering}
use Rattle.std.specs.declared.cmp.Ordering.TheVariants.{Less, Equal, Greater}
use Rattle.std.specs.Ordering.{eq_by_cmp, is_eq}
use Rattle.std.specs.Cmp.{IsTotalOrder, eq_by_cmp_equiv}
use Rattle.std.specs.Map.{lookup, KeepsOthers}
use Rattle.std.specs.BTreeMap.{BTreeMap, is_at, UpdatesBy}
use Rattle.std.specs.FinMap.{find, from_entries, get, insert, remove, get-from_entries, get-insert}
use Rattle.std.specs.FinMap.{get-remove, same_map}
use Rattle.std.proofs.lemmas.Bool.{cases_Bool, cond-true, cond-false, false≢true}
use Rattle.std.proofs.lemmas.Map.Lookups.{CmpEqualImpliesEq}

pub equal : (r : Ordering) → is_eq r ≡ true → r ≡ Equal
equal Less is = absurd (false≢true is)
equal Equal is = refl
equal Greater is = absurd (false≢true is)

module _ {K X B : Type 0} {R : B → B → Ordering} (total : IsTotalOrder R)
    (exact : CmpEqualImpliesEq R) (read : K → B) where
  -- the entries, their keys read
  abbrev pub by_read : List (K × X) → List (B × X)
  by_read es = map (λ (e : K × X). (read e.0, e.1)) es

  -- what the entries have at a key
  abbrev pub value_of : List (K × X) → B → Option X
  value_of es key = lookup (is_at (λ k. R key (read k))) es

  -- found as it was read, and by the tree's comparison
  find-by_read : (es : List (K × X)) (key : B) → find R key (by_read es) ≡ value_of es key
  find-by_read [] key = refl
  find-by_read (e ∷ es) key =
      ap (cond (eq_by_cmp R key (read e.0)) (Some e.1)) (find-by_read es key)

  -- the map has what the entries have
  pub get-by_read : (es : List (K × X)) (key : B)
      → get (from_entries {R = R} (by_read es)) key ≡ value_of es key
  get-by_read es key = get-from_entries total _ key ∙ find-by_read es key

  -- a change at one key, read at any
  value_of-changed : (m n : BTreeMap K X) (key : B) (w : Option X)
      → UpdatesBy (λ x y. R (read x) (read y)) (λ k. R key (read k)) m n w
      → (q : B) → value_of n.entries q ≡ cond (eq_by_cmp R q key) w (value_of m.entries q)
  unfolding KeepsOthers
  value_of-changed m n key w updates q =
      let same = eq_by_cmp_equiv total in
      ⊎_elim
      (λ here. ap (value_of n.entries) (exact q key (equal (R q key) here)) ∙ updates.1
      ∙ sym (cond-true (eq_by_cmp R q key) w (value_of m.entries q) here))
      (λ apart. updates.3 (λ k. eq_by_cmp R q (read k)) (λ x y. same.congr q (read x) (read y))
      (λ k found. same.symm q (read k) ∙ sym (same.congr key (read k) q found)
      ∙ same.symm key q ∙ apart)
      ∙ sym (cond-false (eq_by_cmp R q key) w (value_of m.entries q) apart))
      (cases_Bool (eq_by_cmp R q key))

  -- an entry that was put into the tree is put into the map
  pub from_entries-put : (m n : BTreeMap K X) (key : B) (v : X)
      → UpdatesBy (λ x y. R (read x) (read y)) (λ k. R key (read k)) m n (Some v)
      → from_entries {R = R} (by_read n.entries) ≡ insert (from_entries (by_read m.entries)) key v
  from_entries-put m n key v updates = same_map total exact _ _ (λ q.
      get-by_read n.entries q ∙ value_of-changed m n key (Some v) updates q
      ∙ sym (get-insert total (from_entries (by_read m.entries)) key v q
      ∙ ap (cond (eq_by_cmp R q key) (Some v)) (get-by_read m.entries q)))

  -- and one that was removed is removed
  pub from_entries-removed : (m n : BTreeMap K X) (key : B)
      → UpdatesBy (λ x y. R (read x) (read y)) (λ k. R key (read k)) m n None
      → from_entries {R = R} (by_read n.entries) ≡ remove (from_entries (by_read m.entries)) key
  from_entries-removed m n key updates = same_map total exact _ _ (λ q.
      get-by_read n.entries q ∙ value_of-changed m n key None updates q
      ∙ sym (get-remove total (from_entries (by_read m.entries)) key q
      ∙ ap (cond (eq_by_cmp R q key) None) (get-by_read m.entries q)))
