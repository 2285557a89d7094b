-- The tree of deadlines as the set of its keys. It serves the clauses of `Deadlines`.
use Rattle.std.proofs.Common.{◌≡◌, ℕ, Bool, true, false, cond, not, ◌||◌, ◌&&◌, List, [], ◌∷◌, Option, None, Some, IsSome, IfSome, IsTrue, ◌↔◌, ◌<◌, length, Bor, arith, refl, sym, ap, ◌∙◌}
use Rattle.std.specs.Ordering.{nat_cmp, eq_by_cmp}
use Rattle.std.specs.Cmp.{IsTotalOrder, nat_cmp_total, eq_by_cmp_equiv}
use Rattle.std.proofs.lemmas.Cmp.{on_total, then_total}
use Rattle.std.proofs.lemmas.Map.Lookups.{CmpEqualImpliesEq, exact_pairs, exact_unsigned}
use Rattle.std.specs.BTreeMap.{is_at}
use Rattle.std.specs.BTreeSet as tree
use Rattle.std.specs.BTreeSet.{BTreeSet, Updates}
use Rattle.std.specs.FinSet as set
use Rattle.std.specs.FinSet.{from_list, contains-from_list, contains-insert, contains-remove, same_set}
use Rattle.std.proofs.lemmas.Bool.{false≢true}
use Rattle.std.specs.List.{list_any}
use Rattle.std.specs.Option.{option_copied}
use Rattle.blocked_tickets.specs.declared.deadlines.Due.{Due}
use Rattle.blocked_tickets.specs.Due.{due_cmp}
use Rattle.blocked_tickets.specs.inner.Earliest.{IsEarliest}

pub due_total : IsTotalOrder due_cmp
due_total = then_total (on_total (λ (d : Due). d.deadline) nat_cmp_total) (on_total (λ (d : Due). d.ticket) nat_cmp_total)

-- dues that compare alike are one
pub due_exact : CmpEqualImpliesEq due_cmp
due_exact a b h = ap (λ (p : ℕ × ℕ). record { deadline = p.0; ticket = p.1 }) (exact_pairs nat_cmp nat_cmp exact_unsigned exact_unsigned (a.deadline, a.ticket) (b.deadline, b.ticket) h)

-- the set has what the tree has
pub contains-tree : (s : BTreeSet Due) (d : Due) → set.contains (from_list {R = due_cmp} s.keys) d ≡ tree.contains due_cmp s d
contains-tree s d = contains-from_list due_total s.keys d

or_cond : (b c : Bool) → cond b true c ≡ (b || c)
or_cond true c = refl
or_cond false c = refl

and_cond : (b c : Bool) → cond b false c ≡ (not b && c)
and_cond true c = refl
and_cond false c = refl

-- a due that was put into the tree is put into the set
pub inserted : (s n : BTreeSet Due) (d : Due) → Updates due_cmp s n d true → from_list {R = due_cmp} n.keys ≡ set.insert (from_list s.keys) d
inserted s n d updates = same_set due_total due_exact _ _ (λ q.
    contains-tree n q ∙ updates.0 q ∙ ap (cond (is_at (due_cmp d) q) true) (sym (contains-tree s q))
    ∙ ap (λ b. cond b true (set.contains (from_list {R = due_cmp} s.keys) q)) ((eq_by_cmp_equiv due_total).symm d q)
    ∙ or_cond (eq_by_cmp due_cmp q d) (set.contains (from_list {R = due_cmp} s.keys) q) ∙ sym (contains-insert due_total (from_list s.keys) d q))

-- and one that was removed is removed
pub removed : (s n : BTreeSet Due) (d : Due) → Updates due_cmp s n d false → from_list {R = due_cmp} n.keys ≡ set.remove (from_list s.keys) d
removed s n d updates = same_set due_total due_exact _ _ (λ q.
    contains-tree n q ∙ updates.0 q ∙ ap (cond (is_at (due_cmp d) q) false) (sym (contains-tree s q))
    ∙ ap (λ b. cond b false (set.contains (from_list {R = due_cmp} s.keys) q)) ((eq_by_cmp_equiv due_total).symm d q)
    ∙ and_cond (eq_by_cmp due_cmp q d) (set.contains (from_list {R = due_cmp} s.keys) q) ∙ sym (contains-remove due_total (from_list s.keys) d q))

-- a list without items has none that passes
none_in : (p : Due → Bool) (ds : List Due) → (0 < length ds → ⊥) → list_any p ds ≡ false
none_in p [] none = refl
none_in p (d ∷ ds) none = absurd (none (omega arith))

-- what the tree has first is the earliest of the set
pub earliest : (s : BTreeSet Due) (first : Option (Bor Due)) → (IsSome first ↔ (0 < tree.btree_set_len s)) → IfSome first (λ k. IsTrue (tree.contains due_cmp s k.now)) → IfSome first (λ k. tree.IsLowerBound due_cmp s k.now)
    → IsEarliest (from_list {R = due_cmp} s.keys) (option_copied first)
earliest s None some member least = λ d. contains-tree s d ∙ none_in (is_at (due_cmp d)) s.keys (λ more. false≢true (some.1 more))
earliest s (Some k) some member least = (contains-tree s k.now ∙ member, λ d there. least d (sym (contains-tree s d) ∙ there))
