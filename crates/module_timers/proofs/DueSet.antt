-- The tree of deadlines as the set of its keys. It serves the clauses of `Deadlines`.
use Rattle.std.proofs.Common.{◌≡◌, ℕ, Bool, true, false, cond, not, ◌||◌, ◌&&◌, refl, sym, ap, ◌∙◌}
use Rattle.std.specs.Ordering.{nat_cmp, eq_by_cmp}
use Rattle.std.specs.Cmp.{IsTotalOrder, nat_cmp_total, eq_by_cmp_equiv}
use Rattle.std.proofs.lemmas.Cmp.{on_total, then_total}
use Rattle.std.proofs.lemmas.Map.Lookups.{CmpEqualImpliesEq, exact_pairs, exact_unsigned}
use Rattle.std.specs.BTreeMap.{is_at}
use Rattle.std.specs.BTreeSet as tree
use Rattle.std.specs.BTreeSet.{BTreeSet, Updates}
use Rattle.std.specs.FinSet as set
use Rattle.std.specs.FinSet.{from_list, contains-from_list, contains-insert, contains-remove}
use Rattle.std.specs.FinSet.{same_set}
use Rattle.module_timers.specs.declared.dues.Due.{Due}
use Rattle.module_timers.specs.Due.{due_cmp}

pub due_total : IsTotalOrder due_cmp
due_total = then_total (on_total (λ (d : Due). d.deadline) nat_cmp_total)
    (on_total (λ (d : Due). d.timer) nat_cmp_total)

-- dues that compare alike are one
pub due_exact : CmpEqualImpliesEq due_cmp
due_exact a b h = ap (λ (p : ℕ × ℕ). record { deadline = p.0; timer = p.1 })
    (exact_pairs nat_cmp nat_cmp exact_unsigned exact_unsigned (a.deadline, a.timer)
    (b.deadline, b.timer) h)

-- the set has what the tree has
pub contains-tree : (s : BTreeSet Due) (d : Due)
    → set.contains (from_list {R = due_cmp} s.keys) d ≡ tree.contains due_cmp s d
contains-tree s d = contains-from_list due_total s.keys d

or_cond : (b c : Bool) → cond b true c ≡ (b || c)
or_cond true c = refl
or_cond false c = refl

and_cond : (b c : Bool) → cond b false c ≡ (not b && c)
and_cond true c = refl
and_cond false c = refl

-- a due that was put into the tree is put into the set
pub inserted : (s n : BTreeSet Due) (d : Due) → Updates due_cmp s n d true
    → from_list {R = due_cmp} n.keys ≡ set.insert (from_list s.keys) d
inserted s n d updates = same_set due_total due_exact _ _ (λ q.
    contains-tree n q ∙ updates.0 q ∙ ap (cond (is_at (due_cmp d) q) true) (sym (contains-tree s q))
    ∙ ap (λ b. cond b true (set.contains (from_list {R = due_cmp} s.keys) q))
    ((eq_by_cmp_equiv due_total).symm d q)
    ∙ or_cond (eq_by_cmp due_cmp q d) (set.contains (from_list {R = due_cmp} s.keys) q)
    ∙ sym (contains-insert due_total (from_list s.keys) d q))

-- and one that was removed is removed
pub removed : (s n : BTreeSet Due) (d : Due) → Updates due_cmp s n d false
    → from_list {R = due_cmp} n.keys ≡ set.remove (from_list s.keys) d
removed s n d updates = same_set due_total due_exact _ _ (λ q.
    contains-tree n q ∙ updates.0 q
    ∙ ap (cond (is_at (due_cmp d) q) false) (sym (contains-tree s q))
    ∙ ap (λ b. cond b false (set.contains (from_list {R = due_cmp} s.keys) q))
    ((eq_by_cmp_equiv due_total).symm d q)
    ∙ and_cond (eq_by_cmp due_cmp q d) (set.contains (from_list {R = due_cmp} s.keys) q)
    ∙ sym (contains-remove due_total (from_list s.keys) d q))
