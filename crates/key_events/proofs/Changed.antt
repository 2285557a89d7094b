-- The lines after a change in the tree. It serves the clauses of `Lines`.
use Rattle.std.proofs.Common.{◌≡◌, ℕ, ◌==◌, Bool, true, false, cond, List, Option, None, Some}
use Rattle.std.proofs.Common.{is_some, IsSome, unwrap_or, refl, sym, ap, ◌∙◌}
use Rattle.std.specs.Global.{Vec}
use Rattle.std.specs.Ordering.{nat_cmp, eq_by_cmp}
use Rattle.std.specs.Cmp.Lexicographic.{slice_cmp, nat_list_cmp_total}
use Rattle.std.specs.Option.{MatchOption, option_map_or}
use Rattle.std.specs.BTreeMap.{BTreeMap, UpdatesBy}
use Rattle.std.specs.FinMap as finite
use Rattle.std.specs.FinMap.{from_entries}
use Rattle.std.specs.FinSet as set
use Rattle.std.proofs.lemmas.Bool.{true≢false, false≢true}
use Rattle.std.proofs.lemmas.Map.Lookups.{exact_bytes}
use Rattle.key_events.specs.inner.Lines.{LineSet, LinesMap, line_in, Rewrites}
use Rattle.key_events.proofs.Trees.{equal, by_read, get-by_read, from_entries-put}

abbrev pub Tree : Type 0
Tree = BTreeMap (Vec ℕ) LineSet

-- the lines of a tree
abbrev pub lines_of : Tree → LinesMap
lines_of tree = from_entries
    (by_read nat_list_cmp_total exact_bytes (λ (k : Vec ℕ). k.items) tree.entries)

pub line_at : (tree : Tree) (name : List ℕ) → finite.get (lines_of tree) name ≡ line_in tree name
line_at tree name = get-by_read nat_list_cmp_total exact_bytes (λ k. k.items) tree.entries name

-- with a line changed in its place
abbrev pub changed : LinesMap → List ℕ → (LineSet → LineSet) → Option LineSet → LinesMap
changed lines name change o = option_map_or (λ s. finite.insert lines name (change s)) o lines

pub rewritten : (m n : Tree) (name : List ℕ) (change : LineSet → LineSet)
    → Rewrites m n name change
    → lines_of n ≡ changed (lines_of m) name change (finite.get (lines_of m) name)
rewritten m n name change writes =
    elim (line_in m name) as (λ o. MatchOption o (n.entries ≡ m.entries)
    (λ s. UpdatesBy (λ a b. slice_cmp nat_cmp a.items b.items)
    (λ k. slice_cmp nat_cmp name k.items) m n (Some (change s)))
    → lines_of n ≡ changed (lines_of m) name change o) [
      | None ↦ λ same. ap
          (λ es. from_entries
          (by_read nat_list_cmp_total exact_bytes (λ (k : Vec ℕ). k.items) es)) same
      | Some s ↦ λ updates. from_entries-put nat_list_cmp_total exact_bytes
          (λ k. k.items) m n name (change s) updates
    ] writes
    ∙ ap (changed (lines_of m) name change) (sym (line_at m name))

pub placed : (lines : LinesMap) (name : List ℕ) (t : ℕ) (o : Option LineSet) → IsSome o
    → changed lines name (λ s. set.insert s t) o ≡ finite.insert lines name
    (set.insert (unwrap_or o set.empty) t)
placed lines name t None there = absurd (false≢true there)
placed lines name t (Some s) there = refl

pub reinserted : (lines : LinesMap) (name : List ℕ) (o : Option LineSet)
    → finite.get lines name ≡ o → changed lines name (λ s. s) o ≡ lines
reinserted lines name None is = refl
reinserted lines name (Some s) is =
    finite.same_map nat_list_cmp_total exact_bytes _ _
    (λ q. finite.get-insert nat_list_cmp_total lines name s q
    ∙ same q (eq_by_cmp (slice_cmp nat_cmp) q name) refl)
  where
    same : (q : List ℕ) (b : Bool) → eq_by_cmp (slice_cmp nat_cmp) q name ≡ b
        → cond b (Some s) (finite.get lines q) ≡ finite.get lines q
    same q true here = sym
        (ap (finite.get lines) (exact_bytes q name (equal (slice_cmp nat_cmp q name) here)) ∙ is)
    same q false here = refl

abbrev empties : ℕ → LineSet → Bool
empties t s = set.len (set.remove s t) == 0

pub emptied : (lines : LinesMap) (name : List ℕ) (t : ℕ) (o : Option LineSet)
    → option_map_or (empties t) o false ≡ true
    → finite.remove (changed lines name (λ s. set.remove s t) o) name ≡ option_map_or
    (λ s. cond (empties t s) (finite.remove lines name)
    (finite.insert lines name (set.remove s t))) o lines
emptied lines name t None is = absurd (false≢true is)
emptied lines name t (Some s) is =
    finite.same_map nat_list_cmp_total exact_bytes _ _ (λ q.
    finite.get-remove nat_list_cmp_total (finite.insert lines name (set.remove s t)) name q
    ∙ ap (cond (eq_by_cmp (slice_cmp nat_cmp) q name) None)
    (finite.get-insert nat_list_cmp_total lines name (set.remove s t) q)
    ∙ once (eq_by_cmp (slice_cmp nat_cmp) q name) (finite.get lines q)
    ∙ sym (finite.get-remove nat_list_cmp_total lines name q))
    ∙ sym (ap (λ b. cond b (finite.remove lines name) (finite.insert lines name (set.remove s t))) is)
  where
    once : (b : Bool) (o : Option LineSet)
        → cond b None (cond b (Some (set.remove s t)) o) ≡ cond b None o
    once true o = refl
    once false o = refl

pub left : (lines : LinesMap) (name : List ℕ) (t : ℕ) (o : Option LineSet)
    → option_map_or (empties t) o false ≡ false
    → changed lines name (λ s. set.remove s t) o ≡ option_map_or
    (λ s. cond (empties t s) (finite.remove lines name)
    (finite.insert lines name (set.remove s t))) o lines
left lines name t None is = refl
left lines name t (Some s) is =
    sym (ap (λ b. cond b (finite.remove lines name) (finite.insert lines name (set.remove s t))) is)

pub is_none : (o : Option LineSet) → is_some o ≡ false → o ≡ None
is_none None is = refl
is_none (Some s) is = absurd (true≢false is)
