-- The names of clients after a change in the tree. It serves the clauses of `Table`.
use Rattle.std.proofs.Common.{◌≡◌, ℕ, ◌==◌, Bool, true, false, cond, not, List, [], ◌∷◌, ◌++◌, length}
use Rattle.std.proofs.Common.{filter, Option, None, Some, is_some, IsSome, unwrap_or}
use Rattle.std.proofs.Common.{refl, sym, ap, ◌∙◌, eqb-true}
use Rattle.std.specs.Ordering.{nat_cmp, eq_by_cmp}
use Rattle.std.specs.Cmp.{nat_cmp_total, unsigned_tied}
use Rattle.std.specs.Option.{MatchOption, option_map_or}
use Rattle.std.specs.Str.{bytes_eq}
use Rattle.std.specs.BTreeMap as tree
use Rattle.std.specs.BTreeMap.{BTreeMap, Updates}
use Rattle.std.specs.FinMap as map
use Rattle.std.specs.FinMap.{from_entries}
use Rattle.std.proofs.lemmas.Bool.{true≢false, false≢true}
use Rattle.key_events.specs.Rolls.{RollMap, NameList, with_names}
use Rattle.key_events.specs.inner.Tables.{Renames}
use Rattle.key_events.proofs.Entries.{get-tree, inserted}

-- the roll of a tree
abbrev pub roll_of : BTreeMap ℕ NameList → RollMap
roll_of m = from_entries m.entries

-- with the names of a client changed in their place
abbrev pub changed : RollMap → ℕ → (NameList → NameList) → Option NameList → RollMap
changed roll client change o = option_map_or (λ ns. map.insert roll client (change ns)) o roll

pub renamed : (m n : BTreeMap ℕ NameList) (client : ℕ) (change : NameList → NameList)
    → Renames m n client change
    → roll_of n ≡ changed (roll_of m) client change (map.get (roll_of m) client)
renamed m n client change writes =
    elim (tree.get nat_cmp m client) as (λ o. MatchOption o (n.entries ≡ m.entries)
    (λ ns. Updates nat_cmp m n client (Some (change ns)))
    → roll_of n ≡ changed (roll_of m) client change o) [
      | None ↦ λ same. ap (λ es. from_entries {R = nat_cmp} es) same
      | Some ns ↦ λ updates. inserted m n client (change ns) updates
    ] writes
    ∙ ap (changed (roll_of m) client change) (sym (get-tree m client))

pub added : (roll : RollMap) (client : ℕ) (name : List ℕ) (o : Option NameList) → IsSome o
    → changed roll client (λ ns. ns ++ name ∷ []) o
    ≡ map.insert roll client (unwrap_or o [] ++ name ∷ [])
added roll client name None there = absurd (false≢true there)
added roll client name (Some ns) there = refl

pub reinserted : (roll : RollMap) (client : ℕ) (o : Option NameList) → map.get roll client ≡ o
    → changed roll client (λ ns. ns) o ≡ roll
reinserted roll client None is = refl
reinserted roll client (Some ns) is =
    map.same_map nat_cmp_total map.nat_cmp-IsAntisymmetric _ _ (λ q.
    map.get-insert nat_cmp_total roll client ns q
    ∙ ap (λ b. cond b (Some ns) (map.get roll q)) (unsigned_tied q client)
    ∙ same q (q == client) refl)
  where
    same : (q : ℕ) (b : Bool) → (q == client) ≡ b
        → cond b (Some ns) (map.get roll q) ≡ map.get roll q
    same q true here = sym (ap (map.get roll) (eqb-true q client here) ∙ is)
    same q false here = refl

-- nothing is taken out where the client has no names
pub unchanged : (roll : RollMap) (client : ℕ) → map.get roll client ≡ None
    → map.remove roll client ≡ roll
unchanged roll client none =
    map.same_map nat_cmp_total map.nat_cmp-IsAntisymmetric _ _ (λ q.
    map.get-remove nat_cmp_total roll client q
    ∙ ap (λ b. cond b None (map.get roll q)) (unsigned_tied q client)
    ∙ same q (q == client) refl)
  where
    same : (q : ℕ) (b : Bool) → (q == client) ≡ b → cond b None (map.get roll q) ≡ map.get roll q
    same q true here = sym (ap (map.get roll) (eqb-true q client here) ∙ none)
    same q false here = refl

abbrev pub rest_of : List ℕ → NameList → NameList
rest_of name names = filter (λ n. not (bytes_eq n name)) names

abbrev pub empties : List ℕ → Option NameList → Bool
empties name o = option_map_or (λ ns. length (rest_of name ns) == 0) o false

pub emptied : (roll : RollMap) (client : ℕ) (name : List ℕ) (o : Option NameList)
    → empties name o ≡ true
    → map.remove (changed roll client (rest_of name) o) client
    ≡ with_names roll client (rest_of name (unwrap_or o []))
emptied roll client name None is = absurd (false≢true is)
emptied roll client name (Some ns) is =
    map.same_map nat_cmp_total map.nat_cmp-IsAntisymmetric _ _ (λ q.
    map.get-remove nat_cmp_total (map.insert roll client (rest_of name ns)) client q
    ∙ ap (cond (eq_by_cmp nat_cmp q client) None)
    (map.get-insert nat_cmp_total roll client (rest_of name ns) q)
    ∙ once (eq_by_cmp nat_cmp q client) (map.get roll q)
    ∙ sym (map.get-remove nat_cmp_total roll client q))
    ∙ sym (ap (λ b. cond b (map.remove roll client)
    (map.insert roll client (rest_of name ns))) is)
  where
    once : (b : Bool) (o : Option NameList)
        → cond b None (cond b (Some (rest_of name ns)) o) ≡ cond b None o
    once true o = refl
    once false o = refl

pub left : (roll : RollMap) (client : ℕ) (name : List ℕ) (o : Option NameList)
    → map.get roll client ≡ o → empties name o ≡ false
    → changed roll client (rest_of name) o ≡ with_names roll client (rest_of name (unwrap_or o []))
left roll client name None none is = sym (unchanged roll client none)
left roll client name (Some ns) some is =
    sym (ap (λ b. cond b (map.remove roll client)
    (map.insert roll client (rest_of name ns))) is)

pub is_none : (o : Option NameList) → is_some o ≡ false → o ≡ None
is_none None is = refl
is_none (Some ns) is = absurd (true≢false is)
