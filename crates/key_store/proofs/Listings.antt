-- Parts of the entries, from a name on. Serves the clauses of `iter` and `iter_from`.
use Rattle.std.proofs.Common.{◌≡◌, refl, sym, ap, ◌∙◌, ℕ, zero, suc, ◌≤◌, ◌<◌, arith, Bool, true, false, cond, ◌&&◌, List, [], ◌∷◌, map, length, take}
use Rattle.std.specs.declared.cmp.Ordering.{Ordering}
use Rattle.std.specs.declared.cmp.Ordering.TheVariants.{Less, Equal, Greater}
use Rattle.std.specs.declared.ops.Bound.{Bound}
use Rattle.std.specs.declared.ops.Bound.TheVariants.{Included, Excluded, Unbounded}
use Rattle.std.specs.BTreeMap.Range.{entries_between, is_from_start, range_contains}
use Rattle.std.specs.Cmp.Lexicographic.{slice_cmp}
use Rattle.std.specs.Range.Bound.{bound_map}
use Rattle.std.specs.List.{filter, AllByRecursion}
use Rattle.std.specs.Ordering.{nat_cmp, is_lt, is_le, ordering_then}
use Rattle.std.proofs.lemmas.Bool.Decides.{nat_tests}
use Rattle.key_store.specs.inner.Short.{is_short}
use Rattle.key_store.specs.inner.Starts.{IsSameStart}

module _ {X : Type 0} where
  -- two tests that agree on a list pass the same of it
  pub same_passed : (p q : X → Bool) (es : List X) → AllByRecursion (λ e. p e ≡ q e) es → filter p es ≡ filter q es
  same_passed p q [] same = refl
  same_passed p q (e ∷ es) same = λ i. cond (same.0 i) (e ∷ same_passed p q es same.1 i) (same_passed p q es same.1 i)

  pub all_passed : (es : List X) → filter (λ _. true) es ≡ es
  all_passed [] = refl
  all_passed (e ∷ es) = ap (λ rest. e ∷ rest) (all_passed es)

  always : (P : X → Type 0) → ((e : X) → P e) → (es : List X) → AllByRecursion P es
  always P all [] = tt
  always P all (e ∷ es) = (all e, always P all es)

  pub passed_as : (p q : X → Bool) → ((e : X) → p e ≡ q e) → (es : List X) → filter p es ≡ filter q es
  passed_as p q same es = same_passed p q es (always (λ e. p e ≡ q e) same es)

-- what passes a test of what is shown, shown
pub shown_passed : {X Y : Type 0} (show : X → Y) (p : Y → Bool) (es : List X) → filter p (map show es) ≡ map show (filter (λ e. p (show e)) es)
shown_passed show p [] = refl
shown_passed show p (e ∷ es) = by (shown_passed show p es) (p (show e))
  where
    by : filter p (map show es) ≡ map show (filter (λ e. p (show e)) es) → (b : Bool) → cond b (show e ∷ filter p (map show es)) (filter p (map show es)) ≡ map show (cond b (e ∷ filter (λ e. p (show e)) es) (filter (λ e. p (show e)) es))
    by rest true = ap (λ xs. show e ∷ xs) rest
    by rest false = rest

-- where a range without an end begins, its keys read
starts : {K : Type 0} (read : K → List ℕ) (start : Bound K) (q : K)
    → range_contains (λ x y. slice_cmp nat_cmp (read x) (read y)) start Unbounded q ≡ is_from_start (slice_cmp nat_cmp) (bound_map read start) (read q)
starts {K} read start q = by start
  where
    kept : (b : Bool) → (b && true) ≡ b
    kept true = refl
    kept false = refl

    by : (start : Bound K) → range_contains (λ x y. slice_cmp nat_cmp (read x) (read y)) start Unbounded q ≡ is_from_start (slice_cmp nat_cmp) (bound_map read start) (read q)
    by (Included a) = kept (is_le (slice_cmp nat_cmp (read a) (read q)))
    by (Excluded a) = kept (is_lt (slice_cmp nat_cmp (read a) (read q)))
    by Unbounded = refl

pub read_twice : {A B C : Type 0} (f : A → B) (g : B → C) (start : Bound A) → bound_map g (bound_map f start) ≡ bound_map (λ a. g (f a)) start
read_twice f g (Included a) = refl
read_twice f g (Excluded a) = refl
read_twice f g Unbounded = refl

pub read_as_is : {A : Type 0} (start : Bound A) → bound_map (λ a. a) start ≡ start
read_as_is (Included a) = refl
read_as_is (Excluded a) = refl
read_as_is Unbounded = refl

-- the part of a tree from a name on, its keys read
pub read_part : {K X : Type 0} (read : K → List ℕ) (start : Bound K) (all part : List (K × X))
    → part ≡ entries_between (λ x y. slice_cmp nat_cmp (read x) (read y)) start Unbounded all
    → map (λ (e : K × X). (read e.0, e.1)) part ≡ filter (λ (e : List ℕ × X). is_from_start (slice_cmp nat_cmp) (bound_map read start) e.0) (map (λ (e : K × X). (read e.0, e.1)) all)
read_part {K} {X} read start all part is =
    ap (map (λ (e : K × X). (read e.0, e.1))) (is ∙ passed_as _ _ (λ e. starts read start e.0) all)
    ∙ sym (shown_passed (λ (e : K × X). (read e.0, e.1)) (λ (e : List ℕ × X). is_from_start (slice_cmp nat_cmp) (bound_map read start) e.0) all)

-- a name of at most n bytes is to a longer one as it is to its first n
pub below_front : (n : ℕ) (long name : List ℕ) → n < length long → length name ≤ n → is_lt (slice_cmp nat_cmp (take n long) name) ≡ is_lt (slice_cmp nat_cmp long name)
below_front zero [] name more few = absurd (omega (arith, more))
below_front zero (a ∷ xs) [] more few = refl
below_front zero (a ∷ xs) (b ∷ bs) more few = absurd (omega (arith, few))
below_front (suc n) [] name more few = absurd (omega (arith, more))
below_front (suc n) (a ∷ xs) [] more few = refl
below_front (suc n) (a ∷ xs) (b ∷ bs) more few = by (below_front n xs bs (omega (arith, more)) (omega (arith, few))) (nat_cmp a b)
  where
    by : is_lt (slice_cmp nat_cmp (take n xs) bs) ≡ is_lt (slice_cmp nat_cmp xs bs) → (o : Ordering) → is_lt (ordering_then o (slice_cmp nat_cmp (take n xs) bs)) ≡ is_lt (ordering_then o (slice_cmp nat_cmp xs bs))
    by rest Less = refl
    by rest Equal = rest
    by rest Greater = refl

-- and is never the longer one
pub never_same : (n : ℕ) (long name : List ℕ) → n < length long → length name ≤ n → is_le (slice_cmp nat_cmp long name) ≡ is_lt (slice_cmp nat_cmp long name)
never_same n [] name more few = absurd (omega (arith, more))
never_same n (a ∷ xs) [] more few = refl
never_same zero (a ∷ xs) (b ∷ bs) more few = absurd (omega (arith, few))
never_same (suc n) (a ∷ xs) (b ∷ bs) more few = by (never_same n xs bs (omega (arith, more)) (omega (arith, few))) (nat_cmp a b)
  where
    by : is_le (slice_cmp nat_cmp xs bs) ≡ is_lt (slice_cmp nat_cmp xs bs) → (o : Ordering) → is_le (ordering_then o (slice_cmp nat_cmp xs bs)) ≡ is_lt (ordering_then o (slice_cmp nat_cmp xs bs))
    by rest Less = refl
    by rest Equal = rest
    by rest Greater = refl

few_bytes : (name : List ℕ) → is_short name ≡ true → length name ≤ 23
few_bytes name short = grind (arith, nat_tests)

many_bytes : (name : List ℕ) → is_short name ≡ false → 23 < length name
many_bytes name long = grind (arith, nat_tests)

-- the short names behind a longer one are those behind its front
pub front_after : (long : List ℕ) → is_short long ≡ false → IsSameStart (Excluded (take 23 long)) (Excluded long)
front_after long away name short = below_front 23 long name (many_bytes long away) (few_bytes name short)

pub front_from : (long : List ℕ) → is_short long ≡ false → IsSameStart (Excluded (take 23 long)) (Included long)
front_from long away name short =
    front_after long away name short ∙ sym (never_same 23 long name (many_bytes long away) (few_bytes name short))
