-- Lists in rising order, and where a number is inserted.
use Rattle.std.proofs.Common.{◌≡◌, ℕ, suc, zero, ◌<◌, ◌≤◌, ℤ, Bool, true, false, ◌&&◌, List, [], ◌∷◌, ◌++◌, take, drop, length, Option, Some, None, refl, ap, sym, ◌∙◌, arith, if◌then◌else◌}
use Rattle.std.specs.Prelude.{int_le, int_lt, slice_index_or}
use Rattle.std.specs.List.{AllWithin}
use Rattle.std.specs.List.Sorted.{IsPartitionedBy}
use Rattle.std.proofs.lemmas.Int.{ints}
use Rattle.byte_text.specs.Number.{fits_i64}
use Rattle.mod_samples.specs.Rising.{IsPlaceOf, inserted, is_rising, not_below, rises}

pub both : (a b : Bool) → (a && b) ≡ true → (a ≡ true) × (b ≡ true)
both true b e = (refl, e)
both false b e = cc

pub both_true : (a b : Bool) → a ≡ true → b ≡ true → (a && b) ≡ true
both_true true b e f = f
both_true false b e f = cc

pub le_from_lt : (a b : ℤ) → int_lt a b ≡ true → int_le a b ≡ true
le_from_lt a b h = grind (arith, ints)

pub le_from_not_lt : (a b : ℤ) → int_lt a b ≡ false → int_le b a ≡ true
le_from_not_lt a b h = grind (arith, ints)

pub le_trans : (a b c : ℤ) → int_le a b ≡ true → int_le b c ≡ true → int_le a c ≡ true
le_trans a b c h k = grind (arith, ints)

pub le_lt_trans : (a b c : ℤ) → int_le a b ≡ true → int_lt b c ≡ true → int_lt a c ≡ true
le_lt_trans a b c h k = grind (arith, ints)

-- what a list in rising order says of its first number and of those behind it
pub record RisesBy (last : Option ℤ) (n : ℤ) (ns : List ℤ) : Type 0 where
  pub above : not_below last n ≡ true
  pub fits : fits_i64 n ≡ true
  pub behind : rises (Some n) ns ≡ true

pub rises_by : (last : Option ℤ) (n : ℤ) (ns : List ℤ) → rises last (n ∷ ns) ≡ true
    → RisesBy last n ns
rises_by last n ns h =
    let first = both (not_below last n) (fits_i64 n && rises (Some n) ns) h in
    let second = both (fits_i64 n) (rises (Some n) ns) first.1 in
    record { above = first.0; fits = second.0; behind = second.1 }

pub by_rises : (last : Option ℤ) (n : ℤ) (ns : List ℤ) → RisesBy last n ns
    → rises last (n ∷ ns) ≡ true
by_rises last n ns h =
    both_true (not_below last n) (fits_i64 n && rises (Some n) ns) h.above
    (both_true (fits_i64 n) (rises (Some n) ns) h.fits h.behind)

-- a number that is inserted leaves a list in rising order
inserted_case : (last : Option ℤ) (n m : ℤ) (ms : List ℤ) (b : Bool) → int_lt m n ≡ b
    → RisesBy last m ms → not_below last n ≡ true → fits_i64 n ≡ true
    → (not_below (Some m) n ≡ true → rises (Some m) (inserted n ms) ≡ true)
    → rises last (if b then m ∷ inserted n ms else n ∷ m ∷ ms) ≡ true
inserted_case last n m ms true lt h above fits rest =
    by_rises last m (inserted n ms)
    (record { above = h.above; fits = h.fits; behind = rest (le_from_lt m n lt) })
inserted_case last n m ms false lt h above fits rest =
    by_rises last n (m ∷ ms) (record {
      above = above;
      fits = fits;
      behind =
          by_rises (Some n) m ms
          (record { above = le_from_not_lt m n lt; fits = h.fits; behind = h.behind });
    })

pub inserted_rises : (last : Option ℤ) (n : ℤ) (ns : List ℤ) → rises last ns ≡ true
    → not_below last n ≡ true → fits_i64 n ≡ true → rises last (inserted n ns) ≡ true
inserted_rises last n [] h above fits =
    by_rises last n [] (record { above = above; fits = fits; behind = refl })
inserted_rises last n (m ∷ ms) h above fits =
    inserted_case last n m ms (int_lt m n) refl (rises_by last m ms h) above fits
    (λ less. inserted_rises (Some m) n ms (rises_by last m ms h).behind less fits)

-- no number is below the one before the list
pub least : (m : ℤ) (ms : List ℤ) (j : ℕ) (d : ℤ) → rises (Some m) ms ≡ true → j < length ms
    → int_le m (slice_index_or ms j d) ≡ true
least m [] j d h below = absurd (omega arith)
least m (n ∷ ns) zero d h below = (rises_by (Some m) n ns h).above
least m (n ∷ ns) (suc j) d h below =
    let by = rises_by (Some m) n ns h in
    le_trans m n (slice_index_or ns j d) by.above (least n ns j d by.behind (omega arith))

-- what is below a number stands before what is not
pub parted : (n : ℤ) (last : Option ℤ) (ns : List ℤ) → rises last ns ≡ true
    → IsPartitionedBy (λ m. int_lt m n) ns
parted n last [] h i j d order below lt = absurd (omega arith)
parted n last (m ∷ ms) h zero zero d order below lt = lt
parted n last (m ∷ ms) h zero (suc j) d order below lt =
    le_lt_trans m (slice_index_or ms j d) n
    (least m ms j d (rises_by last m ms h).behind (omega arith)) lt
parted n last (m ∷ ms) h (suc i) zero d order below lt = absurd (omega arith)
parted n last (m ∷ ms) h (suc i) (suc j) d order below lt =
    parted n (Some m) ms (rises_by last m ms h).behind i j d (omega arith) (omega arith) lt

-- a number is inserted where those before it are below it, and those behind it are not
inserted_at : (n : ℤ) (ns : List ℤ) (i : ℕ) → i ≤ length ns
    → AllWithin (λ m. int_lt m n ≡ true) ns 0 i
    → AllWithin (λ m. int_lt m n ≡ false) ns i (length ns)
    → take i ns ++ n ∷ drop i ns ≡ inserted n ns
inserted_at n [] zero order before behind = refl
inserted_at n [] (suc i) order before behind = absurd (omega arith)
inserted_at n (m ∷ ms) zero order before behind =
    ap (λ b. if b then m ∷ inserted n ms else n ∷ m ∷ ms)
    (sym (behind 0 m (omega arith) (omega arith)))
inserted_at n (m ∷ ms) (suc i) order before behind =
    ap (λ rest. m ∷ rest) (inserted_at n ms i (omega arith)
    (λ k d low high. before (suc k) d (omega arith) (omega arith))
    (λ k d low high. behind (suc k) d (omega arith) (omega arith)))
    ∙ ap (λ b. if b then m ∷ inserted n ms else n ∷ m ∷ ms)
    (sym (before 0 m (omega arith) (omega arith)))

pub inserted_there : (n : ℤ) (ns : List ℤ) (i : ℕ) → IsPlaceOf n ns i
    → take i ns ++ n ∷ drop i ns ≡ inserted n ns
inserted_there n ns i at = inserted_at n ns i at.within at.before at.behind

ends_at : (n m : ℤ) (ms : List ℤ) → rises (Some m) (ms ++ n ∷ []) ≡ true → int_le m n ≡ true
ends_at n m [] h = (rises_by (Some m) n [] h).above
ends_at n m (k ∷ ks) h =
    let by = rises_by (Some m) k (ks ++ n ∷ []) h in
    le_trans m k n by.above (ends_at n k ks by.behind)

same_from_le : (a b : ℤ) → int_le a b ≡ true → int_le b a ≡ true → a ≡ b
same_from_le a b h k = grind (arith, ints)

swapped : (n m : ℤ) (rest : List ℤ) → m ≡ n → n ∷ m ∷ rest ≡ m ∷ n ∷ rest
swapped n m rest same = cc

-- where none is above the last number, and the first is not below it, all are equal
all_same : (n m : ℤ) (ms : List ℤ) → rises (Some m) (ms ++ n ∷ []) ≡ true → int_le n m ≡ true
    → n ∷ m ∷ ms ≡ m ∷ (ms ++ n ∷ [])
all_same n m [] h under = swapped n m [] (same_from_le m n (ends_at n m [] h) under)
all_same n m (k ∷ ks) h under =
    let by = rises_by (Some m) k (ks ++ n ∷ []) h in
    swapped n m (k ∷ ks) (same_from_le m n (ends_at n m (k ∷ ks) h) under)
    ∙ ap (λ rest. m ∷ rest) (all_same n k ks by.behind (le_trans n m k under by.above))

last_case : (n m : ℤ) (ms : List ℤ) (b : Bool) → int_lt m n ≡ b
    → rises (Some m) (ms ++ n ∷ []) ≡ true → inserted n ms ≡ ms ++ n ∷ []
    → (if b then m ∷ inserted n ms else n ∷ m ∷ ms) ≡ m ∷ (ms ++ n ∷ [])
last_case n m ms true lt h rest = ap (λ ns. m ∷ ns) rest
last_case n m ms false lt h rest = all_same n m ms h (le_from_not_lt m n lt)

-- a number that no other is above goes to the end
pub inserted_last : (n : ℤ) (last : Option ℤ) (ns : List ℤ) → rises last (ns ++ n ∷ []) ≡ true
    → inserted n ns ≡ ns ++ n ∷ []
inserted_last n last [] h = refl
inserted_last n last (m ∷ ms) h =
    let by = rises_by last m (ms ++ n ∷ []) h in
    last_case n m ms (int_lt m n) refl by.behind (inserted_last n (Some m) ms by.behind)

-- the first numbers of a list in rising order rise
pub first_rises : (last : Option ℤ) (ns more : List ℤ) → rises last (ns ++ more) ≡ true
    → rises last ns ≡ true
first_rises last [] more h = refl
first_rises last (n ∷ ns) more h =
    let by = rises_by last n (ns ++ more) h in
    by_rises last n ns (record {
      above = by.above;
      fits = by.fits;
      behind =
          first_rises (Some n) ns more by.behind;
    })

-- a list with a number more or not is in rising order
pub kept_rising : (b : Bool) (n : ℤ) (ns : List ℤ) → is_rising ns ≡ true → fits_i64 n ≡ true
    → is_rising (if b then inserted n ns else ns) ≡ true
kept_rising true n ns h small = inserted_rises None n ns h refl small
kept_rising false n ns h small = h
