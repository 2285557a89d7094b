-- Units that are kept. It serves the invariant of a backlog, and the clauses of `push` and `since`.
use Rattle.std.proofs.Common.{◌≡◌, ℕ, ◌+◌, ◌-◌, ◌<◌, ◌≤◌, Bool, true, false, cond, List, [], ◌∷◌, ◌++◌, length, get_or, take, drop, zero, suc, slice_get, Option, Some, nat_lt, leb, ◌==◌, refl, sym, ap, ◌∙◌, arith, length-drop}
use Rattle.std.specs.List.{AllByRecursion, find}
use Rattle.std.specs.List.Sorted.{IsNonDecreasingBy, IsPartitionPoint}
use Rattle.std.proofs.lemmas.Bool.Decides.{nat_tests}
use native.Mathlib.Numerals.{unary_clauses}
use Rattle.std.proofs.lemmas.Bool.{true≢false}
use Rattle.std.proofs.lemmas.List.{length_push}
use Rattle.core_types.specs.declared.effect.Effect.{Effect}
use Rattle.core_types.specs.Shown.{Backlog, NumberedEffects}
use Rattle.effect_log.specs.Unit.{IsLoggable}
use Rattle.replica_feed.specs.declared.frame.Frame.{Frame}
use Rattle.replica_feed.specs.declared.backlog.Since.TheVariants as since
use Rattle.replica_feed.specs.Units.{AreKept, IsWritable, last_to, frame_from}

-- an event without effects
pub kept_later : (first : ℕ) (units : List NumberedEffects) (end : ℕ) → AreKept first units end
    → AreKept first units (end + 1)
kept_later first [] end k = omega (arith, k)
kept_later first (u ∷ units) end k =
    (k.0, k.1, k.2, k.3, kept_later u.to units end k.4)

-- a unit more
pub kept_push : (first : ℕ) (units : List NumberedEffects) (end : ℕ) (u : NumberedEffects)
    → AreKept first units end → u.from ≡ last_to first units → u.to ≡ end + 1
    → 0 < length u.effects → AllByRecursion IsLoggable u.effects
    → AreKept first (units ++ u ∷ []) (end + 1)
kept_push first [] end u k from to some each =
    (from, omega (arith, k, to), some, each, omega (arith, to))
kept_push first (v ∷ units) end u k from to some each = (
  k.0,
  k.1,
  k.2,
  k.3,
  kept_push v.to units end u k.4 from to some each,
)

-- the oldest goes
pub kept_rest : (first : ℕ) (units : List NumberedEffects) (end : ℕ) → AreKept first units end
    → AreKept (last_to first (take 1 units)) (drop 1 units) end
kept_rest first [] end k = k
kept_rest first (u ∷ units) end k = k.4

-- each ends above the first number
above_first : (first : ℕ) (units : List NumberedEffects) (end : ℕ) (j : ℕ) (d : NumberedEffects)
    → AreKept first units end → j < length units → first < (get_or units j d).to
above_first first [] end j d k l = absurd (omega (arith, l))
above_first first (u ∷ units) end zero d k l = k.1
above_first first (u ∷ units) end (suc j) d k l =
    omega (arith, k.1, above_first u.to units end j d k.4 (omega (arith, l)))

pub rising : (first : ℕ) (units : List NumberedEffects) (end : ℕ) → AreKept first units end
    → IsNonDecreasingBy (λ u. u.to) units
rising first [] end k i j d le l = absurd (omega (arith, l))
rising first (u ∷ units) end k zero zero d le l = omega arith
rising first (u ∷ units) end k zero (suc j) d le l =
    omega (arith, above_first u.to units end j d k.4 (omega (arith, l)))
rising first (u ∷ units) end k (suc i) zero d le l = absurd (omega (arith, le))
rising first (u ∷ units) end k (suc i) (suc j) d le l =
    rising u.to units end k.4 i j d (omega (arith, le)) (omega (arith, l))

-- the first that passes a test, where those before it fail, and those from it on pass
pub found : {X : Type 0} (p : X → Bool) (xs : List X) (i : ℕ)
    → ((k : ℕ) (d : X) → k < i → p (get_or xs k d) ≡ false)
    → ((k : ℕ) (d : X) → i ≤ k → k < length xs → p (get_or xs k d) ≡ true)
    → find p xs ≡ slice_get xs i
found p [] i fails passes = refl
found p (x ∷ xs) zero fails passes = rw (passes 0 x (omega arith) (omega arith)) refl
found p (x ∷ xs) (suc i) fails passes =
    rw (fails 0 x (omega arith))
    (found p xs i (λ k d m. fails (suc k) d (omega (arith, m)))
    (λ k d m n. passes (suc k) d (omega (arith, m)) (omega (arith, n))))

-- the last of all ends where it says
pub last_is : (first : ℕ) (units : List NumberedEffects) (u : NumberedEffects) (n : ℕ)
    → length units ≡ suc n → u ≡ get_or units n u → u.to ≡ last_to first units
last_is first [] u n some is = absurd (omega (arith, some))
last_is first (v ∷ []) u zero some is = ap (λ (x : NumberedEffects). x.to) is
last_is first (v ∷ []) u (suc n) some is = absurd (omega (arith, some))
last_is first (v ∷ w ∷ units) u zero some is = absurd (omega (arith, some))
last_is first (v ∷ w ∷ units) u (suc n) some is =
    last_is v.to (w ∷ units) u n (omega (arith, some)) is

pub last_end : (first : ℕ) (units : List NumberedEffects) (u : NumberedEffects) (n : ℕ)
    → n ≡ length units → 0 < n → u ≡ get_or units (n - 1) u → u.to ≡ last_to first units
last_end first units u zero is some at = absurd (omega (arith, some))
last_end first units u (suc n) is some at =
    last_is first units u n (sym is) (simp unary_clauses at at)

test_no : (n m : ℕ) → leb n m ≡ true → nat_lt m n ≡ false
test_no n m is = grind (arith, nat_tests)

test_yes : (n m : ℕ) → leb n m ≡ false → nat_lt m n ≡ true
test_yes n m is = grind (arith, nat_tests)

found_at : (units : List NumberedEffects) (n i : ℕ)
    → IsPartitionPoint (λ u. leb u.to n ≡ true) (λ u. leb u.to n ≡ false) units i
    → find (λ u. nat_lt n u.to) units ≡ slice_get units i
found_at units n i point =
    found (λ u. nat_lt n u.to) units i
    (λ k d l. test_no (get_or units k d).to n (point.0 k d (omega arith) l))
    (λ k d m l. test_yes (get_or units k d).to n (point.1 k d m l))

-- what is found where those up to a number end
pub parted_at : (items units : List NumberedEffects) (n i : ℕ) → items ≡ units
    → IsPartitionPoint (λ u. leb u.to n ≡ true) (λ u. leb u.to n ≡ false) items i
    → find (λ u. nat_lt n u.to) units ≡ slice_get units i
parted_at items units n i same point =
    sym (ap (find (λ u. nat_lt n u.to)) same) ∙ found_at items n i point
    ∙ ap (λ (us : List NumberedEffects). slice_get us i) same

lt_of : (n m : ℕ) → nat_lt n m ≡ true → n < m
lt_of n m is = grind (arith, nat_tests)

-- one that was picked can be written
picked : (b : Backlog) (n : ℕ) (u : NumberedEffects) (other : Option NumberedEffects) (t : Bool)
    → nat_lt n u.to ≡ t → AllByRecursion IsLoggable u.effects
    → IsWritable (since.Frame (frame_from b n other))
    → IsWritable (since.Frame (frame_from b n (cond t (Some u) other)))
picked b n u other true is each w = (lt_of n u.to is, each)
picked b n u other false is each w = w

-- what is found can be written
pub found_writable : (b : Backlog) (n first : ℕ) (units : List NumberedEffects)
    → AreKept first units b.end → n < b.end
    → IsWritable (since.Frame (frame_from b n (find (λ u. nat_lt n u.to) units)))
found_writable b n first [] k l = (l, tt)
found_writable b n first (u ∷ units) k l =
    picked b n u (find (λ v. nat_lt n v.to) units) (nat_lt n u.to) refl k.3
    (found_writable b n u.to units k.4 l)

pub same_rising : (items units : List NumberedEffects) → items ≡ units
    → IsNonDecreasingBy (λ u. u.to) units → IsNonDecreasingBy (λ u. u.to) items
same_rising items units same rises = rw same rises

same_kept : (b' b : Backlog) → b' ≡ b → AreKept b'.first b'.units b'.end
    → AreKept b.first b.units b.end
same_kept b' b same k = rw (sym same) k

pub frame_writable : (b' b : Backlog) (n : ℕ) (f : Frame) → b' ≡ b
    → AreKept b'.first b'.units b'.end → n < b'.end
    → f ≡ frame_from b n (find (λ u. nat_lt n u.to) b.units) → IsWritable (since.Frame f)
frame_writable b' b n f same k l is =
    rw is
    (found_writable b n b.first b.units (same_kept b' b same k)
    (omega (arith, l, ap (λ (x : Backlog). x.end) same)))

some_effect : (effects : List Effect) → (length effects == 0) ≡ false → 0 < length effects
some_effect [] e = absurd (true≢false e)
some_effect (e ∷ effects) is = omega arith

module _ (first : ℕ) (units units' : List NumberedEffects) (end from : ℕ)
    (u : NumberedEffects) (effects : List Effect)
    (k : AreKept first units end) (is : units' ≡ units ++ u ∷ []) where
  -- a unit was added
  pub kept_more : u ≡ record { from = from; to = end + 1; effects = effects }
      → from ≡ last_to first units → (length effects == 0) ≡ false
      → AllByRecursion IsLoggable effects → AreKept first units' (end + 1)
  kept_more u_is from_is some each =
      rw (is, u_is)
      (kept_push first units end (record { from = from; to = end + 1; effects = effects }) k from_is
      refl (some_effect effects some) each)

  pub length_more : length units' ≡ length units + 1
  length_more = ap length is ∙ length_push units u

-- and the oldest was dropped
pub kept_dropped : (first first' : ℕ) (units units' : List NumberedEffects) (end : ℕ)
    → units' ≡ drop 1 units → first' ≡ last_to first (take 1 units) → AreKept first units end
    → AreKept first' units' end
kept_dropped first first' units units' end is first_is k = rw (is, first_is) (kept_rest first units end k)

pub length_dropped : (units units' : List NumberedEffects) (n : ℕ) → units' ≡ drop 1 units
    → length units ≤ n + 1 → length units' ≤ n
length_dropped units units' n is l = omega (arith, ap length is, length-drop 1 units, l)
