-- Serves `length` and `fault` of `read_len`, `string` and `fault` of `read_string`, and the laws:
-- the steps of reading, by what is left from the place on.
use Rattle.std.proofs.Common.{◌≡◌, ℕ, ◌+◌, ◌-◌, ◌<◌, ◌≤◌, ◌⊎◌, Bool, true, false, cond, ltb, List, [], ◌∷◌, ◌++◌, length, get_or, take, drop, replicate, Result, Ok, Err, refl, sym, ap, subst, ◌∙◌, inl, inr, arith, length-append, length-drop, length-take, take-append-drop, take_at, drop_at, add-zero, get_or-drop, get_or-take, ltb-true, ltb-false, lt-ltb, le-ltb}
use Rattle.std.proofs.lemmas.Bool.{cases_lt}
use Rattle.std.proofs.lemmas.List.{drop_more, drop_all, drop-drop, get_or_past, get_or_append_left, get_or-append_right, get_or-replicate, length-replicate}
use Rattle.rdb_prims.specs.declared.rdb_fault.RdbFault.{RdbFault}
use Rattle.rdb_prims.specs.Places.{AreBytes, StandsAt}
use Rattle.rdb_prims.specs.Reading.{◌>>=◌, truncated, byte_at, bytes_at}

-- ---- results

abbrev pub done : {A : Type 0} → A → Result A RdbFault
done x = Ok x

pub ok_is : {A : Type 0} (x y : A) → done x ≡ done y → x ≡ y
ok_is x y e = cc

-- what holds of a value holds of the one that was answered
pub carried : {A : Type 0} (P : A → Type 0) (x y : A) → done x ≡ done y → P x → P y
carried P x y e h = subst P (ok_is x y e) h

abbrev pub failed : {A : Type 0} → RdbFault → Result A RdbFault
failed d = Err d

pub err_is : {A : Type 0} (d f : RdbFault) → failed {A = A} d ≡ failed f → d ≡ f
err_is d f e = cc

pub no_err : {A : Type 0} {P : Type 0} (x : A) (f : RdbFault) → done x ≡ failed f → P
no_err x f e = absurd cc

pub no_ok : {A : Type 0} {P : Type 0} (x : A) (f : RdbFault) → failed f ≡ done x → P
no_ok x f e = absurd cc

-- a step that came out well
pub bind_ok : {A B : Type 0} (r : Result A RdbFault) (f : A → Result B RdbFault) (y : B)
    → (r >>= f) ≡ done y → (x : A) × (r ≡ done x) × (f x ≡ done y)
bind_ok (Ok x) f y e = (x, refl, e)
bind_ok (Err d) f y e = no_ok y d e

-- the first fault is that of the step, or of what comes after it
pub bind_err : {A B : Type 0} (r : Result A RdbFault) (f : A → Result B RdbFault) (d : RdbFault)
    → (r >>= f) ≡ failed d → (r ≡ failed d) ⊎ ((x : A) × (r ≡ done x) × (f x ≡ failed d))
bind_err (Ok x) f d e = inr (x, refl, e)
bind_err (Err g) f d e = inl (ap failed (err_is g d e))

-- which way a test went
pub chosen : {A : Type 0} (b : Bool) (x y z : A) → cond b x y ≡ z
    → ((b ≡ true) × (x ≡ z)) ⊎ ((b ≡ false) × (y ≡ z))
chosen true x y z e = inl (refl, e)
chosen false x y z e = inr (refl, e)

-- ---- bytes

pub AreBytes-drop : (n : ℕ) (bytes : List ℕ) → AreBytes bytes → AreBytes (drop n bytes)
AreBytes-drop n bytes h i = rw get_or-drop (h (n + i))

pub AreBytes-take : (n : ℕ) (bytes : List ℕ) → AreBytes bytes → AreBytes (take n bytes)
AreBytes-take n bytes h i =
    elim (cases_lt i n) [
      | inl lt ↦ rw (get_or-take n bytes i 0 lt) (h i)
      | inr le ↦
          rw (get_or_past (take n bytes) i 0 (omega (arith, length-take n bytes))) (omega arith)
    ]

pub AreBytes-append : (xs ys : List ℕ) → AreBytes xs → AreBytes ys → AreBytes (xs ++ ys)
AreBytes-append xs ys hx hy i =
    elim (cases_lt i (length xs)) [
      | inl lt ↦ rw (get_or_append_left xs ys 0 i lt) (hx i)
      | inr le ↦ rw (get_or-append_right xs ys (length xs) i 0 refl le) (hy (i - length xs))
    ]

-- as many bytes of 0
abbrev pub zeros : ℕ → List ℕ
zeros n = replicate n 0

pub length-zeros : (n : ℕ) → length (zeros n) ≡ n
length-zeros n = length-replicate {A = ℕ} n 0

pub AreBytes-zeros : (n : ℕ) → AreBytes (zeros n)
AreBytes-zeros n i =
    elim (cases_lt i n) [
      | inl lt ↦ rw (get_or-replicate {A = ℕ} n i 0 0 lt) (omega arith)
      | inr le ↦ rw (get_or_past (zeros n) i 0 (omega (arith, length-zeros n))) (omega arith)
    ]

-- ---- one byte, and some bytes, from a place on

pub byte_reads : (bytes : List ℕ) (at first : ℕ) (more : List ℕ) → drop at bytes ≡ first ∷ more
    → byte_at bytes at ≡ done (first, at + 1)
byte_reads bytes at first more e =
    let there : at < length bytes = omega (arith, length-drop at bytes, ap length e) in
    let is : get_or bytes at 0 ≡ first =
    ap (λ (i : ℕ). get_or bytes i 0) (sym (add-zero at)) ∙ sym (get_or-drop at bytes 0 0)
    ∙ ap (λ (xs : List ℕ). get_or xs 0 0) e in
    rw (lt-ltb at (length bytes) there, is) refl

pub byte_none : (bytes : List ℕ) (at : ℕ) → drop at bytes ≡ []
    → byte_at bytes at ≡ failed (truncated bytes)
byte_none bytes at e =
    rw (le-ltb at (length bytes) (omega (arith, length-drop at bytes, ap length e))) refl

pub rest_behind : (bytes : List ℕ) (at first : ℕ) (more : List ℕ) → drop at bytes ≡ first ∷ more
    → drop (at + 1) bytes ≡ more
rest_behind bytes at first more e = sym (drop-drop 1 at bytes) ∙ ap (drop 1) e

pub bytes_read : (bytes : List ℕ) (at count : ℕ) (piece more : List ℕ) → at ≤ length bytes
    → drop at bytes ≡ piece ++ more → length piece ≡ count
    → bytes_at bytes at count ≡ done (piece, at + count)
bytes_read bytes at count piece more within e size =
    let long : at + count ≤ length bytes =
    omega (arith, length-drop at bytes, ap length e, length-append piece more) in
    rw (le-ltb (length bytes) (at + count) long, e, take_at piece more count size) refl

pub bytes_none : (bytes : List ℕ) (at count : ℕ) → at ≤ length bytes
    → length (drop at bytes) < count → bytes_at bytes at count ≡ failed (truncated bytes)
bytes_none bytes at count within short =
    rw (lt-ltb (length bytes) (at + count) (omega (arith, length-drop at bytes))) refl

-- what a byte that was read says
pub record IsByte (bytes : List ℕ) (at : ℕ) (found : ℕ × ℕ) : Type 0 where
  pub within : at < length bytes
  pub rest : drop at bytes ≡ found.0 ∷ drop (at + 1) bytes
  pub value : found.0 ≡ get_or bytes at 0
  pub next : found.1 ≡ at + 1

pub byte_found : (bytes : List ℕ) (at : ℕ) (found : ℕ × ℕ) → byte_at bytes at ≡ done found
    → IsByte bytes at found
byte_found bytes at found e =
    elim (chosen (ltb at (length bytes)) (done (get_or bytes at 0, at + 1)) (failed (truncated bytes)) (done found) e) [
      | inl p ↦
          let is : (get_or bytes at 0, at + 1) ≡ found =
          ok_is (get_or bytes at 0, at + 1) found p.1 in
          let within : at < length bytes = ltb-true _ _ p.0 in
          let made : IsByte bytes at (get_or bytes at 0, at + 1) =
          record {
            within = within;
            rest = drop_more bytes at 0 within;
            value = refl;
            next = refl;
          } in
          subst (IsByte bytes at) is made
      | inr p ↦ no_ok found (truncated bytes) p.1
    ]

pub byte_lacks : (bytes : List ℕ) (at : ℕ) (d : RdbFault) → byte_at bytes at ≡ failed d
    → (drop at bytes ≡ []) × (truncated bytes ≡ d)
byte_lacks bytes at d e =
    elim (chosen (ltb at (length bytes)) (done (get_or bytes at 0, at + 1)) (failed (truncated bytes)) (failed d) e) [
      | inl p ↦ no_err (get_or bytes at 0, at + 1) d p.1
      | inr p ↦ (drop_all at bytes (ltb-false _ _ p.0), err_is {A = ℕ × ℕ} (truncated bytes) d p.1)
    ]

-- what bytes that were read say
pub record AreRead (bytes : List ℕ) (at count : ℕ) (found : List ℕ × ℕ) : Type 0 where
  pub within : at + count ≤ length bytes
  pub size : length found.0 ≡ count
  pub value : found.0 ≡ take count (drop at bytes)
  pub rest : drop at bytes ≡ found.0 ++ drop count (drop at bytes)
  pub next : found.1 ≡ at + count

pub bytes_found : (bytes : List ℕ) (at count : ℕ) (found : List ℕ × ℕ)
    → bytes_at bytes at count ≡ done found → AreRead bytes at count found
bytes_found bytes at count found e =
    elim (chosen (ltb (length bytes) (at + count)) (failed (truncated bytes)) (done (take count (drop at bytes), at + count)) (done found) e) [
      | inl p ↦ no_ok found (truncated bytes) p.1
      | inr p ↦
          let is : (take count (drop at bytes), at + count) ≡ found =
          ok_is (take count (drop at bytes), at + count) found p.1 in
          let within : at + count ≤ length bytes = ltb-false _ _ p.0 in
          let made : AreRead bytes at count (take count (drop at bytes), at + count) = record {
            within = within;
            size = omega (arith, length-take count (drop at bytes), length-drop at bytes);
            value = refl;
            rest = sym (take-append-drop count (drop at bytes));
            next = refl;
          } in
          subst (AreRead bytes at count) is made
    ]

pub bytes_lack : (bytes : List ℕ) (at count : ℕ) (d : RdbFault) → at ≤ length bytes
    → bytes_at bytes at count ≡ failed d → (length (drop at bytes) < count) × (truncated bytes ≡ d)
bytes_lack bytes at count d within e =
    elim (chosen (ltb (length bytes) (at + count)) (failed (truncated bytes)) (done (take count (drop at bytes), at + count)) (failed d) e) [
      | inl p ↦
          let short : length bytes < at + count =
          ltb-true _ _ p.0 in (
            omega (arith, length-drop at bytes),
            err_is {A = List ℕ × ℕ} (truncated bytes) d p.1,
          )
      | inr p ↦ no_err (take count (drop at bytes), at + count) d p.1
    ]

-- ---- what stands at a place, by what is left from it on

pub stands : (bytes : List ℕ) (at : ℕ) (piece more : List ℕ) → 0 < length piece
    → drop at bytes ≡ piece ++ more → StandsAt bytes at piece (at + length piece)
stands bytes at piece more some e =
    let within : at ≤ length bytes =
    omega (arith, length-drop at bytes, ap length e, length-append piece more) in
    record {
      front = take at bytes;
      more = more;
      whole = sym (take-append-drop at bytes) ∙ ap (λ (xs : List ℕ). take at bytes ++ xs) e;
      place = omega (arith, length-take at bytes);
      behind = refl;
    }

pub stands_rest : (bytes : List ℕ) (at : ℕ) (piece : List ℕ) (next : ℕ) (s : StandsAt bytes at piece next)
    → drop at bytes ≡ piece ++ s.more
stands_rest bytes at piece next s =
    rw s.whole (drop_at s.front (piece ++ s.more) at (sym s.place))
