-- A list cut before its first byte of some kind.
use Rattle.std.proofs.Common.{◌≡◌, ℕ, zero, suc, ◌<◌, ◌≤◌, Bool, true, false, cond, List, [], ◌∷◌, ◌++◌, length, take, get_or, refl, ap, arith, inl, inr}
use Rattle.std.specs.List.{list_any}
use Rattle.std.proofs.lemmas.Bool.{or_parts, cases_Bool}

-- what stands before the first such byte, and from it on
abbrev pub before_first : (ℕ → Bool) → List ℕ → List ℕ
before_first stops [] = []
before_first stops (byte ∷ bytes) = cond (stops byte) [] (byte ∷ before_first stops bytes)

abbrev pub from_first : (ℕ → Bool) → List ℕ → List ℕ
from_first stops [] = []
from_first stops (byte ∷ bytes) = cond (stops byte) (byte ∷ bytes) (from_first stops bytes)

pub before_first-at : (stops : ℕ → Bool) (text : List ℕ) (stop : ℕ) (more : List ℕ) → list_any stops text ≡ false → stops stop ≡ true → before_first stops (text ++ stop ∷ more) ≡ text
before_first-at stops [] stop more none here = rw here refl
before_first-at stops (byte ∷ text) stop more none here =
    let parts = or_parts (stops byte) (list_any stops text) none in
    rw parts.0 (ap (λ (rest : List ℕ). byte ∷ rest) (before_first-at stops text stop more parts.1 here))

pub from_first-at : (stops : ℕ → Bool) (text : List ℕ) (stop : ℕ) (more : List ℕ) → list_any stops text ≡ false → stops stop ≡ true → from_first stops (text ++ stop ∷ more) ≡ stop ∷ more
from_first-at stops [] stop more none here = rw here refl
from_first-at stops (byte ∷ text) stop more none here =
    let parts = or_parts (stops byte) (list_any stops text) none in
    rw parts.0 (from_first-at stops text stop more parts.1 here)

pub before_first-none : (stops : ℕ → Bool) (text : List ℕ) → list_any stops text ≡ false → before_first stops text ≡ text
before_first-none stops [] none = refl
before_first-none stops (byte ∷ text) none =
    let parts = or_parts (stops byte) (list_any stops text) none in
    rw parts.0 (ap (λ (rest : List ℕ). byte ∷ rest) (before_first-none stops text parts.1))

pub from_first-none : (stops : ℕ → Bool) (text : List ℕ) → list_any stops text ≡ false → from_first stops text ≡ []
from_first-none stops [] none = refl
from_first-none stops (byte ∷ text) none =
    let parts = or_parts (stops byte) (list_any stops text) none in
    rw parts.0 (from_first-none stops text parts.1)

-- none among the first n bytes: at least as many stand before the first
pub before_first-long : (stops : ℕ → Bool) (n : ℕ) (text : List ℕ) → n ≤ length text → list_any stops (take n text) ≡ false → n ≤ length (before_first stops text)
before_first-long stops zero text long none = omega arith
before_first-long stops (suc n) [] long none = absurd (omega arith)
before_first-long stops (suc n) (byte ∷ text) long none =
    let parts = or_parts (stops byte) (list_any stops (take n text)) none in
    rw parts.0 (omega (arith, before_first-long stops n text (omega arith) parts.1))

-- where a search among this many bytes ends
pub record SearchEnd (stops : ℕ → Bool) (most : ℕ) (bytes : List ℕ) : Type 0 where
  pub end : ℕ
  pub within : end ≤ length bytes
  pub near : end ≤ most
  pub none : list_any stops (take end bytes) ≡ false
  pub there : end < length bytes → end < most → stops (get_or bytes end 0) ≡ true

pub search_among : (stops : ℕ → Bool) (most : ℕ) (bytes : List ℕ) → SearchEnd stops most bytes
search_among stops zero bytes = record { end = 0; within = omega arith; near = omega arith; none = refl; there = λ _ less. absurd (omega arith) }
search_among stops (suc most) [] = record { end = 0; within = omega arith; near = omega arith; none = refl; there = λ less _. absurd (omega arith) }
search_among stops (suc most) (byte ∷ bytes) =
    elim (cases_Bool (stops byte)) [
      | inl here ↦ record { end = 0; within = omega arith; near = omega arith; none = refl; there = λ _ _. here }
      | inr other ↦
          let further = search_among stops most bytes in
          record {
            end = suc further.end;
            within = omega (arith, further.within);
            near = omega (arith, further.near);
            none = rw other further.none;
            there = λ inside close. further.there (omega arith) (omega arith);
          }
    ]
