-- Serves the clause `given` of `now` of a fixed clock, and the law `readings_in_parts`.
use Rattle.std.proofs.Common.{◌≡◌, ℕ, zero, suc, ◌+◌, ◌-◌, ◌^◌, ◌≤◌, ◌<◌, min, List, [], ◌∷◌, ◌++◌, length, take, Option, Some, None, refl, sym, ap, ◌∙◌, arith, append_assoc, append-nil, length-append, length-take, eq-or-lt_of_le, ◌⊎◌, inl, inr}
use Rattle.std.specs.Option.{option_map}
use Rattle.sequences.specs.Causes.{one_more}
use Rattle.io_edges.specs.Told.{with_readings}
use Rattle.io_edges.specs.Memory.{reading_at, readings_given}

-- as many readings as there were calls
pub given_count : (readings : List ℕ) (calls : ℕ) → length (readings_given readings calls) ≡ calls
given_count readings zero = refl
given_count readings (suc place) = omega (arith, length-append (readings_given readings place) (reading_at readings place ∷ []), given_count readings place)

take_none : (count : ℕ) → take {A = ℕ} count [] ≡ []
take_none zero = refl
take_none (suc count) = refl

take_first : (count reading : ℕ) → take (suc count) (reading ∷ []) ≡ reading ∷ []
take_first count reading = ap (λ (rest : List ℕ). reading ∷ rest) (take_none count)

-- one more call gives one more reading, up to a bound
next_given : (readings : List ℕ) (calls bound next : ℕ) → next ≡ min (calls + 1) bound → calls ≡ bound ⊎ calls < bound
    → readings_given readings next ≡ readings_given readings calls ++ take (bound - length (readings_given readings calls)) (reading_at readings calls ∷ [])
next_given readings calls bound next is (inl last) =
    let same : next ≡ calls = omega (arith, is, last) in
    let none : bound - length (readings_given readings calls) ≡ 0 = omega (arith, last, given_count readings calls) in
    ap (readings_given readings) same ∙ sym (append-nil (readings_given readings calls)) ∙ ap (λ (n : ℕ). readings_given readings calls ++ take n (reading_at readings calls ∷ [])) (sym none)
next_given readings calls bound next is (inr more) =
    let same : next ≡ suc calls = omega (arith, is, more) in
    let room : bound - length (readings_given readings calls) ≡ suc (bound - calls - 1) = omega (arith, more, given_count readings calls) in
    ap (readings_given readings) same
    ∙ ap (λ (one : List ℕ). readings_given readings calls ++ one) (sym (take_first (bound - calls - 1) (reading_at readings calls)))
    ∙ ap (λ (n : ℕ). readings_given readings calls ++ take n (reading_at readings calls ∷ [])) (sym room)

pub gives_next : (readings : List ℕ) (calls : ℕ) → calls ≤ 2 ^ 64 - 1 → readings_given readings (one_more calls) ≡ with_readings (reading_at readings calls ∷ []) (readings_given readings calls)
gives_next readings calls few = next_given readings calls (2 ^ 64 - 1) (one_more calls) refl (eq-or-lt_of_le few)

-- the first items of two lists, one behind the other
take_of_both : (count : ℕ) (first second : List ℕ) → take count (first ++ second) ≡ take count first ++ take (count - length first) second
take_of_both count [] second =
    let same : count ≡ count - 0 = omega arith in
    ap (λ (n : ℕ). take n second) same ∙ ap (λ (front : List ℕ). front ++ take (count - 0) second) (sym (take_none count))
take_of_both zero (x ∷ first) second =
    let none : 0 ≡ 0 - length (x ∷ first) = omega arith in
    ap (λ (n : ℕ). take n second) none
take_of_both (suc count) (x ∷ first) second =
    let same : count - length first ≡ suc count - length (x ∷ first) = omega arith in
    ap (λ (rest : List ℕ). x ∷ rest) (take_of_both count first second) ∙ ap (λ (n : ℕ). x ∷ take count first ++ take n second) same

-- readings that come in two parts are the readings of both
pub both_parts : (first second given : List ℕ) → with_readings second (with_readings first given) ≡ with_readings (first ++ second) given
both_parts first second given =
    let room : 2 ^ 64 - 1 - length (given ++ take (2 ^ 64 - 1 - length given) first) ≡ 2 ^ 64 - 1 - length given - length first
    = omega (arith, length-append given (take (2 ^ 64 - 1 - length given) first), length-take (2 ^ 64 - 1 - length given) first) in
    ap (λ (n : ℕ). (given ++ take (2 ^ 64 - 1 - length given) first) ++ take n second) room
    ∙ append_assoc given (take (2 ^ 64 - 1 - length given) first) (take (2 ^ 64 - 1 - length given - length first) second)
    ∙ ap (λ (more : List ℕ). given ++ more) (sym (take_of_both (2 ^ 64 - 1 - length given) first second))

-- no readings change nothing
pub none_told : (a : Option (List ℕ)) → a ≡ option_map (with_readings []) a
none_told None = refl
none_told (Some given) = ap (λ (all : List ℕ). Some all) (sym (ap (λ (more : List ℕ). given ++ more) (take_none (2 ^ 64 - 1 - length given)) ∙ append-nil given))

pub parts_told : (first second : List ℕ) (a b c : Option (List ℕ)) → b ≡ option_map (with_readings first) a → c ≡ option_map (with_readings second) b → c ≡ option_map (with_readings (first ++ second)) a
parts_told first second None b c is then = then ∙ ap (option_map (with_readings second)) is
parts_told first second (Some given) b c is then = then ∙ ap (option_map (with_readings second)) is ∙ ap (λ (all : List ℕ). Some all) (both_parts first second given)
