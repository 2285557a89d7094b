-- Serves `named` and `err` of `TypeName::new`, and the law `name_or_fault`.
use Rattle.std.proofs.Common.{◌≡◌, ◌≢◌, ◌==◌, ℕ, zero, suc, ◌<◌, ◌≤◌, Bool, true, false, not, cond, ◌+◌, nat_lt, List, [], ◌∷◌, length, get_or, Some, None, ap, refl, arith}
use Rattle.std.specs.List.{position, position_or_len}
use Rattle.std.proofs.lemmas.Bool.Decides.{nat_tests}
use Rattle.std.proofs.lemmas.List.Quantifiers.{position-Some}
use Rattle.type_ids.specs.Letter.{letter_number, IsLetter}
use Rattle.type_ids.specs.Name.{IsTypeName, HasBadLetterAt, HasFault, reserved_name}
use Rattle.type_ids.specs.declared.name_fault.NameFault.{NameFault}
use Rattle.type_ids.specs.declared.name_fault.NameFault.TheVariants.{BadLength, BadLetter, Reserved}
use Rattle.type_ids.proofs.Ids.{reserved-at}

is_letter : (byte : ℕ) → (letter_number byte == 64) ≡ false → IsLetter byte
is_letter byte h = grind (arith, nat_tests)

is_none : (byte : ℕ) → (letter_number byte == 64) ≡ true → ¬ IsLetter byte
is_none byte h less = grind (arith, nat_tests)

-- nothing passes before the first that does
front-passes : (p : ℕ → Bool) (x k rest : ℕ) (test : Bool) → p x ≡ test → k < cond (not test) (1 + rest) 0 → (test ≡ false) × (k < 1 + rest)
front-passes p x k rest true e less = absurd (omega arith)
front-passes p x k rest false e less = (refl, less)

before-first : (p : ℕ → Bool) (xs : List ℕ) (k : ℕ) → k < position_or_len p xs → p (get_or xs k 0) ≡ false
before-first p [] k less = absurd (omega arith)
before-first p (x ∷ xs) zero less =
    (front-passes p x zero (position_or_len p xs) (p x) refl less).0
before-first p (x ∷ xs) (suc k) less =
    let more = (front-passes p x (suc k) (position_or_len p xs) (p x) refl less).1 in
    before-first p xs k (omega arith)

none-found : (place long : ℕ) → cond (nat_lt place long) (Some place) None ≡ None → long ≤ place
none-found place long e = grind (arith, nat_tests)

pub bad-found : (text : List ℕ) (place : ℕ) → length text ≡ 9 → position (λ byte. letter_number byte == 64) text ≡ Some place → HasBadLetterAt text place
bad-found text place nine e =
    let found = position-Some (λ byte. letter_number byte == 64) text place 0 e in
    record {
      nine = nine;
      within = omega (arith, found.0);
      before = λ k less. is_letter (get_or text k 0) (found.2 k less);
      bad = is_none (get_or text place 0) found.1;
    }

pub named-found : (text : List ℕ) → length text ≡ 9 → position (λ byte. letter_number byte == 64) text ≡ None → text ≢ reserved_name → IsTypeName text
named-found text nine e free =
    let none = none-found (position_or_len (λ byte. letter_number byte == 64) text) (length text) e in
    record {
      nine = nine;
      letters = λ k less. is_letter (get_or text k 0) (before-first (λ byte. letter_number byte == 64) text k (omega arith));
      free = free;
    }

pub apart : (text : List ℕ) (fault : NameFault) → IsTypeName text → ¬ HasFault text fault
apart text BadLength h fault = fault h.nine
apart text (BadLetter place) h fault = fault.bad (h.letters place fault.within)
apart text Reserved h fault = h.free fault

-- the reserved name has letters alone
reserved_bad : (text : List ℕ) (place : ℕ) → text ≡ reserved_name → ¬ HasBadLetterAt text place
reserved_bad text place e h =
    h.bad (rw e (reserved-at place h.within))

same_place : (text : List ℕ) (place other : ℕ) → HasBadLetterAt text place → HasBadLetterAt text other → place ≡ other
same_place text place other h k =
    let not_before : place < other → ⊥ = λ less. h.bad (k.before place less) in
    let not_after : other < place → ⊥ = λ less. k.bad (h.before other less) in
    omega arith

pub one_fault : (text : List ℕ) (fault other : NameFault) → HasFault text fault → HasFault text other → fault ≡ other
one_fault text BadLength BadLength h k = refl
one_fault text BadLength (BadLetter place) h k = absurd (h k.nine)
one_fault text BadLength Reserved h k = absurd (h (ap (λ (bytes : List ℕ). length bytes) k))
one_fault text (BadLetter place) BadLength h k = absurd (k h.nine)
one_fault text (BadLetter place) (BadLetter other) h k = ap (λ (n : ℕ). BadLetter n) (same_place text place other h k)
one_fault text (BadLetter place) Reserved h k = absurd (reserved_bad text place k h)
one_fault text Reserved BadLength h k = absurd (k (ap (λ (bytes : List ℕ). length bytes) h))
one_fault text Reserved (BadLetter place) h k = absurd (reserved_bad text place h k)
one_fault text Reserved Reserved h k = refl
