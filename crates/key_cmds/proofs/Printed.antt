-- A type's name is a line as it is. Serves the clause of tell_type.
use Rattle.std.proofs.Common.{◌≡◌, ◌<◌, ℕ, suc, List, [], ◌∷◌, length, map, get_or, refl, ap, ◌∙◌, arith}
use Rattle.std.proofs.lemmas.Bool.Decides.{nat_tests}
use Rattle.type_ids.specs.Letter.{IsLetter}
use Rattle.type_ids.specs.Name.{IsTypeName}
use Rattle.core_types.specs.Printable.{printable}

letter_printable : (byte : ℕ) → IsLetter byte → printable byte ≡ byte
letter_printable byte h = grind (arith, nat_tests)

all_same : (text : List ℕ) → ((k : ℕ) → k < length text → printable (get_or text k 0) ≡ get_or text k 0) → map printable text ≡ text
all_same [] h = refl
all_same (byte ∷ text) h =
    ap (λ b. b ∷ map printable text) (h 0 (omega arith))
    ∙ ap (λ rest. byte ∷ rest) (all_same text (λ k less. h (suc k) (omega arith)))

pub printed : (text : List ℕ) → IsTypeName text → map printable text ≡ text
printed text named =
    all_same text (λ k less. letter_printable (get_or text k 0) (named.letters k (let nine = named.nine in omega arith)))
