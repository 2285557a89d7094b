-- Serves the clause of range, and clause does of trim and remove: a number of the words has 64
-- bits.
use Rattle.std.proofs.Common.{◌≡◌, ℕ, ℤ, List, ap, ◌∙◌, to_z, of_z}
use Rattle.std.specs.Int.{w64}
use Rattle.std.proofs.Math.Facts.{to_z-of_z}
use Rattle.byte_text.specs.Number.{number_in}
use Rattle.byte_text.proofs.Decimals.{number_in-fits}

pub as_number : (n : ℤ) (text word : List ℕ) → n ≡ number_in text → text ≡ word → to_z w64 (of_z w64 n) ≡ number_in word
as_number n text word e f =
    ap (λ k. to_z w64 (of_z w64 k)) e ∙ to_z-of_z (number_in-fits text) ∙ ap number_in f
