-- Serves clause does of the commands that change a hash.
use Rattle.std.proofs.Common.{◌≡◌, List, Option, Some, sym, ap, subst, FitsSigned, ℤ, ℕ}
use Rattle.std.specs.Prelude.{◌+ℤ◌}
use Rattle.std.specs.Int.{w64}
use Rattle.byte_text.proofs.Decimals.{fits}
use Rattle.core_types.specs.Done.{Done, Does}
use Rattle.core_types.specs.declared.field.Field.{Field}
use Rattle.core_types.specs.declared.outcome.Outcome.{Outcome}
use Rattle.hash_cmds.specs.Counting.{adds, becomes_number}

-- an outcome does what its equal does
pub does_by : (o made : Outcome (List Field)) (old now : Option (List Field)) (done same : Done (List Field)) → o ≡ made → same ≡ done → Does made old now same → Does o old now done
does_by o made old now done same e f h =
    subst (λ (d : Done (List Field)). Does o old now d) f (subst (λ (x : Outcome (List Field)). Does x old now same) (sym e) h)

pub sum_done : (fields : List Field) (amount : ℤ) (held : Option ℤ) (n sum : ℤ) (words : List (List ℕ)) → held ≡ Some n → FitsSigned w64 (n +ℤ amount) → sum ≡ n +ℤ amount → adds fields amount held words ≡ becomes_number fields sum words
sum_done fields amount held n sum words e g s =
    rw e (rw (fits (n +ℤ amount) g) (ap (λ k. becomes_number fields k words) (sym s)))
