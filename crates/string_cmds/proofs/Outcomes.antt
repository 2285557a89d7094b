-- Serves clause does of the commands that change a string, and the clauses of set.
use Rattle.std.proofs.Common.{◌≡◌, ◌+◌, ◌≤◌, nat_lt, ℕ, ℤ, Bool, true, false, List, length, codes, Option, Some, Result, Ok, Err, IfOk, refl, sym, ap, subst, arith, FitsSigned}
use Rattle.std.specs.Prelude.{◌+ℤ◌, ◌==◌}
use Rattle.std.specs.Int.{w64}
use Rattle.std.proofs.lemmas.Bool.Decides.{nat_tests}
use Rattle.byte_text.proofs.Decimals.{fits}
use Rattle.byte_text.specs.Number.{number_in}
use Rattle.core_types.specs.Done.{Done, Does}
use Rattle.sequences.specs.Words.{word}
use Rattle.core_types.specs.Keyspace.{longest}
use Rattle.core_types.specs.declared.outcome.Outcome.{Outcome}
use Rattle.core_types.specs.declared.reply.Reply.TheVariants as reply
use Rattle.string_cmds.specs.declared.setting.Condition.{Condition}
use Rattle.string_cmds.specs.Words.{offset_of}
use Rattle.string_cmds.specs.Setting.{may_set, set_where, sets}
use Rattle.string_cmds.specs.Writing.{laid_over, set_range, within_limit, writes}
use Rattle.string_cmds.specs.Counting.{adds, becomes_number}

pub ok_map : {T E : Type 0} (r : Result T E) (P Q : T → Type 0) → ((x : T) → P x → Q x) → IfOk r P → IfOk r Q
ok_map (Ok x) P Q f p = f x p
ok_map (Err e) P Q f p = p

-- an outcome does what its equal does
pub does_by : (o made : Outcome (List ℕ)) (old now : Option (List ℕ)) (done same : Done (List ℕ)) → o ≡ made → same ≡ done → Does made old now same → Does o old now done
does_by o made old now done same e f h =
    subst (λ (d : Done (List ℕ)). Does o old now d) f (subst (λ (x : Outcome (List ℕ)). Does x old now same) (sym e) h)

pub allowed_set : (asked : Option Condition) (there : Bool) (words : List (List ℕ)) → may_set asked there ≡ true → set_where asked there words ≡ sets (reply.Simple (codes "OK")) words
allowed_set asked there words e = rw e refl

within : (size : ℕ) (done : Done (List ℕ)) → size ≤ longest → within_limit size done ≡ done
within size done h = let test : nat_lt longest size ≡ false = grind (arith, nat_tests) in rw test refl

pub range_done : (held : List ℕ) (words : List (List ℕ)) (start : ℕ) (piece : List ℕ) → piece ≡ word 3 words → start ≡ offset_of (number_in (word 2 words)) → (length piece == 0) ≡ false → start + length piece ≤ longest → set_range held words ≡ writes (laid_over held start piece) (codes "SETRANGE") (codes "setrange") words
range_done held words start piece e f some short =
    rw (← e, ← f) (rw some (within (start + length piece) _ short))

pub sum_done : (amount : ℤ) (held : Option ℤ) (n sum : ℤ) (words : List (List ℕ)) → held ≡ Some n → FitsSigned w64 amount → FitsSigned w64 (n +ℤ amount) → sum ≡ n +ℤ amount → adds amount held words ≡ becomes_number sum amount words
sum_done amount held n sum words e f g s =
    rw e (rw (fits amount f) (rw (fits (n +ℤ amount) g) (ap (λ k. becomes_number k amount words) (sym s))))
