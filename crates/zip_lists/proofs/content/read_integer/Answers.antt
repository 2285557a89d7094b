use Rattle.std.proofs.Common.{ℕ, List, length, take, ap, ◌∙◌, arith, rules, FitsSigned}
use Rattle.std.specs.Int.{w64}
use Rattle.std.specs.Fmt.{signed_decimal}
use Rattle.std.proofs.lemmas.Int.{to_z-of_z}
use Rattle.zip_lists.specs.Numbers.{signed}
use Rattle.zip_lists.proofs.ItemFronts.{integer_open, integer_first}
use Rattle.zip_lists.proofs.content.read_integer.Goals as goal

pub returns-then-rest-size : goal.returns-then-rest-size
returns-then-rest-size c = integer_open c.args.bytes.now c.args.mark c.in-Some.size
    c.requires.first c.in-Some.ensures.some (omega
    (arith, ap (λ (t : List ℕ). length t) c.split_at.ensures.back))

pub returns : goal.returns
returns c =
    let fits : FitsSigned w64 c.signed.result = search rules in
    integer_first c.args.bytes.now c.i64_text.result c.args.mark c.in-Some.size
    c.requires.first c.in-Some.ensures.some
    (omega (arith, ap (λ (t : List ℕ). length t) c.split_at.ensures.back))
    (c.i64_text.ensures.text
    ∙ ap signed_decimal (to_z-of_z w64 c.signed.result fits ∙ c.signed.ensures
    ∙ ap (λ (t : List ℕ). signed (take c.in-Some.size t)) c.split_at.ensures.back))
