use Rattle.std.proofs.Common.{◌≢◌, arith}
use Rattle.type_ids.specs.Id.{letters_value}
use Rattle.type_ids.proofs.Ids.{value-some}
use Rattle.type_ids.proofs.id.split.Goals as goal

pub returns-clause-reserved : goal.returns-clause-reserved
returns-clause-reserved c =
    let letters = c.letters_of.result in
    let some : letters_value letters ≢ 0 = value-some letters c.in_ok-name.ensures.named in
    (λ e. cc, λ less. absurd (omega (arith, some, c.letters_of.ensures.value)))
