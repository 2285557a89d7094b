use Rattle.std.proofs.Common.{arith}
use Rattle.type_ids.specs.Name.{IsTypeName}
use Rattle.type_ids.proofs.Ids.{value-lt}
use Rattle.type_ids.proofs.id.id_of.Goals as goal

pub overflow_mul-result : goal.overflow_mul-result
overflow_mul-result c =
    let named : IsTypeName c.text.result.now = rw c.text.ensures.text c.text.ensures.named in
    omega (arith, c.number_of_letters.ensures, value-lt c.text.result.now named)

pub overflow_add-result : goal.overflow_add-result
overflow_add-result c =
    let named : IsTypeName c.text.result.now = rw c.text.ensures.text c.text.ensures.named in
    omega (arith, c.number_of_letters.ensures, value-lt c.text.result.now named)
