use Rattle.type_ids.proofs.Names.{apart, one_fault}
use Rattle.type_ids.proofs.laws.name_or_fault.Goals as goal

pub returns : goal.returns
returns c = record { apart = apart; one = one_fault }
