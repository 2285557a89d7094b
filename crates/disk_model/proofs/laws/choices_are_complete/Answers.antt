use Rattle.disk_model.specs.Past.{disk_at}
use Rattle.disk_model.proofs.Images.{choice_at, choice_leaves}
use Rattle.disk_model.proofs.laws.choices_are_complete.Goals as goal

pub returns : goal.returns
returns c = record {
  complete = choice_at;
  allowed = λ past choice. choice_leaves choice (disk_at past choice.since);
}
