-- Serves clause further of `images_go_on`.
use Rattle.durable_host.proofs.Histories.{holds_beyond}
use Rattle.durable_host.proofs.laws.images_go_on.Goals as goal

pub returns : goal.returns
returns c = record { further = λ kept more less safe image few holds. holds_beyond kept more less safe image few holds }
