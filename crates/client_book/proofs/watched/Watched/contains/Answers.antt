use Rattle.std.proofs.Common.{ap, ◌∙◌}
use Rattle.client_book.specs.Client.{is_among}
use Rattle.client_book.proofs.Keys.{is_among-map}
use Rattle.client_book.proofs.watched.Watched.contains.Goals as goal

pub returns : goal.returns
returns c = record { among = c.contains.ensures ∙ is_among-map (λ k. k.items) c.args.key.now c.self.inside.keys.keys ∙ ap (is_among c.args.key.now) c.self.view_is }
