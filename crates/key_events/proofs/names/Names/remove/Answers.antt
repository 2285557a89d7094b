-- Serves the clause on the names that are left.
use Rattle.std.proofs.Common.{◌∙◌, ap, not, filter, rules}
use Rattle.std.specs.Str.{bytes_eq}
use Rattle.std.proofs.lemmas.Fn.{filter_same}
use Rattle.key_events.proofs.names.Names.remove.Goals as goal

pub returns : goal.returns
returns c = record {
  removed = filter_same _ (λ n. not (bytes_eq n c.args.name.now)) _ (λ x b f' k. search rules) _ _
      c.retain.ensures.filtered
      ∙ ap (filter (λ n. not (bytes_eq n c.args.name.now))) c.self.view_is;
}
