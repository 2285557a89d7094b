-- Serves clause after of add_builtin.
use Rattle.std.proofs.Common.{ap, subst, sym, ◌∙◌, ◌++◌, ◌∷◌, [], take}
use Rattle.std.proofs.lemmas.List.{take_more}
use Rattle.std.proofs.lemmas.Option.{get_or_from_slice_get, slice_get_within}
use Rattle.host_core.specs.Builtins.{builtins}
use Rattle.host_core.specs.inner.Names.{KnowsThese}
use Rattle.host_core.proofs.KnownNames.{knows_more}
use Rattle.host_core.proofs.names.add_builtin.Goals as goal

pub returns : goal.returns
returns c =
    let n = c.args.number in
    let cmd = c.args.cmd in
    let there = c.requires.numbered in
    let more = take_more builtins n cmd (slice_get_within builtins n cmd there)
    ∙ ap (λ x. take n builtins ++ x ∷ []) (get_or_from_slice_get builtins n cmd cmd there) in
    record {
      after = subst (λ cmds. KnowsThese cmds c.add.new.self) (sym more)
          (subst (KnowsThese (take n builtins ++ cmd ∷ [])) (sym c.in_default.ensures.added)
          (knows_more c.spec.result n cmd c.args.names.now c.spec.ensures.row there c.in_default.ensures.cause.0 (take n builtins) c.requires.before));
    }
