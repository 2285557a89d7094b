-- Serves clause named of command_of.
use Rattle.std.proofs.Common.{sym, ◌∙◌}
use Rattle.host_core.proofs.KnownNames.{found_is, known_at, module_is, named_is, none_is}
use Rattle.host_core.proofs.names.command_of.Goals as goal

pub returns-in-Some-default-Builtin : goal.returns-in-Some-default-Builtin
returns-in-Some-default-Builtin c =
    let known = c.in-Some-default-Builtin in
    record {
      named = c.numbered.ensures
          ∙ found_is _ _ (known_at c.args.names.now c.requires.knows c.args.name.now) (known.field-0-0, known.field-0-1) (sym c.find.ensures.command ∙ known.is) known.number known.field-0-1-is
          ∙ sym (named_is c.args.name.now);
    }

pub returns-in-Some-default-Module : goal.returns-in-Some-default-Module
returns-in-Some-default-Module c =
    let known = c.in-Some-default-Module in
    record {
      named = module_is _ _ (known_at c.args.names.now c.requires.knows c.args.name.now) (known.field-0-0, known.field-0-1) (sym c.find.ensures.command ∙ known.is) known.field-0-1-0 known.field-0-1-is
          ∙ sym (named_is c.args.name.now);
    }

pub returns-in-None : goal.returns-in-None
returns-in-None c =
    record {
      named = none_is _ _ (known_at c.args.names.now c.requires.knows c.args.name.now) (sym c.find.ensures.command ∙ c.in-None.is) ∙ sym (named_is c.args.name.now);
    }
