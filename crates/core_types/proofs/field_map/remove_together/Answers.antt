-- Serves clause left of HashBody::remove_all.
use Rattle.std.proofs.Common.{sym, ◌∙◌}
use Rattle.core_types.specs.HashEntries.{fields_of}
use Rattle.core_types.specs.inner.Removals.{set_names}
use Rattle.core_types.proofs.FieldLemmas.{fields_of-distinct}
use Rattle.core_types.proofs.Removals.{those_same, without_those}
use Rattle.core_types.proofs.field_map.remove_together.Goals as goal

pub returns-clause-left : goal.returns-clause-left
returns-clause-left c =
    let there = c.args.fields.now.entries in
    let names = c.args.names in
    let distinct = fields_of-distinct there c.len-before.ensures.unique in
    c.keep_others.ensures.left
    ∙ those_same (set_names c.in_ok-set.set.keys) names (fields_of there) c.in_ok-set.ensures.among
    ∙ sym (without_those names (fields_of there) distinct)
