-- Values that are no module's, and what commands on one kind of value say of them.
use Rattle.core_types.specs.Done.{Change, Done}
use Rattle.core_types.specs.declared.outcome.After.{After}
use Rattle.core_types.specs.declared.outcome.After.TheVariants as after
use Rattle.core_types.specs.declared.outcome.Outcome.{Outcome}
use Rattle.core_types.specs.declared.value.Value.{Value}
use Rattle.core_types.specs.declared.value.Value.TheVariants as value
use Rattle.key_cmds.specs.declared.plain.Plain.{Plain}
use Rattle.key_cmds.specs.declared.plain.Plain.TheVariants as plain

module _ {N : Type 0} where
  abbrev pub value_of : Plain → Value N
  value_of (plain.Str text) = value.Str text
  value_of (plain.List items) = value.List items
  value_of (plain.Hash fields) = value.Hash fields

module _ {A B : Type 0} (made : A → B) where
  abbrev pub after_of : After A → After B
  after_of after.Keep = after.Keep
  after_of (after.Put body) = after.Put (made body)
  after_of after.Remove = after.Remove

  abbrev pub outcome_of : Outcome A → Outcome B
  outcome_of outcome =
      record {
        body = after_of outcome.body;
        reply = outcome.reply;
        effects = outcome.effects;
        notes = outcome.notes;
      }

  abbrev pub change_of : Change A → Change B
  change_of Change.Stays = Change.Stays
  change_of (Change.Becomes body) = Change.Becomes (made body)
  change_of (Change.IsSet body) = Change.IsSet (made body)
  change_of Change.Goes = Change.Goes

  abbrev pub done_of : Done A → Done B
  done_of done =
      record {
        change = change_of done.change;
        reply = done.reply;
        effects = done.effects;
        notes =
            done.notes;
      }
