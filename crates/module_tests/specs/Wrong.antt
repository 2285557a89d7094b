-- What no module and no context may be: a counter-example to each law on counts, writing, waiting,
-- built-in commands and types.
use Rattle.std.specs.Prelude.{◌≡◌, ◌≤◌, ℕ, pos, true, [], ◌∷◌, Some, codes}
use Rattle.core_types.specs.CommandRow.{reading, writing}
use Rattle.core_types.specs.Keys.{Native}
use Rattle.core_types.specs.declared.value.Value.TheVariants as value
use Rattle.module_laws.specs.Laws.{AnswersAtOnce, WritesAsAfter}
use Rattle.module_laws.specs.Meaning.{Meaning}
use Rattle.module_laws.specs.Named.{are_key_commands}
use Rattle.module_laws.specs.Plain.{answers_with, plain_state, silent}
use Rattle.module_laws.specs.Runs.{State}
use Rattle.module_laws.specs.Told.{KeepsTypes}
use Rattle.module_laws.specs.Words.{Bytes}
use Rattle.module_laws.specs.declared.verdict.Verdict.TheVariants as verdict

-- one command, which says that it writes, and of whose words `after` makes nothing
abbrev pub says_it_writes : Meaning
says_it_writes = silent (codes "wrongtype") 0 (writing (codes "WRONG.GET") (pos 2) ∷ [])

-- the same, and its client waits
abbrev pub writes_and_waits : Meaning
writes_and_waits = record says_it_writes {
  says = λ private seen words. answers_with private (verdict.Block 0 []) seen;
}

-- of these types a value of one is written over one of the other
abbrev pub of_type : Bytes → Native
of_type name = record { name = name; items = [] }

pub record AreRefused : Type 0 where
  -- a module that begins with five values freed and none made
  pub freed_unmade : ¬ ((plain_state 0 5).freed ≤ (plain_state 0 5).made)
  -- a reading command that says it writes
  pub false_writer : ¬ WritesAsAfter says_it_writes
  -- a command that writes, for which a client waits
  pub waiting_writer : ¬ AnswersAtOnce writes_and_waits
  -- a context that runs PING, or a command of a module
  pub ping : ¬ (are_key_commands (reading (codes "PING") (pos 1) ∷ []) ≡ true)
  pub dotted : ¬ (are_key_commands (writing (codes "WRONG.GET") (pos 2) ∷ []) ≡ true)
  -- one in which a value is written over one of another type, and that is not told
  pub written_over : ¬ KeepsTypes (of_type (codes "secondtyp"))
      (Some (value.Native (of_type (codes "firsttype")))) true true
