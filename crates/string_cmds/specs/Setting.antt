-- SET, SETNX and GETSET: they give a key a value, whatever it had, and no deadline.
use Rattle.std.specs.Prelude.{ℕ, pos, Bool, true, false, not, if◌then◌else◌, List, [], ◌∷◌, codes, Option, Some, None}
use Rattle.byte_text.specs.Name.{same_name}
use Rattle.core_types.specs.Done.{Done, Change, answers, changes}
use Rattle.sequences.specs.Words.{word}
use Rattle.core_types.specs.declared.effect.Effect.{Effect}
use Rattle.core_types.specs.declared.refusal.Refusal.{Refusal}
use Rattle.core_types.specs.declared.refusal.Refusal.TheVariants as refusal
use Rattle.core_types.specs.declared.reply.Reply.{Reply}
use Rattle.core_types.specs.declared.reply.Reply.TheVariants as reply
use Rattle.string_cmds.specs.declared.setting.Condition.{Condition}
use Rattle.string_cmds.specs.declared.setting.Condition.TheVariants as condition
use Rattle.string_cmds.specs.Words.{string_note}

-- `SET k v`
abbrev pub set_effect : List (List ℕ) → Effect
set_effect words = record { words = codes "SET" ∷ word 1 words ∷ word 2 words ∷ [] }

-- the key gets the third word
abbrev pub sets : Reply → List (List ℕ) → Done (List ℕ)
sets said words =
    changes (Change.IsSet (word 2 words)) said (set_effect words) (string_note (codes "set") words)

-- when SET is to set: what NX and XX ask for
abbrev pub condition_named : List ℕ → Option Condition
condition_named name =
    if same_name name (codes "NX") then Some condition.IfAbsent else
    (if same_name name (codes "XX") then Some condition.IfPresent else None)

-- what the words behind the value ask for: there may be one
abbrev pub condition_of : List (List ℕ) → Option Condition
condition_of [] = Some condition.Always
condition_of (name ∷ []) = condition_named name
condition_of (name ∷ other ∷ more) = None

abbrev pub no_condition : Option Condition → Option Refusal
no_condition None = Some refusal.Syntax
no_condition (Some asked) = None

-- whether it may set, where the key is there or is not
abbrev pub may_set : Option Condition → Bool → Bool
may_set (Some condition.Always) there = true
may_set (Some condition.IfAbsent) there = not there
may_set (Some condition.IfPresent) there = there
may_set None there = false

abbrev pub set_where : Option Condition → Bool → List (List ℕ) → Done (List ℕ)
set_where asked there words =
    if may_set asked there then sets (reply.Simple (codes "OK")) words else answers reply.Null

abbrev pub set_if_absent : Bool → List (List ℕ) → Done (List ℕ)
set_if_absent there words =
    if there then answers (reply.Int (pos 0)) else sets (reply.Int (pos 1)) words
