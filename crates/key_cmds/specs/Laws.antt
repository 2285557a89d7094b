-- What holds of every command on the keys.
use Rattle.std.specs.Prelude.{◌≡◌, ◌≢◌, ◌⊎◌, ℕ, Bool, true, List, [], ◌∷◌, ◌++◌, flat_map, Some}
use Rattle.std.specs.List.{AllByRecursion}
use Rattle.std.specs.List.Sorted.{IsPermutation}
use Rattle.std.specs.FinMap as finite
use Rattle.core_types.specs.CommandRow.{MeetArity}
use Rattle.sequences.specs.Words.{word}
use Rattle.core_types.specs.Keys.{KeysOf}
use Rattle.core_types.specs.Keyspace.{IsKeyspace}
use Rattle.core_types.specs.Limits.{IsSmallEffect}
use Rattle.core_types.specs.Refusals.{IsRefusal}
use Rattle.core_types.specs.declared.effect.Effect.{Effect}
use Rattle.key_cmds.specs.declared.command.Command.{Command}
use Rattle.key_cmds.specs.Commands.{command_row}
use Rattle.key_cmds.specs.Deadlines.{Expired}
use Rattle.key_cmds.specs.Run.{Run, native_in}
use Rattle.key_cmds.specs.Rows.{does}

module _ {N : Type 0} where
  -- the keys stay as they are, and nobody is told of anything
  pub record ChangesNothing (keys : KeysOf N) (run : Run N) : Type 0 where
    pub same : run.keys ≡ keys
    pub effects : run.effects ≡ []
    pub notes : run.notes ≡ []
    pub left : run.left ≡ []

  -- the words are those of a command that is written into a log, and that makes these keys of those
  -- at moment 0, at which a log is replayed
  pub record Remakes (type_name : N → List ℕ) (keys after : KeysOf N)
      (effect : Effect) : Type 0 where
    pub cmd : Command
    pub named : word 0 effect.words ≡ (command_row cmd).name
    pub writes : (command_row cmd).writes ≡ true
    pub arity : MeetArity (command_row cmd) effect.words
    pub again : (does type_name 0 cmd keys effect.words).keys ≡ after
    pub accepted : ¬ IsRefusal (does type_name 0 cmd keys effect.words).reply

  -- a change of the keys, with one effect that makes it again, and of which somebody is told
  pub record ChangesOnce (type_name : N → List ℕ) (keys : KeysOf N) (run : Run N) : Type 0 where
    pub effect : Effect
    pub effects : run.effects ≡ effect ∷ []
    pub remakes : Remakes type_name keys run.keys effect
    pub notes : run.notes ≢ []
    pub accepted : ¬ IsRefusal run.reply

  -- nothing changes, or one change is made
  abbrev pub ChangesAtMostOnce : (N → List ℕ) → KeysOf N → Run N → Type 0
  ChangesAtMostOnce type_name keys run =
      ChangesNothing keys run ⊎ ChangesOnce type_name keys run

  -- the modules' values that keys have, in the order of the keys
  abbrev pub natives : KeysOf N → List N
  natives keys = flat_map (λ entry. native_in (Some entry.1.value)) (finite.entries keys)

  -- what the keys may be, they stay, and each effect may be a request
  pub record KeepsLimits (allowed : N → Bool) (run : Run N) : Type 0 where
    pub keys : IsKeyspace allowed run.keys
    pub effects : AllByRecursion IsSmallEffect run.effects

  -- and so where a key that is due is removed
  pub record ExpiryKeepsLimits (allowed : N → Bool) (removal : Expired N) : Type 0 where
    pub keys : IsKeyspace allowed removal.keys
    pub effect : IsSmallEffect removal.effect

  -- the modules' values that the keys had are those that they have still and those that left, each
  -- as often as before
  abbrev pub StayOrLeave : KeysOf N → KeysOf N → List N → Type 0
  StayOrLeave before after left = IsPermutation (natives before) (natives after ++ left)

  abbrev pub KeepsNatives : KeysOf N → Run N → Type 0
  KeepsNatives keys run = StayOrLeave keys run.keys run.left
