-- How the outcome of a command on one key is carried to the keys.
use Rattle.std.specs.Prelude.{◌≡◌, ◌+◌, ◌≤◌, ⊤, ℕ, List, [], length, Option, Some, None, vec_capacity, vec_len}
use Rattle.std.specs.declared.alloc.Global.{Global}
use Rattle.std.specs.declared.vec.Vec.{Vec}
use Rattle.core_types.specs.Done.{Change, Done}
use Rattle.core_types.specs.Keys.{KeysOf, value_at, with_changed, with_value, without}
use Rattle.core_types.specs.declared.outcome.After.{After}
use Rattle.core_types.specs.declared.outcome.After.TheVariants as after
use Rattle.core_types.specs.declared.outcome.Outcome.{Outcome}
use Rattle.core_types.specs.declared.value.Value.{Value}
use Rattle.key_cmds.specs.Run.{native_in}
use Rattle.key_cmds.specs.declared.plain.Plain.{Plain}
use Rattle.key_cmds.specs.inner.Plain.{value_of}

-- a value is to be put
abbrev pub Puts : After Plain → Type 0
Puts (after.Put body) = ⊤
Puts _ = ⊥

module _ {N : Type 0} where
  -- there is room for a value of a module, where this is what leaves
  abbrev pub HasRoom : Vec N Global → Option (Value N) → Type 0
  HasRoom left leaving = vec_len left + length (native_in leaving) ≤ vec_capacity left

  -- what the keys are once an answer is carried out
  abbrev pub settled : After Plain → List ℕ → KeysOf N → KeysOf N
  settled after.Keep key keys = keys
  settled (after.Put body) key keys = with_value keys key (value_of body)
  settled after.Remove key keys = without keys key

  -- the module's value that leaves by it
  abbrev pub leaving : After Plain → Option (Value N) → List N
  leaving after.Keep held = []
  leaving (after.Put body) held = native_in held
  leaving after.Remove held = native_in held

  -- an answer makes a change of the value that a key had, where that is `now` in place of `old`
  abbrev pub MakesOfValue : After Plain → Value N → Value N → Change Plain → Type 0
  MakesOfValue after.Keep old now Change.Stays = now ≡ old
  MakesOfValue after.Keep old now (Change.Becomes body) = now ≡ value_of body
  MakesOfValue (after.Put new) old now (Change.IsSet body) = (new ≡ body) × (now ≡ old)
  MakesOfValue after.Remove old now Change.Goes = native_in (Some now) ≡ native_in (Some old)
  MakesOfValue _ old now _ = ⊥

  -- an answer makes a change of the keys, once it is carried out, where they are `now` in place of
  -- `old`
  abbrev pub MakesOfKeys : List ℕ → After Plain → KeysOf N → KeysOf N → Change Plain → Type 0
  MakesOfKeys key after.Keep old now Change.Stays = now ≡ old
  MakesOfKeys key after.Keep old now (Change.Becomes body) =
      now ≡ with_changed old key (value_of body)
  MakesOfKeys key (after.Put new) old now (Change.Becomes body) = (new ≡ body) × (now ≡ old)
      × (value_at old key ≡ None)
  MakesOfKeys key (after.Put new) old now (Change.IsSet body) = (new ≡ body) × (now ≡ old)
  MakesOfKeys key after.Remove old now Change.Goes =
      (without now key ≡ without old key)
      × (native_in (value_at now key) ≡ native_in (value_at old key))
  MakesOfKeys key _ old now _ = ⊥

-- what an outcome says beside its change
pub record Tells (outcome : Outcome Plain) (done : Done Plain) : Type 0 where
  pub reply : outcome.reply ≡ done.reply
  pub effects : outcome.effects ≡ done.effects
  pub notes : outcome.notes ≡ done.notes

module _ {N : Type 0} where
  -- an outcome is what a command does to a value that a key had
  pub record DoesToValue (outcome : Outcome Plain) (old now : Value N)
      (done : Done Plain) : Type 0 where
    pub change : MakesOfValue outcome.body old now done.change
    pub tells : Tells outcome done

  -- an outcome is what a command does to a key
  pub record DoesToKeys (key : List ℕ) (outcome : Outcome Plain) (old now : KeysOf N)
      (done : Done Plain) : Type 0 where
    pub change : MakesOfKeys key outcome.body old now done.change
    pub tells : Tells outcome done
