-- That what a command's body did is what its meaning says.
use Rattle.std.specs.Prelude.{◌≡◌, ⊤, Option, Some, None, Result, Err}
use Rattle.std.specs.Option.{option_map}
use Rattle.core_types.specs.declared.load_fault.LoadFault.{LoadFault}
use Rattle.core_types.specs.declared.outcome.After.{After}
use Rattle.core_types.specs.declared.outcome.After.TheVariants as after
use Rattle.core_types.specs.declared.stop.Stop.TheVariants as stop
use Rattle.module_laws.specs.Words.{Saved}
use Rattle.module_laws.specs.declared.verdict.LoadStop.{LoadStop}
use Rattle.module_laws.specs.declared.verdict.LoadStop.TheVariants as stops
use Rattle.one_key.specs.KeyMeaning.{KeyChange, Write}
use Rattle.one_key.specs.declared.wrote.Change.{Change}
use Rattle.one_key.specs.declared.wrote.Wrote.{Wrote}

module _ {V : Type 0} (items : V → Saved) where
  -- What becomes of a value that is `now` in place of `old`: one that was there was changed in place,
  -- where there was none one is put, or the key goes. A value that goes was not changed, since
  -- memory may run out before its key is removed.
  abbrev pub Leaves : After V → Option V → Option V → Option Saved → Type 0
  Leaves after.Keep (Some old) (Some now) (Some left) = items now ≡ left
  Leaves (after.Put new) None now (Some left) = items new ≡ left
  Leaves after.Remove old now None = now ≡ old
  Leaves _ old now left = ⊥

  pub record DoesChange (change : Change V) (old now : Option V) (meant : KeyChange)
      : Type 0 where
    pub left : Leaves change.after old now meant.left
    pub effect : option_map (λ effect. effect.words) change.effect ≡ meant.effect
    pub event : change.event.now ≡ meant.event

  abbrev pub DoesWhere : Option (Change V) → Option V → Option V → Option KeyChange → Type 0
  DoesWhere None old now None = now ≡ old
  DoesWhere (Some change) old now (Some meant) = DoesChange change old now meant
  DoesWhere _ old now _ = ⊥

  -- what a command that writes did
  pub record DoesWrite (wrote : Wrote V) (old now : Option V) (meant : Write) : Type 0 where
    pub reply : wrote.reply ≡ meant.reply
    pub change : DoesWhere wrote.change old now meant.change

-- A saved value is refused for the reason that the meaning gives. Want of memory is free.
abbrev pub RefusesLoading : Result Saved LoadFault → LoadStop → Type 0
RefusesLoading loads (stops.Refused why) = loads ≡ Err why
RefusesLoading loads (stops.Stopped stop.Memory) = ⊤
RefusesLoading loads (stops.Stopped stop.NumbersSpent) = ⊥
