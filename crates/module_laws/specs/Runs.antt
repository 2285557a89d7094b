-- What a call of a module leaves.
use Rattle.std.specs.Prelude.{◌≡◌, ◌⊎◌, ℕ, ◌+◌, ◌-◌, ◌≤◌, ◌^◌, Bool, false, [], ◌∷◌, ◌++◌, replicate, Result, Err, IfOk}
use Rattle.core_types.specs.Keys.{Native}
use Rattle.core_types.specs.Keyspace.{IsKeyspace}
use Rattle.core_types.specs.declared.stop.Stop.{Stop}
use Rattle.core_types.specs.declared.stop.Stop.TheVariants as stop
use Rattle.module_laws.specs.Laws.{IsSound}
use Rattle.module_laws.specs.Meaning.{Did}
use Rattle.module_laws.specs.Told.{Seen, Told}
use Rattle.module_laws.specs.Types.{NativeType}
use Rattle.module_laws.specs.Words.{Bytes, Saved}

-- a module's state: its private state, and how many values it has made and freed
pub record State : Type 0 where
  pub private : Saved
  pub made : ℕ
  pub freed : ℕ

-- a module and the context that it works on, at one moment
pub record Scene : Type 0 where
  pub state : State
  pub told : Told

abbrev pub scene : State → Told → Scene
scene state told = record { state = state; told = told }

-- what a call did is what its meaning says
pub record Does {A : Type 0} (did : Did A) (given : A) (old new : Scene) : Type 0 where
  pub answer : given ≡ did.answer
  pub private : new.state.private ≡ did.private
  pub seen : new.told.seen ≡ record old.told.seen { keys = did.keys }
  pub effects : new.told.effects ≡ old.told.effects ++ did.effects
  pub notes : new.told.notes ≡ old.told.notes ++ did.notes

-- one more value was freed
abbrev pub with_freed : State → State
with_freed state = record state { freed = state.freed + 1 }

-- Values came, and others went: made less freed rises by the number of those that came less that of
-- those that went.
pub record IsCounted (came went : ℕ) (old new : State) : Type 0 where
  pub made : old.made ≤ new.made
  pub freed : old.freed ≤ new.freed
  pub balance : new.made + old.freed + went ≡ old.made + new.freed + came

-- the values that were put into the context are of one type, and are counted
pub record CountsValues (name : Bytes) (old new : Scene) : Type 0 where
  pub count : ℕ
  pub added : new.told.added ≡ old.told.added ++ replicate count name
  pub counted : IsCounted count 0 old.state new.state

-- keys that were a keyspace are one
abbrev pub KeepsKeys : NativeType → Seen → Seen → Type 0
KeepsKeys type old new = (allowed : Native → Bool) → IsSound (type ∷ []) allowed old
    → IsKeyspace allowed new.keys

-- a counter stands at its end: that of values made, or that of the context
abbrev pub IsSpent : Scene → Type 0
IsSpent at = (at.state.made ≡ 2 ^ 64 - 1) ⊎ (at.told.has_serial ≡ false)

-- What a call that works on the keys leaves, where `did` is its meaning. On `Ok` it is exactly
-- that. Whatever it answers, values are counted, and the keys are still a keyspace.
pub record Runs {A : Type 0} (type : NativeType) (did : Did A) (result : Result A Stop)
    (old new : Scene) : Type 0 where
  pub does : IfOk result (λ answer. Does did answer old new)
  pub counted : CountsValues type.name old new
  pub kept : KeepsKeys type old.told.seen new.told.seen
  pub spent : result ≡ Err stop.NumbersSpent → IsSpent new
