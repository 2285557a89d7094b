-- What telling a module a note leaves.
use Rattle.std.specs.Prelude.{◌≡◌, List, map, Result, IfOk, OnOk, OnErr}
use Rattle.core_types.specs.declared.effect.Chore.{Chore}
use Rattle.module_laws.specs.Meaning.{Heard}
use Rattle.module_laws.specs.Runs.{State}

-- The chores are those of the meaning, whatever place stands in them. Of the state the private part
-- alone changes.
pub record Hears {E : Type 0} (heard : Heard) (result : Result (List Chore) E)
    (old new : State) : Type 0 where
  pub chores : IfOk result (λ chores. map (λ chore. chore.words) chores ≡ heard.chores)
  pub private : OnOk result (new ≡ record old { private = heard.private })
  pub kept : OnErr result (new ≡ old)
