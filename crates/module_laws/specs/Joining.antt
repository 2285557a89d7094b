-- When two sets can be one, and why not.
use Rattle.std.specs.Prelude.{◌≡◌, ◌⊎◌, ◌+◌, ◌<◌, ◌≤◌, ℕ, true, false}
use Rattle.module_laws.specs.Sets.{Modules, has_name, shares_command, command_count}
use Rattle.module_laws.specs.Words.{Bytes}
use Rattle.module_laws.specs.declared.joining.TwoFault.{TwoFault}
use Rattle.module_laws.specs.declared.joining.TwoFault.TheVariants as fault

-- no module of the first set has a name that one of the second has
abbrev pub NoNameTaken : Modules → Modules → Type 0
NoNameTaken a b = (place : ℕ) → place < a.size → has_name b (a.meaning_at place).name ≡ false

-- none has a command that one of the second has
abbrev pub NoCommandTaken : Modules → Modules → Type 0
NoCommandTaken a b = (place : ℕ) → place < a.size → shares_command (a.meaning_at place) b ≡ false

-- more than 900 commands, or more than 200 modules
abbrev pub AreTooMany : Modules → Modules → Type 0
AreTooMany a b = (900 < command_count a + command_count b) ⊎ (200 < a.size + b.size)

-- the first name of the first set that one of the second has
pub record IsFirstTaken (a b : Modules) (name : Bytes) : Type 0 where
  pub place : ℕ
  pub there : place < a.size
  pub named : name ≡ (a.meaning_at place).name
  pub taken : has_name b name ≡ true
  pub before : (other : ℕ) → other < place → has_name b (a.meaning_at other).name ≡ false

-- a module of the first set with a command that one of the second has
pub record HasTaken (a b : Modules) : Type 0 where
  pub place : ℕ
  pub there : place < a.size
  pub taken : shares_command (a.meaning_at place) b ≡ true

-- why two sets are not joined: a name is looked for first, then a command, then the counts
abbrev pub IsJoinFault : Modules → Modules → TwoFault → Type 0
IsJoinFault a b (fault.NameTaken name) = IsFirstTaken a b name
IsJoinFault a b fault.CommandTaken = NoNameTaken a b × HasTaken a b
IsJoinFault a b fault.TooMany = NoNameTaken a b × NoCommandTaken a b × AreTooMany a b

-- two sets that share no name and no command and are small together
pub record CanJoin (a b : Modules) : Type 0 where
  pub names : NoNameTaken a b
  pub commands : NoCommandTaken a b
  pub few_commands : command_count a + command_count b ≤ 900
  pub few : a.size + b.size ≤ 200
