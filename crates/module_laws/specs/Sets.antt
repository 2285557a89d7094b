-- Sets of modules, by their places.
use Rattle.std.specs.Prelude.{◌≡◌, ◌≢◌, ℕ, suc, zero, ◌+◌, ◌-◌, ◌<◌, ◌≤◌, min, Bool, false, nat_lt, List, [], ◌∷◌, length, sum_by, position, Option, is_some, if◌then◌else◌}
use Rattle.std.specs.List.{list_any}
use Rattle.std.specs.Str.{bytes_eq}
use Rattle.core_types.specs.CommandRow.{CommandRow}
use Rattle.module_laws.specs.Laws.{IsLawful}
use Rattle.module_laws.specs.Meaning.{Meaning, type_of}
use Rattle.module_laws.specs.Runs.{State}
use Rattle.module_laws.specs.Types.{NativeType}
use Rattle.module_laws.specs.Words.{Bytes}

-- how many modules there are, and what the module at a place means
pub record Modules : Type 0 where
  pub size : ℕ
  pub meaning_at : ℕ → Meaning

-- a number as a place is told: 65,535 at most
abbrev pub held : ℕ → ℕ
held n = min n 65535

-- the module at this place is there
abbrev pub HasPlace : Modules → ℕ → Type 0
HasPlace modules place = place < held modules.size

-- one module
abbrev pub only : Meaning → Modules
only meaning = record { size = 1; meaning_at = λ place. meaning }

-- what the first have at a place, as many as are told, and behind them the others
abbrev pub by_half : {X : Type 0} → ℕ → (ℕ → X) → (ℕ → X) → ℕ → X
by_half first f g place = if nat_lt place first then f place else g (place - first)

-- the modules of two sets, those of the first first
abbrev pub joined : Modules → Modules → Modules
joined first second =
    record {
      size = first.size + second.size;
      meaning_at =
          by_half first.size first.meaning_at second.meaning_at;
    }

-- what stands at each place, in order
abbrev pub listed : {X : Type 0} → ℕ → (ℕ → X) → List X
listed zero f = []
listed (suc n) f = f 0 ∷ listed n (λ place. f (suc place))

abbrev pub types_of : Modules → List NativeType
types_of modules = listed modules.size (λ place. type_of (modules.meaning_at place))

-- a value of the module at this place, whose type has that module's name
pub record IsOwnValue (modules : Modules) (place : ℕ) (name : Bytes) : Type 0 where
  pub there : place < modules.size
  pub named : name ≡ (modules.meaning_at place).name

-- every other module is as it was
abbrev pub SameBut : Modules → ℕ → (ℕ → State) → (ℕ → State) → Type 0
SameBut modules place old new = (other : ℕ) → other < modules.size → other ≢ place
    → new other ≡ old other

-- the first place of the module of a name
abbrev pub place_in : Modules → Bytes → Option ℕ
place_in modules name =
    position (λ meaning. bytes_eq meaning.name name) (listed modules.size modules.meaning_at)

abbrev pub has_name : Modules → Bytes → Bool
has_name modules name = is_some (place_in modules name)

-- one of these is the command of that name
abbrev pub has_row : List CommandRow → Bytes → Bool
has_row rows name = list_any (λ row. bytes_eq row.name name) rows

-- one of the modules has a command of that name
abbrev pub has_command : Modules → Bytes → Bool
has_command modules name =
    list_any (λ meaning. has_row meaning.rows name) (listed modules.size modules.meaning_at)

-- a module has a command that one of the modules has too
abbrev pub shares_command : Meaning → Modules → Bool
shares_command meaning modules = list_any (λ row. has_command modules row.name) meaning.rows

-- two modules have neither a name nor a command in common
pub record AreApart (first second : Meaning) : Type 0 where
  pub names : bytes_eq first.name second.name ≡ false
  pub commands : list_any (λ row. has_row second.rows row.name) first.rows ≡ false

-- all commands of the modules
abbrev pub command_count : Modules → ℕ
command_count modules =
    sum_by (λ meaning. length meaning.rows) (listed modules.size modules.meaning_at)

-- modules that obey the laws, 200 at most with 900 commands at most, no two of which have a name or a
-- command in common
pub record AreLawful (modules : Modules) : Type 0 where
  pub each : (place : ℕ) → place < modules.size → IsLawful (modules.meaning_at place)
  pub apart : (place other : ℕ) → place < other → other < modules.size
      → AreApart (modules.meaning_at place) (modules.meaning_at other)
  pub few : modules.size ≤ 200
  pub few_commands : command_count modules ≤ 900
