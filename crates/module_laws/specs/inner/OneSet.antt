-- What holds of a set of one module. Serves the laws of ModuleSet for One.
use Rattle.std.proofs.Common.{◌≡◌, ℕ, ◌<◌, List, [], ◌∷◌, Bool, true, false, refl, sym, ap, ◌∙◌, arith}
use Rattle.std.specs.Prelude.{◌||◌}
use Rattle.std.specs.Cmp.Lexicographic.{bytes_decides}
use Rattle.core_types.specs.Keys.{Native}
use Rattle.module_laws.specs.Laws.{IsLawful}
use Rattle.module_laws.specs.Meaning.{Meaning, type_of}
use Rattle.module_laws.specs.Sets.{only, IsOwnValue, AreLawful}
use Rattle.module_laws.specs.Types.{NativeType, has_type}

or_none : (b : Bool) → (b || false) ≡ true → b ≡ true
or_none true e = refl
or_none false e = e

-- a value of the one type has its name
pub one_name : (meaning : Meaning) (types : List NativeType) (name : List ℕ)
    → types ≡ type_of meaning ∷ [] → has_type types name ≡ true → name ≡ meaning.name
one_name meaning types name are typed =
    (bytes_decides name meaning.name).0 (or_none _ (sym (ap (λ ts. has_type ts name) are) ∙ typed))

pub owned_by_one : {V : Type 0} (meaning : Meaning) (native : V → Native) (types : List NativeType)
    → types ≡ type_of meaning ∷ [] → ((value : V) → has_type types (native value).name ≡ true)
    → (value : V) → IsOwnValue (only meaning) 0 (native value).name
owned_by_one meaning native types are typed value =
    record {
      there = omega arith;
      named =
          one_name meaning types (native value).name are (typed value);
    }

pub one_lawful : (meaning : Meaning) → IsLawful meaning → AreLawful (only meaning)
one_lawful meaning lawful =
    record {
      each = λ place within. lawful;
      apart =
          λ place other before within. absurd (none place other before within);
      few = omega arith;
      few_commands = omega (arith, lawful.commands.few);
    }
  where
    none : (place other : ℕ) → place < other → other < 1 → ⊥
    none place other before within = omega arith
