-- What is known of a command before it runs.
use Rattle.std.specs.Prelude.{ℕ, ℤ, pos, negsuc, ◌+◌, ◌==◌, nat_le, Bool, true, false, IsTrue, List, length}
use Rattle.core_types.specs.declared.command_spec.CommandSpec.{CommandSpec}

-- its name, its number of words, whether it is written into a log, and the place of its key among
-- the words
pub record CommandRow : Type 0 where
  pub name : List ℕ
  pub arity : ℤ
  pub writes : Bool
  pub key : ℕ

-- a command of this name and number of words (-3 for at least 3) that changes no key
abbrev pub reading : List ℕ → ℤ → CommandRow
reading name arity = record { name = name; arity = arity; writes = false; key = 1 }

-- one that can change its key
abbrev pub writing : List ℕ → ℤ → CommandRow
writing name arity = record { name = name; arity = arity; writes = true; key = 1 }

abbrev pub row_of_spec : CommandSpec → CommandRow
row_of_spec spec =
    record { name = spec.name.now; arity = spec.arity; writes = spec.writes; key = spec.key }

-- whether this number of words is taken: the arity, or where it is below 0 at least as many without
-- its sign
abbrev pub takes : ℤ → ℕ → Bool
takes (pos n) count = count == n
takes (negsuc n) count = nat_le (n + 1) count

abbrev pub MeetArity : CommandRow → List (List ℕ) → Type 0
MeetArity command words = IsTrue (takes command.arity (length words))
