-- Names for the lists that are meant.
use Rattle.std.specs.Prelude.{ℕ, List}
use Rattle.core_types.specs.declared.tagged.Tagged.{Tagged}

-- a byte string
abbrev pub Bytes : Type 0
Bytes = List ℕ

-- the words of a command
abbrev pub Words : Type 0
Words = List Bytes

-- what a value, or a module's private state, is saved as
abbrev pub Saved : Type 0
Saved = List Tagged
