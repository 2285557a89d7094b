-- What the store has for a key.
use Rattle.std.specs.Prelude.{ℕ, ◌==◌, if◌then◌else◌, [], Option, None, Some}
use Rattle.core_types.specs.declared.value.Value.TheVariants.{Str}
use Rattle.core_types.specs.Keys.{Entry}

-- the deadline that a moment stands for: none, where it is 0
abbrev pub deadline_of : ℕ → Option ℕ
deadline_of due = if due == 0 then None else Some due

-- what holds the place of a key until it gets what it is to have: an empty string, without a
-- deadline
abbrev pub held : {N : Type 0} → Entry N
held = record { value = Str []; deadline = None }
