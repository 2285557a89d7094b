-- The bytes that a line of text may have.
use Rattle.std.specs.Prelude.{ℕ, ◌≤◌, nat_lt, if◌then◌else◌}

-- a space, or a visible character of ASCII
abbrev pub IsPrintable : ℕ → Type 0
IsPrintable byte = (32 ≤ byte) × (byte ≤ 126)

-- the byte, or a question mark where it isn't printable
abbrev pub printable : ℕ → ℕ
printable byte = if nat_lt byte 32 then 63 else (if nat_lt 126 byte then 63 else byte)
