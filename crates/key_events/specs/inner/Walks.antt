-- How far a pattern and a text were gone through, side by side.
use Rattle.std.specs.Prelude.{◌≡◌, ℕ, ◌==◌, ◌<◌, ◌≤◌, Bool, true, false, List, ◌∷◌, drop, length}
use Rattle.key_events.specs.declared.piece.Piece.{Piece}
use Rattle.key_events.specs.declared.piece.Piece.TheVariants.{Any, One, Byte}
use Rattle.key_events.specs.declared.walk.Walk.{Walk}
use Rattle.key_events.specs.declared.walk.Walk.TheVariants as walk
use Rattle.key_events.specs.Patterns.{fits, pieces_of}

-- whether a piece stands for one byte, and for this one
abbrev pub takes : Piece → ℕ → Bool
takes Any byte = false
takes One byte = true
takes (Byte itself) byte = byte == itself

-- the pieces stand for the text exactly where the rest of them stand for the rest of it; and
-- whichever text they stand for, the rest of them stand for what is left of it behind as many bytes
pub record Reaches (pieces : List Piece) (text : List ℕ) (rest : List Piece) (left : List ℕ)
    : Type 0 where
  pub same : fits pieces text ≡ fits rest left
  pub bytes : ℕ
  pub behind : left ≡ drop bytes text
  pub each : (other : List ℕ) → fits pieces other ≡ true → fits rest (drop bytes other) ≡ true

-- what a walk found
abbrev pub Walked : List ℕ → List ℕ → Walk → Type 0
Walked pattern text (walk.Star behind left) =
    Reaches (pieces_of pattern) text (Any ∷ pieces_of behind.now) left.now
    × (length behind.now < length pattern) × (length left.now ≤ length text)
Walked pattern text (walk.Ends is_whole) = fits (pieces_of pattern) text ≡ is_whole
