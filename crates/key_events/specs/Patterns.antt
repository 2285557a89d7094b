-- Patterns of channels: the texts that a pattern stands for, by cases on its bytes.
use Rattle.std.specs.Prelude.{ℕ, ◌==◌, ◌&&◌, ◌||◌, Bool, true, false, if◌then◌else◌, List, [], ◌∷◌}
use Rattle.key_events.specs.declared.piece.Piece.{Piece}
use Rattle.key_events.specs.declared.piece.Piece.TheVariants.{Any, One, Byte}

abbrev pub star : ℕ
star = 42

abbrev pub question_mark : ℕ
question_mark = 63

abbrev pub backslash : ℕ
backslash = 92

-- a byte by itself: `*` stands for any bytes, `?` for one byte, every other byte for itself
abbrev pub piece_of : ℕ → Piece
piece_of byte = if byte == star then Any else (if byte == question_mark then One else Byte byte)

-- the pieces of a pattern: a backslash and the byte behind it stand for that byte, and a backslash
-- at the end stands for itself
abbrev pub pieces_of : List ℕ → List Piece
pieces_of [] = []
pieces_of (byte ∷ []) = piece_of byte ∷ []
pieces_of (byte ∷ next ∷ rest) =
    if byte == backslash then Byte next ∷ pieces_of rest
    else piece_of byte ∷ pieces_of (next ∷ rest)

-- whether an end of the text passes: the whole of it, or what is left behind some of its bytes
abbrev pub some_end : (List ℕ → Bool) → List ℕ → Bool
some_end passes [] = passes []
some_end passes (byte ∷ rest) = passes (byte ∷ rest) || some_end passes rest

-- whether pieces stand for a text
abbrev pub fits : List Piece → List ℕ → Bool
fits [] [] = true
fits [] (byte ∷ rest) = false
fits (Any ∷ pieces) text = some_end (fits pieces) text
fits (One ∷ pieces) [] = false
fits (One ∷ pieces) (byte ∷ rest) = fits pieces rest
fits (Byte itself ∷ pieces) [] = false
fits (Byte itself ∷ pieces) (byte ∷ rest) = (byte == itself) && fits pieces rest

-- whether a pattern stands for a text
abbrev pub matches : List ℕ → List ℕ → Bool
matches pattern text = fits (pieces_of pattern) text
