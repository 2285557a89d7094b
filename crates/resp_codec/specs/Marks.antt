-- The bytes of RESP2's lines, and the lines that begin with a mark.
use Rattle.std.specs.Prelude.{ℕ, List, [], ◌∷◌, ◌++◌}
use Rattle.std.specs.Fmt.{decimal}

abbrev pub cr : ℕ
cr = 13

abbrev pub lf : ℕ
lf = 10

-- `*`, `$`, `:`, `+` and `-`
abbrev pub star : ℕ
star = 42

abbrev pub dollar : ℕ
dollar = 36

abbrev pub colon : ℕ
colon = 58

abbrev pub plus : ℕ
plus = 43

abbrev pub minus : ℕ
minus = 45

-- what ends a line
abbrev pub crlf : List ℕ
crlf = cr ∷ lf ∷ []

-- a line: a mark, a text, and CR LF
abbrev pub marked : ℕ → List ℕ → List ℕ
marked mark text = mark ∷ text ++ crlf

-- the header of a multibulk or of a word: a mark and a number, as a line
abbrev pub header : ℕ → ℕ → List ℕ
header mark number = marked mark (decimal number)
