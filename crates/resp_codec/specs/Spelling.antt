-- How RESP2 spells a request: as a multibulk, or as one line.
use Rattle.std.specs.Prelude.{ℕ, ℤ, pos, ◌≡◌, ◌⊎◌, ◌<◌, ◌≤◌, ◌≤ℤ◌, List, [], ◌∷◌, ◌++◌, length, false, FitsSigned}
use Rattle.std.specs.Int.{w64}
use Rattle.std.specs.List.{flat_map, AllByRecursion, list_any}
use Rattle.std.specs.Fmt.{signed_decimal}
use Rattle.resp_codec.specs.Marks.{lf, star, dollar, crlf, marked, header}
use Rattle.resp_codec.specs.Inline.{IsLine, is_quote, line_words}

-- a bulk string: `$`, the length, and the bytes
abbrev pub bulk : List ℕ → List ℕ
bulk word = header dollar (length word) ++ (word ++ crlf)

-- a request: `*`, the number of words, and each word as a bulk string
abbrev pub multibulk : List (List ℕ) → List ℕ
multibulk words = header star (length words) ++ flat_map bulk words

-- a word that may be sent: at most 512 MiB
abbrev pub IsWord : List ℕ → Type 0
IsWord word = length word ≤ 536870912

-- the words of a request: at least one and at most 1,048,576
pub record IsRequest (words : List (List ℕ)) : Type 0 where
  pub some : 0 < length words
  pub few : length words ≤ 1048576
  pub each : AllByRecursion IsWord words

-- a line, with its LF, that has these words and no quote
pub record IsInline (bytes : List ℕ) (words : List (List ℕ)) : Type 0 where
  pub line : List ℕ
  pub whole : bytes ≡ line ++ lf ∷ []
  pub is_line : IsLine line
  pub plain : list_any is_quote line ≡ false
  pub words_are : words ≡ line_words line

-- The bytes are one request of these words, all of them.
abbrev pub Spells : List ℕ → List (List ℕ) → Type 0
Spells bytes words = IsRequest words × ((bytes ≡ multibulk words) ⊎ IsInline bytes words)

-- a multibulk of no words, or of fewer
pub record IsEmptyArray (bytes : List ℕ) : Type 0 where
  pub count : ℤ
  pub none : count ≤ℤ pos 0
  pub fits : FitsSigned w64 count
  pub whole : bytes ≡ marked star (signed_decimal count)

-- The bytes are skipped, all of them: a multibulk without words, or a line without words. They get
-- no reply.
abbrev pub Skips : List ℕ → Type 0
Skips bytes = IsEmptyArray bytes ⊎ IsInline bytes []

-- some of these, one after the other
abbrev pub SkipsAll : List (List ℕ) → Type 0
SkipsAll pieces = AllByRecursion Skips pieces
