-- Requests on one line: words between spaces and tabs.
use Rattle.std.specs.Prelude.{ℕ, ◌≡◌, ◌≤◌, List, [], ◌∷◌, length, Bool, false, not, ◌||◌, ◌==◌}
use Rattle.std.specs.List.{filter, list_any, slice_split}
use Rattle.std.specs.Str.Lines.{strip_carriage_return}
use Rattle.resp_codec.specs.Marks.{lf, star}

-- a space or a tab
abbrev pub is_blank : ℕ → Bool
is_blank byte = (byte == 32) || (byte == 9)

-- `"` or `'`
abbrev pub is_quote : ℕ → Bool
is_quote byte = (byte == 34) || (byte == 39)

-- the words of a text: what stands between blanks, where anything does
abbrev pub words_of : List ℕ → List (List ℕ)
words_of text = filter (λ word. not (length word == 0)) (slice_split is_blank text)

-- the words of a line that ended with LF, and maybe with CR before it
abbrev pub line_words : List ℕ → List (List ℕ)
line_words line = words_of (strip_carriage_return line)

-- whether the text begins with `*`
abbrev pub begins_array : List ℕ → Bool
begins_array [] = false
begins_array (byte ∷ text) = byte == star

-- a line before its LF: it begins no multibulk, has at most 65,536 bytes and holds no LF
pub record IsLine (line : List ℕ) : Type 0 where
  pub no_array : begins_array line ≡ false
  pub short : length line ≤ 65536
  pub unbroken : list_any (λ byte. byte == lf) line ≡ false
