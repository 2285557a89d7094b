-- The header of a request or of a word: a mark, a number, and the end of the line.
use Rattle.std.specs.Prelude.{◌≡◌, ℕ, ◌+◌, ◌<◌, ◌≤◌, List, ◌++◌, length, take, drop}
use Rattle.resp_codec.specs.Marks.{crlf}
use Rattle.resp_codec.specs.Faults.{HeaderDue, IsHeaderText, BadAt}
use Rattle.resp_codec.specs.Stream.{IsUnfinished}
use Rattle.resp_codec.specs.declared.header.Header.{Header}
use Rattle.resp_codec.specs.declared.header.Header.TheVariants as answer

-- a text of this many bytes stands before the first CR LF, where a header may have it
pub record IsHeaderLine (bytes : List ℕ) (end : ℕ) : Type 0 where
  pub within : end + 2 ≤ length bytes
  pub parts : bytes ≡ take end bytes ++ crlf ++ drop (end + 2) bytes
  pub is_text : IsHeaderText (take end bytes)

-- what is answered to a look for a header at the front of these bytes is so wherever one is due
abbrev pub Judges : List ℕ → Header → Type 0
Judges bytes answer.Open = (before : List ℕ) → HeaderDue before bytes
    → IsUnfinished (before ++ bytes)
Judges bytes (answer.Line end) = IsHeaderLine bytes end
Judges bytes (answer.Bad kind place) = (place < length bytes)
    × ((before : List ℕ) → HeaderDue before bytes
    → BadAt (before ++ bytes) kind (length before + place))
