-- A word: a bulk string, where one is due.
use Rattle.std.specs.Prelude.{◌≡◌, ℕ, ◌+◌, ◌≤◌, ◌<◌, List, ◌++◌, length, take, drop}
use Rattle.resp_codec.specs.Spelling.{bulk, IsWord}
use Rattle.resp_codec.specs.Faults.{IsBegun, BadAt}
use Rattle.resp_codec.specs.Stream.{IsUnfinished}
use Rattle.resp_codec.specs.declared.word.Word.{Word}
use Rattle.resp_codec.specs.declared.word.Word.TheVariants as answer

-- a bulk string of this word begins the bytes, and takes this many
pub record BeginsBulk (bytes word : List ℕ) (size : ℕ) : Type 0 where
  pub is_word : IsWord word
  pub takes : size ≡ length (bulk word)
  pub whole : bytes ≡ bulk word ++ drop size bytes

-- what is answered to a look for a word at the front of these bytes is so wherever one is due
abbrev pub JudgesWord : List ℕ → Word → Type 0
JudgesWord bytes (answer.Whole start len) = (start + len + 2 ≤ length bytes)
    × BeginsBulk bytes (take len (drop start bytes)) (start + len + 2)
JudgesWord bytes answer.Open = (before : List ℕ) → IsBegun before → IsUnfinished (before ++ bytes)
JudgesWord bytes (answer.Bad kind place) = (place < length bytes)
    × ((before : List ℕ) → IsBegun before → BadAt (before ++ bytes) kind (length before + place))
