-- What stands at the front of bytes, where a part of an entry is due.
use Rattle.std.specs.Prelude.{ℕ, ◌≡◌, ◌<◌, List, ◌∷◌, ◌++◌, length, drop}
use Rattle.zip_lists.specs.Entry.{Previous, IsPrevious, previous_bytes, told}
use Rattle.zip_lists.specs.Entry.{Content, IsContent, content_bytes, content_item}
use Rattle.zip_lists.specs.Entry.{Width, width_mark, width_size}
use Rattle.zip_lists.specs.Ziplist.{end_mark}
use Rattle.zip_lists.specs.BadPlace.{IsUnknown}
use Rattle.zip_lists.specs.declared.previous.Length.{Length}
use Rattle.zip_lists.specs.declared.previous.Length.TheVariants as found
use Rattle.zip_lists.specs.declared.content.Item.{Item}
use Rattle.zip_lists.specs.declared.content.Item.TheVariants as item

-- a length is told at the front, and takes this many bytes
pub record TellsFirst (bytes : List ℕ) (length_told size : ℕ) : Type 0 where
  pub previous : Previous
  pub is_previous : IsPrevious previous
  pub told_is : length_told ≡ told previous
  pub size_is : size ≡ length (previous_bytes previous)
  pub whole : bytes ≡ previous_bytes previous ++ drop size bytes

-- more bytes would make these a length
pub record IsBegunLength (bytes : List ℕ) : Type 0 where
  pub previous : Previous
  pub more : List ℕ
  pub is_previous : IsPrevious previous
  pub missing : 0 < length more
  pub whole : previous_bytes previous ≡ bytes ++ more

-- what was found at the front, where an entry or the end is due, is so
abbrev pub IsLengthFront : List ℕ → Length → Type 0
IsLengthFront bytes found.End = bytes ≡ end_mark ∷ drop 1 bytes
IsLengthFront bytes found.Open = IsBegunLength bytes
IsLengthFront bytes (found.Whole length_told size) = TellsFirst bytes length_told size

-- an item stands at the front, and takes this many bytes
pub record HoldsFirst (bytes item : List ℕ) (size : ℕ) : Type 0 where
  pub content : Content
  pub is_content : IsContent content
  pub item_is : item ≡ content_item content
  pub size_is : size ≡ length (content_bytes content)
  pub whole : bytes ≡ content_bytes content ++ drop size bytes

-- more bytes would make these an item
pub record IsBegunItem (bytes : List ℕ) : Type 0 where
  pub content : Content
  pub more : List ℕ
  pub is_content : IsContent content
  pub missing : 0 < length more
  pub whole : content_bytes content ≡ bytes ++ more

-- the first byte is an encoding byte that no item has
pub record IsUnknownFront (bytes : List ℕ) : Type 0 where
  pub mark : ℕ
  pub unknown : IsUnknown mark
  pub first : bytes ≡ mark ∷ drop 1 bytes

-- what was found at the front, where an encoding byte is due, is so
abbrev pub IsItemFront : List ℕ → Item → Type 0
IsItemFront bytes (item.Text text size) = HoldsFirst bytes text.now size
IsItemFront bytes (item.Number decimal size) = HoldsFirst bytes decimal size
IsItemFront bytes item.Open = IsBegunItem bytes
IsItemFront bytes item.Unknown = IsUnknownFront bytes

-- These bytes are the front of an item: with any text of this size behind them they are a string.
pub record Announces (front : List ℕ) (size : ℕ) : Type 0 where
  pub content : List ℕ → Content
  pub is_content : (text : List ℕ) → length text ≡ size → IsContent (content text)
  pub bytes : (text : List ℕ) → length text ≡ size → content_bytes (content text) ≡ front ++ text
  pub item : (text : List ℕ) → content_item (content text) ≡ text

-- an integer's bytes have this number
abbrev pub IsWidth : ℕ → Type 0
IsWidth size = (width : Width) × (size ≡ width_size width)

-- an integer with this encoding byte has this many bytes behind it
pub record IsWidthOf (mark size : ℕ) : Type 0 where
  pub width : Width
  pub mark_is : mark ≡ width_mark width
  pub size_is : size ≡ width_size width
