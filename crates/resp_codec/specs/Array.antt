-- What stands at the front of a byte list that is all there, where arrays alone may stand.
use Rattle.std.specs.Prelude.{◌≡◌, ◌<◌, ℕ, List, ◌++◌, length, true, false}
use Rattle.core_types.specs.declared.bad_request.BadRequest.{BadRequest}
use Rattle.resp_codec.specs.Inline.{begins_array}
use Rattle.resp_codec.specs.Spelling.{multibulk, IsRequest, IsEmptyArray}
use Rattle.resp_codec.specs.Faults.{BadAt}
use Rattle.resp_codec.specs.Stream.{IsUnfinished}
use Rattle.resp_codec.specs.declared.array.Array.{Array}
use Rattle.resp_codec.specs.declared.array.Array.TheVariants as array

-- a request of these words begins the bytes, as an array
pub record BeginsRequest (bytes : List ℕ) (words : List (List ℕ)) : Type 0 where
  pub request : IsRequest words
  pub more : List ℕ
  pub whole : bytes ≡ multibulk words ++ more

-- an array without words begins the bytes
pub record BeginsEmpty (bytes : List ℕ) : Type 0 where
  pub front : List ℕ
  pub more : List ℕ
  pub empty : IsEmptyArray front
  pub whole : bytes ≡ front ++ more

-- an array begins the bytes and its end has not come, and nothing is wrong with it so far
pub record IsUnfinishedArray (bytes : List ℕ) : Type 0 where
  pub array : begins_array bytes ≡ true
  pub unfinished : IsUnfinished bytes

-- the first bad place of the array that begins the bytes
pub record IsBadArray (bytes : List ℕ) (kind : BadRequest) (at : ℕ) : Type 0 where
  pub array : begins_array bytes ≡ true
  pub bad : BadAt bytes kind at

-- what was found at the front of the bytes is so
abbrev pub IsFront : List ℕ → Array → Type 0
IsFront bytes (array.Request words size) = BeginsRequest bytes words
    × (size ≡ length (multibulk words))
IsFront bytes array.Empty = BeginsEmpty bytes
IsFront bytes array.Other = (0 < length bytes) × (begins_array bytes ≡ false)
IsFront bytes array.Unfinished = IsUnfinishedArray bytes
IsFront bytes (array.Bad kind at) = IsBadArray bytes kind at × (at < length bytes)
