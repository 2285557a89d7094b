-- An entry of a ziplist: the length of the entry before it, and an item.
use Rattle.std.specs.Prelude.{ℕ, ◌≡◌, ◌+◌, ◌*◌, ◌<◌, ◌≤◌, List, [], ◌∷◌, ◌++◌, length}
use Rattle.std.specs.Fmt.{decimal, signed_decimal}
use Rattle.zip_lists.specs.Numbers.{little, big, signed}

-- the length of the entry before, as it is written
pub data Previous : Type 0 where
  -- one byte, below 254
  Byte : (size : ℕ) → Previous
  -- `FE` and four bytes, the lowest first
  Four : (digits : List ℕ) → Previous

abbrev pub IsPrevious : Previous → Type 0
IsPrevious (Previous.Byte size) = size < 254
IsPrevious (Previous.Four digits) = length digits ≡ 4

abbrev pub previous_bytes : Previous → List ℕ
previous_bytes (Previous.Byte size) = size ∷ []
previous_bytes (Previous.Four digits) = 254 ∷ digits

-- the length that is meant
abbrev pub told : Previous → ℕ
told (Previous.Byte size) = size
told (Previous.Four digits) = little digits

-- the widths of integers, in bits
pub data Width : Type 0 where
  Bits8 : Width
  Bits16 : Width
  Bits24 : Width
  Bits32 : Width
  Bits64 : Width

-- their encoding bytes
abbrev pub width_mark : Width → ℕ
width_mark Width.Bits16 = 0xC0
width_mark Width.Bits32 = 0xD0
width_mark Width.Bits64 = 0xE0
width_mark Width.Bits24 = 0xF0
width_mark Width.Bits8 = 0xFE

-- and how many bytes follow
abbrev pub width_size : Width → ℕ
width_size Width.Bits16 = 2
width_size Width.Bits32 = 4
width_size Width.Bits64 = 8
width_size Width.Bits24 = 3
width_size Width.Bits8 = 1

-- an item, as it is written
pub data Content : Type 0 where
  -- a string, its length in the low six bits of the encoding byte
  Short : (text : List ℕ) → Content
  -- a string, its length in these bits and a byte, the highest first
  Middle : (high low : ℕ) (text : List ℕ) → Content
  -- a string, its length in four bytes, the highest first; these bits mean nothing
  Long : (bits : ℕ) (size text : List ℕ) → Content
  -- an integer, the lowest byte first, in two's complement
  Integer : (width : Width) (digits : List ℕ) → Content
  -- an integer in the encoding byte itself
  Small : (n : ℕ) → Content

abbrev pub IsContent : Content → Type 0
IsContent (Content.Short text) = length text < 64
IsContent (Content.Middle high low text) = (high < 64) × (256 * high + low ≡ length text)
IsContent (Content.Long bits size text) = (bits < 64) × (length size ≡ 4) × (big size ≡ length text)
IsContent (Content.Integer width digits) = length digits ≡ width_size width
IsContent (Content.Small n) = n ≤ 12

-- the encoding byte, and what follows it
abbrev pub content_bytes : Content → List ℕ
content_bytes (Content.Short text) = length text ∷ text
content_bytes (Content.Middle high low text) = (0x40 + high) ∷ low ∷ text
content_bytes (Content.Long bits size text) = (0x80 + bits) ∷ size ++ text
content_bytes (Content.Integer width digits) = width_mark width ∷ digits
content_bytes (Content.Small n) = (0xF1 + n) ∷ []

-- the item: a string as it stands, an integer as its decimal
abbrev pub content_item : Content → List ℕ
content_item (Content.Short text) = text
content_item (Content.Middle high low text) = text
content_item (Content.Long bits size text) = text
content_item (Content.Integer width digits) = signed_decimal (signed digits)
content_item (Content.Small n) = decimal n

pub record Entry : Type 0 where
  pub previous : Previous
  pub content : Content

pub record IsEntry (entry : Entry) : Type 0 where
  pub previous : IsPrevious entry.previous
  pub content : IsContent entry.content

abbrev pub entry_bytes : Entry → List ℕ
entry_bytes entry = previous_bytes entry.previous ++ content_bytes entry.content

abbrev pub item_of : Entry → List ℕ
item_of entry = content_item entry.content
