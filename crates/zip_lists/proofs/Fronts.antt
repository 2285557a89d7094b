-- Serves the law `one_outcome`, and the calls `read_length` and `read_item`: what stands at the
-- front of bytes.
use Rattle.std.proofs.Common.{◌≡◌, ◌≢◌, ◌⊎◌, ℕ, ◌+◌, ◌-◌, ◌*◌, ◌<◌, ◌≤◌, List, [], ◌∷◌, ◌++◌}
use Rattle.std.proofs.Common.{length, take, drop, replicate, get_or, slice_get, Some, None, refl}
use Rattle.std.proofs.Common.{sym, ap, subst, ◌∙◌, inl, inr, arith}
use Rattle.std.specs.Int.{w32, from_le_bytes}
use Rattle.std.specs.Fmt.{decimal, signed_decimal}
use Rattle.std.proofs.lemmas.List.{length-append, length-replicate, length-take-le}
use Rattle.std.proofs.lemmas.List.{take-append-drop, append_assoc, drop_at, drop-drop}
use Rattle.zip_lists.specs.Numbers.{little, big, signed}
use Rattle.zip_lists.specs.Entry.{Previous}
use Rattle.zip_lists.specs.Entry.{Width, width_mark, width_size, Content, content_bytes}
use Rattle.zip_lists.specs.BadPlace.{IsUnknown}
use Rattle.zip_lists.specs.inner.Fronts.{TellsFirst, IsBegunLength, HoldsFirst, IsBegunItem}
use Rattle.zip_lists.specs.inner.Fronts.{Announces}

-- a list that is filled up to a length
zeros : ℕ → List ℕ
zeros count = replicate count 0

zeros-length : (count : ℕ) → length (zeros count) ≡ count
unfolding zeros
zeros-length count = length-replicate {A = ℕ} count 0

filled-length : (xs : List ℕ) (size : ℕ) → length xs ≤ size →
    length (xs ++ zeros (size - length xs)) ≡ size
filled-length xs size short = omega (
  arith,
  length-append xs
      (zeros (size - length xs)),
  zeros-length (size - length xs),
)

zeros-some : (xs : List ℕ) (size : ℕ) → length xs < size → 0 < length (zeros (size - length xs))
zeros-some xs size short = omega (arith, zeros-length (size - length xs))

-- lengths in four bytes
pub four_begun : (rest : List ℕ) → length rest < 4 → IsBegunLength (254 ∷ rest)
four_begun rest short = record {
  previous = Previous.Four (rest ++ zeros (4 - length rest));
  more = zeros (4 - length rest);
  is_previous = filled-length rest 4 (omega arith);
  missing = zeros-some rest 4 short;
  whole = refl;
}

pub four_whole : (a b c d : ℕ) (rest : List ℕ) →
    TellsFirst (254 ∷ a ∷ b ∷ c ∷ d ∷ rest) (little (a ∷ b ∷ c ∷ d ∷ [])) 5
four_whole a b c d rest = record {
  previous = Previous.Four (a ∷ b ∷ c ∷ d ∷ []);
  is_previous = refl;
  told_is = refl;
  size_is = refl;
  whole = refl;
}

-- and in one
pub byte_whole : (size : ℕ) (rest : List ℕ) → size < 254 → TellsFirst (size ∷ rest) size 1
byte_whole size rest small = record {
  previous = Previous.Byte size;
  is_previous = small;
  told_is = refl;
  size_is = refl;
  whole = refl;
}

pub nothing_begun : IsBegunLength []
nothing_begun = record {
  previous = Previous.Byte 0;
  more = 0 ∷ [];
  is_previous = omega arith;
  missing = omega arith;
  whole = refl;
}

-- what announces a string
pub announces_short : (mark : ℕ) → mark < 64 → Announces (mark ∷ []) mark
announces_short mark low = record {
  content = λ text. Content.Short text;
  is_content = λ text size. omega arith;
  bytes = λ text size. ap (λ (m : ℕ). m ∷ text) size;
  item = λ text. refl;
}

pub announces_middle : (mark low : ℕ) → 64 ≤ mark → mark < 128 →
    Announces (mark ∷ low ∷ []) (256 * (mark - 64) + low)
announces_middle mark low from to = record {
  content = λ text. Content.Middle (mark - 64) low text;
  is_content = λ text size. (omega arith, sym size);
  bytes = λ text size. let at : 64 + (mark - 64) ≡ mark = omega arith in
      ap (λ (m : ℕ). m ∷ low ∷ text) at;
  item = λ text. refl;
}

pub announces_long : (mark : ℕ) (size : List ℕ) → 128 ≤ mark → mark < 192 → length size ≡ 4 →
    Announces (mark ∷ size) (big size)
announces_long mark size from to four = record {
  content = λ text. Content.Long (mark - 128) size text;
  is_content = λ text is. (omega arith, four, sym is);
  bytes = λ text is. let at : 128 + (mark - 128) ≡ mark = omega arith in
      ap (λ (m : ℕ). m ∷ size ++ text) at;
  item = λ text. refl;
}

-- a string that is cut, and one that is whole
pub text_begun : (front rest : List ℕ) (size : ℕ) → Announces front size → length rest < size →
    IsBegunItem (front ++ rest)
text_begun front rest size announced short =
    let text = rest ++ zeros (size - length rest) in
    let long : length text ≡ size = filled-length rest size (omega arith) in
    record {
      content = announced.content text;
      more = zeros (size - length rest);
      is_content = announced.is_content text long;
      missing = zeros-some rest size short;
      whole = announced.bytes text long ∙ sym (append_assoc front rest
          (zeros (size - length rest)));
    }

pub text_whole : (front rest : List ℕ) (size : ℕ) → Announces front size → size ≤ length rest →
    HoldsFirst (front ++ rest) (take size rest) (length front + size)
text_whole front rest size announced there =
    let text = take size rest in
    let long : length text ≡ size = length-take-le size rest there in
    let bytes = announced.bytes text long in
    let parts : front ++ rest ≡ content_bytes (announced.content text) ++ drop size rest =
    ap (λ (t : List ℕ). front ++ t) (sym (take-append-drop size rest))
    ∙ sym (append_assoc front text (drop size rest))
    ∙ ap (λ (t : List ℕ). t ++ drop size rest) (sym bytes) in
    let behind : drop size rest ≡ drop (length front + size) (front ++ rest) =
    ap (λ (t : List ℕ). drop size t) (sym (drop_at front rest (length front) refl))
    ∙ drop-drop size (length front) (front ++ rest) in
    record {
      content = announced.content text;
      is_content = announced.is_content text long;
      item_is = sym (announced.item text);
      size_is = sym (ap (λ (t : List ℕ). length t) bytes ∙ length-append front text
          ∙ ap (λ (k : ℕ). length front + k) long);
      whole = parts ∙ ap (λ (t : List ℕ). content_bytes (announced.content text) ++ t) behind;
    }

-- what is no more than a part of an announcement
pub item_nothing : IsBegunItem []
item_nothing = record {
  content = Content.Small 0;
  more = content_bytes (Content.Small 0);
  is_content = omega arith;
  missing = omega arith;
  whole = refl;
}

pub middle_begun : (mark : ℕ) → 64 ≤ mark → mark < 128 → IsBegunItem (mark ∷ [])
middle_begun mark from to =
    let text : List ℕ = zeros (256 * (mark - 64)) in
    let announced = announces_middle mark 0 from to in
    let long : length text ≡ 256 * (mark - 64) + 0 =
    omega (arith, zeros-length (256 * (mark - 64))) in
    record {
      content = announced.content text;
      more = 0 ∷ text;
      is_content = announced.is_content text long;
      missing = omega arith;
      whole = announced.bytes text long;
    }

pub long_begun : (mark : ℕ) (rest : List ℕ) → 128 ≤ mark → mark < 192 → length rest < 4 →
    IsBegunItem (mark ∷ rest)
long_begun mark rest from to short =
    let fill : List ℕ = zeros (4 - length rest) in
    let size : List ℕ = rest ++ fill in
    let text : List ℕ = zeros (big size) in
    let announced = announces_long mark size from to (filled-length rest 4 (omega arith)) in
    let long : length text ≡ big size = zeros-length (big size) in
    record {
      content = announced.content text;
      more = fill ++ text;
      is_content = announced.is_content text long;
      missing = omega (arith, zeros-some rest 4 short, length-append fill text);
      whole = announced.bytes text long ∙ ap (λ (t : List ℕ). mark ∷ t)
          (append_assoc rest fill text);
    }

-- integers
pub integer_begun : (w : Width) (rest : List ℕ) → length rest < width_size w →
    IsBegunItem (width_mark w ∷ rest)
integer_begun w rest short = record {
  content = Content.Integer w (rest ++ zeros (width_size w - length rest));
  more = zeros (width_size w - length rest);
  is_content = filled-length rest (width_size w) (omega arith);
  missing = zeros-some rest (width_size w) short;
  whole = refl;
}

pub integer_whole : (w : Width) (rest : List ℕ) → width_size w ≤ length rest →
    HoldsFirst (width_mark w ∷ rest) (signed_decimal (signed (take (width_size w) rest)))
    (1 + width_size w)
integer_whole w rest there =
    let digits = take (width_size w) rest in
    let behind : drop (width_size w) rest ≡ drop (1 + width_size w) (width_mark w ∷ rest) =
    drop-drop (width_size w) 1 (width_mark w ∷ rest) in
    let long : length digits ≡ width_size w = length-take-le (width_size w) rest there in
    record {
      content = Content.Integer w digits;
      is_content = long;
      item_is = refl;
      size_is = omega (arith, long);
      whole = ap (λ (t : List ℕ). width_mark w ∷ t) (sym (take-append-drop (width_size w) rest))
          ∙ ap (λ (t : List ℕ). (width_mark w ∷ digits) ++ t) behind;
    }

pub small_whole : (mark : ℕ) (rest : List ℕ) → 0xF1 ≤ mark → mark ≤ 0xFD →
    HoldsFirst (mark ∷ rest) (decimal (mark - 0xF1)) 1
small_whole mark rest from to =
    let at : mark ≡ 0xF1 + (mark - 0xF1) = omega arith in
    record {
      content = Content.Small (mark - 0xF1);
      is_content = omega arith;
      item_is = refl;
      size_is = refl;
      whole = ap (λ (m : ℕ). m ∷ rest) at;
    }

-- an encoding byte that no item has
pub mark_unknown : (mark : ℕ) → 0xC0 ≤ mark → (mark < 0xF1) ⊎ (0xFD < mark) →
    ((w : Width) → mark ≢ width_mark w) → IsUnknown mark
mark_unknown mark high other none (Content.Short text) more is e = let h : length text ≡ mark =
    cc in omega arith
mark_unknown mark high other none (Content.Middle h l text) more is e = let at : 0x40 + h ≡ mark =
    cc in omega (arith, is.0)
mark_unknown mark high other none (Content.Long bits size text) more is e =
    let at : 0x80 + bits ≡ mark = cc in omega (arith, is.0)
mark_unknown mark high other none (Content.Integer w digits) more is e =
    let at : width_mark w ≡ mark = cc in none w (sym at)
mark_unknown mark high other none (Content.Small n) more is e =
    let at : 0xF1 + n ≡ mark = cc in
    elim other [ inl low ↦ omega arith | inr beyond ↦ omega arith ]

-- the first byte, where there is one
pub first_none : (bytes : List ℕ) → slice_get bytes 0 ≡ None → bytes ≡ []
first_none [] e = refl
first_none (byte ∷ bytes) e = cc

pub first_some : (bytes : List ℕ) (first : ℕ) → slice_get bytes 0 ≡ Some first →
    bytes ≡ first ∷ drop 1 bytes
first_some [] first e = cc
first_some (byte ∷ bytes) first e = let same : byte ≡ first = cc in ap (λ (b : ℕ). b ∷ bytes) same

-- what a length is, by its first byte
pub part_four : (bytes : List ℕ) → slice_get bytes 0 ≡ Some 254 → length bytes < 5 →
    IsBegunLength bytes
part_four [] first short = cc
part_four (byte ∷ bytes) first short =
    let same : byte ≡ 254 = cc in
    subst (λ (b : ℕ). IsBegunLength (b ∷ bytes)) (sym same) (four_begun bytes (omega arith))

pub whole_four : (bytes : List ℕ) (n : ℕ) → slice_get bytes 0 ≡ Some 254 → 5 ≤ length bytes →
    n ≡ from_le_bytes w32 (get_or bytes 1 0 ∷ get_or bytes 2 0 ∷ get_or bytes 3 0 ∷ get_or bytes 4
    0 ∷ []) → TellsFirst bytes n 5
whole_four [] n first long is = absurd (omega arith)
whole_four (x ∷ []) n first long is = absurd (omega arith)
whole_four (x ∷ a ∷ []) n first long is = absurd (omega arith)
whole_four (x ∷ a ∷ b ∷ []) n first long is = absurd (omega arith)
whole_four (x ∷ a ∷ b ∷ c ∷ []) n first long is = absurd (omega arith)
whole_four (x ∷ a ∷ b ∷ c ∷ d ∷ rest) n first long is =
    let mark : x ≡ 254 = cc in
    let same : n ≡ little (a ∷ b ∷ c ∷ d ∷ []) = omega arith in
    let at_mark : TellsFirst (x ∷ a ∷ b ∷ c ∷ d ∷ rest) (little (a ∷ b ∷ c ∷ d ∷ [])) 5 =
    subst (λ (m : ℕ). TellsFirst (m ∷ a ∷ b ∷ c ∷ d ∷ rest) (little (a ∷ b ∷ c ∷ d ∷ [])) 5)
    (sym mark) (four_whole a b c d rest) in
    subst (λ (k : ℕ). TellsFirst (x ∷ a ∷ b ∷ c ∷ d ∷ rest) k 5) (sym same) at_mark

pub whole_byte : (bytes : List ℕ) (size : ℕ) → slice_get bytes 0 ≡ Some size → size < 254 →
    TellsFirst bytes size 1
whole_byte bytes size first small = subst (λ (t : List ℕ). TellsFirst t size 1)
    (sym (first_some bytes size first)) (byte_whole size (drop 1 bytes) small)

pub first_at : (bytes : List ℕ) (first : ℕ) → slice_get bytes 0 ≡ Some first →
    get_or bytes 0 0 ≡ first
first_at [] first e = cc
first_at (byte ∷ bytes) first e = cc
