-- Serves the call `read_item`: what stands at the front of bytes, by the places that the code looks
-- at.
use Rattle.std.proofs.Common.{◌≡◌, ◌≢◌, ◌⊎◌, ℕ, ◌+◌, ◌-◌, ◌*◌, ◌<◌, ◌≤◌, List, [], ◌∷◌, length}
use Rattle.std.proofs.Common.{take, drop, get_or, slice_get, Some, None, refl, sym, ap, subst, ◌∙◌}
use Rattle.std.proofs.Common.{arith}
use Rattle.std.specs.Int.{w16, w32, from_be_bytes}
use Rattle.std.specs.Fmt.{decimal, signed_decimal}
use Rattle.std.proofs.lemmas.List.{length-take-le, take-append-drop}
use Rattle.zip_lists.specs.Numbers.{big, signed}
use Rattle.zip_lists.specs.Entry.{Width, width_mark, width_size}
use Rattle.zip_lists.specs.inner.Fronts.{HoldsFirst, IsBegunItem, IsUnknownFront, Announces}
use Rattle.zip_lists.specs.inner.Fronts.{IsWidthOf}
use Rattle.zip_lists.proofs.Fronts.{first_none, announces_short, announces_middle, announces_long}
use Rattle.zip_lists.proofs.Fronts.{text_begun, text_whole, item_nothing, middle_begun, long_begun}
use Rattle.zip_lists.proofs.Fronts.{integer_begun, integer_whole, small_whole, mark_unknown}

-- another item, the same bytes
with_item : (bytes item other : List ℕ) (size : ℕ) → item ≡ other → HoldsFirst bytes other size →
    HoldsFirst bytes item size
with_item bytes item other size same holds = subst (λ (t : List ℕ). HoldsFirst bytes t size)
    (sym same) holds

pub small_first : (bytes item : List ℕ) (mark : ℕ) → bytes ≡ mark ∷ drop 1 bytes → 0xF1 ≤ mark →
    mark ≤ 0xFD → item ≡ decimal (mark - 0xF1) → HoldsFirst bytes item 1
small_first bytes item mark first from to is =
    with_item bytes item (decimal (mark - 0xF1)) 1 is
    (subst (λ (t : List ℕ). HoldsFirst t (decimal (mark - 0xF1)) 1) (sym first)
    (small_whole mark (drop 1 bytes) from to))

-- strings
pub text_open : (bytes : List ℕ) (start size : ℕ) → Announces (take start bytes) size →
    length (drop start bytes) < size → IsBegunItem bytes
text_open bytes start size announced short =
    subst IsBegunItem (take-append-drop start bytes)
    (text_begun (take start bytes) (drop start bytes) size announced short)

pub text_first : (bytes item : List ℕ) (start size : ℕ) → start ≤ length bytes →
    Announces (take start bytes) size → size ≤ length (drop start bytes) →
    item ≡ take size (drop start bytes) →
    HoldsFirst bytes item (start + size)
text_first bytes item start size within announced there is =
    let text = take size (drop start bytes) in
    let whole = text_whole (take start bytes) (drop start bytes) size announced there in
    let joined : HoldsFirst bytes text (length (take start bytes) + size) =
    subst (λ (t : List ℕ). HoldsFirst t text (length (take start bytes) + size))
    (take-append-drop start bytes) whole in
    with_item bytes item text (start + size) is
    (subst (λ (k : ℕ). HoldsFirst bytes text (k + size))
    (length-take-le start bytes within) joined)

pub short_announced : (bytes : List ℕ) (mark size : ℕ) → slice_get bytes 0 ≡ Some mark →
    mark < 64 → size ≡ mark → Announces (take 1 bytes) size
short_announced [] mark size first low is = cc
short_announced (byte ∷ bytes) mark size first low is =
    let same : byte ≡ size = cc in
    subst (λ (b : ℕ). Announces (b ∷ []) size) (sym same) (announces_short size (omega arith))

pub middle_announced : (bytes : List ℕ) (size : ℕ) → 2 ≤ length bytes → 64 ≤ get_or bytes 0 0 →
    get_or bytes 0 0 < 128 →
    size ≡ from_be_bytes w16 ((get_or bytes 0 0 - 64) ∷ get_or bytes 1 0 ∷ []) →
    Announces (take 2 bytes) size
middle_announced [] size long from to is = absurd (omega arith)
middle_announced (mark ∷ []) size long from to is = absurd (omega arith)
middle_announced (mark ∷ low ∷ bytes) size long from to is =
    let same : 256 * (mark - 64) + low ≡ size = omega arith in
    subst (λ (k : ℕ). Announces (mark ∷ low ∷ []) k) same (announces_middle mark low from to)

pub middle_open : (bytes : List ℕ) → 0 < length bytes → length bytes < 2 → 64 ≤ get_or bytes 0 0 →
    get_or bytes 0 0 < 128 → IsBegunItem bytes
middle_open [] some short from to = absurd (omega arith)
middle_open (mark ∷ []) some short from to = middle_begun mark from to
middle_open (mark ∷ low ∷ bytes) some short from to = absurd (omega arith)

pub long_announced : (bytes : List ℕ) (size : ℕ) → 5 ≤ length bytes → 128 ≤ get_or bytes 0 0 →
    get_or bytes 0 0 < 192 →
    size ≡ from_be_bytes w32 (get_or bytes 1 0 ∷ get_or bytes 2 0 ∷ get_or bytes 3 0 ∷ get_or bytes
    4 0 ∷ []) → Announces (take 5 bytes) size
long_announced [] size long from to is = absurd (omega arith)
long_announced (mark ∷ []) size long from to is = absurd (omega arith)
long_announced (mark ∷ a ∷ []) size long from to is = absurd (omega arith)
long_announced (mark ∷ a ∷ b ∷ []) size long from to is = absurd (omega arith)
long_announced (mark ∷ a ∷ b ∷ c ∷ []) size long from to is = absurd (omega arith)
long_announced (mark ∷ a ∷ b ∷ c ∷ d ∷ bytes) size long from to is =
    let same : big (a ∷ b ∷ c ∷ d ∷ []) ≡ size = omega arith in
    subst (λ (k : ℕ). Announces (mark ∷ a ∷ b ∷ c ∷ d ∷ []) k) same
    (announces_long mark (a ∷ b ∷ c ∷ d ∷ []) from to refl)

pub long_open : (bytes : List ℕ) → 0 < length bytes → length bytes < 5 → 128 ≤ get_or bytes 0 0 →
    get_or bytes 0 0 < 192 → IsBegunItem bytes
long_open [] some short from to = absurd (omega arith)
long_open (mark ∷ bytes) some short from to = long_begun mark bytes from to (omega arith)

-- integers
pub integer_open : (bytes : List ℕ) (mark size : ℕ) → bytes ≡ mark ∷ drop 1 bytes →
    IsWidthOf mark size → length (drop 1 bytes) < size → IsBegunItem bytes
integer_open bytes mark size first of short =
    let whole : bytes ≡ width_mark of.width ∷ drop 1 bytes = first
    ∙ ap (λ (m : ℕ). m ∷ drop 1 bytes) of.mark_is in
    subst IsBegunItem (sym whole) (integer_begun of.width (drop 1 bytes)
    (omega (arith, of.size_is)))

pub integer_first : (bytes item : List ℕ) (mark size : ℕ) → bytes ≡ mark ∷ drop 1 bytes →
    IsWidthOf mark size → size ≤ length (drop 1 bytes) →
    item ≡ signed_decimal (signed (take size (drop 1 bytes))) →
    HoldsFirst bytes item (1 + size)
integer_first bytes item mark size first of there is =
    let w = of.width in
    let whole : bytes ≡ width_mark w ∷ drop 1 bytes = first
    ∙ ap (λ (m : ℕ). m ∷ drop 1 bytes) of.mark_is in
    let text = signed_decimal (signed (take (width_size w) (drop 1 bytes))) in
    let holds = subst (λ (t : List ℕ). HoldsFirst t text (1 + width_size w)) (sym whole)
    (integer_whole w (drop 1 bytes) (omega (arith, of.size_is))) in
    let same : item ≡ text = is ∙ ap (λ (k : ℕ). signed_decimal (signed (take k (drop 1 bytes))))
    of.size_is in
    with_item bytes item text (1 + size) same (subst (λ (k : ℕ). HoldsFirst bytes text (1 + k))
    (sym of.size_is) holds)

pub unknown_first : (bytes : List ℕ) (mark : ℕ) → bytes ≡ mark ∷ drop 1 bytes → 0xC0 ≤ mark →
    (mark < 0xF1) ⊎ (0xFD < mark) → ((w : Width) → mark ≢ width_mark w) → IsUnknownFront bytes
unknown_first bytes mark first high other none =
    record { mark = mark; unknown = mark_unknown mark high other none; first = first }

-- nothing
pub empty_open : (bytes : List ℕ) → slice_get bytes 0 ≡ None → IsBegunItem bytes
empty_open bytes none = subst IsBegunItem (sym (first_none bytes none)) item_nothing
