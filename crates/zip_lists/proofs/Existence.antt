-- Serves `either` of the law `one_outcome`: each list of bytes is read in some way.
use Rattle.std.proofs.Common.{◌≡◌, ◌≢◌, ◌⊎◌, ℕ, zero, suc, ◌+◌, ◌<◌, ◌≤◌, List, [], ◌∷◌, ◌++◌}
use Rattle.std.proofs.Common.{length, take, drop, refl, sym, ap, subst, ◌∙◌, inl, inr, arith, None}
use Rattle.std.proofs.Common.{Some, Option, map}
use Rattle.std.specs.List.{AllByRecursion}
use Rattle.std.proofs.lemmas.Bool.Decides.{nat_tests}
use Rattle.std.proofs.lemmas.List.{length-append, take-append-drop, append_assoc}
use Rattle.zip_lists.specs.Numbers.{AreBytes, big}
use Rattle.zip_lists.specs.Entry.{Previous, IsPrevious, previous_bytes, Content, IsContent}
use Rattle.zip_lists.specs.Entry.{content_bytes, Width, width_mark, width_size, Entry, IsEntry}
use Rattle.zip_lists.specs.Entry.{entry_bytes, item_of}
use Rattle.zip_lists.specs.Ziplist.{header_size, end_mark, total_of, last_of, count_of}
use Rattle.zip_lists.specs.Ziplist.{entries_bytes, place_behind, last_start, IsCount, Stands}
use Rattle.zip_lists.specs.Ziplist.{IsZiplist}
use Rattle.zip_lists.specs.BadPlace.{IsUnknown, IsFirstBad}
use Rattle.zip_lists.specs.inner.Walking.{wrong_among}
use Rattle.zip_lists.specs.inner.Fronts.{IsBegunLength, IsBegunItem, Announces}
use Rattle.zip_lists.proofs.Fronts.{four_begun, nothing_begun, announces_short, announces_middle}
use Rattle.zip_lists.proofs.Fronts.{announces_long, text_begun, text_whole, item_nothing}
use Rattle.zip_lists.proofs.Fronts.{middle_begun, long_begun, integer_begun, integer_whole}
use Rattle.zip_lists.proofs.Fronts.{small_whole, mark_unknown}
use Rattle.zip_lists.proofs.Headers.{header_total, header_missing}
use Rattle.zip_lists.proofs.Outcomes.{Closed, Counted, Told, closed-last, closed-count}
use Rattle.zip_lists.proofs.Outcomes.{closed-wrong, closed-after, closed-ziplist, breaks-first}
use Rattle.zip_lists.proofs.Breaks.{Torn, breaks_length, breaks_item, breaks_mark}

-- two numbers, compared
below_or_not : (m n : ℕ) → (m < n) ⊎ (n ≤ m)
below_or_not m n = grind (arith, nat_tests)

pub same_or_not : (m n : ℕ) → (m ≡ n) ⊎ (m ≢ n)
same_or_not m n = grind (arith, nat_tests)

-- an item at the front, a part of one, or none
data ItemCase (bytes : List ℕ) : Type 0 where
  Whole : (c : Content) (more : List ℕ) → IsContent c → bytes ≡ content_bytes c ++ more →
      ItemCase bytes
  Open : IsBegunItem bytes → ItemCase bytes
  Unknown : (mark : ℕ) (more : List ℕ) → IsUnknown mark → bytes ≡ mark ∷ more → ItemCase bytes

text_case : (front rest : List ℕ) (size : ℕ) → Announces front size → ItemCase (front ++ rest)
text_case front rest size announced = elim (below_or_not (length rest) size) [
  | inl short ↦ ItemCase.Open (text_begun front rest size announced short)
  | inr there ↦
      let w = text_whole front rest size announced there in
      ItemCase.Whole w.content (drop (length front + size) (front ++ rest)) w.is_content w.whole
]

width_case : (w : Width) (rest : List ℕ) → ItemCase (width_mark w ∷ rest)
width_case w rest = elim (below_or_not (length rest) (width_size w)) [
  | inl short ↦ ItemCase.Open (integer_begun w rest short)
  | inr there ↦
      let h = integer_whole w rest there in
      ItemCase.Whole h.content (drop (1 + width_size w) (width_mark w ∷ rest)) h.is_content h.whole
]

middle_case : (mark : ℕ) (rest : List ℕ) → 64 ≤ mark → mark < 128 → ItemCase (mark ∷ rest)
middle_case mark [] from to = ItemCase.Open (middle_begun mark from to)
middle_case mark (low ∷ rest) from to = text_case (mark ∷ low ∷ []) rest _
    (announces_middle mark low from to)

long_case : (mark : ℕ) (rest : List ℕ) → 128 ≤ mark → mark < 192 → ItemCase (mark ∷ rest)
long_case mark [] from to = ItemCase.Open (long_begun mark [] from to (omega arith))
long_case mark (a ∷ []) from to = ItemCase.Open (long_begun mark (a ∷ []) from to (omega arith))
long_case mark (a ∷ b ∷ []) from to = ItemCase.Open
    (long_begun mark (a ∷ b ∷ []) from to (omega arith))
long_case mark (a ∷ b ∷ c ∷ []) from to = ItemCase.Open
    (long_begun mark (a ∷ b ∷ c ∷ []) from to (omega arith))
long_case mark (a ∷ b ∷ c ∷ d ∷ rest) from to =
    text_case (mark ∷ a ∷ b ∷ c ∷ d ∷ []) rest (big (a ∷ b ∷ c ∷ d ∷ []))
    (announces_long mark (a ∷ b ∷ c ∷ d ∷ []) from to refl)

-- the widths, one by one
width_or_none : (mark : ℕ) → ((w : Width) × (mark ≡ width_mark w)) ⊎ ((w : Width) →
    mark ≢ width_mark w)
width_or_none mark = at (same_or_not mark 192) (same_or_not mark 208) (same_or_not mark 224)
    (same_or_not mark 240) (same_or_not mark 254) where
      at : (mark ≡ 192) ⊎ (mark ≢ 192) → (mark ≡ 208) ⊎ (mark ≢ 208) → (mark ≡ 224) ⊎ (mark ≢ 224) →
          (mark ≡ 240) ⊎ (mark ≢ 240) → (mark ≡ 254) ⊎ (mark ≢ 254) →
          ((w : Width) × (mark ≡ width_mark w)) ⊎ ((w : Width) → mark ≢ width_mark w)
      at (inl e) _ _ _ _ = inl (Width.Bits16, e)
      at (inr a) (inl e) _ _ _ = inl (Width.Bits32, e)
      at (inr a) (inr b) (inl e) _ _ = inl (Width.Bits64, e)
      at (inr a) (inr b) (inr c) (inl e) _ = inl (Width.Bits24, e)
      at (inr a) (inr b) (inr c) (inr d) (inl e) = inl (Width.Bits8, e)
      at (inr a) (inr b) (inr c) (inr d) (inr f) = inr (λ w. none w) where
        none : (w : Width) → mark ≢ width_mark w
        none Width.Bits8 = f
        none Width.Bits16 = a
        none Width.Bits24 = d
        none Width.Bits32 = b
        none Width.Bits64 = c

byte_case : (mark : ℕ) (rest : List ℕ) → ItemCase (mark ∷ rest)
byte_case mark rest = at (below_or_not mark 64) (below_or_not mark 128) (below_or_not mark 192)
    (below_or_not mark 241) (below_or_not 253 mark) (width_or_none mark) where
      at : (mark < 64) ⊎ (64 ≤ mark) → (mark < 128) ⊎ (128 ≤ mark) → (mark < 192) ⊎ (192 ≤ mark) →
          (mark < 241) ⊎ (241 ≤ mark) → (253 < mark) ⊎ (mark ≤ 253) →
          ((w : Width) × (mark ≡ width_mark w)) ⊎ ((w : Width) → mark ≢ width_mark w) →
          ItemCase (mark ∷ rest)
      at (inl low) _ _ _ _ _ = text_case (mark ∷ []) rest mark (announces_short mark low)
      at (inr from) (inl to) _ _ _ _ = middle_case mark rest from to
      at (inr _) (inr from) (inl to) _ _ _ = long_case mark rest from to
      at (inr _) (inr _) (inr high) _ _ (inl w) = subst (λ (m : ℕ). ItemCase (m ∷ rest)) (sym w.1)
          (width_case w.0 rest)
      at (inr _) (inr _) (inr high) (inl below) _ (inr none) =
          ItemCase.Unknown mark rest (mark_unknown mark high (inl below) none) refl
      at (inr _) (inr _) (inr high) (inr from) (inl beyond) (inr none) =
          ItemCase.Unknown mark rest (mark_unknown mark high (inr beyond) none) refl
      at (inr _) (inr _) (inr high) (inr from) (inr to) (inr none) =
          let h = small_whole mark rest from to in
          ItemCase.Whole h.content (drop 1 (mark ∷ rest)) h.is_content h.whole

item_case : (bytes : List ℕ) → ItemCase bytes
item_case [] = ItemCase.Open item_nothing
item_case (mark ∷ rest) = byte_case mark rest

-- a length at the front, a part of one, or the end mark
data LengthCase (bytes : List ℕ) : Type 0 where
  Whole : (p : Previous) (more : List ℕ) → IsPrevious p → bytes ≡ previous_bytes p ++ more →
      LengthCase bytes
  Open : IsBegunLength bytes → LengthCase bytes
  End : (after : List ℕ) → bytes ≡ end_mark ∷ after → LengthCase bytes

four_case : (rest : List ℕ) → LengthCase (254 ∷ rest)
four_case [] = LengthCase.Open (four_begun [] (omega arith))
four_case (a ∷ []) = LengthCase.Open (four_begun (a ∷ []) (omega arith))
four_case (a ∷ b ∷ []) = LengthCase.Open (four_begun (a ∷ b ∷ []) (omega arith))
four_case (a ∷ b ∷ c ∷ []) = LengthCase.Open (four_begun (a ∷ b ∷ c ∷ []) (omega arith))
four_case (a ∷ b ∷ c ∷ d ∷ rest) = LengthCase.Whole
    (Previous.Four (a ∷ b ∷ c ∷ d ∷ [])) rest refl refl

length_case : (bytes : List ℕ) → AreBytes bytes → LengthCase bytes
length_case [] all = LengthCase.Open nothing_begun
length_case (byte ∷ rest) all = at (same_or_not byte 255) (same_or_not byte 254) where
  at : (byte ≡ 255) ⊎ (byte ≢ 255) → (byte ≡ 254) ⊎ (byte ≢ 254) → LengthCase (byte ∷ rest)
  at (inl e) _ = LengthCase.End rest (ap (λ (b : ℕ). b ∷ rest) e)
  at (inr _) (inl e) = subst (λ (b : ℕ). LengthCase (b ∷ rest)) (sym e) (four_case rest)
  at (inr no_end) (inr no_four) = LengthCase.Whole (Previous.Byte byte) rest
      (omega (arith, all.0)) refl

-- how entries stop
data Stop (tail : List ℕ) : Type 0 where
  Ends : (after : List ℕ) → tail ≡ end_mark ∷ after → Stop tail
  Length : IsBegunLength tail → Stop tail
  Item : (p : Previous) (rest : List ℕ) → IsPrevious p → IsBegunItem rest →
      tail ≡ previous_bytes p ++ rest → Stop tail
  Mark : (p : Previous) (mark : ℕ) (more : List ℕ) → IsPrevious p → IsUnknown mark →
      tail ≡ previous_bytes p ++ mark ∷ more → Stop tail

record Reading (bytes : List ℕ) : Type 0 where
  entries : List Entry
  tail : List ℕ
  each : AllByRecursion IsEntry entries
  stop : Stop tail
  whole : bytes ≡ entries_bytes entries ++ tail

stopped : (bytes : List ℕ) → Stop bytes → Reading bytes
stopped bytes stop = record { entries = []; tail = bytes; each = tt; stop = stop; whole = refl }

bytes_behind : (front rest : List ℕ) → AreBytes (front ++ rest) → AreBytes rest
bytes_behind [] rest all = all
bytes_behind (byte ∷ front) rest all = bytes_behind front rest all.1

one_more : (e : Entry) (bytes rest : List ℕ) → IsEntry e → bytes ≡ entry_bytes e ++ rest →
    Reading rest → Reading bytes
one_more e bytes rest is parts reading = record {
  entries = e ∷ reading.entries;
  tail = reading.tail;
  each = (is, reading.each);
  stop = reading.stop;
  whole = parts ∙ ap (λ (t : List ℕ). entry_bytes e ++ t) reading.whole
      ∙ sym (append_assoc (entry_bytes e) (entries_bytes reading.entries) reading.tail);
}

previous-some : (p : Previous) → 0 < length (previous_bytes p)
previous-some (Previous.Byte size) = omega arith
previous-some (Previous.Four digits) = omega arith

-- an entry takes a byte at least, so that what follows it is shorter
shorter : (bytes rest : List ℕ) (e : Entry) (fuel : ℕ) → length bytes ≤ suc fuel →
    bytes ≡ entry_bytes e ++ rest → length rest ≤ fuel
shorter bytes rest e fuel small parts =
    omega (
      arith,
      ap (λ (t : List ℕ). length t) parts,
      length-append
          (entry_bytes e) rest,
      length-append (previous_bytes e.previous)
          (content_bytes e.content),
      previous-some e.previous,
    )

reading : (fuel : ℕ) (bytes : List ℕ) → length bytes ≤ fuel → AreBytes bytes → Reading bytes
reading fuel [] small all = stopped [] (Stop.Length nothing_begun)
reading zero (byte ∷ bytes) small all = absurd (omega arith)
reading (suc fuel) (byte ∷ bytes) small all =
    at_length (length_case (byte ∷ bytes) all) (λ rest less are. reading fuel rest less are) where
      at_item : (p : Previous) (more : List ℕ) → IsPrevious p →
          byte ∷ bytes ≡ previous_bytes p ++ more →
          ((rest : List ℕ) → length rest ≤ fuel → AreBytes rest → Reading rest) → ItemCase more →
          Reading (byte ∷ bytes)
      at_item p more is parts later (ItemCase.Open begun) =
          stopped (byte ∷ bytes) (Stop.Item p more is begun parts)
      at_item p more is parts later (ItemCase.Unknown mark behind unknown first) =
          stopped (byte ∷ bytes) (Stop.Mark p mark behind is unknown (parts
          ∙ ap (λ (t : List ℕ). previous_bytes p ++ t) first))
      at_item p more is parts later (ItemCase.Whole c rest is_c whole) =
          let e : Entry = record { previous = p; content = c } in
          let is_e : IsEntry e = record { previous = is; content = is_c } in
          let all_parts : byte ∷ bytes ≡ entry_bytes e ++ rest =
          parts ∙ ap (λ (t : List ℕ). previous_bytes p ++ t) whole
          ∙ sym (append_assoc (previous_bytes p) (content_bytes c) rest) in
          one_more e (byte ∷ bytes) rest is_e all_parts
          (later rest (shorter (byte ∷ bytes) rest e fuel small all_parts)
          (bytes_behind (entry_bytes e) rest (subst AreBytes all_parts all)))

      at_length : LengthCase (byte ∷ bytes) → ((rest : List ℕ) → length rest ≤ fuel →
          AreBytes rest → Reading rest) → Reading (byte ∷ bytes)
      at_length (LengthCase.End after e) later = stopped (byte ∷ bytes) (Stop.Ends after e)
      at_length (LengthCase.Open begun) later = stopped (byte ∷ bytes) (Stop.Length begun)
      at_length (LengthCase.Whole p more is parts) later =
          at_item p more is parts later (item_case more)

-- what bytes are
abbrev pub Outcome : List ℕ → Type 0
Outcome bytes = ((items : List (List ℕ)) × IsZiplist bytes items) ⊎ ((place : ℕ)
    × IsFirstBad bytes place)

count_or_not : (stated count : ℕ) → IsCount stated count ⊎ (¬ IsCount stated count)
count_or_not stated count = at (same_or_not stated 65535) (same_or_not stated count) where
  at : (stated ≡ 65535) ⊎ (stated ≢ 65535) → (stated ≡ count) ⊎ (stated ≢ count) →
      IsCount stated count ⊎ (¬ IsCount stated count)
  at (inl any) _ = inl (inl any)
  at (inr _) (inl same) = inl (inr same)
  at (inr a) (inr b) = inr (λ is. elim is [ inl any ↦ a any | inr same ↦ b same ])

closed_outcome : (bytes : List ℕ) (entries : List Entry) (after : List ℕ) →
    Closed bytes entries after → Outcome bytes
closed_outcome bytes entries after closed =
    at_last (same_or_not (last_of bytes) (last_start entries))
    (count_or_not (count_of bytes) (length entries)) where
      at_after : (rest : List ℕ) → Closed bytes entries rest → Told bytes entries → Outcome bytes
      at_after [] closed told = inl (map item_of entries, closed-ziplist bytes entries closed told)
      at_after (byte ∷ more) closed told = inr
          (place_behind entries + 1, closed-after bytes entries byte more closed told)

      at_wrong : Counted bytes entries → (wrong : Option ℕ) →
          wrong_among 0 header_size entries ≡ wrong → Outcome bytes
      at_wrong counted (Some first) found = inr
          (first, closed-wrong bytes entries after first closed counted found)
      at_wrong counted None none = at_after after closed record { counted = counted; none = none }

      at_last : (last_of bytes ≡ last_start entries) ⊎ (last_of bytes ≢ last_start entries) →
          IsCount (count_of bytes) (length entries) ⊎
          (¬ IsCount (count_of bytes) (length entries)) → Outcome bytes
      at_last (inr other) _ = inr (4, closed-last bytes entries after closed other)
      at_last (inl last) (inr other) = inr (8, closed-count bytes entries after closed last other)
      at_last (inl last) (inl count) = at_wrong record { last = last; count = count }
          (wrong_among 0 header_size entries) refl

stop_outcome : (bytes : List ℕ) (entries : List Entry) (tail : List ℕ) →
    total_of bytes ≡ length bytes → Stands bytes entries tail → Stop tail → Outcome bytes
stop_outcome bytes entries tail total stands (Stop.Ends after e) =
    closed_outcome bytes entries after record {
      total = total;
      stands =
          subst (λ (t : List ℕ). Stands bytes entries t) e stands;
    }
stop_outcome bytes entries tail total stands (Stop.Length begun) =
    inr (
      _,
      breaks-first bytes entries tail _ _
          (breaks_length bytes entries tail record { total = total; stands = stands } begun),
    )
stop_outcome bytes entries tail total stands (Stop.Item p rest is begun e) =
    let torn : Torn bytes entries (previous_bytes p ++ rest) =
    record { total = total; stands = subst (λ (t : List ℕ). Stands bytes entries t) e stands }
    in
    inr (
      _,
      breaks-first bytes entries (previous_bytes p ++ rest) _ _
          (breaks_item bytes entries p rest is torn begun),
    )
stop_outcome bytes entries tail total stands (Stop.Mark p mark more is unknown e) =
    let torn : Torn bytes entries (previous_bytes p ++ mark ∷ more) =
    record { total = total; stands = subst (λ (t : List ℕ). Stands bytes entries t) e stands }
    in
    inr (
      _,
      breaks-first bytes entries (previous_bytes p ++ mark ∷ more) _ _
          (breaks_mark bytes entries p (mark ∷ more) is torn mark more unknown refl),
    )

pub either_outcome : (bytes : List ℕ) → AreBytes bytes → Outcome bytes
either_outcome bytes all = at (below_or_not (length bytes) 4)
    (same_or_not (total_of bytes) (length bytes)) (below_or_not (length bytes) 10) where
      at : (length bytes < 4) ⊎ (4 ≤ length bytes) →
          (total_of bytes ≡ length bytes) ⊎ (total_of bytes ≢ length bytes) →
          (length bytes < 10) ⊎ (10 ≤ length bytes) → Outcome bytes
      at (inl short) _ _ = inr (
        length bytes,
        header_missing bytes (omega arith)
            (λ there. absurd (omega arith)),
      )
      at (inr there) (inr other) _ = inr (0, header_total bytes there other)
      at (inr there) (inl total) (inl short) = inr
          (length bytes, header_missing bytes short (λ _. total))
      at (inr there) (inl total) (inr whole) =
          let body = bytes_behind (take 10 bytes) (drop 10 bytes)
          (subst AreBytes (sym (take-append-drop 10 bytes)) all) in
          let r = reading (length (drop 10 bytes)) (drop 10 bytes) (omega arith) body in
          stop_outcome bytes r.entries r.tail total record {
            header = whole;
            each = r.each;
            body =
                r.whole;
          } r.stop
