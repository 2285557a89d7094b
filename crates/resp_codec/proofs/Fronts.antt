-- What stands at the front of any bytes, and that it is one thing.
use Rattle.std.proofs.Common.{◌≡◌, ◌≢◌, ◌⊎◌, ℕ, zero, suc, ◌+◌, ◌^◌, ◌<◌, ◌≤◌, true, cond, eqb, List, [], ◌∷◌, ◌++◌, length, take, drop, get_or, slice_get, Option, Some, None, refl, sym, ap, subst, ◌∙◌, append-nil, arith, inl, inr}
use Rattle.std.specs.List.{flat_map}
use Rattle.std.specs.Fmt.{decimal}
use Rattle.std.proofs.lemmas.Bool.{cases_Bool, cases_lt, eqb-true, eqb-false, false≢true}
use Rattle.std.proofs.lemmas.List.{length_push}
use Rattle.resp_codec.specs.Marks.{crlf, header}
use Rattle.resp_codec.specs.Inline.{begins_array}
use Rattle.resp_codec.specs.Spelling.{bulk, multibulk}
use Rattle.resp_codec.specs.Faults.{IsHeaderText}
use Rattle.resp_codec.specs.inner.Line.{IsSearchEnd, IsFound}
use Rattle.resp_codec.specs.inner.Header.{Judges, IsHeaderLine}
use Rattle.resp_codec.specs.inner.Word.{JudgesWord}
use Rattle.resp_codec.specs.Array.{IsFront}
use Rattle.resp_codec.specs.declared.line.LineEnd.{LineEnd}
use Rattle.resp_codec.specs.declared.line.LineEnd.TheVariants as line_end
use Rattle.resp_codec.specs.declared.header.Header.{Header}
use Rattle.resp_codec.specs.declared.header.Header.TheVariants as head
use Rattle.resp_codec.specs.declared.word.Word.{Word}
use Rattle.resp_codec.specs.declared.word.Word.TheVariants as word
use Rattle.resp_codec.specs.declared.array.Array.{Array}
use Rattle.resp_codec.specs.declared.array.Array.TheVariants as array
use Rattle.core_types.specs.declared.bad_request.BadRequest.TheVariants.{MultibulkLength, BulkLength, ExpectedDollar, LineTooLong, NoLineEnd}
use Rattle.resp_codec.proofs.Cuts.{search_among}
use Rattle.resp_codec.proofs.Counts.{natural, natural-decimal, natural-some, Counted, count_read}
use Rattle.resp_codec.proofs.Judging.{Judged, judge}
use Rattle.resp_codec.proofs.Judging.Judged.{Took, Passed, Short, Wrong}
use Rattle.resp_codec.proofs.Verdicts.{spells_verdict, skips_verdict, bad_verdict}
use Rattle.resp_codec.proofs.ReaderHeaders.{Judges-endless, Judges-open, Judges-line, Judges-missing}
use Rattle.resp_codec.proofs.ReaderSteps.{mark_text, header_parts, empty_array, unfinished_length, due_length, bad_length, bad_mark}
use Rattle.resp_codec.proofs.Words.{JudgesWord-open, JudgesWord-missing, JudgesWord-whole, header_size}
use Rattle.resp_codec.proofs.Arrays.{HasRead, HasRead-push, HasRead-open, HasRead-bad, HasRead-whole, array-open, array-bad}

search_end : (bytes : List ℕ) → (end : ℕ) × IsSearchEnd 13 end bytes
search_end bytes =
    let found = search_among (λ byte. eqb byte 13) 65537 bytes in
    (found.end, record { searched = record { within = found.within; near = found.near; none = found.none }; there = λ inside near. eqb-true (get_or bytes found.end 0) 13 (found.there inside near) })

line_end_found : (bytes : List ℕ) (place : ℕ) → (answer : LineEnd) × IsFound bytes place answer
line_end_found bytes place =
    elim (cases_lt place (length bytes)) [
      | inr short ↦ (line_end.Open, inl short)
      | inl less ↦ elim (cases_Bool (eqb (get_or bytes place 0) 13)) [
        | inr other ↦ (line_end.Missing place, inl (refl, less, eqb-false (get_or bytes place 0) 13 other))
        | inl return ↦ elim (cases_lt (place + 1) (length bytes)) [
          | inr last ↦ (line_end.Open, inr (omega arith, eqb-true (get_or bytes place 0) 13 return))
          | inl more ↦ elim (cases_Bool (eqb (get_or bytes (place + 1) 0) 10)) [
            | inl feed ↦ (line_end.There, (omega arith, eqb-true (get_or bytes place 0) 13 return, eqb-true (get_or bytes (place + 1) 0) 10 feed))
            | inr other ↦ (line_end.Missing (place + 1), inr (refl, more, eqb-true (get_or bytes place 0) 13 return, eqb-false (get_or bytes (place + 1) 0) 10 other))
          ]
        ]
      ]
    ]

header_at : (bytes : List ℕ) (end : ℕ) → IsSearchEnd 13 end bytes → end ≢ 65537 → (found : LineEnd) → IsFound bytes end found → (answer : Header) × Judges bytes answer
header_at bytes end searched near line_end.Open found = (head.Open, Judges-open bytes end searched near found)
header_at bytes end searched near line_end.There found = (head.Line end, Judges-line bytes end searched near found)
header_at bytes end searched near (line_end.Missing at) found = (head.Bad NoLineEnd at, Judges-missing bytes end at searched near found)

header_judged : (bytes : List ℕ) → (answer : Header) × Judges bytes answer
header_judged bytes =
    let end = search_end bytes in
    elim (cases_Bool (eqb end.0 65537)) [
      | inl far ↦ (head.Bad LineTooLong 0, Judges-endless bytes (subst (λ (k : ℕ). IsSearchEnd 13 k bytes) (eqb-true end.0 65537 far) end.1))
      | inr near ↦
          let found = line_end_found bytes end.0 in
          header_at bytes end.0 end.1 (eqb-false end.0 65537 near) found.0 found.1
    ]

-- a text is the decimal of a number up to `most`, or of none
abbrev Numbered : ℕ → List ℕ → Type 0
Numbered most text = ((n : ℕ) × (n ≤ most) × (text ≡ decimal n)) ⊎ ((n : ℕ) → n ≤ most → text ≢ decimal n)

numbered_as : (most : ℕ) (text : List ℕ) (o : Option ℕ) → most < 2 ^ 64 → natural most text ≡ o → Numbered most text
numbered_as most text None small is = inr (λ n few e. let some = natural-decimal most n text small few e in cc)
numbered_as most text (Some n) small is = let number = natural-some most n text is in inl (n, number.0, number.1)

numbered : (most : ℕ) (text : List ℕ) → most < 2 ^ 64 → Numbered most text
numbered most text small = numbered_as most text (natural most text) small refl

word_bytes : (bytes : List ℕ) (start len : ℕ) → start ≤ length bytes → len ≤ 536870912 → bytes ≡ header 36 len ++ drop start bytes → (found : LineEnd) → IsFound (drop start bytes) len found → (answer : Word) × JudgesWord bytes answer
word_bytes bytes start len within small parts line_end.Open found = (word.Open, JudgesWord-open bytes start len small parts found)
word_bytes bytes start len within small parts (line_end.Missing at) found = (word.Bad NoLineEnd (start + at), JudgesWord-missing bytes start len at within small parts found)
word_bytes bytes start len within small parts line_end.There found =
    (word.Whole start len, JudgesWord-whole bytes start len within small parts found)

word_length : (bytes : List ℕ) (end : ℕ) → slice_get bytes 0 ≡ Some 36 → IsHeaderLine bytes end → Numbered 536870912 (drop 1 (take end bytes)) → (answer : Word) × JudgesWord bytes answer
word_length bytes end mark line (inl (len, small, e)) =
    let parts : bytes ≡ header 36 len ++ drop (end + 2) bytes = header_parts 36 end bytes mark (λ e. omega arith) line ∙ ap (λ (text : List ℕ). 36 ∷ text ++ crlf ++ drop (end + 2) bytes) e in
    let found = line_end_found (drop (end + 2) bytes) len in
    word_bytes bytes (end + 2) len line.within small parts found.0 found.1
word_length bytes end mark line (inr no_length) =
    (word.Bad BulkLength 0, (omega (arith, line.within), λ before begun. bad_length before bytes end (length before + 0) begun mark line no_length (omega arith)))

word_header : (bytes : List ℕ) → slice_get bytes 0 ≡ Some 36 → (found : Header) → Judges bytes found → (answer : Word) × JudgesWord bytes answer
word_header bytes mark head.Open judged = (word.Open, λ before begun. judged before (due_length before bytes begun mark))
word_header bytes mark (head.Bad kind at) judged = (word.Bad kind at, (judged.0, λ before begun. judged.1 before (due_length before bytes begun mark)))
word_header bytes mark (head.Line end) judged = word_length bytes end mark judged (numbered 536870912 (drop 1 (take end bytes)) (omega arith))

word_judged : (bytes : List ℕ) → (answer : Word) × JudgesWord bytes answer
word_judged [] = (word.Open, λ before begun. unfinished_length before [] begun refl)
word_judged (byte ∷ bytes) =
    elim (cases_Bool (eqb byte 36)) [
      | inl mark ↦
          let judged = header_judged (byte ∷ bytes) in
          word_header (byte ∷ bytes) (ap (λ (b : ℕ). Some b) (eqb-true byte 36 mark)) judged.0 judged.1
      | inr other ↦
          (word.Bad (ExpectedDollar byte) 0, (omega arith, λ before begun. bad_mark before (byte ∷ bytes) byte (length before + 0) begun refl (eqb-false byte 36 other) (omega arith)))
    ]

-- the next word, and what follows it
word_next : (bytes : List ℕ) (count : ℕ) (words : List (List ℕ)) (place : ℕ) → HasRead bytes count words place → length words < count → (found : Word) → JudgesWord (drop place bytes) found →
    ((word : List ℕ) (size : ℕ) → HasRead bytes count (words ++ word ∷ []) (place + size) → (answer : Array) × IsFront bytes answer) → (answer : Array) × IsFront bytes answer
word_next bytes count words place read more word.Open judged further = (array.Unfinished, HasRead-open bytes count words place read more judged)
word_next bytes count words place read more (word.Bad kind at) judged further = (array.Bad kind (place + at), HasRead-bad bytes count words place kind at read more judged)
word_next bytes count words place read more (word.Whole start len) judged further = further (take len (drop start (drop place bytes))) (start + len + 2) (HasRead-push bytes count words (take len (drop start (drop place bytes))) place (start + len + 2) read more judged.1)

-- this many words are left to be read
words_judged : (n : ℕ) (bytes : List ℕ) (count : ℕ) (words : List (List ℕ)) (place : ℕ) → HasRead bytes count words place → 0 < count → count ≡ length words + n → (answer : Array) × IsFront bytes answer
words_judged zero bytes count words place read some left = (array.Request words place, HasRead-whole bytes count words place read some (omega arith))
words_judged (suc n) bytes count words place read some left =
    let judged = word_judged (drop place bytes) in
    word_next bytes count words place read (omega arith) judged.0 judged.1 (λ word size further. words_judged n bytes count (words ++ word ∷ []) (place + size) further some (omega (arith, length_push words word)))

array_count : (bytes : List ℕ) (end : ℕ) → begins_array bytes ≡ true → slice_get bytes 0 ≡ Some 42 → IsHeaderLine bytes end → Counted (drop 1 (take end bytes)) → (answer : Array) × IsFront bytes answer
array_count bytes end is mark line (inl (zero, none)) =
    (array.Empty, record { front = take end bytes ++ crlf; more = drop (end + 2) bytes; empty = empty_array end bytes mark line none; whole = line.parts })
array_count bytes end is mark line (inl (suc n, (few, e))) =
    let parts : bytes ≡ header 42 (suc n) ++ drop (end + 2) bytes = header_parts 42 end bytes mark (λ e. omega arith) line ∙ ap (λ (text : List ℕ). 42 ∷ text ++ crlf ++ drop (end + 2) bytes) e in
    let begins : header 42 (suc n) ≡ header 42 (suc n) ++ flat_map bulk [] = sym (append-nil (header 42 (suc n))) in
    let read : HasRead bytes (suc n) [] (end + 2) = record {
      few = few;
      each = tt;
      counted = omega arith;
      within = line.within;
      place_is = sym (header_size 42 bytes (end + 2) (suc n) line.within parts) ∙ ap (λ (front : List ℕ). length front) begins;
      parts = parts ∙ ap (λ (front : List ℕ). front ++ drop (end + 2) bytes) begins;
    } in
    words_judged (suc n) bytes (suc n) [] (end + 2) read (omega arith) (omega arith)
array_count bytes end is mark line (inr no_count) = (
  array.Bad MultibulkLength 0,
  (
    record {
      array = is;
      bad = record {
        before = [];
        here = bytes;
        offset = 0;
        whole = refl;
        due = (refl, is);
        wrong = record {
          text = drop 1 (take end bytes);
          more = drop (end + 2) bytes;
          line = header_parts 42 end bytes mark (λ e. omega arith) line;
          is_text = subst (λ (text : List ℕ). IsHeaderText text) (mark_text 42 end bytes mark (λ e. omega arith) line) line.is_text;
          none = no_count;
          place = refl;
        };
        place = refl;
      };
    },
    omega (arith, line.within),
  ),
)

array_header : (bytes : List ℕ) → begins_array bytes ≡ true → slice_get bytes 0 ≡ Some 42 → (found : Header) → Judges bytes found → (answer : Array) × IsFront bytes answer
array_header bytes is mark head.Open judged = (array.Unfinished, array-open bytes is judged)
array_header bytes is mark (head.Bad kind at) judged = (array.Bad kind at, array-bad bytes kind at is judged)
array_header bytes is mark (head.Line end) judged = array_count bytes end is mark judged (count_read (drop 1 (take end bytes)))

pub some_front : (bytes : List ℕ) → 0 < length bytes → (answer : Array) × IsFront bytes answer
some_front [] some = absurd (omega arith)
some_front (byte ∷ bytes) some =
    elim (cases_Bool (eqb byte 42)) [
      | inl is ↦
          let judged = header_judged (byte ∷ bytes) in
          array_header (byte ∷ bytes) is (ap (λ (b : ℕ). Some b) (eqb-true byte 42 is)) judged.0 judged.1
      | inr other ↦ (array.Other, (some, other))
    ]

-- what more bytes may complete is nothing else
no_other : (bytes : List ℕ) (answer : Array) → IsFront bytes array.Unfinished → IsFront bytes answer → answer ≡ array.Unfinished
no_other bytes (array.Request words size) open_end front =
    absurd (open_end.unfinished.no_request (multibulk words) front.0.more words (front.0.request, inl refl) front.0.whole)
no_other bytes array.Empty open_end front = absurd (open_end.unfinished.no_skip front.front front.more (inl front.empty) front.whole)
no_other bytes array.Other open_end front = absurd (false≢true (sym front.1 ∙ open_end.array))
no_other bytes array.Unfinished open_end front = refl
no_other bytes (array.Bad kind at) open_end front = absurd (open_end.unfinished.no_fault kind at front.0.bad)

-- the front as it is judged
abbrev as_array : Judged → Array
as_array (Took words size) = array.Request words size
as_array (Passed size) = array.Empty
as_array Short = array.Unfinished
as_array (Wrong kind at) = array.Bad kind at

abbrev as_judged : List ℕ → Array
as_judged bytes = cond (begins_array bytes) (as_array (judge bytes)) array.Other

settled : (bytes : List ℕ) (answer : Array) → IsFront bytes answer → (answer ≡ array.Unfinished) ⊎ (answer ≡ as_judged bytes)
settled bytes (array.Request words size) front =
    let is : begins_array bytes ≡ true = ap begins_array front.0.whole in
    let took : judge bytes ≡ Took words size = ap judge front.0.whole ∙ spells_verdict (multibulk words) front.0.more words (front.0.request, inl refl) ∙ ap (λ (k : ℕ). Took words k) (sym front.1) in
    inr (rw (is, took) refl)
settled bytes array.Empty front =
    let is : begins_array bytes ≡ true = ap begins_array (front.whole ∙ ap (λ (t : List ℕ). t ++ front.more) front.empty.whole) in
    let passed : judge bytes ≡ Passed (length front.front) = ap judge front.whole ∙ skips_verdict front.front front.more (inl front.empty) in
    inr (rw (is, passed) refl)
settled bytes array.Other front = inr (rw front.1 refl)
settled bytes array.Unfinished front = inl refl
settled bytes (array.Bad kind at) front = inr (rw (front.0.array, bad_verdict bytes kind at front.0.bad) refl)

pub one_front : (bytes : List ℕ) (answer other : Array) → IsFront bytes answer → IsFront bytes other → answer ≡ other
one_front bytes answer other front of_other =
    elim (settled bytes answer front) [
      | inl open_end ↦ open_end ∙ sym (no_other bytes other (subst (λ (a : Array). IsFront bytes a) open_end front) of_other)
      | inr is ↦ elim (settled bytes other of_other) [
        | inl open_end ↦ no_other bytes answer (subst (λ (a : Array). IsFront bytes a) open_end of_other) front ∙ sym open_end
        | inr same ↦ is ∙ sym same
      ]
    ]
