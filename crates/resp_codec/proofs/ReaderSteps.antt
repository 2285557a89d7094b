-- What the part that is due says of the stream.
use Rattle.std.proofs.Common.{◌≡◌, ◌≢◌, ℕ, zero, suc, ◌+◌, ◌-◌, ◌<◌, ◌≤◌, false, List, [], ◌∷◌, ◌++◌, length, take, drop, get_or, slice_get, Some, None, refl, sym, ap, subst, ◌∙◌, append_assoc, arith, inl, inr}
use Rattle.std.specs.List.{flat_map, AllByRecursion, list_any}
use Rattle.std.proofs.lemmas.List.{length-append, length-take, length-take-le, length-drop, length_push, flat_map_more, drop_all, drop_more, take_at, get_or-append-add}
use Rattle.std.proofs.Math.Seq.{drop-append-add}
use Rattle.resp_codec.specs.Marks.{crlf, header}
use Rattle.resp_codec.specs.Inline.{begins_array, IsLine, is_quote, line_words}
use Rattle.resp_codec.specs.Spelling.{bulk, multibulk, IsWord, IsRequest, IsInline, IsEmptyArray}
use Rattle.core_types.specs.declared.bad_request.BadRequest.TheVariants.{BulkLength, ExpectedDollar, LineTooLong, NoLineEnd, Quote}
use Rattle.resp_codec.specs.Faults.{IsBegun, HeaderDue, BadWordEnd, BadAt, IsNoLength, IsHeaderText}
use Rattle.resp_codec.specs.Stream.{IsUnfinished, SkipsOnly, Takes}
use Rattle.resp_codec.specs.inner.Number.{IsNoneOrFewer}
use Rattle.resp_codec.specs.inner.Header.{IsHeaderLine}
use Rattle.resp_codec.specs.inner.FirstQuote.{IsFirstQuote}
use Rattle.resp_codec.specs.declared.line.LineEnd.TheVariants as found
use Rattle.resp_codec.specs.inner.Line.{IsFound, IsSearchEnd, IsInlineLine}
use Rattle.resp_codec.specs.inner.Underway.{HasMore}
use Rattle.resp_codec.proofs.Judging.{judge, judge-open, piece-length, piece_end}
use Rattle.resp_codec.proofs.Judging.Piece.{NoWord}
use Rattle.resp_codec.proofs.Verdicts.{IsUnfinished-from_short}
use Rattle.resp_codec.proofs.ReaderHeaders.{one_at, two_at}
use Rattle.resp_codec.proofs.InlineWords.{IsRequest-line}
use Rattle.resp_codec.proofs.Passing.{stream, SkipsOnly-one, Takes-here}

some_none : (a : ℕ) → Some a ≢ None
some_none a e = cc

some_injective : (a b : ℕ) → Some a ≡ Some b → a ≡ b
some_injective a b e = cc

-- a header's text is its mark and what a number is read from
pub mark_text : (mark end : ℕ) (input : List ℕ) → slice_get input 0 ≡ Some mark → mark ≢ 13 → IsHeaderLine input end → take end input ≡ mark ∷ drop 1 (take end input)
mark_text mark end [] first other line = absurd (some_none mark (sym first))
mark_text mark zero (byte ∷ input) first other line =
    let same : byte ≡ mark = some_injective byte mark first in
    absurd (other (sym same ∙ ap (λ (bytes : List ℕ). get_or bytes 0 0) line.parts))
mark_text mark (suc end) (byte ∷ input) first other line = ap (λ (b : ℕ). b ∷ take end input) (some_injective byte mark first)

-- the same text, cut out of the line
pub number_text : (mark end : ℕ) (input : List ℕ) → slice_get input 0 ≡ Some mark → mark ≢ 13 → IsHeaderLine input end → drop 1 (take end input) ≡ take (end - 1) (drop 1 input)
number_text mark end [] first other line = absurd (some_none mark (sym first))
number_text mark zero (byte ∷ input) first other line = refl
number_text mark (suc end) (byte ∷ input) first other line =
    let same : end ≡ suc end - 1 = omega arith in
    ap (λ (k : ℕ). take k input) same

pub header_parts : (mark end : ℕ) (input : List ℕ) → slice_get input 0 ≡ Some mark → mark ≢ 13 → IsHeaderLine input end → input ≡ mark ∷ drop 1 (take end input) ++ crlf ++ drop (end + 2) input
header_parts mark end input first other line =
    line.parts ∙ ap (λ (text : List ℕ). text ++ crlf ++ drop (end + 2) input) (mark_text mark end input first other line)

-- an array of no words
pub empty_array : (end : ℕ) (input : List ℕ) → slice_get input 0 ≡ Some 42 → IsHeaderLine input end → IsNoneOrFewer (drop 1 (take end input)) → IsEmptyArray (take end input ++ crlf)
empty_array end input first line none = record {
  count = none.count;
  none = none.none;
  fits = none.fits;
  whole = ap (λ (text : List ℕ). text ++ crlf) (mark_text 42 end input first (λ e. omega arith) line ∙ ap (λ (digits : List ℕ). 42 ∷ digits) none.text_is);
}

-- and is skipped
pub skips_count : (passed end : ℕ) (input : List ℕ) → slice_get input 0 ≡ Some 42 → IsHeaderLine input end → IsNoneOrFewer (drop 1 (take end input)) → SkipsOnly (stream passed input) (stream (passed + (end + 2)) (drop (end + 2) input))
skips_count passed end input first line none =
    let front = take end input ++ crlf in
    let size : length front ≡ end + 2 = omega (arith, length-append (take end input) crlf, length-take-le end input (omega (arith, line.within))) in
    SkipsOnly-one passed (passed + (end + 2)) input front (drop (end + 2) input) line.parts (omega arith) (inl (empty_array end input first line none))

pub bad_length : (before input : List ℕ) (end at : ℕ) → IsBegun before → slice_get input 0 ≡ Some 36 → IsHeaderLine input end → IsNoLength (drop 1 (take end input)) → at ≡ length before → BadAt (before ++ input) BulkLength at
bad_length before input end at begun first line no_length place = record {
  before = before;
  here = input;
  offset = 0;
  whole = refl;
  due = begun;
  wrong = record {
    text = drop 1 (take end input);
    more = drop (end + 2) input;
    line = header_parts 36 end input first (λ e. omega arith) line;
    is_text = subst (λ (t : List ℕ). IsHeaderText t) (mark_text 36 end input first (λ e. omega arith) line) line.is_text;
    none = no_length;
    place = refl;
  };
  place = omega (arith, place);
}

first_byte : (input : List ℕ) (byte : ℕ) → slice_get input 0 ≡ Some byte → input ≡ byte ∷ drop 1 input
first_byte [] byte first = absurd (some_none byte (sym first))
first_byte (b ∷ input) byte first = ap (λ (b : ℕ). b ∷ input) (some_injective b byte first)

pub bad_mark : (before input : List ℕ) (byte at : ℕ) → IsBegun before → slice_get input 0 ≡ Some byte → byte ≢ 36 → at ≡ length before → BadAt (before ++ input) (ExpectedDollar byte) at
bad_mark before input byte at begun first other place = record {
  before = before;
  here = input;
  offset = 0;
  whole = refl;
  due = begun;
  wrong = record { more = drop 1 input; begins = first_byte input byte first; other = other; place = refl };
  place = omega (arith, place);
}

pub due_length : (before input : List ℕ) → IsBegun before → slice_get input 0 ≡ Some 36 → HeaderDue before input
due_length before [] begun first = absurd (some_none 36 (sym first))
due_length before (byte ∷ input) begun first = inr (begun, (input, ap (λ (b : ℕ). b ∷ input) (some_injective byte 36 first)))

pub IsBegun-words : (count : ℕ) (words : List (List ℕ)) → HasMore count words → IsBegun (header 42 count ++ flat_map bulk words)
IsBegun-words count words more = record { count = count; words = words; few = more.few; more = more.more; each = more.each; bytes = refl }

-- nothing of the next word came
pub unfinished_length : (before input : List ℕ) → IsBegun before → slice_get input 0 ≡ None → IsUnfinished (before ++ input)
unfinished_length before [] begun none = IsUnfinished-from_short (before ++ []) (judge-open before [] begun refl)
unfinished_length before (byte ∷ input) begun none = absurd (some_none byte none)

-- where a word is due
abbrev pub word_front : ℕ → List (List ℕ) → ℕ → List ℕ
word_front count done len = header 42 count ++ flat_map bulk done ++ header 36 len

open_piece : (input : List ℕ) (len size : ℕ) → IsFound input len found.Open → piece_end (take len input) (drop len input) size ≡ NoWord
open_piece input len size (inl short) = rw (drop_all len input short) refl
open_piece input len size (inr (last, return)) =
    let rest : drop len input ≡ 13 ∷ [] = drop_more input len 0 (omega arith) ∙ ap (λ (more : List ℕ). get_or input len 0 ∷ more) (drop_all (len + 1) input (omega arith)) ∙ ap (λ (b : ℕ). b ∷ []) return in
    rw rest refl

pub unfinished_word : (before input : List ℕ) (len : ℕ) → IsBegun before → len ≤ 536870912 → IsFound input len found.Open → IsUnfinished (before ++ header 36 len ++ input)
unfinished_word before input len begun small open_end =
    IsUnfinished-from_short (before ++ header 36 len ++ input) (ap judge (append_assoc before (header 36 len) input)
    ∙ judge-open before (header 36 len ++ input) begun (piece-length len input small ∙ open_piece input len (length (header 36 len) + len) open_end))

-- a word's bytes are there, and at this place of what follows its header stands no CR, or no LF
-- behind one
word_end : (input : List ℕ) (len place : ℕ) → len ≤ 536870912 → IsFound input len (found.Missing place) → BadWordEnd (header 36 len ++ input) (length (header 36 len) + place)
word_end input len place small (inl (same, less, other)) =
    let word = take len input in
    let size : length word ≡ len = length-take-le len input (omega arith) in
    let byte = get_or input len 0 in
    record {
      word = word;
      end = [];
      byte = byte;
      more = drop (len + 1) input;
      is_word = omega arith;
      all = ap (λ (k : ℕ). header 36 k ++ input) (sym size) ∙ ap (λ (t : List ℕ). header 36 (length word) ++ t) (one_at input len byte (omega arith) refl);
      other = inl (refl, λ e. other (ap (λ (k : ℕ). get_or input k 0) same ∙ e));
      place = omega (arith, size, length-append (header 36 (length word)) (word ++ []), length-append word [], ap (λ (k : ℕ). length (header 36 k)) size);
    }
word_end input len place small (inr (next, less, return, other)) =
    let word = take len input in
    let size : length word ≡ len = length-take-le len input (omega arith) in
    let byte = get_or input (len + 1) 0 in
    record {
      word = word;
      end = 13 ∷ [];
      byte = byte;
      more = drop (len + 2) input;
      is_word = omega arith;
      all = ap (λ (k : ℕ). header 36 k ++ input) (sym size) ∙ ap (λ (t : List ℕ). header 36 (length word) ++ t) (two_at input len 13 byte (omega arith) return refl);
      other = inr (refl, λ e. other (ap (λ (k : ℕ). get_or input k 0) next ∙ e));
      place = omega (arith, size, length-append (header 36 (length word)) (word ++ 13 ∷ []), length-append word (13 ∷ []), ap (λ (k : ℕ). length (header 36 k)) size);
    }

pub bad_word_end : (before input : List ℕ) (len place : ℕ) → IsBegun before → len ≤ 536870912 → IsFound input len (found.Missing place) → BadAt (before ++ header 36 len ++ input) NoLineEnd (length (before ++ header 36 len) + place)
bad_word_end before input len place begun small missing = inr record {
  before = before;
  here = header 36 len ++ input;
  offset = length (header 36 len) + place;
  whole = append_assoc before (header 36 len) input;
  due = begun;
  wrong = word_end input len place small missing;
  place = omega (arith, length-append before (header 36 len));
}

pub long_line : (input : List ℕ) (at : ℕ) → begins_array input ≡ false → IsSearchEnd 10 65537 input → at ≡ 0 → BadAt input LineTooLong at
long_line input at no_array searched place = inr record {
  before = [];
  here = input;
  offset = 0;
  whole = refl;
  due = (refl, no_array);
  wrong = record { long = searched.searched.within; unbroken = searched.searched.none; place = refl };
  place = omega (arith, place);
}

inline : (end : ℕ) (input : List ℕ) (words : List (List ℕ)) → IsInlineLine input end → list_any is_quote (take end input) ≡ false → words ≡ line_words (take end input) → IsInline (take end input ++ 10 ∷ []) words
inline end input words line plain words_are = record { line = take end input; whole = refl; is_line = line.is_line; plain = plain; words_are = words_are }

line_parts : (end : ℕ) (input : List ℕ) → IsInlineLine input end → input ≡ take end input ++ 10 ∷ [] ++ drop (end + 1) input
line_parts end input line = line.parts ∙ sym (append_assoc (take end input) (10 ∷ []) (drop (end + 1) input))

line_size : (end : ℕ) (input : List ℕ) → IsInlineLine input end → length (take end input ++ 10 ∷ []) ≡ end + 1
line_size end input line = omega (arith, length-append (take end input) (10 ∷ []), length-take-le end input (omega (arith, line.within)))

pub takes_line : (passed end : ℕ) (input : List ℕ) (words : List (List ℕ)) → IsInlineLine input end → list_any is_quote (take end input) ≡ false → words ≡ line_words (take end input) → 0 < length words →
    Takes (stream passed input) (stream (passed + (end + 1)) (drop (end + 1) input)) words
takes_line passed end input words line plain words_are some =
    let request : IsRequest words = subst (λ (ws : List (List ℕ)). IsRequest ws) (sym words_are) (IsRequest-line (take end input) line.is_line.short (rw words_are at some)) in
    Takes-here passed (passed + (end + 1)) input (take end input ++ 10 ∷ []) (drop (end + 1) input) words (line_parts end input line) (omega (arith, line_size end input line)) (request, inr (inline end input words line plain words_are))

pub skips_line : (passed end : ℕ) (input : List ℕ) → IsInlineLine input end → list_any is_quote (take end input) ≡ false → [] ≡ line_words (take end input) → SkipsOnly (stream passed input) (stream (passed + (end + 1)) (drop (end + 1) input))
skips_line passed end input line plain words_are =
    SkipsOnly-one passed (passed + (end + 1)) input (take end input ++ 10 ∷ []) (drop (end + 1) input) (line_parts end input line) (omega (arith, line_size end input line)) (inr (inline end input [] line plain words_are))

-- a whole line begins no multibulk
line_due : (end : ℕ) (input : List ℕ) → IsInlineLine input end → begins_array input ≡ false
line_due zero input line = ap begins_array line.parts
line_due (suc end) [] line = refl
line_due (suc end) (byte ∷ input) line = line.is_line.no_array

pub bad_quote : (input : List ℕ) (end place at : ℕ) → IsInlineLine input end → IsFirstQuote (take end input) (Some place) → at ≡ place → BadAt input Quote at
bad_quote input end place at line found same =
    let text = take end input in
    let quote = get_or text place 0 in
    let parts : text ≡ take place text ++ quote ∷ drop (place + 1) text = one_at text place quote (omega (arith, found.0)) refl in
    record {
      before = [];
      here = input;
      offset = place;
      whole = refl;
      due = (refl, line_due end input line);
      wrong = record {
        front = take place text;
        quote = quote;
        back = drop (place + 1) text;
        more = drop (end + 1) input;
        line = line.parts ∙ ap (λ (t : List ℕ). t ++ 10 ∷ drop (end + 1) input) parts;
        is_line = subst (λ (t : List ℕ). IsLine t) parts line.is_line;
        quoted = found.2;
        first = found.1;
        place = omega (arith, length-take-le place text (omega (arith, found.0)));
      };
      place = omega (arith, same);
    }

line_there : (input : List ℕ) (len : ℕ) → IsFound input len found.There → input ≡ take len input ++ crlf ++ drop (len + 2) input
line_there input len there = two_at input len 13 10 there.0 there.1 there.2 ∙ sym (append_assoc (take len input) crlf (drop (len + 2) input))

-- the header of a word, its bytes and CR LF are its bulk string
pub word_whole : (input : List ℕ) (len : ℕ) → IsFound input len found.There → header 36 len ++ input ≡ bulk (take len input) ++ drop (len + 2) input
word_whole input len there =
    let word = take len input in
    let long : length word ≡ len = length-take-le len input (omega (arith, there.0)) in
    ap (λ (k : ℕ). header 36 k ++ input) (sym long) ∙ ap (λ (t : List ℕ). header 36 (length word) ++ t) (line_there input len there) ∙ sym (append_assoc (header 36 (length word)) (word ++ crlf) (drop (len + 2) input))

-- a whole word goes from what was not read to what was
pub bulk-push : (count : ℕ) (done : List (List ℕ)) (word more : List ℕ) → header 42 count ++ flat_map bulk done ++ (bulk word ++ more) ≡ header 42 count ++ flat_map bulk (done ++ word ∷ []) ++ more
bulk-push count done word more =
    sym (append_assoc (header 42 count ++ flat_map bulk done) (bulk word) more) ∙ ap (λ (t : List ℕ). t ++ more) (flat_map_more bulk (header 42 count) done word)

pub begun-push : (count len : ℕ) (done : List (List ℕ)) (input : List ℕ) → IsFound input len found.There →
    word_front count done len ++ input ≡ header 42 count ++ flat_map bulk (done ++ take len input ∷ []) ++ drop (len + 2) input
begun-push count len done input there =
    let front = header 42 count ++ flat_map bulk done in
    append_assoc front (header 36 len) input ∙ ap (λ (t : List ℕ). front ++ t) (word_whole input len there) ∙ bulk-push count done (take len input) (drop (len + 2) input)

pub AllByRecursion-push : (done : List (List ℕ)) (w : List ℕ) → AllByRecursion IsWord done → IsWord w → AllByRecursion IsWord (done ++ w ∷ [])
AllByRecursion-push [] w each small = (small, tt)
AllByRecursion-push (x ∷ done) w each small = (each.0, AllByRecursion-push done w each.1 small)

-- with its last word a request is whole
pub takes_last : (passed read count len : ℕ) (done : List (List ℕ)) (input : List ℕ) → HasMore count done → len ≤ 536870912 → IsFound input len found.There → read ≡ length (word_front count done len) → count ≤ length (done ++ take len input ∷ []) →
    Takes (stream passed (word_front count done len ++ input)) (stream (passed + (read + (len + 2))) (drop (len + 2) input)) (done ++ take len input ∷ [])
takes_last passed read count len done input begun small there read_is whole =
    let words = done ++ take len input ∷ [] in
    let count_is : count ≡ length words = omega (arith, begun.more, length_push done (take len input)) in
    let parted : word_front count done len ++ input ≡ multibulk words ++ drop (len + 2) input =
    begun-push count len done input there ∙ ap (λ (k : ℕ). header 42 k ++ flat_map bulk words ++ drop (len + 2) input) count_is in
    let request : IsRequest words = record {
      some = omega (arith, begun.more);
      few = omega (arith, begun.few);
      each = AllByRecursion-push done (take len input) begun.each (omega (arith, length-take len input));
    } in
    Takes-here passed (passed + (read + (len + 2))) (word_front count done len ++ input) (multibulk words) (drop (len + 2) input) words parted
    (omega (arith, there.0, ap (λ (bytes : List ℕ). length bytes) parted, length-append (word_front count done len) input, length-append (multibulk words) (drop (len + 2) input), length-drop (len + 2) input)) (request, inl refl)

-- behind the bytes of a word stands what is found there
byte_behind : (word input : List ℕ) (len k : ℕ) → length word ≡ len → get_or (word ++ input) (len + k) 0 ≡ get_or input k 0
byte_behind word input len k size = rw (← size) (get_or-append-add word input k 0)

first_behind : (word input : List ℕ) (len : ℕ) → length word ≡ len → get_or (word ++ input) len 0 ≡ get_or input 0 0
first_behind word input len size =
    let here : len ≡ len + 0 = omega arith in
    ap (λ (k : ℕ). get_or (word ++ input) k 0) here ∙ byte_behind word input len 0 size

pub found_behind : (word input : List ℕ) (len place : ℕ) → length word ≡ len → IsFound input 0 (found.Missing place) → IsFound (word ++ input) len (found.Missing (len + place))
found_behind word input len place size (inl (same, less, other)) =
    inl (omega (arith, same), omega (arith, length-append word input), λ e. other (sym (byte_behind word input len place size) ∙ e))
found_behind word input len place size (inr (next, less, return, other)) =
    inr (omega (arith, next), omega (arith, length-append word input), first_behind word input len size ∙ return, λ e. other (sym (byte_behind word input len place size) ∙ e))

pub open_behind : (word input : List ℕ) (len : ℕ) → length word ≡ len → IsFound input 0 found.Open → IsFound (word ++ input) len found.Open
open_behind word input len size (inl none) = inl (omega (arith, length-append word input))
open_behind word input len size (inr (last, return)) = inr (omega (arith, length-append word input), first_behind word input len size ∙ return)

there_behind : (word input : List ℕ) (len : ℕ) → length word ≡ len → IsFound input 0 found.There → IsFound (word ++ input) len found.There
there_behind word input len size (long, return, feed) =
    (omega (arith, length-append word input), first_behind word input len size ∙ return, byte_behind word input len 1 size ∙ feed)

gathered_parts : (word input : List ℕ) (len : ℕ) → length word ≡ len → (take len (word ++ input) ≡ word) × (drop (len + 2) (word ++ input) ≡ drop 2 input)
gathered_parts word input len size = (take_at word input len size, rw (← size) (drop-append-add word input 2))

pub begun-gathered : (count len : ℕ) (done : List (List ℕ)) (word input : List ℕ) → length word ≡ len → IsFound input 0 found.There →
    word_front count done len ++ (word ++ input) ≡ header 42 count ++ flat_map bulk (done ++ word ∷ []) ++ drop 2 input
begun-gathered count len done word input size there =
    let parts = gathered_parts word input len size in
    begun-push count len done (word ++ input) (there_behind word input len size there)
    ∙ ap (λ (w : List ℕ). header 42 count ++ flat_map bulk (done ++ w ∷ []) ++ drop (len + 2) (word ++ input)) parts.0 ∙ ap (λ (t : List ℕ). header 42 count ++ flat_map bulk (done ++ word ∷ []) ++ t) parts.1

pub takes_gathered : (passed read count len : ℕ) (done : List (List ℕ)) (word input : List ℕ) → HasMore count done → len ≤ 536870912 → length word ≡ len → IsFound input 0 found.There → read ≡ length (word_front count done len) → count ≤ length (done ++ word ∷ []) →
    Takes (stream passed (word_front count done len ++ (word ++ input))) (stream (passed + (read + (len + 2))) (drop 2 input)) (done ++ word ∷ [])
takes_gathered passed read count len done word input begun small size there read_is whole =
    let parts = gathered_parts word input len size in
    let taken = takes_last passed read count len done (word ++ input) begun small (there_behind word input len size there) read_is (rw parts.0 whole) in
    subst (λ (t : List ℕ). Takes (stream passed (word_front count done len ++ (word ++ input))) (stream (passed + (read + (len + 2))) t) (done ++ word ∷ [])) parts.1
    (subst (λ (w : List ℕ). Takes (stream passed (word_front count done len ++ (word ++ input))) (stream (passed + (read + (len + 2))) (drop (len + 2) (word ++ input))) (done ++ w ∷ [])) parts.0 taken)
