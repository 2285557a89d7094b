-- What stands where a request is due, and none was begun. Serves the clauses of `read_request`,
-- `read_line`, `read_count` and `take_count`, and some of the laws.
use Rattle.std.proofs.Common.{◌≡◌, ◌≢◌, ℕ, zero, suc, ◌+◌, ◌≤◌, true, false, eqb, length, List, [], ◌∷◌, ◌++◌, slice_get, take, drop, Some, None, refl, sym, ap, subst, ◌∙◌, append-nil, arith, inl}
use Rattle.std.proofs.lemmas.Bool.{ne_eqb, lt-ltb}
use Rattle.std.specs.List.{list_any}
use Rattle.core_types.specs.declared.bad_request.BadRequest.TheVariants.{MultibulkLength}
use Rattle.resp_codec.specs.Marks.{crlf, header}
use Rattle.resp_codec.specs.Inline.{begins_array}
use Rattle.resp_codec.specs.Faults.{HeaderDue, BadAt, IsNoCount, IsHeaderText}
use Rattle.resp_codec.specs.Stream.{IsUnfinished, SkipsOnly}
use Rattle.resp_codec.specs.inner.Number.{IsCount}
use Rattle.resp_codec.specs.inner.Header.{IsHeaderLine}
use Rattle.resp_codec.proofs.Judging.{judge-none, judge_at_line}
use Rattle.resp_codec.proofs.Cuts.{before_first-none, from_first-none}
use Rattle.resp_codec.proofs.Verdicts.{IsUnfinished-from_short}
use Rattle.resp_codec.proofs.Passing.{stream, SkipsOnly-none}
use Rattle.resp_codec.proofs.ReaderSteps.{mark_text, header_parts}

some_none : (a : ℕ) → Some a ≢ None
some_none a e = cc

some_injective : (a b : ℕ) → Some a ≡ Some b → a ≡ b
some_injective a b e = cc

-- nothing of it came
pub unfinished_request : (input : List ℕ) → slice_get input 0 ≡ None → IsUnfinished input
unfinished_request [] none = IsUnfinished-from_short [] judge-none
unfinished_request (byte ∷ input) none = absurd (some_none byte none)

-- its line has not ended
pub unfinished_line : (input : List ℕ) → begins_array input ≡ false → length input ≤ 65536 → list_any (λ byte. eqb byte 10) input ≡ false → IsUnfinished input
unfinished_line [] no_array short unbroken = IsUnfinished-from_short [] judge-none
unfinished_line (byte ∷ input) no_array short unbroken =
    let bytes = byte ∷ input in
    IsUnfinished-from_short bytes (judge_at_line bytes (omega arith) no_array
    ∙ rw (before_first-none (λ byte. eqb byte 10) bytes unbroken, from_first-none (λ byte. eqb byte 10) bytes unbroken, lt-ltb (length bytes) 65537 (omega arith)) refl)

pub array_due : (input : List ℕ) → slice_get input 0 ≡ Some 42 → begins_array input ≡ true
array_due [] first = absurd (some_none 42 (sym first))
array_due (byte ∷ input) first = rw (some_injective byte 42 first) refl

pub line_due : (input : List ℕ) (byte : ℕ) → slice_get input 0 ≡ Some byte → byte ≢ 42 → begins_array input ≡ false
line_due [] byte first other = refl
line_due (b ∷ input) byte first other = rw (some_injective b byte first) (ne_eqb byte 42 other)

pub due_count : (input : List ℕ) → slice_get input 0 ≡ Some 42 → HeaderDue [] input
due_count input first = inl (refl, array_due input first)

pub bad_count : (input : List ℕ) (end at : ℕ) → slice_get input 0 ≡ Some 42 → IsHeaderLine input end → IsNoCount (drop 1 (take end input)) → at ≡ 0 → BadAt input MultibulkLength at
bad_count input end at first line no_count place = record {
  before = [];
  here = input;
  offset = 0;
  whole = refl;
  due = (refl, array_due input first);
  wrong = record {
    text = drop 1 (take end input);
    more = drop (end + 2) input;
    line = header_parts 42 end input first (λ e. omega arith) line;
    is_text = subst (λ (t : List ℕ). IsHeaderText t) (mark_text 42 end input first (λ e. omega arith) line) line.is_text;
    none = no_count;
    place = refl;
  };
  place = place;
}

-- a header of a count begins the bytes
begins_count : (count end : ℕ) (input : List ℕ) → slice_get input 0 ≡ Some 42 → IsHeaderLine input end → IsCount (drop 1 (take end input)) count → count ≢ 0 → input ≡ header 42 count ++ drop (end + 2) input
begins_count zero end input first line count some = absurd (some refl)
begins_count (suc n) end input first line count some =
    header_parts 42 end input first (λ e. omega arith) line ∙ ap (λ (digits : List ℕ). 42 ∷ digits ++ crlf ++ drop (end + 2) input) count.1

-- and when it was read, nothing was passed
pub skips_none : (passed count end : ℕ) (input : List ℕ) → slice_get input 0 ≡ Some 42 → IsHeaderLine input end → IsCount (drop 1 (take end input)) count → count ≢ 0 → SkipsOnly (stream passed input) (stream passed (header 42 count ++ [] ++ drop (end + 2) input))
skips_none passed count end input first line is_count some =
    subst (λ (t : List ℕ). SkipsOnly (stream passed input) (stream passed t)) (begins_count count end input first line is_count some ∙ ap (λ (t : List ℕ). t ++ drop (end + 2) input) (sym (append-nil (header 42 count)))) (SkipsOnly-none (stream passed input))
