-- One reading of a stream.
use Rattle.std.proofs.Common.{◌+◌, ◌≡◌, ◌≢◌, ℕ, ◌<◌, Bool, true, false, List, [], ◌∷◌, ◌++◌, length, take, refl, sym, ap, subst, ◌∙◌, append_assoc, arith, inl, inr}
use Rattle.std.specs.List.{concat}
use Rattle.std.proofs.lemmas.Bool.{false≢true}
use Rattle.std.proofs.lemmas.List.{take_at, take-append-le, length-append}
use Rattle.core_types.specs.declared.bad_request.BadRequest.{BadRequest}
use Rattle.core_types.specs.declared.bad_request.BadRequest.TheVariants.{MultibulkLength, BulkLength, ExpectedDollar, LineTooLong, NoLineEnd, Quote}
use Rattle.resp_codec.specs.Marks.{marked, header}
use Rattle.resp_codec.specs.Spelling.{Spells, Skips, SkipsAll}
use Rattle.resp_codec.specs.Inline.{begins_array}
use Rattle.resp_codec.specs.Faults.{CountDue, HeaderDue, LineDue, WrongAt, IsNoCount, IsNoLength, BadNumber, OtherMark, Endless, LoneReturn, BadWordEnd, QuotedLine, BadAt}
use Rattle.resp_codec.specs.Stream.{Stream, Takes, Waits, Refuses}
use Rattle.resp_codec.proofs.Judging.{judge}
use Rattle.resp_codec.proofs.Judging.Judged.{Took, Passed, Wrong}
use Rattle.resp_codec.proofs.Verdicts.{spells_verdict, skips_verdict, bad_verdict}

same_front : (a b x y : List ℕ) → a ++ x ≡ b ++ y → length a ≡ length b → a ≡ b
same_front a b x y e size =
    sym (take_at a x (length a) refl) ∙ ap (λ (bytes : List ℕ). take (length a) bytes) e ∙ take_at b y (length a) (sym size)

pub requests_one : (v w : List (List ℕ)) (a b x y : List ℕ) → Spells a v → Spells b w → a ++ x ≡ b ++ y → (a ≡ b) × (v ≡ w)
requests_one v w a b x y of_v of_w e =
    let same : Took v (length a) ≡ Took w (length b) = sym (spells_verdict a x v of_v) ∙ ap judge e ∙ spells_verdict b y w of_w in
    let size : length a ≡ length b = cc in
    (same_front a b x y e size, cc)

pub skips_one : (a b x y : List ℕ) → Skips a → Skips b → a ++ x ≡ b ++ y → a ≡ b
skips_one a b x y of_a of_b e =
    let same : Passed (length a) ≡ Passed (length b) = sym (skips_verdict a x of_a) ∙ ap judge e ∙ skips_verdict b y of_b in
    let size : length a ≡ length b = cc in
    same_front a b x y e size

pub apart : (v : List (List ℕ)) (a b x y : List ℕ) → Spells a v → Skips b → a ++ x ≢ b ++ y
apart v a b x y of_a of_b e =
    let same : Took v (length a) ≡ Passed (length b) = sym (spells_verdict a x v of_a) ∙ ap judge e ∙ skips_verdict b y of_b in cc

pub fault_one : (bytes : List ℕ) (kind other : BadRequest) (at place : ℕ) → BadAt bytes kind at → BadAt bytes other place → (kind ≡ other) × (at ≡ place)
fault_one bytes kind other at place first second =
    let same : Wrong kind at ≡ Wrong other place = sym (bad_verdict bytes kind at first) ∙ bad_verdict bytes other place second in
    (cc, cc)

pub request_no_fault : (v : List (List ℕ)) (a x : List ℕ) (kind : BadRequest) (at : ℕ) → Spells a v → ¬ BadAt (a ++ x) kind at
request_no_fault v a x kind at of_a bad =
    let same : Took v (length a) ≡ Wrong kind at = sym (spells_verdict a x v of_a) ∙ bad_verdict (a ++ x) kind at bad in cc

pub skip_no_fault : (a x : List ℕ) (kind : BadRequest) (at : ℕ) → Skips a → ¬ BadAt (a ++ x) kind at
skip_no_fault a x kind at of_a bad =
    let same : Passed (length a) ≡ Wrong kind at = sym (skips_verdict a x of_a) ∙ bad_verdict (a ++ x) kind at bad in cc

array_stays : (bytes more : List ℕ) (b : Bool) → 0 < length bytes → begins_array bytes ≡ b → begins_array (bytes ++ more) ≡ b
array_stays [] more b some array = absurd (omega arith)
array_stays (byte ∷ bytes) more b some array = array

count_some : (bytes : List ℕ) → begins_array bytes ≡ true → 0 < length bytes
count_some [] array = absurd (false≢true array)
count_some (byte ∷ bytes) array = omega arith

count_stays : (before here more : List ℕ) → CountDue before here → CountDue before (here ++ more)
count_stays before here more (none, array) = (none, array_stays here more true (count_some here array) array)

header_stays : (before here more : List ℕ) → HeaderDue before here → HeaderDue before (here ++ more)
header_stays before here more (inl count) = inl (count_stays before here more count)
header_stays before here more (inr (begun, (rest, mark))) = inr (begun, (rest ++ more, ap (λ (bytes : List ℕ). bytes ++ more) mark))

line_stays : (before here more : List ℕ) → 0 < length here → LineDue before here → LineDue before (here ++ more)
line_stays before here more some (none, line) = (none, array_stays here more false some line)

-- one thing behind another
further : (bytes front rest more : List ℕ) → bytes ≡ front ++ rest → bytes ++ more ≡ front ++ (rest ++ more)
further bytes front rest more e = ap (λ (bs : List ℕ). bs ++ more) e ∙ append_assoc front rest more

number_stays : (mark : ℕ) (IsNone : List ℕ → Type 0) (here more : List ℕ) (offset : ℕ) → BadNumber mark IsNone here offset → BadNumber mark IsNone (here ++ more) offset
number_stays mark IsNone here more offset bad = record {
  text = bad.text;
  more = bad.more ++ more;
  line = further here (marked mark bad.text) bad.more more bad.line;
  is_text = bad.is_text;
  none = bad.none;
  place = bad.place;
}

mark_stays : (mark : ℕ) (here more : List ℕ) (offset : ℕ) → OtherMark mark here offset → OtherMark mark (here ++ more) offset
mark_stays mark here more offset bad = record { more = bad.more ++ more; begins = ap (λ (bs : List ℕ). bs ++ more) bad.begins; other = bad.other; place = bad.place }

endless_stays : (end : ℕ) (here more : List ℕ) (offset : ℕ) → Endless end here offset → Endless end (here ++ more) offset
endless_stays end here more offset bad = record {
  long = omega (arith, bad.long, length-append here more);
  unbroken = rw (take-append-le 65537 here more bad.long) bad.unbroken;
  place = bad.place;
}

return_stays : (here more : List ℕ) (offset : ℕ) → LoneReturn here offset → LoneReturn (here ++ more) offset
return_stays here more offset bad = record {
  text = bad.text;
  byte = bad.byte;
  more = bad.more ++ more;
  all = further here bad.text (13 ∷ bad.byte ∷ bad.more) more bad.all;
  is_text = bad.is_text;
  other = bad.other;
  place = bad.place;
}

word_end_stays : (here more : List ℕ) (offset : ℕ) → BadWordEnd here offset → BadWordEnd (here ++ more) offset
word_end_stays here more offset bad =
    let front = header 36 (length bad.word) in
    let rest = bad.end ++ bad.byte ∷ bad.more in
    let parts : here ++ more ≡ front ++ (bad.word ++ (rest ++ more)) = further here front (bad.word ++ rest) more bad.all ∙ ap (λ (bs : List ℕ). front ++ bs) (append_assoc bad.word rest more) in
    record {
      word = bad.word;
      end = bad.end;
      byte = bad.byte;
      more = bad.more ++ more;
      is_word = bad.is_word;
      all = parts ∙ ap (λ (bs : List ℕ). front ++ (bad.word ++ bs)) (append_assoc bad.end (bad.byte ∷ bad.more) more);
      other = bad.other;
      place = bad.place;
    }

quote_stays : (here more : List ℕ) (offset : ℕ) → QuotedLine here offset → QuotedLine (here ++ more) offset
quote_stays here more offset bad = record {
  front = bad.front;
  quote = bad.quote;
  back = bad.back;
  more = bad.more ++ more;
  line = further here (bad.front ++ bad.quote ∷ bad.back) (10 ∷ bad.more) more bad.line;
  is_line = bad.is_line;
  quoted = bad.quoted;
  first = bad.first;
  place = bad.place;
}

quoted_some : (here : List ℕ) (offset : ℕ) → QuotedLine here offset → 0 < length here
quoted_some here offset bad = omega (arith, ap (λ (bs : List ℕ). length bs) bad.line, length-append (bad.front ++ bad.quote ∷ bad.back) (10 ∷ bad.more))

-- where more bytes come, what is due is due, and what is wrong is wrong
stays : {Due : List ℕ → List ℕ → Type 0} {Wrong : List ℕ → ℕ → Type 0} (bytes more : List ℕ) (at : ℕ) (w : WrongAt Due Wrong bytes at) → Due w.before (w.here ++ more) → Wrong (w.here ++ more) w.offset → WrongAt Due Wrong (bytes ++ more) at
stays bytes more at w due wrong = record {
  before = w.before;
  here = w.here ++ more;
  offset = w.offset;
  whole = further bytes w.before w.here more w.whole;
  due = due;
  wrong = wrong;
  place = w.place;
}

-- what is bad stays so when more bytes come
pub fault_stays : (bytes more : List ℕ) (kind : BadRequest) (at : ℕ) → BadAt bytes kind at → BadAt (bytes ++ more) kind at
fault_stays bytes more MultibulkLength at w = stays bytes more at w (count_stays w.before w.here more w.due) (number_stays 42 IsNoCount w.here more w.offset w.wrong)
fault_stays bytes more BulkLength at w = stays bytes more at w w.due (number_stays 36 IsNoLength w.here more w.offset w.wrong)
fault_stays bytes more (ExpectedDollar mark) at w = stays bytes more at w w.due (mark_stays mark w.here more w.offset w.wrong)
fault_stays bytes more LineTooLong at (inl w) = inl (stays bytes more at w (header_stays w.before w.here more w.due) (endless_stays 13 w.here more w.offset w.wrong))
fault_stays bytes more LineTooLong at (inr w) =
    inr (stays bytes more at w (line_stays w.before w.here more (omega (arith, w.wrong.long)) w.due) (endless_stays 10 w.here more w.offset w.wrong))
fault_stays bytes more NoLineEnd at (inl w) = inl (stays bytes more at w (header_stays w.before w.here more w.due) (return_stays w.here more w.offset w.wrong))
fault_stays bytes more NoLineEnd at (inr w) = inr (stays bytes more at w w.due (word_end_stays w.here more w.offset w.wrong))
fault_stays bytes more Quote at w = stays bytes more at w (line_stays w.before w.here more (quoted_some w.here w.offset w.wrong) w.due) (quote_stays w.here more w.offset w.wrong)

-- what is bad begins with nothing that is skipped
nothing_skipped : (skipped : List (List ℕ)) (bytes rest : List ℕ) (kind : BadRequest) (at : ℕ) → BadAt bytes kind at → SkipsAll skipped → bytes ≡ concat skipped ++ rest → (concat skipped ≡ []) × (bytes ≡ rest)
nothing_skipped [] bytes rest kind at bad skips e = (refl, e)
nothing_skipped (piece ∷ skipped) bytes rest kind at bad skips e =
    absurd (skip_no_fault piece (concat skipped ++ rest) kind at skips.0 (subst (λ (b : List ℕ). BadAt b kind at) (e ∙ append_assoc piece (concat skipped) rest) bad))

pub refused_again : (old new : Stream) (kind other : BadRequest) (at offset : ℕ) → BadAt old.rest kind at → Refuses old new other offset → (other ≡ kind) × (offset ≡ old.passed + at)
refused_again old new kind other at offset bad refuses =
    let nothing = nothing_skipped refuses.skipped old.rest new.rest kind at bad refuses.skips refuses.passes.rest in
    let same = fault_one new.rest other kind refuses.at at refuses.bad (subst (λ (b : List ℕ). BadAt b kind at) nothing.1 bad) in
    (same.0, omega (arith, same.1, refuses.place, refuses.passes.passed, ap (λ (b : List ℕ). length b) nothing.0))

pub none_taken : (old new : Stream) (kind : BadRequest) (at : ℕ) (words : List (List ℕ)) → BadAt old.rest kind at → ¬ Takes old new words
none_taken old new kind at words bad takes =
    let nothing = nothing_skipped takes.skipped old.rest (takes.bytes ++ new.rest) kind at bad takes.skips (takes.passes.rest ∙ append_assoc (concat takes.skipped) takes.bytes new.rest) in
    request_no_fault words takes.bytes new.rest kind at takes.spells (subst (λ (b : List ℕ). BadAt b kind at) nothing.1 bad)

pub none_awaited : (old new : Stream) (kind : BadRequest) (at : ℕ) → BadAt old.rest kind at → ¬ Waits old new
none_awaited old new kind at bad waits =
    let nothing = nothing_skipped waits.skipped old.rest new.rest kind at bad waits.skips waits.passes.rest in
    waits.unfinished.no_fault kind at (subst (λ (b : List ℕ). BadAt b kind at) nothing.1 bad)
