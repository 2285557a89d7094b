-- Each definition of what stands at the front of a stream, as it is judged.
use Rattle.std.proofs.Common.{◌≡◌, ◌≢◌, ◌⊎◌, ℕ, ◌+◌, ◌<◌, true, false, eqb, List, [], ◌∷◌, ◌++◌, length, refl, sym, ap, ◌∙◌, append_assoc, arith, inl, inr, Option}
use Rattle.std.specs.List.{list_any}
use Rattle.std.specs.Fmt.{signed_decimal}
use Rattle.std.proofs.lemmas.Bool.{ne_eqb, lt-ltb, le-ltb}
use Rattle.std.proofs.lemmas.List.Folds.{list_any-append}
use Rattle.std.proofs.lemmas.List.{length-append}
use Rattle.core_types.specs.declared.bad_request.BadRequest.{BadRequest}
use Rattle.core_types.specs.declared.bad_request.BadRequest.TheVariants.{MultibulkLength, BulkLength, ExpectedDollar, LineTooLong, NoLineEnd, Quote}
use Rattle.resp_codec.specs.Marks.{crlf, header}
use Rattle.resp_codec.specs.Inline.{IsLine, begins_array, is_quote}
use Rattle.resp_codec.specs.Spelling.{IsInline, Spells, Skips}
use Rattle.resp_codec.specs.Faults.{CountDue, HeaderDue, LineDue, WrongAt, IsBegun, IsNoCount, IsNoLength, BadNumber, OtherMark, Endless, LoneReturn, BadWordEnd, QuotedLine, BadAt}
use Rattle.resp_codec.specs.Stream.{IsUnfinished}
use Rattle.resp_codec.proofs.Cuts.{before_first, before_first-at, from_first-at, before_first-long}
use Rattle.resp_codec.proofs.Counts.{natural-other, count_of-none, count_of-other, IsHeaderText-signed}
use Rattle.resp_codec.proofs.Judging.{Head, head, piece, piece_head, piece_body, piece_end, judge, judge_head, judge_array, judge_line, judge_cut, head-lone, head-endless, piece-header, piece-word, judge-header, judge-begun, judge-open, judge-bad, judge_at_array, judge_at_line}
use Rattle.resp_codec.proofs.Judging.Head.{Open, Lone, Endless as NoEnd}
use Rattle.resp_codec.proofs.Judging.Piece.{BadWord}
use Rattle.resp_codec.proofs.Judging.Judged.{Took, Passed, Short, Wrong}

no_array : (line more : List ℕ) → begins_array line ≡ false → begins_array (line ++ 10 ∷ more) ≡ false
no_array [] more none = refl
no_array (byte ∷ line) more none = none

-- a whole line
line_whole : (line more : List ℕ) → IsLine line → judge (line ++ 10 ∷ more) ≡ judge_line line (10 ∷ more)
line_whole line more is_line =
    judge_at_line (line ++ 10 ∷ more) (omega (arith, length-append line (10 ∷ more))) (no_array line more is_line.no_array)
    ∙ rw (before_first-at (λ byte. eqb byte 10) line 10 more is_line.unbroken refl, from_first-at (λ byte. eqb byte 10) line 10 more is_line.unbroken refl, lt-ltb (length line) 65537 (omega (arith, is_line.short))) refl

inline_verdict : (bytes more : List ℕ) (words : List (List ℕ)) → IsInline bytes words → judge (bytes ++ more) ≡ judge_cut words (length bytes)
inline_verdict bytes more words inline =
    let line = inline.line in
    let parts : bytes ++ more ≡ line ++ 10 ∷ more = ap (λ (front : List ℕ). front ++ more) inline.whole ∙ append_assoc line (10 ∷ []) more in
    let size : length line + 1 ≡ length bytes = omega (arith, ap (λ (bs : List ℕ). length bs) inline.whole, length-append line (10 ∷ [])) in
    ap judge parts ∙ line_whole line more inline.is_line ∙ rw (inline.plain, ← inline.words_are, size) refl

took : (words : List (List ℕ)) (size : ℕ) → 0 < length words → judge_cut words size ≡ Took words size
took [] size some = absurd (omega arith)
took (word ∷ words) size some = refl

pub spells_verdict : (bytes more : List ℕ) (words : List (List ℕ)) → Spells bytes words → judge (bytes ++ more) ≡ Took words (length bytes)
spells_verdict bytes more words (request, inl e) =
    rw e (judge-begun (length words) 0 words more request.some request.few request.each (omega arith))
spells_verdict bytes more words (request, inr inline) =
    inline_verdict bytes more words inline ∙ took words (length bytes) request.some

pub skips_verdict : (bytes more : List ℕ) → Skips bytes → judge (bytes ++ more) ≡ Passed (length bytes)
skips_verdict bytes more (inl empty) =
    let digits = signed_decimal empty.count in
    let size : length (42 ∷ digits) + 2 ≡ length bytes = omega (arith, ap (λ (bs : List ℕ). length bs) empty.whole, length-append (42 ∷ digits) crlf) in
    ap (λ (front : List ℕ). judge (front ++ more)) empty.whole ∙ judge-header digits more (IsHeaderText-signed empty.count empty.fits)
    ∙ ap (λ (o : Option ℕ). judge_array o (length (42 ∷ digits) + 2) more) (count_of-none empty.count digits empty.none empty.fits refl)
    ∙ ap (λ (k : ℕ). Passed k) size
skips_verdict bytes more (inr inline) = inline_verdict bytes more [] inline

-- where a header is due, its end decides
due_bad : (before rest : List ℕ) (h : Head) (kind : BadRequest) (at : ℕ) → HeaderDue before rest → head rest ≡ h → judge_head h ≡ Wrong kind at → piece_head h ≡ BadWord kind at → judge (before ++ rest) ≡ Wrong kind (length before + at)
due_bad before rest h kind at (inl (none, array)) is judged word =
    rw none (judge_at_array rest array ∙ ap judge_head is ∙ judged ∙ ap (λ (k : ℕ). Wrong kind k) (omega arith))
due_bad before rest h kind at (inr (begun, (more, mark))) is judged word =
    judge-bad before rest kind at begun (rw mark (ap piece_head (rw mark at is) ∙ word))

pub due_open : (before rest : List ℕ) → HeaderDue before rest → head rest ≡ Open → judge (before ++ rest) ≡ Short
due_open before rest (inl (none, array)) is = rw none (judge_at_array rest array ∙ ap judge_head is)
due_open before rest (inr (begun, (more, mark))) is = judge-open before rest begun (rw mark (ap piece_head (rw mark at is)))

-- what is wrong behind these bytes makes a bad place there
count_verdict : (before here : List ℕ) (offset : ℕ) → CountDue before here → BadNumber 42 IsNoCount here offset → judge (before ++ here) ≡ Wrong MultibulkLength (length before + offset)
count_verdict before here offset due bad =
    rw due.0 (ap judge bad.line ∙ judge-header bad.text bad.more bad.is_text
    ∙ ap (λ (o : Option ℕ). judge_array o (length (42 ∷ bad.text) + 2) bad.more) (count_of-other bad.text bad.none) ∙ ap (λ (k : ℕ). Wrong MultibulkLength k) (omega (arith, bad.place)))

length_verdict : (before here : List ℕ) (offset : ℕ) → IsBegun before → BadNumber 36 IsNoLength here offset → judge (before ++ here) ≡ Wrong BulkLength (length before + offset)
length_verdict before here offset begun bad =
    judge-bad before here BulkLength offset begun
    (ap piece bad.line ∙ piece-header bad.text bad.more bad.is_text ∙ ap (λ (o : Option ℕ). piece_body o (length (36 ∷ bad.text) + 2) bad.more) (natural-other 536870912 bad.text bad.none)
    ∙ ap (λ (k : ℕ). BadWord BulkLength k) (sym bad.place))

mark_verdict : (mark : ℕ) (before here : List ℕ) (offset : ℕ) → IsBegun before → OtherMark mark here offset → judge (before ++ here) ≡ Wrong (ExpectedDollar mark) (length before + offset)
mark_verdict mark before here offset begun bad =
    judge-bad before here (ExpectedDollar mark) offset begun (rw (bad.begins, ne_eqb mark 36 bad.other) (ap (λ (k : ℕ). BadWord (ExpectedDollar mark) k) (sym bad.place)))

endless_header_verdict : (before here : List ℕ) (offset : ℕ) → HeaderDue before here → Endless 13 here offset → judge (before ++ here) ≡ Wrong LineTooLong (length before + offset)
endless_header_verdict before here offset due bad =
    due_bad before here NoEnd LineTooLong offset due (head-endless here bad.long bad.unbroken) (ap (λ (k : ℕ). Wrong LineTooLong k) (sym bad.place)) (ap (λ (k : ℕ). BadWord LineTooLong k) (sym bad.place))

endless_line_verdict : (before here : List ℕ) (offset : ℕ) → LineDue before here → Endless 10 here offset → judge (before ++ here) ≡ Wrong LineTooLong (length before + offset)
endless_line_verdict before here offset due bad =
    rw due.0 (judge_at_line here (omega (arith, bad.long)) due.1
    ∙ rw (le-ltb (length (before_first (λ byte. eqb byte 10) here)) 65537 (before_first-long (λ byte. eqb byte 10) 65537 here bad.long bad.unbroken)) (ap (λ (k : ℕ). Wrong LineTooLong k) (omega (arith, bad.place))))

lone_verdict : (before here : List ℕ) (offset : ℕ) → HeaderDue before here → LoneReturn here offset → judge (before ++ here) ≡ Wrong NoLineEnd (length before + offset)
lone_verdict before here offset due bad =
    due_bad before here (Lone (length bad.text)) NoLineEnd offset due (ap head bad.all ∙ head-lone bad.text bad.byte bad.more bad.is_text bad.other) (ap (λ (k : ℕ). Wrong NoLineEnd k) (sym bad.place)) (ap (λ (k : ℕ). BadWord NoLineEnd k) (sym bad.place))

-- the end of a word, behind its bytes
end_piece : (word end more : List ℕ) (byte size : ℕ) → ((end ≡ []) × (byte ≢ 13)) ⊎ ((end ≡ 13 ∷ []) × (byte ≢ 10)) → piece_end word (end ++ byte ∷ more) size ≡ BadWord NoLineEnd (size + length end)
end_piece word end more byte size (inl (none, other)) = rw (none, ne_eqb byte 13 other) (ap (λ (k : ℕ). BadWord NoLineEnd k) (omega arith))
end_piece word end more byte size (inr (return, other)) = rw (return, ne_eqb byte 10 other) refl

word_end_verdict : (before here : List ℕ) (offset : ℕ) → IsBegun before → BadWordEnd here offset → judge (before ++ here) ≡ Wrong NoLineEnd (length before + offset)
word_end_verdict before here offset begun bad =
    let front = header 36 (length bad.word) in
    let place : length (front ++ bad.word) + length bad.end ≡ offset = omega (arith, bad.place, length-append front bad.word, length-append front (bad.word ++ bad.end), length-append bad.word bad.end) in
    judge-bad before here NoLineEnd offset begun
    (ap piece bad.all ∙ piece-word bad.word (bad.end ++ bad.byte ∷ bad.more) bad.is_word ∙ end_piece bad.word bad.end bad.more bad.byte (length (front ++ bad.word)) bad.other ∙ ap (λ (k : ℕ). BadWord NoLineEnd k) place)

quote_verdict : (before here : List ℕ) (offset : ℕ) → LineDue before here → QuotedLine here offset → judge (before ++ here) ≡ Wrong Quote (length before + offset)
quote_verdict before here offset due bad =
    let line = bad.front ++ bad.quote ∷ bad.back in
    let quoted : list_any is_quote line ≡ true = list_any-append is_quote bad.front (bad.quote ∷ bad.back) ∙ rw (bad.first, bad.quoted) refl in
    rw due.0 (ap judge bad.line ∙ line_whole line bad.more bad.is_line
    ∙ rw (quoted, before_first-at is_quote bad.front bad.quote bad.back bad.first bad.quoted) (ap (λ (k : ℕ). Wrong Quote k) (omega (arith, bad.place))))

-- the same in the bytes, and counted from their front
in_whole : {Due : List ℕ → List ℕ → Type 0} {Here : List ℕ → ℕ → Type 0} (bytes : List ℕ) (kind : BadRequest) (at : ℕ) (w : WrongAt Due Here bytes at) → judge (w.before ++ w.here) ≡ Wrong kind (length w.before + w.offset) → judge bytes ≡ Wrong kind at
in_whole bytes kind at w is = ap judge w.whole ∙ is ∙ ap (λ (k : ℕ). Wrong kind k) (sym w.place)

pub bad_verdict : (bytes : List ℕ) (kind : BadRequest) (at : ℕ) → BadAt bytes kind at → judge bytes ≡ Wrong kind at
bad_verdict bytes MultibulkLength at w = in_whole bytes MultibulkLength at w (count_verdict w.before w.here w.offset w.due w.wrong)
bad_verdict bytes BulkLength at w = in_whole bytes BulkLength at w (length_verdict w.before w.here w.offset w.due w.wrong)
bad_verdict bytes (ExpectedDollar mark) at w = in_whole bytes (ExpectedDollar mark) at w (mark_verdict mark w.before w.here w.offset w.due w.wrong)
bad_verdict bytes LineTooLong at (inl w) = in_whole bytes LineTooLong at w (endless_header_verdict w.before w.here w.offset w.due w.wrong)
bad_verdict bytes LineTooLong at (inr w) = in_whole bytes LineTooLong at w (endless_line_verdict w.before w.here w.offset w.due w.wrong)
bad_verdict bytes NoLineEnd at (inl w) = in_whole bytes NoLineEnd at w (lone_verdict w.before w.here w.offset w.due w.wrong)
bad_verdict bytes NoLineEnd at (inr w) = in_whole bytes NoLineEnd at w (word_end_verdict w.before w.here w.offset w.due w.wrong)
bad_verdict bytes Quote at w = in_whole bytes Quote at w (quote_verdict w.before w.here w.offset w.due w.wrong)

pub IsUnfinished-from_short : (bytes : List ℕ) → judge bytes ≡ Short → IsUnfinished bytes
IsUnfinished-from_short bytes short = record {
  no_request = λ front more words spells e. let took : judge bytes ≡ Took words (length front) = ap judge e ∙ spells_verdict front more words spells in cc;
  no_skip = λ front more skips e. let passed : judge bytes ≡ Passed (length front) = ap judge e ∙ skips_verdict front more skips in cc;
  no_fault = λ kind at bad. let wrong : judge bytes ≡ Wrong kind at = bad_verdict bytes kind at bad in cc;
}
