-- What stands at the front of a stream, by going over it.
use Rattle.std.proofs.Common.{◌≡◌, ◌≢◌, ℕ, zero, suc, ◌+◌, ◌<◌, ◌≤◌, true, false, cond, eqb, ltb, List, [], ◌∷◌, ◌++◌, length, ◌-◌, take, drop, refl, sym, ap, ◌∙◌, append_assoc, append-nil, arith, Option, Some, None}
use Rattle.std.specs.List.{list_any, flat_map, AllByRecursion}
use Rattle.std.specs.Fmt.{decimal}
use Rattle.std.proofs.lemmas.Bool.{false≢true, ne_eqb, lt-ltb, le-ltb}
use Rattle.std.proofs.lemmas.List.{length-append, take_at, drop_at}
use Rattle.core_types.specs.declared.bad_request.BadRequest.{BadRequest}
use Rattle.core_types.specs.declared.bad_request.BadRequest.TheVariants.{MultibulkLength, BulkLength, ExpectedDollar, LineTooLong, NoLineEnd, Quote}
use Rattle.resp_codec.specs.Marks.{crlf}
use Rattle.resp_codec.specs.Inline.{begins_array, is_quote, line_words}
use Rattle.resp_codec.specs.Spelling.{bulk, IsWord}
use Rattle.resp_codec.specs.Faults.{IsHeaderText, IsBegun}
use Rattle.resp_codec.proofs.Cuts.{before_first, from_first, before_first-at, from_first-at, before_first-none, from_first-none, before_first-long}
use Rattle.resp_codec.proofs.Counts.{natural, natural-decimal, count_of, count_of-decimal, IsHeaderText-decimal}

-- the end of a header
pub data Head : Type 0 where
  Open : Head
  Endless : Head
  Lone : (size : ℕ) → Head
  Whole : (text more : List ℕ) → Head

-- a word, or why there is none
pub data Piece : Type 0 where
  NoWord : Piece
  BadWord : (kind : BadRequest) (at : ℕ) → Piece
  Word : (word : List ℕ) (size : ℕ) (more : List ℕ) → Piece

pub data Judged : Type 0 where
  Took : (words : List (List ℕ)) (size : ℕ) → Judged
  Passed : (size : ℕ) → Judged
  Short : Judged
  Wrong : (kind : BadRequest) (at : ℕ) → Judged

abbrev head_end : List ℕ → List ℕ → Head
head_end text [] = Open
head_end text (return ∷ []) = Open
head_end text (return ∷ feed ∷ more) = cond (eqb feed 10) (Whole text more) (Lone (length text))

pub head : List ℕ → Head
head bytes =
    cond (ltb (length (before_first (λ byte. eqb byte 13) bytes)) 65537) (head_end (before_first (λ byte. eqb byte 13) bytes) (from_first (λ byte. eqb byte 13) bytes)) Endless

pub head-return : (text rest : List ℕ) → IsHeaderText text → head (text ++ 13 ∷ rest) ≡ head_end text (13 ∷ rest)
unfolding head
head-return text rest is_text =
    rw (before_first-at (λ byte. eqb byte 13) text 13 rest is_text.unbroken refl, from_first-at (λ byte. eqb byte 13) text 13 rest is_text.unbroken refl, lt-ltb (length text) 65537 (omega (arith, is_text.short))) refl

pub head-whole : (text more : List ℕ) → IsHeaderText text → head (text ++ crlf ++ more) ≡ Whole text more
head-whole text more is_text = ap (λ (bytes : List ℕ). head bytes) (append_assoc text crlf more) ∙ head-return text (10 ∷ more) is_text

pub head-lone : (text : List ℕ) (byte : ℕ) (more : List ℕ) → IsHeaderText text → byte ≢ 10 → head (text ++ 13 ∷ byte ∷ more) ≡ Lone (length text)
head-lone text byte more is_text other = head-return text (byte ∷ more) is_text ∙ rw (ne_eqb byte 10 other) refl

pub head-alone : (text : List ℕ) → IsHeaderText text → head (text ++ 13 ∷ []) ≡ Open
head-alone text is_text = head-return text [] is_text

pub head-none : (text : List ℕ) → IsHeaderText text → head text ≡ Open
unfolding head
head-none text is_text =
    rw (before_first-none (λ byte. eqb byte 13) text is_text.unbroken, from_first-none (λ byte. eqb byte 13) text is_text.unbroken, lt-ltb (length text) 65537 (omega (arith, is_text.short))) refl

pub head-endless : (bytes : List ℕ) → 65537 ≤ length bytes → list_any (λ byte. eqb byte 13) (take 65537 bytes) ≡ false → head bytes ≡ Endless
unfolding head
head-endless bytes long unbroken =
    rw (le-ltb (length (before_first (λ byte. eqb byte 13) bytes)) 65537 (before_first-long (λ byte. eqb byte 13) 65537 bytes long unbroken)) refl

abbrev pub piece_feed : List ℕ → List ℕ → ℕ → Piece
piece_feed word [] size = NoWord
piece_feed word (feed ∷ more) size = cond (eqb feed 10) (Word word (size + 1) more) (BadWord NoLineEnd size)

abbrev pub piece_end : List ℕ → List ℕ → ℕ → Piece
piece_end word [] size = NoWord
piece_end word (return ∷ more) size = cond (eqb return 13) (piece_feed word more (size + 1)) (BadWord NoLineEnd size)

abbrev pub piece_body : Option ℕ → ℕ → List ℕ → Piece
piece_body None size more = BadWord BulkLength 0
piece_body (Some len) size more = piece_end (take len more) (drop len more) (size + len)

abbrev pub piece_head : Head → Piece
piece_head Open = NoWord
piece_head Endless = BadWord LineTooLong 0
piece_head (Lone size) = BadWord NoLineEnd (size + 1)
piece_head (Whole text more) = piece_body (natural 536870912 (drop 1 text)) (length text + 2) more

abbrev pub piece : List ℕ → Piece
piece [] = NoWord
piece (byte ∷ bytes) = cond (eqb byte 36) (piece_head (head (byte ∷ bytes))) (BadWord (ExpectedDollar byte) 0)

abbrev pub judge_piece : Piece → ℕ → (List ℕ → ℕ → List ℕ → Judged) → Judged
judge_piece NoWord size further = Short
judge_piece (BadWord kind at) size further = Wrong kind (size + at)
judge_piece (Word word taken more) size further = further word taken more

abbrev pub judge_words : ℕ → List (List ℕ) → ℕ → List ℕ → Judged
judge_words zero words size bytes = Took words size
judge_words (suc n) words size bytes =
    judge_piece (piece bytes) size (λ word taken more. judge_words n (words ++ word ∷ []) (size + taken) more)

abbrev pub judge_array : Option ℕ → ℕ → List ℕ → Judged
judge_array None size more = Wrong MultibulkLength 0
judge_array (Some zero) size more = Passed size
judge_array (Some (suc n)) size more = judge_words (suc n) [] size more

abbrev pub judge_head : Head → Judged
judge_head Open = Short
judge_head Endless = Wrong LineTooLong 0
judge_head (Lone size) = Wrong NoLineEnd (size + 1)
judge_head (Whole text more) = judge_array (count_of (drop 1 text)) (length text + 2) more

abbrev pub judge_cut : List (List ℕ) → ℕ → Judged
judge_cut [] size = Passed size
judge_cut (word ∷ words) size = Took (word ∷ words) size

abbrev pub judge_line : List ℕ → List ℕ → Judged
judge_line line [] = Short
judge_line line (feed ∷ more) = cond (list_any is_quote line) (Wrong Quote (length (before_first is_quote line))) (judge_cut (line_words line) (length line + 1))

abbrev pub judge_inline : List ℕ → Judged
judge_inline bytes =
    cond (ltb (length (before_first (λ byte. eqb byte 10) bytes)) 65537) (judge_line (before_first (λ byte. eqb byte 10) bytes) (from_first (λ byte. eqb byte 10) bytes)) (Wrong LineTooLong 0)

pub judge : List ℕ → Judged
judge [] = Short
judge (byte ∷ bytes) = cond (eqb byte 42) (judge_head (head (byte ∷ bytes))) (judge_inline (byte ∷ bytes))

pub piece-header : (text more : List ℕ) → IsHeaderText (36 ∷ text) → piece (36 ∷ text ++ crlf ++ more) ≡ piece_body (natural 536870912 text) (length (36 ∷ text) + 2) more
piece-header text more is_text = ap piece_head (head-whole (36 ∷ text) more is_text)

pub piece-length : (len : ℕ) (more : List ℕ) → len ≤ 536870912 → piece (36 ∷ decimal len ++ crlf ++ more) ≡ piece_end (take len more) (drop len more) (length (36 ∷ decimal len ++ crlf) + len)
piece-length len more small =
    let size : length (36 ∷ decimal len) + 2 ≡ length (36 ∷ decimal len ++ crlf) = sym (length-append (36 ∷ decimal len) crlf) in
    piece-header (decimal len) more (IsHeaderText-decimal 36 len (omega arith) (omega arith)) ∙ ap (λ (o : Option ℕ). piece_body o (length (36 ∷ decimal len) + 2) more) (natural-decimal 536870912 len (decimal len) (omega arith) small refl)
    ∙ ap (λ (k : ℕ). piece_end (take len more) (drop len more) (k + len)) size

pub piece-word : (word rest : List ℕ) → IsWord word → piece (36 ∷ decimal (length word) ++ crlf ++ (word ++ rest)) ≡ piece_end word rest (length (36 ∷ decimal (length word) ++ crlf ++ word))
piece-word word rest small =
    piece-length (length word) (word ++ rest) small
    ∙ rw (take_at word rest (length word) refl, drop_at word rest (length word) refl, length-append (36 ∷ decimal (length word) ++ crlf) word) refl

-- a bulk string is a word
pub piece-bulk : (word more : List ℕ) → IsWord word → piece (bulk word ++ more) ≡ Word word (length (bulk word)) more
piece-bulk word more small =
    let front = 36 ∷ decimal (length word) ++ crlf in
    let parts : bulk word ++ more ≡ front ++ (word ++ crlf ++ more) = append_assoc front (word ++ crlf) more in
    let parted : bulk word ++ more ≡ front ++ (word ++ (crlf ++ more)) = parts ∙ ap (λ (rest : List ℕ). front ++ rest) (append_assoc word crlf more) in
    let size : length (front ++ word) + 1 + 1 ≡ length (bulk word) = omega (arith, length-append front word, length-append front (word ++ crlf), length-append word crlf) in
    ap piece parted ∙ piece-word word (crlf ++ more) small ∙ ap (λ (k : ℕ). Word word k more) size

-- words that are whole are taken
pub judge_words-more : (words : List (List ℕ)) (m n : ℕ) (done : List (List ℕ)) (size : ℕ) (more : List ℕ) → AllByRecursion IsWord words → m ≡ length words + n →
    judge_words m done size (flat_map bulk words ++ more) ≡ judge_words n (done ++ words) (size + length (flat_map bulk words)) more
judge_words-more [] m n done size more each count =
    let same : m ≡ n = omega arith in
    let nothing : size ≡ size + length {A = ℕ} [] = omega arith in
    ap (λ (k : ℕ). judge_words k done size more) same ∙ ap (λ (k : ℕ). judge_words n done k more) nothing
    ∙ ap (λ (words : List (List ℕ)). judge_words n words (size + length {A = ℕ} []) more) (sym (append-nil done))
judge_words-more (word ∷ words) zero n done size more each count = absurd (omega arith)
judge_words-more (word ∷ words) (suc m) n done size more each count =
    let rest = flat_map bulk words in
    let taken : judge_words (suc m) done size (bulk word ++ (rest ++ more)) ≡ judge_words m (done ++ word ∷ []) (size + length (bulk word)) (rest ++ more) =
    ap (λ (p : Piece). judge_piece p size (λ word taken more. judge_words m (done ++ word ∷ []) (size + taken) more)) (piece-bulk word (rest ++ more) each.0) in
    let sum : size + length (bulk word) + length rest ≡ size + length (bulk word ++ rest) = omega (arith, length-append (bulk word) rest) in
    ap (λ (bytes : List ℕ). judge_words (suc m) done size bytes) (append_assoc (bulk word) rest more) ∙ taken
    ∙ judge_words-more words m n (done ++ word ∷ []) (size + length (bulk word)) more each.1 (omega arith)
    ∙ ap (λ (ws : List (List ℕ)). judge_words n ws (size + length (bulk word) + length rest) more) (append_assoc done (word ∷ []) words)
    ∙ ap (λ (k : ℕ). judge_words n (done ++ word ∷ words) k more) sum

pub judge-header : (text more : List ℕ) → IsHeaderText (42 ∷ text) → judge (42 ∷ text ++ crlf ++ more) ≡ judge_array (count_of text) (length (42 ∷ text) + 2) more
unfolding judge
judge-header text more is_text = ap judge_head (head-whole (42 ∷ text) more is_text)

judge_array-words : (n size : ℕ) (more : List ℕ) → 0 < n → judge_array (Some n) size more ≡ judge_words n [] size more
judge_array-words zero size more some = absurd (omega arith)
judge_array-words (suc n) size more some = refl

-- a request was begun: the rest of its words is judged
pub judge-begun : (count n : ℕ) (words : List (List ℕ)) (more : List ℕ) → 0 < count → count ≤ 1048576 → AllByRecursion IsWord words → count ≡ length words + n →
    judge (42 ∷ decimal count ++ crlf ++ flat_map bulk words ++ more) ≡ judge_words n words (length (42 ∷ decimal count ++ crlf ++ flat_map bulk words)) more
judge-begun count n words more some few each sum =
    let front = 42 ∷ decimal count ++ crlf in
    let size : length (42 ∷ decimal count) + 2 + length (flat_map bulk words) ≡ length (front ++ flat_map bulk words) = omega (arith, length-append front (flat_map bulk words), length-append (42 ∷ decimal count) crlf) in
    ap judge (append_assoc front (flat_map bulk words) more) ∙ judge-header (decimal count) (flat_map bulk words ++ more) (IsHeaderText-decimal 42 count (omega arith) (omega arith))
    ∙ ap (λ (o : Option ℕ). judge_array o (length (42 ∷ decimal count) + 2) (flat_map bulk words ++ more)) (count_of-decimal count (decimal count) few refl)
    ∙ judge_array-words count (length (42 ∷ decimal count) + 2) (flat_map bulk words ++ more) some
    ∙ judge_words-more words count n [] (length (42 ∷ decimal count) + 2) more each sum
    ∙ ap (λ (k : ℕ). judge_words n words k more) size

-- what is due after the words that were read decides
pub judge-due : (before rest : List ℕ) → IsBegun before → (n : ℕ) × (words : List (List ℕ)) × (judge (before ++ rest) ≡ judge_words (suc n) words (length before) rest)
judge-due before rest begun =
    let n = begun.count - length begun.words - 1 in
    (n, begun.words, rw begun.bytes (judge-begun begun.count (suc n) begun.words rest (omega (arith, begun.more)) begun.few begun.each (omega (arith, begun.more))))

pub judge-open : (before rest : List ℕ) → IsBegun before → piece rest ≡ NoWord → judge (before ++ rest) ≡ Short
judge-open before rest begun none =
    let due = judge-due before rest begun in
    due.2 ∙ ap (λ (p : Piece). judge_piece p (length before) (λ word taken more. judge_words due.0 (due.1 ++ word ∷ []) (length before + taken) more)) none

pub judge-bad : (before rest : List ℕ) (kind : BadRequest) (at : ℕ) → IsBegun before → piece rest ≡ BadWord kind at → judge (before ++ rest) ≡ Wrong kind (length before + at)
judge-bad before rest kind at begun bad =
    let due = judge-due before rest begun in
    due.2 ∙ ap (λ (p : Piece). judge_piece p (length before) (λ word taken more. judge_words due.0 (due.1 ++ word ∷ []) (length before + taken) more)) bad

pub judge-none : judge [] ≡ Short
unfolding judge
judge-none = refl

pub judge_at_array : (bytes : List ℕ) → begins_array bytes ≡ true → judge bytes ≡ judge_head (head bytes)
unfolding judge
judge_at_array [] array = absurd (false≢true array)
judge_at_array (byte ∷ bytes) array = rw array refl

pub judge_at_line : (bytes : List ℕ) → 0 < length bytes → begins_array bytes ≡ false → judge bytes ≡ judge_inline bytes
unfolding judge
judge_at_line [] some line = absurd (omega arith)
judge_at_line (byte ∷ bytes) some line = rw line refl
