-- What is no request, however it goes on: each kind of bad place.
use Rattle.std.specs.Prelude.{ℕ, ℤ, pos, ◌≡◌, ◌≢◌, ◌⊎◌, ◌+◌, ◌<◌, ◌≤◌, ◌≤ℤ◌, List, [], ◌∷◌, ◌++◌, length, take, true, false, ◌==◌, FitsSigned}
use Rattle.std.specs.Int.{w64}
use Rattle.std.specs.List.{flat_map, AllByRecursion, list_any}
use Rattle.std.specs.Fmt.{decimal, signed_decimal}
use Rattle.core_types.specs.declared.bad_request.BadRequest.{BadRequest}
use Rattle.core_types.specs.declared.bad_request.BadRequest.TheVariants.{MultibulkLength, BulkLength, ExpectedDollar, LineTooLong, NoLineEnd, Quote}
use Rattle.resp_codec.specs.Marks.{cr, lf, star, dollar, marked, header}
use Rattle.resp_codec.specs.Inline.{IsLine, is_quote, begins_array}
use Rattle.resp_codec.specs.Spelling.{bulk, IsWord}

-- A multibulk was begun: its header, and fewer words than that counts. The next word is due behind
-- it.
pub record IsBegun (before : List ℕ) : Type 0 where
  pub count : ℕ
  pub words : List (List ℕ)
  pub few : count ≤ 1048576
  pub more : length words < count
  pub each : AllByRecursion IsWord words
  pub bytes : before ≡ header star count ++ flat_map bulk words

-- What is due behind some bytes, and begins here: a multibulk's header, a word, the header of
-- either, or a line.
abbrev pub CountDue : List ℕ → List ℕ → Type 0
CountDue before here = (before ≡ []) × (begins_array here ≡ true)

abbrev pub WordDue : List ℕ → List ℕ → Type 0
WordDue before here = IsBegun before

abbrev pub HeaderDue : List ℕ → List ℕ → Type 0
HeaderDue before here = CountDue before here
    ⊎ (IsBegun before × ((rest : List ℕ) × (here ≡ dollar ∷ rest)))

abbrev pub LineDue : List ℕ → List ℕ → Type 0
LineDue before here = (before ≡ []) × (begins_array here ≡ false)

-- Where it is due, something is wrong: at this offset, counted from there.
pub record WrongAt (Due : List ℕ → List ℕ → Type 0) (Wrong : List ℕ → ℕ → Type 0) (bytes : List ℕ)
    (at : ℕ) : Type 0 where
  pub before : List ℕ
  pub here : List ℕ
  pub offset : ℕ
  pub whole : bytes ≡ before ++ here
  pub due : Due before here
  pub wrong : Wrong here offset
  pub place : at ≡ length before + offset

-- what stands before a header's CR: at most 65,536 bytes and no CR
pub record IsHeaderText (text : List ℕ) : Type 0 where
  pub short : length text ≤ 65536
  pub unbroken : list_any (λ byte. byte == cr) text ≡ false

-- no number of words that a multibulk may have
abbrev pub IsNoCount : List ℕ → Type 0
IsNoCount text = (n : ℤ) → FitsSigned w64 n → n ≤ℤ pos 1048576 → text ≢ signed_decimal n

-- no number of bytes that a word may have
abbrev pub IsNoLength : List ℕ → Type 0
IsNoLength text = (n : ℕ) → n ≤ 536870912 → text ≢ decimal n

-- a header is whole, and what it has is no such number
pub record BadNumber (mark : ℕ) (IsNone : List ℕ → Type 0) (here : List ℕ)
    (offset : ℕ) : Type 0 where
  pub text : List ℕ
  pub more : List ℕ
  pub line : here ≡ marked mark text ++ more
  pub is_text : IsHeaderText (mark ∷ text)
  pub none : IsNone text
  pub place : offset ≡ 0

-- a word begins with this byte, and not with `$`
pub record OtherMark (mark : ℕ) (here : List ℕ) (offset : ℕ) : Type 0 where
  pub more : List ℕ
  pub begins : here ≡ mark ∷ more
  pub other : mark ≢ dollar
  pub place : offset ≡ 0

-- the first 65,537 bytes hold no such byte
pub record Endless (end : ℕ) (here : List ℕ) (offset : ℕ) : Type 0 where
  pub long : 65537 ≤ length here
  pub unbroken : list_any (λ byte. byte == end) (take 65537 here) ≡ false
  pub place : offset ≡ 0

-- the byte after a header's CR is no LF
pub record LoneReturn (here : List ℕ) (offset : ℕ) : Type 0 where
  pub text : List ℕ
  pub byte : ℕ
  pub more : List ℕ
  pub all : here ≡ text ++ cr ∷ byte ∷ more
  pub is_text : IsHeaderText text
  pub other : byte ≢ lf
  pub place : offset ≡ length text + 1

-- a word's bytes are not followed by CR, or not by LF after that
pub record BadWordEnd (here : List ℕ) (offset : ℕ) : Type 0 where
  pub word : List ℕ
  pub end : List ℕ
  pub byte : ℕ
  pub more : List ℕ
  pub is_word : IsWord word
  pub all : here ≡ header dollar (length word) ++ (word ++ (end ++ byte ∷ more))
  pub other : ((end ≡ []) × (byte ≢ cr)) ⊎ ((end ≡ cr ∷ []) × (byte ≢ lf))
  pub place : offset ≡ length (header dollar (length word) ++ (word ++ end))

-- a whole line holds a quote, and this is the first
pub record QuotedLine (here : List ℕ) (offset : ℕ) : Type 0 where
  pub front : List ℕ
  pub quote : ℕ
  pub back : List ℕ
  pub more : List ℕ
  pub line : here ≡ (front ++ quote ∷ back) ++ lf ∷ more
  pub is_line : IsLine (front ++ quote ∷ back)
  pub quoted : is_quote quote ≡ true
  pub first : list_any is_quote front ≡ false
  pub place : offset ≡ length front

-- The first bad place of what begins these bytes: its kind, and where it stands.
abbrev pub BadAt : List ℕ → BadRequest → ℕ → Type 0
BadAt bytes MultibulkLength at = WrongAt CountDue (BadNumber star IsNoCount) bytes at
BadAt bytes BulkLength at = WrongAt WordDue (BadNumber dollar IsNoLength) bytes at
BadAt bytes (ExpectedDollar mark) at = WrongAt WordDue (OtherMark mark) bytes at
BadAt bytes LineTooLong at = WrongAt HeaderDue (Endless cr) bytes at
    ⊎ WrongAt LineDue (Endless lf) bytes at
BadAt bytes NoLineEnd at = WrongAt HeaderDue LoneReturn bytes at
    ⊎ WrongAt WordDue BadWordEnd bytes at
BadAt bytes Quote at = WrongAt LineDue QuotedLine bytes at
