-- A stream that is handed on line by line has at most one request at a time. Serves the offsets of
-- frames.
use Rattle.std.proofs.Common.{◌≡◌, ◌≢◌, ◌⊎◌, ℕ, List, [], ◌∷◌, ◌++◌, length, refl, sym, ap, subst, ◌∙◌, append_assoc, append-nil, inl, inr, Option, None, Some}
use Rattle.std.specs.Fmt.{decimal, signed_decimal}
use Rattle.std.specs.List.{flat_map}
use Rattle.resp_codec.specs.Marks.{lf, cr, crlf, star, marked, header}
use Rattle.resp_codec.specs.Spelling.{bulk, IsInline, Spells, Skips}
use Rattle.resp_codec.specs.Stream.{IsUnfinished}
use Rattle.resp_codec.specs.Requests.{Span, IsSpan}
use Rattle.resp_codec.proofs.Spans.{BeginsNone-unfinished}
use Rattle.replica_feed.specs.inner.Placing.{HoldsOne, IsLineAhead}

-- these bytes end with an LF
abbrev EndsLine : List ℕ → Type 0
EndsLine bytes = (front : List ℕ) × (bytes ≡ front ++ lf ∷ [])

behind : (before bytes : List ℕ) → EndsLine bytes → EndsLine (before ++ bytes)
behind before bytes (front, ends) = (before ++ front, ap (λ (b : List ℕ). before ++ b) ends ∙ sym (append_assoc before front (lf ∷ [])))

crlf_ends : (text : List ℕ) → EndsLine (text ++ crlf)
crlf_ends text = behind text crlf (cr ∷ [], refl)

marked_ends : (mark : ℕ) (text : List ℕ) → EndsLine (marked mark text)
marked_ends mark text = behind (mark ∷ []) (text ++ crlf) (crlf_ends text)

bulk_ends : (word : List ℕ) → EndsLine (bulk word)
bulk_ends word = behind (header 36 (length word)) (word ++ crlf) (crlf_ends word)

bulks_end : (words : List (List ℕ)) (before : List ℕ) → EndsLine before → EndsLine (before ++ flat_map bulk words)
bulks_end [] before ends = subst EndsLine (sym (append-nil before)) ends
bulks_end (word ∷ words) before ends =
    subst EndsLine (append_assoc before (bulk word) (flat_map bulk words)) (bulks_end words (before ++ bulk word) (behind before (bulk word) (bulk_ends word)))

inline_ends : (bytes : List ℕ) (words : List (List ℕ)) → IsInline bytes words → EndsLine bytes
inline_ends bytes words is = (is.line, is.whole)

spells_ends : (bytes : List ℕ) (words : List (List ℕ)) → Spells bytes words → EndsLine bytes
spells_ends bytes words (request, inl whole) =
    subst EndsLine (sym whole) (bulks_end words (header star (length words)) (marked_ends star (decimal (length words))))
spells_ends bytes words (request, inr is) = inline_ends bytes words is

skips_ends : (bytes : List ℕ) → Skips bytes → EndsLine bytes
skips_ends bytes (inl empty) = subst EndsLine (sym empty.whole) (marked_ends star (signed_decimal empty.count))
skips_ends bytes (inr is) = inline_ends bytes [] is

span_ends_at : (words : Option (List (List ℕ))) (bytes : List ℕ) → IsSpan (record { bytes = bytes; words = words }) → EndsLine bytes
span_ends_at None bytes is = skips_ends bytes is
span_ends_at (Some words) bytes is = spells_ends bytes words is

span_ends : (span : Span) → IsSpan span → EndsLine span.bytes
span_ends span is = span_ends_at span.words span.bytes is

no_end : (front : List ℕ) → [] ≢ front ++ lf ∷ []
no_end [] e = cc
no_end (byte ∷ front) e = cc

some_ends : (bytes : List ℕ) → EndsLine bytes → bytes ≢ []
some_ends bytes (front, ends) none = no_end front (sym none ∙ ends)

-- of two cuts of the same bytes one stands before the other
abbrev Before : List ℕ → List ℕ → List ℕ → List ℕ → Type 0
Before a x b y = (middle : List ℕ) × (b ≡ a ++ middle) × (x ≡ middle ++ y)

two_cuts : (a x b y : List ℕ) → a ++ x ≡ b ++ y → Before b y a x ⊎ Before a x b y
two_cuts [] x b y e = inr (b, refl, e)
two_cuts (p ∷ a) x [] y e = inl (p ∷ a, refl, sym e)
two_cuts (p ∷ a) x (q ∷ b) y e =
    let first : p ≡ q = cc in
    let more : a ++ x ≡ b ++ y = cc in
    elim (two_cuts a x b y more) [
      | inl (middle, left, right) ↦ inl (middle, (λ i. first i ∷ left i), right)
      | inr (middle, left, right) ↦ inr (middle, (λ i. sym first i ∷ left i), right)
    ]

-- the last byte of what ends with an LF stands in its second part, where there is one
last_of : (a b : List ℕ) → EndsLine (a ++ b) → (b ≡ []) ⊎ EndsLine b
last_of a [] ends = inl refl
last_of [] (q ∷ b) ends = inr ends
last_of (p ∷ a) (q ∷ b) ([], ends) =
    let none : a ++ q ∷ b ≡ [] = cc in absurd (some_left a q b none)
  where
    some_left : (a : List ℕ) (q : ℕ) (b : List ℕ) → a ++ q ∷ b ≢ []
    some_left [] q b e = cc
    some_left (p ∷ a) q b e = cc
last_of (p ∷ a) (q ∷ b) (r ∷ front, ends) =
    let more : a ++ q ∷ b ≡ front ++ lf ∷ [] = cc in last_of a (q ∷ b) (front, more)

-- what has no whole request, and then a line, holds one at most
pub line_holds_one : (begun line : List ℕ) → IsUnfinished begun → IsLineAhead line → HoldsOne (begun ++ line)
line_holds_one begun line unfinished one span more is whole =
    elim (two_cuts begun line span.bytes more whole) [
      | inl (middle, left, right) ↦ absurd (BeginsNone-unfinished begun unfinished span middle is left)
      | inr (middle, left, right) ↦ elim (last_of begun middle (subst EndsLine left (span_ends span is))) [
        | inl none ↦ absurd (BeginsNone-unfinished begun unfinished span [] is (sym (left ∙ ap (λ (m : List ℕ). begun ++ m) none ∙ append-nil begun) ∙ sym (append-nil span.bytes)))
        | inr (front, ends) ↦ one front more (right ∙ ap (λ (m : List ℕ). m ++ more) ends ∙ append_assoc front (lf ∷ []) more)
      ]
    ]

pub unfinished_one : (bytes : List ℕ) → IsUnfinished bytes → HoldsOne bytes
unfinished_one bytes unfinished span more is whole = absurd (BeginsNone-unfinished bytes unfinished span more is whole)

pub nothing_one : HoldsOne []
nothing_one span more is whole = absurd (nothing span.bytes more (span_ends span is) whole)
  where
    nothing : (bytes more : List ℕ) → EndsLine bytes → [] ≢ bytes ++ more
    nothing [] more (front, ends) e = no_end front ends
    nothing (byte ∷ bytes) more ends e = cc

-- a request has a byte
pub spelled_some : (bytes more : List ℕ) (words : List (List ℕ)) → Spells bytes words → bytes ++ more ≢ []
spelled_some [] more words spells e = some_ends [] (spells_ends [] words spells) refl
spelled_some (byte ∷ bytes) more words spells e = cc
