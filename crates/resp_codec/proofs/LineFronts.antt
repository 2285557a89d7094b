-- What stands at the front of any bytes, lines too. Serves clause some of the laws of laws.rt.
use Rattle.std.proofs.Common.{◌≡◌, ◌⊎◌, ℕ, zero, suc, ◌+◌, ◌<◌, false, eqb, List, [], ◌∷◌, ◌++◌, length, take, drop, get_or, append_assoc, length-append, Option, Some, None, refl, sym, ap, subst, ◌∙◌, arith, inl, inr}
use Rattle.std.specs.List.{list_any}
use Rattle.std.proofs.lemmas.Bool.{cases_lt, eqb-true}
use Rattle.std.proofs.lemmas.List.{take_all, length-take-le}
use Rattle.core_types.specs.declared.bad_request.BadRequest.{BadRequest}
use Rattle.core_types.specs.declared.bad_request.BadRequest.TheVariants.{LineTooLong, Quote}
use Rattle.resp_codec.specs.Inline.{begins_array, is_quote, line_words}
use Rattle.resp_codec.specs.Spelling.{multibulk, IsRequest, IsInline}
use Rattle.resp_codec.specs.Faults.{BadAt}
use Rattle.resp_codec.specs.Stream.{IsUnfinished}
use Rattle.resp_codec.specs.Requests.{Span, IsSpan}
use Rattle.resp_codec.specs.inner.Line.{IsInlineLine}
use Rattle.resp_codec.specs.Array.{IsFront}
use Rattle.resp_codec.specs.declared.array.Array.{Array}
use Rattle.resp_codec.specs.declared.array.Array.TheVariants as array
use Rattle.resp_codec.proofs.Cuts.{SearchEnd, search_among}
use Rattle.resp_codec.proofs.RequestDue.{unfinished_line}
use Rattle.resp_codec.proofs.InlineWords.{IsRequest-line}
use Rattle.resp_codec.proofs.ReaderHeaders.{one_at}
use Rattle.resp_codec.proofs.ReaderSteps.{bad_quote}
use Rattle.resp_codec.proofs.Fronts.{some_front}
use Rattle.resp_codec.proofs.Spans.{span}

-- a span begins the bytes
pub record BeginsSpan (bytes : List ℕ) : Type 0 where
  pub first : Span
  pub more : List ℕ
  pub is : IsSpan first
  pub whole : bytes ≡ first.bytes ++ more

-- nothing whole stands at the front, or a bad place, or a span
abbrev pub Front : List ℕ → Type 0
Front bytes = IsUnfinished bytes ⊎ (((kind : BadRequest) × (at : ℕ) × BadAt bytes kind at) ⊎ BeginsSpan bytes)

-- a whole line without a quote
line_span : (bytes : List ℕ) (end : ℕ) → IsInlineLine bytes end → list_any is_quote (take end bytes) ≡ false → (words : List (List ℕ)) → words ≡ line_words (take end bytes) → BeginsSpan bytes
line_span bytes end line plain [] words_are = record {
  first = span (take end bytes ++ 10 ∷ []) None;
  more = drop (end + 1) bytes;
  is = inr record { line = take end bytes; whole = refl; is_line = line.is_line; plain = plain; words_are = words_are };
  whole = line.parts ∙ sym (append_assoc (take end bytes) (10 ∷ []) (drop (end + 1) bytes));
}
line_span bytes end line plain (word ∷ words) words_are = record {
  first = span (take end bytes ++ 10 ∷ []) (Some (word ∷ words));
  more = drop (end + 1) bytes;
  is = (
    subst (λ (ws : List (List ℕ)). IsRequest ws) (sym words_are) (IsRequest-line (take end bytes) line.is_line.short (rw (← words_are) (omega arith))),
    inr record { line = take end bytes; whole = refl; is_line = line.is_line; plain = plain; words_are = words_are },
  );
  whole = line.parts ∙ sym (append_assoc (take end bytes) (10 ∷ []) (drop (end + 1) bytes));
}

line_front : (bytes : List ℕ) (end : ℕ) → IsInlineLine bytes end → Front bytes
line_front bytes end line =
    let text = take end bytes in
    let found = search_among is_quote (length text) text in
    elim (cases_lt found.end (length text)) [
      | inl less ↦ inr (inl (Quote, found.end, bad_quote bytes end found.end found.end line (less, found.none, found.there less less) refl))
      | inr all ↦ inr (inr (line_span bytes end line (rw (take_all found.end text all) at found.none) (line_words text) refl))
    ]

first_kept : (count : ℕ) (bytes : List ℕ) → begins_array bytes ≡ false → begins_array (take count bytes) ≡ false
first_kept zero bytes no_array = refl
first_kept (suc count) [] no_array = refl
first_kept (suc count) (byte ∷ bytes) no_array = no_array

is_inline_line : (bytes : List ℕ) → begins_array bytes ≡ false → (found : SearchEnd (λ byte. eqb byte 10) 65537 bytes) → found.end < length bytes → found.end < 65537 → IsInlineLine bytes found.end
is_inline_line bytes no_array found less near = record {
  within = omega arith;
  parts = one_at bytes found.end 10 (omega arith) (eqb-true (get_or bytes found.end 0) 10 (found.there less near));
  is_line = record {
    no_array = first_kept found.end bytes no_array;
    short = omega (arith, length-take-le found.end bytes found.within);
    unbroken = found.none;
  };
}

other_front : (bytes : List ℕ) → 0 < length bytes → begins_array bytes ≡ false → Front bytes
other_front bytes some no_array =
    let found = search_among (λ byte. eqb byte 10) 65537 bytes in
    elim (cases_lt found.end 65537) [
      | inr far ↦
          let whole : found.end ≡ 65537 = omega (arith, found.near) in
          inr (inl (
            LineTooLong,
            0,
            inr record {
              before = [];
              here = bytes;
              offset = 0;
              whole = refl;
              due = (refl, no_array);
              wrong = record { long = omega (arith, found.within); unbroken = rw whole at found.none; place = refl };
              place = refl;
            },
          ))
      | inl near ↦ elim (cases_lt found.end (length bytes)) [
        | inl less ↦ line_front bytes found.end (is_inline_line bytes no_array found less near)
        | inr all ↦ inl (unfinished_line bytes no_array (omega (arith, found.within)) (rw (take_all found.end bytes all) at found.none))
      ]
    ]

array_front : (bytes : List ℕ) (answer : Array) → IsFront bytes answer → Front bytes
array_front bytes (array.Request words size) front =
    inr (inr record { first = span (multibulk words) (Some words); more = front.0.more; is = (front.0.request, inl refl); whole = front.0.whole })
array_front bytes array.Empty front = inr (inr record { first = span front.front None; more = front.more; is = inl front.empty; whole = front.whole })
array_front bytes array.Other front = other_front bytes front.0 front.1
array_front bytes array.Unfinished front = inl front.unfinished
array_front bytes (array.Bad kind at) front = inr (inl (kind, at, front.0.bad))

pub front_of : (bytes : List ℕ) → Front bytes
front_of [] = inl (unfinished_line [] refl (omega arith) refl)
front_of (byte ∷ bytes) =
    let front = some_front (byte ∷ bytes) (omega arith) in
    array_front (byte ∷ bytes) front.0 front.1

-- a span has a byte
inline_some : (bytes : List ℕ) (words : List (List ℕ)) → IsInline bytes words → 0 < length bytes
inline_some bytes words inline = omega (arith, ap (λ (bs : List ℕ). length bs) inline.whole, length-append inline.line (10 ∷ []))

some_in : (words : Option (List (List ℕ))) (bytes : List ℕ) → IsSpan (span bytes words) → 0 < length bytes
some_in None bytes (inl empty) = omega (arith, ap (λ (bs : List ℕ). length bs) empty.whole)
some_in None bytes (inr inline) = inline_some bytes [] inline
some_in (Some words) bytes (request, inl e) = omega (arith, ap (λ (bs : List ℕ). length bs) e)
some_in (Some words) bytes (request, inr inline) = inline_some bytes words inline

pub first_some : (bytes : List ℕ) (begins : BeginsSpan bytes) → 0 < length begins.first.bytes
first_some bytes begins = some_in begins.first.words begins.first.bytes begins.is

pub span_some : (bytes : List ℕ) → BeginsSpan bytes → 0 < length bytes
span_some bytes begins = omega (arith, ap (λ (bs : List ℕ). length bs) begins.whole, length-append begins.first.bytes begins.more, first_some bytes begins)
