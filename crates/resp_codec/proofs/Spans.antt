-- Spans one after the other: each byte list begins with at most one. Serves the laws of laws.rt.
use Rattle.std.proofs.Common.{◌≡◌, ◌≢◌, ℕ, List, [], ◌∷◌, ◌++◌, Option, Some, None, refl, sym, ap, subst, ◌∙◌, append_assoc}
use Rattle.std.specs.List.{AllByRecursion, concat}
use Rattle.std.specs.Option.{option_to_list}
use Rattle.std.proofs.lemmas.List.{append_cancel_left}
use Rattle.std.proofs.lemmas.List.Concat.{flat_map-append}
use Rattle.core_types.specs.declared.bad_request.BadRequest.{BadRequest}
use Rattle.resp_codec.specs.Spelling.{SkipsAll}
use Rattle.resp_codec.specs.Faults.{BadAt}
use Rattle.resp_codec.specs.Stream.{IsUnfinished}
use Rattle.resp_codec.specs.Requests.{Span, IsSpan, bytes_of, requests_of}
use Rattle.resp_codec.proofs.OneReading.{requests_one, skips_one, apart, request_no_fault, skip_no_fault}

abbrev pub span : List ℕ → Option (List (List ℕ)) → Span
span bytes words = record { bytes = bytes; words = words }

pub all-append : (ps qs : List Span) → AllByRecursion IsSpan ps → AllByRecursion IsSpan qs → AllByRecursion IsSpan (ps ++ qs)
all-append [] qs a b = b
all-append (p ∷ ps) qs a b = (a.0, all-append ps qs a.1 b)

pub bytes_of-append : (ps qs : List Span) → bytes_of (ps ++ qs) ≡ bytes_of ps ++ bytes_of qs
bytes_of-append ps qs = flat_map-append (λ (p : Span). p.bytes) ps qs

pub requests_of-append : (ps qs : List Span) → requests_of (ps ++ qs) ≡ requests_of ps ++ requests_of qs
requests_of-append ps qs = flat_map-append (λ (p : Span). option_to_list p.words) ps qs

-- spans of what is skipped
abbrev pub skips : List (List ℕ) → List Span
skips [] = []
skips (bytes ∷ more) = span bytes None ∷ skips more

pub skips-are : (pieces : List (List ℕ)) → SkipsAll pieces → AllByRecursion IsSpan (skips pieces)
skips-are [] a = tt
skips-are (b ∷ bs) a = (a.0, skips-are bs a.1)

pub bytes_of-skips : (pieces : List (List ℕ)) → bytes_of (skips pieces) ≡ concat pieces
bytes_of-skips [] = refl
bytes_of-skips (b ∷ bs) = ap (λ (r : List ℕ). b ++ r) (bytes_of-skips bs)

pub requests_of-skips : (pieces : List (List ℕ)) → requests_of (skips pieces) ≡ []
requests_of-skips [] = refl
requests_of-skips (b ∷ bs) = requests_of-skips bs

one_span : (v w : Option (List (List ℕ))) (a b x y : List ℕ) → IsSpan (span a v) → IsSpan (span b w) → a ++ x ≡ b ++ y → span a v ≡ span b w
one_span None None a b x y of_a of_b e = ap (λ (bytes : List ℕ). span bytes None) (skips_one a b x y of_a of_b e)
one_span None (Some w) a b x y of_a of_b e = absurd (apart w b a y x of_b of_a (sym e))
one_span (Some v) None a b x y of_a of_b e = absurd (apart v a b x y of_a of_b e)
one_span (Some v) (Some w) a b x y of_a of_b e =
    let same = requests_one v w a b x y of_a of_b e in
    ap (λ (bytes : List ℕ). span bytes (Some v)) same.0 ∙ ap (λ (words : List (List ℕ)). span b (Some words)) same.1

-- no span begins another
pub spans_one : (a b : Span) (x y : List ℕ) → IsSpan a → IsSpan b → a.bytes ++ x ≡ b.bytes ++ y → a ≡ b
spans_one a b x y of_a of_b e = one_span a.words b.words a.bytes b.bytes x y of_a of_b e

no_fault : (v : Option (List (List ℕ))) (a x : List ℕ) (kind : BadRequest) (at : ℕ) → IsSpan (span a v) → ¬ BadAt (a ++ x) kind at
no_fault None a x kind at of_a = skip_no_fault a x kind at of_a
no_fault (Some v) a x kind at of_a = request_no_fault v a x kind at of_a

pub span_no_fault : (a : Span) (x : List ℕ) (kind : BadRequest) (at : ℕ) → IsSpan a → ¬ BadAt (a.bytes ++ x) kind at
span_no_fault a x kind at of_a = no_fault a.words a.bytes x kind at of_a

-- no span begins these bytes
abbrev pub BeginsNone : List ℕ → Type 0
BeginsNone bytes = (a : Span) (x : List ℕ) → IsSpan a → bytes ≢ a.bytes ++ x

unfinished_none : (bytes : List ℕ) → IsUnfinished bytes → (v : Option (List (List ℕ))) (a x : List ℕ) → IsSpan (span a v) → bytes ≢ a ++ x
unfinished_none bytes open_end None a x of_a e = open_end.no_skip a x of_a e
unfinished_none bytes open_end (Some v) a x of_a e = open_end.no_request a x v of_a e

pub BeginsNone-unfinished : (bytes : List ℕ) → IsUnfinished bytes → BeginsNone bytes
BeginsNone-unfinished bytes open_end a x of_a e = unfinished_none bytes open_end a.words a.bytes x of_a e

pub BeginsNone-bad : (bytes : List ℕ) (kind : BadRequest) (at : ℕ) → BadAt bytes kind at → BeginsNone bytes
BeginsNone-bad bytes kind at bad a x of_a e = span_no_fault a x kind at of_a (subst (λ (b : List ℕ). BadAt b kind at) e bad)

-- spans that begin the same bytes, up to where none begins the rest, are the same
pub same_spans : (ps qs : List Span) (x y : List ℕ) → AllByRecursion IsSpan ps → AllByRecursion IsSpan qs → bytes_of ps ++ x ≡ bytes_of qs ++ y → BeginsNone x → BeginsNone y → (ps ≡ qs) × (x ≡ y)
same_spans [] [] x y of_ps of_qs e none_x none_y = (refl, e)
same_spans [] (q ∷ qs) x y of_ps of_qs e none_x none_y =
    absurd (none_x q (bytes_of qs ++ y) of_qs.0 (e ∙ append_assoc q.bytes (bytes_of qs) y))
same_spans (p ∷ ps) [] x y of_ps of_qs e none_x none_y =
    absurd (none_y p (bytes_of ps ++ x) of_ps.0 (sym e ∙ append_assoc p.bytes (bytes_of ps) x))
same_spans (p ∷ ps) (q ∷ qs) x y of_ps of_qs e none_x none_y =
    let parted : p.bytes ++ (bytes_of ps ++ x) ≡ q.bytes ++ (bytes_of qs ++ y) = sym (append_assoc p.bytes (bytes_of ps) x) ∙ e ∙ append_assoc q.bytes (bytes_of qs) y in
    let first : p ≡ q = spans_one p q (bytes_of ps ++ x) (bytes_of qs ++ y) of_ps.0 of_qs.0 parted in
    let rest : bytes_of ps ++ x ≡ bytes_of qs ++ y = append_cancel_left p.bytes (bytes_of ps ++ x) (bytes_of qs ++ y) (parted ∙ ap (λ (s : Span). s.bytes ++ (bytes_of qs ++ y)) (sym first)) in
    let further = same_spans ps qs x y of_ps.1 of_qs.1 rest none_x none_y in
    (ap (λ (s : Span). s ∷ ps) first ∙ ap (λ (ss : List Span). q ∷ ss) further.0, further.1)
