-- Serves `string` and `fault` of `read_string`, and the law `one_string`: reading a string is its
-- grammar.
use Rattle.std.proofs.Common.{◌≡◌, ℕ, false, ◌+◌, ◌<◌, ◌≤◌, ◌⊎◌, ltb, eqb, cond, List, [], ◌∷◌, ◌++◌, length, take, drop, refl, sym, ap, subst, ◌∙◌, append_assoc, inl, inr, arith, length-append, length-drop, take-append-drop, take_at, drop_at, ne_eqb, lt-ltb, le-ltb}
use Rattle.std.specs.Int.{byte_len}
use Rattle.std.specs.Fmt.{signed_decimal}
use Rattle.std.proofs.lemmas.Bool.{cases_lt}
use Rattle.std.proofs.lemmas.List.{drop-drop, take-append-le}
use Rattle.core_types.specs.declared.load_fault.RdbCause.{RdbCause}
use Rattle.core_types.specs.declared.load_fault.RdbCause.TheVariants as causes
use Rattle.rdb_prims.specs.declared.rdb_fault.RdbFault.{RdbFault}
use Rattle.rdb_prims.specs.Length.{Form, Six, Fourteen, ThirtyTwo, SixtyFour, limit, spelling}
use Rattle.rdb_prims.specs.Text.{Size, One, Two, Four, width, mark, integer_mark_8, integer_mark_16, integer_mark_32, compressed_mark, longest, IsPlain, IsInteger}
use Rattle.rdb_prims.specs.Places.{HasString}
use Rattle.rdb_prims.specs.Faults.{IsCutLength, IsCutString, BeginsNoLength, BeginsNoString, BeginsCompressed, BeginsTooLong, LacksString, StringFault}
use Rattle.rdb_prims.specs.Reading.{truncated, fault_at, byte_at, integer_at, plain_at, string_at}
use Rattle.rdb_prims.proofs.Steps.{done, failed, byte_reads, byte_none, rest_behind, bytes_read, bytes_none, stands_rest}
use Rattle.rdb_prims.proofs.Forms.{head, behind, spelling-is}
use Rattle.rdb_prims.proofs.Lengths.{length_reads, length_cut, length_none}
use Rattle.rdb_prims.proofs.Integers.{low_first, length-low_first, integer_reads, integer_cut}

-- ---- which reading a first byte calls for

-- a first byte of no mark
abbrev pub IsUnmarked : ℕ → Type 0
IsUnmarked first = (first < integer_mark_8) ⊎ (compressed_mark < first)

not_mark : (first m : ℕ) → IsUnmarked first → integer_mark_8 ≤ m → m ≤ compressed_mark → first ≡ m
    → ⊥
not_mark first m (inl below) low high e = omega arith
not_mark first m (inr above) low high e = omega arith

pub at_integer : (bytes : List ℕ) (at : ℕ) (size : Size)
    → byte_at bytes at ≡ done (mark size, at + 1)
    → string_at bytes at ≡ integer_at (width size) bytes (at + 1)
unfolding string_at
at_integer bytes at One e = rw e refl
at_integer bytes at Two e = rw e refl
at_integer bytes at Four e = rw e refl

pub at_plain : (bytes : List ℕ) (at first : ℕ) → byte_at bytes at ≡ done (first, at + 1)
    → IsUnmarked first → string_at bytes at ≡ plain_at bytes at
unfolding string_at
at_plain bytes at first e h =
    let none : (m : ℕ) → integer_mark_8 ≤ m → m ≤ compressed_mark → eqb first m ≡ false =
    λ m low high. ne_eqb first m (not_mark first m h low high) in
    rw (
      e,
      none integer_mark_8 (omega arith) (omega arith),
      none integer_mark_16 (omega arith) (omega arith),
      none integer_mark_32 (omega arith) (omega arith),
      none compressed_mark (omega arith) (omega arith),
    ) refl

head_unmarked : (form : Form) (n : ℕ) → n < limit form → IsUnmarked (head form n)
head_unmarked Six n h = inl (omega arith)
head_unmarked Fourteen n h = inl (omega arith)
head_unmarked ThirtyTwo n h = inl (omega arith)
head_unmarked SixtyFour n h = inl (omega arith)

-- ---- what is spelled is read

pub behind_front : (bytes : List ℕ) (at : ℕ) (front left : List ℕ) → drop at bytes ≡ front ++ left
    → drop (at + length front) bytes ≡ left
behind_front bytes at front left e =
    sym (drop-drop (length front) at bytes) ∙ ap (drop (length front)) e
    ∙ drop_at front left (length front) refl

-- a place behind a length lies within the bytes
pub within_front : (bytes : List ℕ) (at : ℕ) (form : Form) (n : ℕ) (left : List ℕ)
    → drop at bytes ≡ spelling form n ++ left → at + length (spelling form n) ≤ length bytes
within_front bytes at form n left e =
    omega (
      arith,
      length-drop at bytes,
      ap length e,
      length-append (spelling form n) left,
      ap length (spelling-is form n),
    )

-- a whole plain string is read, where it is not too long
pub plain_reads : (bytes : List ℕ) (at : ℕ) (form : Form) (text more : List ℕ)
    → length text < limit form → drop at bytes ≡ spelling form (length text) ++ (text ++ more)
    → plain_at bytes at ≡ cond (ltb longest (length text)) (failed (fault_at at causes.BadLength)) (done (text, at + length (spelling form (length text) ++ text)))
unfolding plain_at
plain_reads bytes at form text more held e =
    let front = spelling form (length text) in
    let behind = behind_front bytes at front (text ++ more) e in
    let within = within_front bytes at form (length text) (text ++ more) e in
    let end : at + length front + length text ≡ at + length (front ++ text) =
    omega (arith, length-append front text) in
    rw (
      length_reads bytes at form (length text) (text ++ more) held e,
      bytes_read bytes (at + length front) (length text) text more within behind refl,
      end,
    ) refl

-- the string begins with the first byte of its length
plain_first : (bytes : List ℕ) (at : ℕ) (form : Form) (n : ℕ) (left : List ℕ) → n < limit form
    → drop at bytes ≡ spelling form n ++ left → string_at bytes at ≡ plain_at bytes at
plain_first bytes at form n left held e =
    let rest : drop at bytes ≡ head form n ∷ (behind form n ++ left) =
    e ∙ ap (λ (xs : List ℕ). xs ++ left) (spelling-is form n) in
    at_plain bytes at (head form n) (byte_reads bytes at (head form n) (behind form n ++ left) rest) (head_unmarked form n held)

plain_rest : (bytes : List ℕ) (at : ℕ) (piece text more : List ℕ) (p : IsPlain piece text)
    → drop at bytes ≡ piece ++ more
    → drop at bytes ≡ spelling p.form (length text) ++ (text ++ more)
plain_rest bytes at piece text more p e =
    e ∙ ap (λ (xs : List ℕ). xs ++ more) p.whole
    ∙ append_assoc (spelling p.form (length text)) text more

plain_again : (bytes : List ℕ) (at : ℕ) (piece text more : List ℕ) → IsPlain piece text
    → drop at bytes ≡ piece ++ more → length text ≤ longest
    → string_at bytes at ≡ done (text, at + length piece)
plain_again bytes at piece text more p e short =
    let rest = plain_rest bytes at piece text more p e in
    plain_first bytes at p.form (length text) (text ++ more) p.held rest
    ∙ plain_reads bytes at p.form text more p.held rest
    ∙ rw (le-ltb longest (length text) short) refl
    ∙ ap (λ (xs : List ℕ). done (text, at + length xs)) (sym p.whole)

too_long : (bytes : List ℕ) (at : ℕ) → BeginsTooLong (drop at bytes)
    → string_at bytes at ≡ failed (fault_at at causes.BadLength)
too_long bytes at h =
    let rest = plain_rest bytes at h.piece h.text h.more h.plain h.whole in
    plain_first bytes at h.plain.form (length h.text) (h.text ++ h.more) h.plain.held rest
    ∙ plain_reads bytes at h.plain.form h.text h.more h.plain.held rest
    ∙ rw (lt-ltb longest (length h.text) h.long) refl

integer_again : (bytes : List ℕ) (at : ℕ) (piece text more : List ℕ) → IsInteger piece text
    → drop at bytes ≡ piece ++ more → string_at bytes at ≡ done (text, at + length piece)
integer_again bytes at piece text more p e =
    let rest : drop at bytes ≡ mark p.size ∷ (low_first p.size p.value ++ more) =
    e ∙ ap (λ (xs : List ℕ). xs ++ more) p.whole in
    let within : at + 1 ≤ length bytes = omega (arith, length-drop at bytes, ap length rest) in
    let next = rest_behind bytes at (mark p.size) (low_first p.size p.value ++ more) rest in
    let end : at + 1 + byte_len (width p.size) ≡ at + length piece =
    omega (arith, length-low_first p.size p.value, ap length p.whole) in
    at_integer bytes at p.size (byte_reads bytes at (mark p.size) (low_first p.size p.value ++ more) rest)
    ∙ integer_reads bytes (at + 1) p.size p.value more within p.held next
    ∙ ap (λ (m : ℕ). done (signed_decimal p.value, m)) end
    ∙ ap (λ (xs : List ℕ). done (xs, at + length piece)) (sym p.decimal)

pub string_again : (bytes : List ℕ) (at : ℕ) (text : List ℕ) (next : ℕ)
    → HasString bytes at text next → string_at bytes at ≡ done (text, next)
string_again bytes at text next h =
    let rest = stands_rest bytes at h.piece next h.stands in
    let end = ap (λ (m : ℕ). done (text, m)) (sym h.stands.behind) in
    elim h.spells.0 [
      | inl plain ↦ plain_again bytes at h.piece text h.stands.more plain rest h.spells.1 ∙ end
      | inr integer ↦ integer_again bytes at h.piece text h.stands.more integer rest ∙ end
    ]

-- ---- a string that ends too soon

-- its length ends too soon, or it has too few bytes
cut_plain_at : (bytes : List ℕ) (at : ℕ) (rest more text : List ℕ) → drop at bytes ≡ rest
    → 0 < length more → IsPlain (rest ++ more) text → plain_at bytes at ≡ failed (truncated bytes)
unfolding plain_at
cut_plain_at bytes at rest more text e missing p =
    let front = spelling p.form (length text) in
    elim (cases_lt (length rest) (length front)) [
      | inl short ↦
          let within : length rest ≤ length front = omega arith in
          let is : rest ≡ take (length rest) front =
          sym (take_at rest more (length rest) refl) ∙ ap (take (length rest)) p.whole
          ∙ take-append-le (length rest) front text within in
          let tail = drop (length rest) front in
          let spelled : rest ++ tail ≡ front =
          ap (λ (xs : List ℕ). xs ++ tail) is ∙ take-append-drop (length rest) front in
          let cut : IsCutLength rest = record {
            more = tail;
            missing = omega (arith, length-drop (length rest) front);
            n = length text;
            spells = record { form = p.form; held = p.held; whole = spelled };
          } in
          rw (length_cut bytes at (subst IsCutLength (sym e) cut)) refl
      | inr long ↦
          let left = drop (length front) rest in
          let is : front ≡ take (length front) rest =
          sym (take_at front text (length front) refl) ∙ ap (take (length front)) (sym p.whole)
          ∙ take-append-le (length front) rest more long in
          let there : drop at bytes ≡ front ++ left =
          e ∙ sym (take-append-drop (length front) rest)
          ∙ ap (λ (xs : List ℕ). xs ++ left) (sym is) in
          let behind = behind_front bytes at front left there in
          let within = within_front bytes at p.form (length text) left there in
          let few : length left < length text =
          omega (
            arith,
            length-drop (length front) rest,
            length-append rest more,
            length-append front text,
            ap length p.whole,
          ) in
          let short : length (drop (at + length front) bytes) < length text = rw behind few in
          rw (
            length_reads bytes at p.form (length text) left p.held there,
            bytes_none bytes (at + length front) (length text) within short,
          ) refl
    ]

cut_plain : (bytes : List ℕ) (at : ℕ) (rest more text : List ℕ) → drop at bytes ≡ rest
    → 0 < length more → IsPlain (rest ++ more) text → string_at bytes at ≡ failed (truncated bytes)
unfolding string_at
cut_plain bytes at [] more text e missing p = rw (byte_none bytes at e) refl
cut_plain bytes at (first ∷ rest) more text e missing p =
    let whole : first ∷ (rest ++ more) ≡ head p.form (length text) ∷ (behind p.form (length text) ++ text) =
    p.whole ∙ ap (λ (xs : List ℕ). xs ++ text) (spelling-is p.form (length text)) in
    let same : head p.form (length text) ≡ first = cc in
    at_plain bytes at first (byte_reads bytes at first rest e) (subst IsUnmarked same (head_unmarked p.form (length text) p.held))
    ∙ cut_plain_at bytes at (first ∷ rest) more text e missing p

cut_integer : (bytes : List ℕ) (at : ℕ) (rest more text : List ℕ) → drop at bytes ≡ rest
    → 0 < length more → IsInteger (rest ++ more) text
    → string_at bytes at ≡ failed (truncated bytes)
unfolding string_at
cut_integer bytes at [] more text e missing p = rw (byte_none bytes at e) refl
cut_integer bytes at (first ∷ rest) more text e missing p =
    let whole : first ∷ (rest ++ more) ≡ mark p.size ∷ low_first p.size p.value = p.whole in
    let same : first ≡ mark p.size = cc in
    let tail : rest ++ more ≡ low_first p.size p.value = cc in
    let there : drop at bytes ≡ mark p.size ∷ rest = e ∙ ap (λ (b : ℕ). b ∷ rest) same in
    let next = rest_behind bytes at (mark p.size) rest there in
    let within : at + 1 ≤ length bytes = omega (arith, length-drop at bytes, ap length e) in
    let few : length rest < byte_len (width p.size) =
    omega (arith, ap length tail, length-append rest more, length-low_first p.size p.value) in
    let short : length (drop (at + 1) bytes) < byte_len (width p.size) = rw next few in
    at_integer bytes at p.size (byte_reads bytes at (mark p.size) rest there)
    ∙ integer_cut bytes (at + 1) p.size within short

pub string_cut : (bytes : List ℕ) (at : ℕ) → IsCutString (drop at bytes)
    → string_at bytes at ≡ failed (truncated bytes)
string_cut bytes at h =
    elim h.whole [
      | inl plain ↦ cut_plain bytes at (drop at bytes) h.more h.text refl h.missing plain
      | inr integer ↦ cut_integer bytes at (drop at bytes) h.more h.text refl h.missing integer
    ]

-- ---- a string that is none

unmarked : (first : ℕ) → ((0x82 ≤ first) × (first < integer_mark_8)) ⊎ (compressed_mark < first)
    → IsUnmarked first
unmarked first (inl h) = inl h.1
unmarked first (inr h) = inr h

high : (first : ℕ) → ((0x82 ≤ first) × (first < integer_mark_8)) ⊎ (compressed_mark < first)
    → 0x82 ≤ first
high first (inl h) = h.0
high first (inr h) = omega arith

none_reads : (bytes : List ℕ) (at : ℕ) (rest : List ℕ) → drop at bytes ≡ rest → BeginsNoString rest
    → string_at bytes at ≡ failed (fault_at at causes.BadLength)
unfolding plain_at
none_reads bytes at [] e h = absurd h
none_reads bytes at (first ∷ rest) e h =
    let begins : BeginsNoLength (drop at bytes) = rw e (high first h) in
    at_plain bytes at first (byte_reads bytes at first rest e) (unmarked first h)
    ∙ rw (length_none bytes at begins) refl

compressed_reads : (bytes : List ℕ) (at : ℕ) (rest : List ℕ) → drop at bytes ≡ rest
    → BeginsCompressed rest → string_at bytes at ≡ failed (fault_at at causes.Compressed)
unfolding string_at
compressed_reads bytes at [] e h = absurd h
compressed_reads bytes at (first ∷ rest) e h =
    let there : drop at bytes ≡ compressed_mark ∷ rest = e ∙ ap (λ (b : ℕ). b ∷ rest) h in
    rw (byte_reads bytes at compressed_mark rest there) refl

lacks_again : (bytes : List ℕ) (at offset : ℕ) (cause : RdbCause)
    → LacksString bytes at cause offset → string_at bytes at ≡ failed (fault_at offset cause)
lacks_again bytes at offset causes.Truncated h =
    string_cut bytes at h.0 ∙ ap (λ (m : ℕ). failed (fault_at m causes.Truncated)) (sym h.1)
lacks_again bytes at offset causes.BadLength h =
    let end = ap (λ (m : ℕ). failed (fault_at m causes.BadLength)) (sym h.1) in
    elim h.0 [
      | inl none ↦ none_reads bytes at (drop at bytes) refl none ∙ end
      | inr long ↦ too_long bytes at long ∙ end
    ]
lacks_again bytes at offset causes.Compressed h =
    compressed_reads bytes at (drop at bytes) refl h.0
    ∙ ap (λ (m : ℕ). failed (fault_at m causes.Compressed)) (sym h.1)
lacks_again bytes at offset _ h = absurd h

pub string_fault_again : (bytes : List ℕ) (at : ℕ) (fault : RdbFault) → StringFault bytes at fault
    → string_at bytes at ≡ failed fault
string_fault_again bytes at fault h = lacks_again bytes at fault.offset fault.cause h
