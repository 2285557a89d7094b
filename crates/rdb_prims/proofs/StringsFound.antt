-- Serves `string` and `fault` of `read_string`, and the law `one_string`: what is read as a string
-- is one, and where none is read there is none.
use Rattle.std.proofs.Common.{◌≡◌, ℕ, ℤ, false, ◌+◌, ◌-◌, ◌<◌, ◌≤◌, ◌⊎◌, ltb, eqb, cond, List, [], ◌∷◌, ◌++◌, length, drop, refl, sym, ap, subst, ◌∙◌, append_assoc, inl, inr, arith, length-append, length-drop, eqb-true, ltb-true, ltb-false, FitsSigned, w64}
use Rattle.std.specs.Prelude.{Result, Ok, Err, IfOk}
use Rattle.std.specs.Int.{w8, w16, w32, byte_len}
use Rattle.std.specs.Fmt.{signed_decimal}
use Rattle.std.proofs.lemmas.Bool.{cases_lt, eqb-false}
use Rattle.std.proofs.lemmas.Int.{ints}
use Rattle.byte_text.proofs.Decimals.{signed_decimal-short}
use Rattle.core_types.specs.declared.load_fault.RdbCause.{RdbCause}
use Rattle.core_types.specs.declared.load_fault.RdbCause.TheVariants as causes
use Rattle.rdb_prims.specs.declared.rdb_fault.RdbFault.{RdbFault}
use Rattle.rdb_prims.specs.declared.rdb_fault.RdbStop.{RdbStop}
use Rattle.rdb_prims.specs.declared.rdb_fault.RdbStop.TheVariants as stops
use Rattle.rdb_prims.specs.Length.{Form, Six, limit, spelling}
use Rattle.rdb_prims.specs.Text.{Size, One, Two, Four, width, mark, integer_mark_8, integer_mark_16, integer_mark_32, compressed_mark, longest, integer_text, IsPlain}
use Rattle.rdb_prims.specs.Places.{AreBytes, StandsAt, HasString}
use Rattle.rdb_prims.specs.Faults.{IsCutLength, IsCutString, BeginsNoLength, BeginsNoString, BeginsCompressed, BeginsTooLong, LacksLength, LacksString, StringFault}
use Rattle.rdb_prims.specs.Reading.{◌>>=◌, Gives, Read, fault_at, byte_at, bytes_at, length_at, integer_at, plain_at, by_first, string_at}
use Rattle.rdb_prims.proofs.Steps.{done, failed, carried, err_is, no_ok, no_err, bind_ok, bind_err, chosen, AreBytes-drop, AreBytes-append, zeros, length-zeros, AreBytes-zeros, IsByte, byte_found, byte_lacks, bytes_found, bytes_lack, stands}
use Rattle.rdb_prims.proofs.Forms.{spelling-is}
use Rattle.rdb_prims.proofs.Lengths.{length_found, length_lacks}
use Rattle.rdb_prims.proofs.Integers.{length-low_first, integer_decodes, integer_of, integer_found, integer_lacks}
use Rattle.rdb_prims.proofs.Strings.{behind_front, within_front}

-- ---- what is read is a string

wide : (size : Size) (z : ℤ) → FitsSigned (width size) z → FitsSigned w64 z
wide One z h = omega (arith, ints)
wide Two z h = omega (arith, ints)
wide Four z h = omega (arith, ints)

has_integer : (bytes : List ℕ) (at : ℕ) (size : Size) (found : List ℕ × ℕ) → AreBytes bytes
    → drop at bytes ≡ mark size ∷ drop (at + 1) bytes
    → integer_at (width size) bytes (at + 1) ≡ done found → HasString bytes at found.0 found.1
has_integer bytes at size found fits there e =
    let b = integer_found bytes (at + 1) size found fits e in
    let piece = integer_text size b.value in
    let rest : drop at bytes ≡ piece ++ b.more =
    there ∙ ap (λ (xs : List ℕ). mark size ∷ xs) b.rest in
    let end : found.1 ≡ at + length piece = omega (arith, b.next, length-low_first size b.value) in
    let few = (signed_decimal-short b.value (wide size b.value b.held)).few in
    let short : length found.0 ≤ longest = omega (arith, ap length b.decimal) in
    record {
      piece = piece;
      stands =
          subst (StandsAt bytes at piece) (sym end) (stands bytes at piece b.more (omega arith) rest);
      spells = (
        inr (record { size = size; value = b.value; held = b.held; whole = refl; decimal = b.decimal }),
        short,
      );
    }

-- what is read behind the length of a plain string
abbrev judged : ℕ → ℕ → List ℕ × ℕ → Read (List ℕ)
judged at size text = cond (ltb longest size) (Err (fault_at at causes.BadLength)) (Ok text)

abbrev behind_size : List ℕ → ℕ → ℕ × ℕ → Read (List ℕ)
behind_size bytes at size = bytes_at bytes size.1 size.0 >>= judged at size.0

-- a whole plain string at a place, too long or not
record BeginsPlain (bytes : List ℕ) (at : ℕ) (found : List ℕ × ℕ) : Type 0 where
  piece : List ℕ
  some : 0 < length piece
  plain : IsPlain piece found.0
  more : List ℕ
  rest : drop at bytes ≡ piece ++ more
  next : found.1 ≡ at + length piece

whole_plain : (bytes : List ℕ) (at : ℕ) (size : ℕ × ℕ) (text : List ℕ × ℕ) → AreBytes bytes
    → length_at bytes at ≡ done size → bytes_at bytes size.1 size.0 ≡ done text
    → BeginsPlain bytes at text
whole_plain bytes at size text fits e f =
    let b = length_found bytes at size fits e in
    let read = bytes_found bytes size.1 size.0 text f in
    let front = spelling b.form size.0 in
    let left = drop size.0 (drop size.1 bytes) in
    let behind : drop size.1 bytes ≡ b.more =
    ap (λ (m : ℕ). drop m bytes) b.next ∙ behind_front bytes at front b.more b.rest in
    let rest : drop at bytes ≡ (front ++ text.0) ++ left =
    b.rest ∙ ap (λ (xs : List ℕ). front ++ xs) (sym behind ∙ read.rest)
    ∙ sym (append_assoc front text.0 left) in
    let held : length text.0 < limit b.form = rw read.size b.held in
    record {
      piece = front ++ text.0;
      some = omega (arith, length-append front text.0, ap length (spelling-is b.form size.0));
      plain =
          record {
            form = b.form;
            held = held;
            whole = ap (λ (n : ℕ). spelling b.form n ++ text.0) (sym read.size);
          };
      more = left;
      rest = rest;
      next = omega (arith, read.next, b.next, read.size, length-append front text.0);
    }

has_plain : (bytes : List ℕ) (at : ℕ) (found : List ℕ × ℕ) → AreBytes bytes
    → plain_at bytes at ≡ done found → HasString bytes at found.0 found.1
unfolding plain_at
has_plain bytes at found fits e =
    let a =
    bind_ok (length_at bytes at) (behind_size bytes at) found e in
    let size = a.0 in
    let b =
    bind_ok (bytes_at bytes size.1 size.0) (judged at size.0) found a.2 in
    let text = b.0 in
    elim (chosen (ltb longest size.0) (failed (fault_at at causes.BadLength)) (done text) (done found) b.2) [
      | inl p ↦ no_ok found (fault_at at causes.BadLength) p.1
      | inr p ↦
          let w = whole_plain bytes at size text fits a.1 b.1 in
          let read = bytes_found bytes size.1 size.0 text b.1 in
          let small : size.0 ≤ longest = ltb-false longest size.0 p.0 in
          let made : HasString bytes at text.0 text.1 = record {
            piece = w.piece;
            stands =
                subst (StandsAt bytes at w.piece) (sym w.next) (stands bytes at w.piece w.more w.some w.rest);
            spells = (inl w.plain, omega (arith, read.size));
          } in
          carried (λ (x : List ℕ × ℕ). HasString bytes at x.0 x.1) text found p.1 made
    ]

-- the first byte of an integer of a size, and the bytes behind it
marked : (bytes : List ℕ) (at : ℕ) (size : Size) (first : ℕ × ℕ) → IsByte bytes at first
    → first.0 ≡ mark size → drop at bytes ≡ mark size ∷ drop (at + 1) bytes
marked bytes at size first one e = one.rest ∙ ap (λ (b : ℕ). b ∷ drop (at + 1) bytes) e

pub string_is : (bytes : List ℕ) (at : ℕ) (found : List ℕ × ℕ) → AreBytes bytes
    → string_at bytes at ≡ done found → HasString bytes at found.0 found.1
unfolding string_at
string_is bytes at found fits e =
    let a = bind_ok (byte_at bytes at) (by_first bytes at) found e in
    let first = a.0 in
    let one = byte_found bytes at first a.1 in
    let integer : (size : Size) → first.0 ≡ mark size → integer_at (width size) bytes first.1 ≡ done found → HasString bytes at found.0 found.1 =
    λ size m f. has_integer bytes at size found fits (marked bytes at size first one m) (ap (integer_at (width size) bytes) (sym one.next) ∙ f) in
    elim (chosen (eqb first.0 integer_mark_8) (integer_at w8 bytes first.1) _ (done found) a.2) [
      | inl p ↦ integer One (eqb-true first.0 integer_mark_8 p.0) p.1
      | inr p ↦ elim (chosen (eqb first.0 integer_mark_16) (integer_at w16 bytes first.1) _ (done found) p.1) [
        | inl q ↦ integer Two (eqb-true first.0 integer_mark_16 q.0) q.1
        | inr q ↦ elim (chosen (eqb first.0 integer_mark_32) (integer_at w32 bytes first.1) _ (done found) q.1) [
          | inl r ↦ integer Four (eqb-true first.0 integer_mark_32 r.0) r.1
          | inr r ↦ elim (chosen (eqb first.0 compressed_mark) (failed (fault_at at causes.Compressed)) (plain_at bytes at) (done found) r.1) [
            | inl s ↦ no_ok found (fault_at at causes.Compressed) s.1
            | inr s ↦ has_plain bytes at found fits s.1
          ]
        ]
      ]
    ]

-- ---- where none is read there is none

-- nothing is there: an empty string is due
cut_at_once : IsCutString []
cut_at_once =
    record {
      more = 0 ∷ [];
      missing = omega arith;
      text = [];
      whole = inl (record { form = Six; held = omega arith; whole = refl });
    }

cut_integer : (size : Size) (rest : List ℕ) → AreBytes rest → length rest < byte_len (width size)
    → IsCutString (mark size ∷ rest)
cut_integer size rest fits short =
    let count = byte_len (width size) - length rest in
    let padding = zeros count in
    let whole : length (rest ++ padding) ≡ byte_len (width size) =
    omega (arith, length-append rest padding, length-zeros count) in
    let d =
    integer_decodes size (rest ++ padding) whole (AreBytes-append rest padding fits (AreBytes-zeros count)) in
    record {
      more = padding;
      missing = omega (arith, length-zeros count);
      text = signed_decimal (integer_of size (rest ++ padding));
      whole = inr (record {
        size = size;
        value = integer_of size (rest ++ padding);
        held = d.held;
        whole = ap (λ (xs : List ℕ). mark size ∷ xs) (sym d.spelled);
        decimal = refl;
      });
    }

lacks_integer : (bytes : List ℕ) (at : ℕ) (size : Size) (d : RdbFault) → AreBytes bytes
    → drop at bytes ≡ mark size ∷ drop (at + 1) bytes
    → integer_at (width size) bytes (at + 1) ≡ failed d → StringFault bytes at d
lacks_integer bytes at size d fits there e =
    let within : at + 1 ≤ length bytes = omega (arith, length-drop at bytes, ap length there) in
    let none = integer_lacks bytes (at + 1) size d within e in
    let cut = cut_integer size (drop (at + 1) bytes) (AreBytes-drop (at + 1) bytes fits) none.0 in
    subst (StringFault bytes at) none.1 (subst IsCutString (sym there) cut, refl)

-- a cut length, behind which a string of zeros would do
cut_in_length : (bytes : List ℕ) → IsCutLength bytes → IsCutString bytes
cut_in_length bytes h =
    let padding = zeros h.n in
    let whole : bytes ++ (h.more ++ padding) ≡ spelling h.spells.form (length padding) ++ padding =
    sym (append_assoc bytes h.more padding) ∙ ap (λ (xs : List ℕ). xs ++ padding) h.spells.whole
    ∙ ap (λ (n : ℕ). spelling h.spells.form n ++ padding) (sym (length-zeros h.n)) in
    record {
      more = h.more ++ padding;
      missing = omega (arith, length-append h.more padding, h.missing);
      text = padding;
      whole =
          inl (record { form = h.spells.form; held = rw (length-zeros h.n) h.spells.held; whole = whole });
    }

-- a whole length, and too few bytes behind it
cut_in_text : (form : Form) (n : ℕ) (left : List ℕ) → n < limit form → length left < n
    → IsCutString (spelling form n ++ left)
cut_in_text form n left held few =
    let padding = zeros (n - length left) in
    let size : length (left ++ padding) ≡ n =
    omega (arith, length-append left padding, length-zeros (n - length left)) in
    record {
      more = padding;
      missing = omega (arith, length-zeros (n - length left));
      text = left ++ padding;
      whole = inl (record {
        form = form;
        held = rw size held;
        whole =
            append_assoc (spelling form n) left padding
            ∙ ap (λ (m : ℕ). spelling form m ++ (left ++ padding)) (sym size);
      });
    }

-- a first byte of no length and no mark
no_string : (first : ℕ) → 0x82 ≤ first → (first < integer_mark_8) ⊎ (compressed_mark < first)
    → ((0x82 ≤ first) × (first < integer_mark_8)) ⊎ (compressed_mark < first)
no_string first low (inl below) = inl (low, below)
no_string first low (inr above) = inr above

-- a first byte of no mark, whatever it begins
record BeginsUnmarked (bytes : List ℕ) : Type 0 where
  first : ℕ
  more : List ℕ
  whole : bytes ≡ first ∷ more
  unmarked : (first < integer_mark_8) ⊎ (compressed_mark < first)

no_length_no_string : (rest : List ℕ) → BeginsUnmarked rest → BeginsNoLength rest
    → BeginsNoString rest
no_length_no_string [] u none = absurd none
no_length_no_string (b ∷ rest) u none =
    let is = u.whole in
    let same : b ≡ u.first = cc in
    no_string b none (rw same u.unmarked)

lacks_in_length : (bytes : List ℕ) (at offset : ℕ) (cause : RdbCause)
    → BeginsUnmarked (drop at bytes) → LacksLength bytes at cause offset
    → LacksString bytes at cause offset
lacks_in_length bytes at offset causes.Truncated u lacks =
    (cut_in_length (drop at bytes) lacks.0, lacks.1)
lacks_in_length bytes at offset causes.BadLength u lacks =
    (inl (no_length_no_string (drop at bytes) u lacks.0), lacks.1)
lacks_in_length bytes at offset _ u lacks = absurd lacks

-- a whole length, and not the string that it counts, or one that is too long
lacks_in_text : (bytes : List ℕ) (at : ℕ) (size : ℕ × ℕ) (d : RdbFault) → AreBytes bytes
    → length_at bytes at ≡ done size
    → behind_size bytes at size ≡ failed d
    → StringFault bytes at d
lacks_in_text bytes at size d fits e f =
    let b = length_found bytes at size fits e in
    let front = spelling b.form size.0 in
    elim (bind_err (bytes_at bytes size.1 size.0) (judged at size.0) d f) [
      | inl q ↦
          let within : size.1 ≤ length bytes =
          rw b.next (within_front bytes at b.form size.0 b.more b.rest) in
          let none = bytes_lack bytes size.1 size.0 d within q in
          let behind : drop size.1 bytes ≡ b.more =
          ap (λ (m : ℕ). drop m bytes) b.next ∙ behind_front bytes at front b.more b.rest in
          let few : length b.more < size.0 = rw (← behind) none.0 in
          subst (StringFault bytes at) none.1 (
            subst IsCutString (sym b.rest) (cut_in_text b.form size.0 b.more b.held few),
            refl,
          )
      | inr q ↦
          let text = q.0 in
          elim (chosen (ltb longest size.0) (failed (fault_at at causes.BadLength)) (done text) (failed d) q.2) [
            | inl r ↦
                let w = whole_plain bytes at size text fits e q.1 in
                let read = bytes_found bytes size.1 size.0 text q.1 in
                let over : longest < size.0 = ltb-true longest size.0 r.0 in
                let long : BeginsTooLong (drop at bytes) =
                record {
                  piece = w.piece;
                  more = w.more;
                  text = text.0;
                  whole = w.rest;
                  plain = w.plain;
                  long = omega (arith, read.size);
                } in
                subst (StringFault bytes at) (err_is {A = List ℕ × ℕ} (fault_at at causes.BadLength) d r.1) (
                  inr long,
                  refl,
                )
            | inr r ↦ no_err text d r.1
          ]
    ]

lacks_plain : (bytes : List ℕ) (at : ℕ) (d : RdbFault) → AreBytes bytes
    → BeginsUnmarked (drop at bytes) → plain_at bytes at ≡ failed d → StringFault bytes at d
unfolding plain_at
lacks_plain bytes at d fits u e =
    elim (bind_err (length_at bytes at) (behind_size bytes at) d e) [
      | inl p ↦ lacks_in_length bytes at d.offset d.cause u (length_lacks bytes at d fits p)
      | inr p ↦ lacks_in_text bytes at p.0 d fits p.1 p.2
    ]

-- a byte of none of the four marks
unmarked : (first : ℕ) → eqb first integer_mark_8 ≡ false → eqb first integer_mark_16 ≡ false
    → eqb first integer_mark_32 ≡ false → eqb first compressed_mark ≡ false
    → (first < integer_mark_8) ⊎ (compressed_mark < first)
unmarked first a b c d =
    elim (cases_lt first integer_mark_8) [
      | inl below ↦ inl below
      | inr high ↦
          let na = eqb-false first integer_mark_8 a in
          let nb = eqb-false first integer_mark_16 b in
          let nc = eqb-false first integer_mark_32 c in
          let nd = eqb-false first compressed_mark d in
          inr (omega arith)
    ]

pub string_lacks : (bytes : List ℕ) (at : ℕ) (d : RdbFault) → AreBytes bytes
    → string_at bytes at ≡ failed d → StringFault bytes at d
unfolding string_at
string_lacks bytes at d fits e =
    elim (bind_err (byte_at bytes at) (by_first bytes at) d e) [
      | inl p ↦
          let none = byte_lacks bytes at d p in
          subst (StringFault bytes at) none.1 (rw none.0 cut_at_once, refl)
      | inr p ↦
          let first = p.0 in
          let one = byte_found bytes at first p.1 in
          let integer : (size : Size) → first.0 ≡ mark size → integer_at (width size) bytes first.1 ≡ failed d → StringFault bytes at d =
          λ size m f. lacks_integer bytes at size d fits (marked bytes at size first one m) (ap (integer_at (width size) bytes) (sym one.next) ∙ f) in
          elim (chosen (eqb first.0 integer_mark_8) (integer_at w8 bytes first.1) _ (failed d) p.2) [
            | inl q ↦ integer One (eqb-true first.0 integer_mark_8 q.0) q.1
            | inr q ↦ elim (chosen (eqb first.0 integer_mark_16) (integer_at w16 bytes first.1) _ (failed d) q.1) [
              | inl r ↦ integer Two (eqb-true first.0 integer_mark_16 r.0) r.1
              | inr r ↦ elim (chosen (eqb first.0 integer_mark_32) (integer_at w32 bytes first.1) _ (failed d) r.1) [
                | inl s ↦ integer Four (eqb-true first.0 integer_mark_32 s.0) s.1
                | inr s ↦ elim (chosen (eqb first.0 compressed_mark) (failed (fault_at at causes.Compressed)) (plain_at bytes at) (failed d) s.1) [
                  | inl t ↦
                      let here : BeginsCompressed (drop at bytes) =
                      rw one.rest (eqb-true first.0 compressed_mark t.0) in
                      subst (StringFault bytes at) (err_is {A = List ℕ × ℕ} (fault_at at causes.Compressed) d t.1) (
                        here,
                        refl,
                      )
                  | inr t ↦
                      let u : BeginsUnmarked (drop at bytes) =
                      record {
                        first = first.0;
                        more = drop (at + 1) bytes;
                        whole = one.rest;
                        unmarked = unmarked first.0 q.0 r.0 s.0 t.0;
                      } in
                      lacks_plain bytes at d fits u t.1
                ]
              ]
            ]
          ]
    ]

-- ---- an answer that is the reading

pub answers_string : (bytes : List ℕ) (at : ℕ) (result : Result (List ℕ × ℕ) RdbStop)
    → AreBytes bytes → Gives (λ found. found) result (string_at bytes at)
    → IfOk result (λ found. HasString bytes at found.0 found.1)
answers_string bytes at (Ok found) fits e = string_is bytes at found fits e
answers_string bytes at (Err why) fits e = tt

pub answers_fault : (bytes : List ℕ) (at : ℕ) (fault : RdbFault) (result : Result (List ℕ × ℕ) RdbStop)
    → AreBytes bytes → Gives (λ found. found) result (string_at bytes at)
    → result ≡ Err (stops.Refused fault) → StringFault bytes at fault
answers_fault bytes at fault (Ok found) fits e is = absurd cc
answers_fault bytes at fault (Err (stops.Refused d)) fits e is =
    let same : d ≡ fault = cc in
    subst (StringFault bytes at) same (string_lacks bytes at d fits e)
answers_fault bytes at fault (Err (stops.Stopped why)) fits e is = absurd cc
