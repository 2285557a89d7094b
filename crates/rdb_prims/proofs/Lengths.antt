-- Serves `length` and `fault` of `read_len`, and the law `one_length`: reading a length is its
-- grammar.
use Rattle.std.proofs.Common.{◌≡◌, ℕ, ◌+◌, ◌-◌, ◌<◌, ◌≤◌, List, [], ◌∷◌, ◌++◌, length, drop, refl, sym, ap, subst, ◌∙◌, inl, inr, arith, length-append, length-drop}
use Rattle.std.specs.Prelude.{Ok, Err, IfOk, IfErr}
use Rattle.core_types.specs.declared.load_fault.RdbCause.{RdbCause}
use Rattle.core_types.specs.declared.load_fault.RdbCause.TheVariants as causes
use Rattle.rdb_prims.specs.declared.rdb_fault.RdbFault.{RdbFault}
use Rattle.rdb_prims.specs.Length.{Form, Six, limit, spelling, SpellsLength}
use Rattle.rdb_prims.specs.Places.{AreBytes, StandsAt, HasLength}
use Rattle.rdb_prims.specs.Faults.{IsCutLength, BeginsNoLength, LacksLength, LengthFault}
use Rattle.rdb_prims.specs.Reading.{◌>>=◌, Read, truncated, fault_at, byte_at, bytes_at, form_of, size_behind, value_of, length_at}
use Rattle.rdb_prims.proofs.Steps.{done, failed, carried, no_err, bind_ok, bind_err, AreBytes-drop, AreBytes-take, AreBytes-append, zeros, length-zeros, AreBytes-zeros, byte_reads, byte_none, rest_behind, bytes_read, bytes_none, byte_found, byte_lacks, bytes_found, bytes_lack, stands, stands_rest}
use Rattle.rdb_prims.proofs.Forms.{head, behind, spelling-is, length-behind, form_of-head, value_of-behind, FirstOf, form_first, form_lacks, form_none, decodes}

-- ---- what is spelled is read

pub length_reads : (bytes : List ℕ) (at : ℕ) (form : Form) (n : ℕ) (more : List ℕ) → n < limit form
    → drop at bytes ≡ spelling form n ++ more
    → length_at bytes at ≡ done (n, at + length (spelling form n))
unfolding length_at
length_reads bytes at form n more held e =
    let rest : drop at bytes ≡ head form n ∷ (behind form n ++ more) =
    e ∙ ap (λ (xs : List ℕ). xs ++ more) (spelling-is form n) in
    let next : drop (at + 1) bytes ≡ behind form n ++ more =
    rest_behind bytes at (head form n) (behind form n ++ more) rest in
    let within : at + 1 ≤ length bytes = omega (arith, length-drop at bytes, ap length rest) in
    let size = length-behind form n in
    let end : at + 1 + size_behind form ≡ at + length (spelling form n) =
    omega (arith, ap length (spelling-is form n)) in
    rw (
      byte_reads bytes at (head form n) (behind form n ++ more) rest,
      form_of-head form n at held,
      bytes_read bytes (at + 1) (size_behind form) (behind form n) more within next size,
      value_of-behind form n held,
      end,
    ) refl

pub length_again : (bytes : List ℕ) (at n next : ℕ) → HasLength bytes at n next
    → length_at bytes at ≡ done (n, next)
length_again bytes at n next h =
    let s = h.spells in
    let rest : drop at bytes ≡ spelling s.form n ++ h.stands.more =
    stands_rest bytes at h.piece next h.stands
    ∙ ap (λ (xs : List ℕ). xs ++ h.stands.more) s.whole in
    let end : at + length (spelling s.form n) ≡ next =
    ap (λ (xs : List ℕ). at + length xs) (sym s.whole) ∙ sym h.stands.behind in
    length_reads bytes at s.form n h.stands.more s.held rest ∙ ap (λ (m : ℕ). done (n, m)) end

-- a front that ends too soon
cut_reads : (bytes : List ℕ) (at : ℕ) (rest more : List ℕ) (n : ℕ) → drop at bytes ≡ rest
    → 0 < length more → SpellsLength (rest ++ more) n
    → length_at bytes at ≡ failed (truncated bytes)
unfolding length_at
cut_reads bytes at [] more n e missing s = rw (byte_none bytes at e) refl
cut_reads bytes at (first ∷ rest) more n e missing s =
    let form = s.form in
    let whole : first ∷ (rest ++ more) ≡ head form n ∷ behind form n =
    s.whole ∙ spelling-is form n in
    let same : first ≡ head form n = cc in
    let tail : rest ++ more ≡ behind form n = cc in
    let there : drop at bytes ≡ head form n ∷ rest = e ∙ ap (λ (b : ℕ). b ∷ rest) same in
    let next = rest_behind bytes at (head form n) rest there in
    let within : at + 1 ≤ length bytes = omega (arith, length-drop at bytes, ap length e) in
    let short : length (drop (at + 1) bytes) < size_behind form =
    omega (arith, ap length next, ap length tail, length-append rest more, length-behind form n) in
    rw (
      byte_reads bytes at (head form n) rest there,
      form_of-head form n at s.held,
      bytes_none bytes (at + 1) (size_behind form) within short,
    ) refl

pub length_cut : (bytes : List ℕ) (at : ℕ) → IsCutLength (drop at bytes)
    → length_at bytes at ≡ failed (truncated bytes)
length_cut bytes at h = cut_reads bytes at (drop at bytes) h.more h.n refl h.missing h.spells

none_reads : (bytes : List ℕ) (at : ℕ) (rest : List ℕ) → drop at bytes ≡ rest → BeginsNoLength rest
    → length_at bytes at ≡ failed (fault_at at causes.BadLength)
unfolding length_at
none_reads bytes at [] e h = absurd h
none_reads bytes at (first ∷ rest) e h =
    rw (byte_reads bytes at first rest e, form_none at first h) refl

pub length_none : (bytes : List ℕ) (at : ℕ) → BeginsNoLength (drop at bytes)
    → length_at bytes at ≡ failed (fault_at at causes.BadLength)
length_none bytes at h = none_reads bytes at (drop at bytes) refl h

lacks_again : (bytes : List ℕ) (at offset : ℕ) (cause : RdbCause)
    → LacksLength bytes at cause offset → length_at bytes at ≡ failed (fault_at offset cause)
lacks_again bytes at offset causes.Truncated h =
    length_cut bytes at h.0 ∙ ap (λ (m : ℕ). failed (fault_at m causes.Truncated)) (sym h.1)
lacks_again bytes at offset causes.BadLength h =
    length_none bytes at h.0 ∙ ap (λ (m : ℕ). failed (fault_at m causes.BadLength)) (sym h.1)
lacks_again bytes at offset _ h = absurd h

pub length_fault_again : (bytes : List ℕ) (at : ℕ) (fault : RdbFault) → LengthFault bytes at fault
    → length_at bytes at ≡ failed fault
length_fault_again bytes at fault h = lacks_again bytes at fault.offset fault.cause h

-- ---- what is read is spelled

-- what is read behind the first byte, by its form
abbrev decoded : Form → ℕ × ℕ → List ℕ × ℕ → Read ℕ
decoded form first more = Ok (value_of form first.0 more.0, more.1)

abbrev behind_form : List ℕ → ℕ × ℕ → Form → Read ℕ
behind_form bytes first form = bytes_at bytes first.1 (size_behind form) >>= decoded form first

abbrev behind_first : List ℕ → ℕ → ℕ × ℕ → Read ℕ
behind_first bytes at first = form_of at first.0 >>= behind_form bytes first

-- a length at the front of what is left from a place on
pub record BeginsLength (bytes : List ℕ) (at : ℕ) (found : ℕ × ℕ) : Type 0 where
  pub form : Form
  pub held : found.0 < limit form
  pub more : List ℕ
  pub rest : drop at bytes ≡ spelling form found.0 ++ more
  pub next : found.1 ≡ at + length (spelling form found.0)

pub length_found : (bytes : List ℕ) (at : ℕ) (found : ℕ × ℕ) → AreBytes bytes
    → length_at bytes at ≡ done found → BeginsLength bytes at found
unfolding length_at
length_found bytes at found fits e =
    let a =
    bind_ok (byte_at bytes at) (behind_first bytes at) found e in
    let first = a.0 in
    let b =
    bind_ok (form_of at first.0) (behind_form bytes first) found a.2 in
    let form = b.0 in
    let c =
    bind_ok (bytes_at bytes first.1 (size_behind form)) (decoded form first) found b.2 in
    let more = c.0 in
    let one = byte_found bytes at first a.1 in
    let read = bytes_found bytes first.1 (size_behind form) more c.1 in
    let there : AreBytes more.0 =
    rw read.value (AreBytes-take (size_behind form) (drop first.1 bytes) (AreBytes-drop first.1 bytes fits)) in
    let d = decodes form first.0 more.0 (form_first at first.0 form b.1) read.size there in
    let left = drop (size_behind form) (drop first.1 bytes) in
    let rest : drop at bytes ≡ spelling form (value_of form first.0 more.0) ++ left =
    one.rest ∙ ap (λ (m : ℕ). first.0 ∷ drop m bytes) (sym one.next)
    ∙ ap (λ (xs : List ℕ). first.0 ∷ xs) read.rest
    ∙ ap (λ (xs : List ℕ). xs ++ left) (sym d.spelled) in
    let made : BeginsLength bytes at (value_of form first.0 more.0, more.1) = record {
      form = form;
      held = d.held;
      more = left;
      rest = rest;
      next = omega (arith, one.next, read.next, read.size, ap length d.spelled);
    } in
    carried (BeginsLength bytes at) (value_of form first.0 more.0, more.1) found c.2 made

some_spelled : (form : Form) (n : ℕ) → 0 < length (spelling form n)
some_spelled form n = omega (arith, ap length (spelling-is form n))

pub length_is : (bytes : List ℕ) (at : ℕ) (found : ℕ × ℕ) → AreBytes bytes
    → length_at bytes at ≡ done found → HasLength bytes at found.0 found.1
length_is bytes at found fits e =
    let f = length_found bytes at found fits e in
    let piece = spelling f.form found.0 in
    record {
      piece = piece;
      stands =
          subst (StandsAt bytes at piece) (sym f.next) (stands bytes at piece f.more (some_spelled f.form found.0) f.rest);
      spells = record { form = f.form; held = f.held; whole = refl };
    }

-- nothing is there: a length of one byte is due
pub cut_at_once : IsCutLength []
cut_at_once =
    record {
      more = 0 ∷ [];
      missing = omega arith;
      n = 0;
      spells = record { form = Six; held = omega arith; whole = refl };
    }

-- the first byte of a form, and too few behind it
cut_behind : (form : Form) (first : ℕ) (rest : List ℕ) → FirstOf first form → AreBytes rest
    → length rest < size_behind form → IsCutLength (first ∷ rest)
cut_behind form first rest h fits short =
    let padding = zeros (size_behind form - length rest) in
    let size : length (rest ++ padding) ≡ size_behind form =
    omega (arith, length-append rest padding, length-zeros (size_behind form - length rest)) in
    let d =
    decodes form first (rest ++ padding) h size (AreBytes-append rest padding fits (AreBytes-zeros (size_behind form - length rest))) in
    record {
      more = padding;
      missing = omega (arith, length-zeros (size_behind form - length rest));
      n = value_of form first (rest ++ padding);
      spells = record { form = form; held = d.held; whole = sym d.spelled };
    }

pub length_lacks : (bytes : List ℕ) (at : ℕ) (d : RdbFault) → AreBytes bytes
    → length_at bytes at ≡ failed d → LengthFault bytes at d
unfolding length_at
length_lacks bytes at d fits e =
    elim (bind_err (byte_at bytes at) (behind_first bytes at) d e) [
      | inl p ↦
          let none = byte_lacks bytes at d p in
          subst (LengthFault bytes at) none.1 (rw none.0 cut_at_once, refl)
      | inr p ↦
          let first = p.0 in
          let one = byte_found bytes at first p.1 in
          elim (bind_err (form_of at first.0) (behind_form bytes first) d p.2) [
            | inl q ↦
                let none = form_lacks at first.0 d q in
                subst (LengthFault bytes at) none.1 (rw one.rest none.0, refl)
            | inr q ↦
                let form = q.0 in
                elim (bind_err (bytes_at bytes first.1 (size_behind form)) (decoded form first) d q.2) [
                  | inl r ↦
                      let within : first.1 ≤ length bytes = omega (arith, one.next, one.within) in
                      let none = bytes_lack bytes first.1 (size_behind form) d within r in
                      let short : length (drop (at + 1) bytes) < size_behind form =
                      rw (← one.next) none.0 in
                      subst (LengthFault bytes at) none.1 (
                        rw one.rest (cut_behind form first.0 (drop (at + 1) bytes) (form_first at first.0 form q.1) (AreBytes-drop (at + 1) bytes fits) short),
                        refl,
                      )
                  | inr r ↦ no_err (value_of form first.0 r.0.0, r.0.1) d r.2
                ]
          ]
    ]

-- ---- an answer that is the reading

pub answers_length : (bytes : List ℕ) (at : ℕ) (result : Read ℕ) → AreBytes bytes
    → result ≡ length_at bytes at → IfOk result (λ found. HasLength bytes at found.0 found.1)
answers_length bytes at (Ok found) fits e = length_is bytes at found fits (sym e)
answers_length bytes at (Err d) fits e = tt

pub answers_fault : (bytes : List ℕ) (at : ℕ) (result : Read ℕ) → AreBytes bytes
    → result ≡ length_at bytes at → IfErr result (LengthFault bytes at)
answers_fault bytes at (Ok found) fits e = tt
answers_fault bytes at (Err d) fits e = length_lacks bytes at d fits (sym e)
