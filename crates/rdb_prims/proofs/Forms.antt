-- Serves `length` and `fault` of `read_len`, and the laws: the forms of a length, by their first
-- byte and the rest.
use Rattle.std.proofs.Common.{◌≡◌, ℕ, ◌+◌, ◌-◌, ◌*◌, ◌/◌, ◌%◌, ◌<◌, ◌≤◌, ltb, eqb, List, [], ◌∷◌, length, refl, sym, ap, ap₂, subst, inl, inr, arith, ltb-true, ltb-false, lt-ltb, le-ltb, eqb-true, ne_eqb}
use Rattle.std.specs.Int.{w32, w64, to_be_bytes}
use Rattle.std.proofs.lemmas.Bool.{eqb-false}
use Rattle.std.proofs.lemmas.List.{nil_from_length}
use Rattle.std.proofs.lemmas.Nat.{be_bytes_4, be_bytes_8, from_be_bytes-to_be_bytes_4, from_be_bytes-to_be_bytes_8}
use Rattle.core_types.specs.declared.load_fault.RdbCause.TheVariants as causes
use Rattle.rdb_prims.specs.declared.rdb_fault.RdbFault.{RdbFault}
use Rattle.rdb_prims.specs.Length.{Form, Six, Fourteen, ThirtyTwo, SixtyFour, limit, spelling, length_mark_32, length_mark_64}
use Rattle.rdb_prims.specs.Places.{AreBytes}
use Rattle.rdb_prims.specs.Reading.{form_of, size_behind, value_of, fault_at}
use Rattle.rdb_prims.proofs.Steps.{done, failed, ok_is, err_is, no_ok, no_err, chosen}

-- the first byte of a length in a form, and those behind it
abbrev pub head : Form → ℕ → ℕ
head Six n = n
head Fourteen n = 0x40 + n / 256
head ThirtyTwo n = length_mark_32
head SixtyFour n = length_mark_64

abbrev pub behind : Form → ℕ → List ℕ
behind Six n = []
behind Fourteen n = n % 256 ∷ []
behind ThirtyTwo n = to_be_bytes w32 n
behind SixtyFour n = to_be_bytes w64 n

pub spelling-is : (form : Form) (n : ℕ) → spelling form n ≡ head form n ∷ behind form n
spelling-is Six n = refl
spelling-is Fourteen n = refl
spelling-is ThirtyTwo n = refl
spelling-is SixtyFour n = refl

pub length-behind : (form : Form) (n : ℕ) → length (behind form n) ≡ size_behind form
length-behind Six n = refl
length-behind Fourteen n = refl
length-behind ThirtyTwo n = refl
length-behind SixtyFour n = refl

pub form_of-head : (form : Form) (n at : ℕ) → n < limit form → form_of at (head form n) ≡ done form
form_of-head Six n at h = rw (lt-ltb n 0x40 h) refl
form_of-head Fourteen n at h =
    rw (le-ltb (0x40 + n / 256) 0x40 (omega arith), lt-ltb (0x40 + n / 256) 0x80 (omega arith)) refl
form_of-head ThirtyTwo n at h = refl
form_of-head SixtyFour n at h = refl

pub value_of-behind : (form : Form) (n : ℕ) → n < limit form
    → value_of form (head form n) (behind form n) ≡ n
value_of-behind Six n h = refl
value_of-behind Fourteen n h = omega arith
value_of-behind ThirtyTwo n h = from_be_bytes-to_be_bytes_4 n h
value_of-behind SixtyFour n h = from_be_bytes-to_be_bytes_8 n h

-- what the first byte of a form is
abbrev pub FirstOf : ℕ → Form → Type 0
FirstOf first Six = first < 0x40
FirstOf first Fourteen = (0x40 ≤ first) × (first < 0x80)
FirstOf first ThirtyTwo = first ≡ length_mark_32
FirstOf first SixtyFour = first ≡ length_mark_64

pub form_first : (at first : ℕ) (form : Form) → form_of at first ≡ done form → FirstOf first form
form_first at first form e =
    elim (chosen (ltb first 0x40) _ _ _ e) [
      | inl p ↦ subst (FirstOf first) (ok_is Six form p.1) (ltb-true _ _ p.0)
      | inr p ↦ elim (chosen (ltb first 0x80) _ _ _ p.1) [
        | inl q ↦
            subst (FirstOf first) (ok_is Fourteen form q.1) (ltb-false _ _ p.0, ltb-true _ _ q.0)
        | inr q ↦ elim (chosen (eqb first length_mark_32) _ _ _ q.1) [
          | inl r ↦ subst (FirstOf first) (ok_is ThirtyTwo form r.1) (eqb-true _ _ r.0)
          | inr r ↦ elim (chosen (eqb first length_mark_64) _ _ _ r.1) [
            | inl s ↦ subst (FirstOf first) (ok_is SixtyFour form s.1) (eqb-true _ _ s.0)
            | inr s ↦ no_ok form (fault_at at causes.BadLength) s.1
          ]
        ]
      ]
    ]

-- a first byte of no form
pub form_lacks : (at first : ℕ) (d : RdbFault) → form_of at first ≡ failed d
    → (0x82 ≤ first) × (fault_at at causes.BadLength ≡ d)
form_lacks at first d e =
    elim (chosen (ltb first 0x40) _ _ _ e) [
      | inl p ↦ no_err Six d p.1
      | inr p ↦ elim (chosen (ltb first 0x80) _ _ _ p.1) [
        | inl q ↦ no_err Fourteen d q.1
        | inr q ↦ elim (chosen (eqb first length_mark_32) _ _ _ q.1) [
          | inl r ↦ no_err ThirtyTwo d r.1
          | inr r ↦ elim (chosen (eqb first length_mark_64) _ _ _ r.1) [
            | inl s ↦ no_err SixtyFour d s.1
            | inr s ↦
                let a = ltb-false first 0x80 q.0 in
                let b = eqb-false first length_mark_32 r.0 in
                let c = eqb-false first length_mark_64 s.0 in
                (omega arith, err_is {A = Form} (fault_at at causes.BadLength) d s.1)
          ]
        ]
      ]
    ]

pub form_none : (at first : ℕ) → 0x82 ≤ first
    → form_of at first ≡ failed (fault_at at causes.BadLength)
form_none at first h =
    rw (
      le-ltb first 0x40 (omega arith),
      le-ltb first 0x80 (omega arith),
      ne_eqb first length_mark_32 (λ e. omega arith),
      ne_eqb first length_mark_64 (λ e. omega arith),
    ) refl

-- Bytes of a form are the spelling of what they say.
pub record Decodes (form : Form) (first : ℕ) (more : List ℕ) : Type 0 where
  pub held : value_of form first more < limit form
  pub spelled : spelling form (value_of form first more) ≡ first ∷ more

middle_decodes : (first : ℕ) (more : List ℕ) → (0x40 ≤ first) × (first < 0x80) → length more ≡ 1
    → AreBytes more → Decodes Fourteen first more
middle_decodes first [] h size fits = absurd cc
middle_decodes first (low ∷ []) h size fits =
    let small : low < 256 = fits 0 in
    let above = h.0 in
    let below = h.1 in
    let quotient : 0x40 + ((first - 0x40) * 256 + low) / 256 ≡ first = omega arith in
    let rest : ((first - 0x40) * 256 + low) % 256 ≡ low = omega arith in
    record { held = omega arith; spelled = ap₂ (λ (a b : ℕ). a ∷ b ∷ []) quotient rest }
middle_decodes first (low ∷ next ∷ more) h size fits = absurd (omega arith)

pub decodes : (form : Form) (first : ℕ) (more : List ℕ) → FirstOf first form
    → length more ≡ size_behind form → AreBytes more → Decodes form first more
decodes Six first more h size fits =
    record {
      held = h;
      spelled = ap (λ (xs : List ℕ). first ∷ xs) (sym (nil_from_length more size));
    }
decodes Fourteen first more h size fits = middle_decodes first more h size fits
decodes ThirtyTwo first more h size fits = record {
  held = omega (arith, fits 0, fits 1, fits 2, fits 3);
  spelled = ap₂ (λ (a : ℕ) (xs : List ℕ). a ∷ xs) (sym h) (be_bytes_4 more _ size fits refl);
}
decodes SixtyFour first more h size fits = record {
  held = omega (arith, fits 0, fits 1, fits 2, fits 3, fits 4, fits 5, fits 6, fits 7);
  spelled = ap₂ (λ (a : ℕ) (xs : List ℕ). a ∷ xs) (sym h) (be_bytes_8 more _ size fits refl);
}
