-- Serves the laws `one_length` and `one_string`: a place has one reading or one fault.
use Rattle.std.proofs.Common.{◌≡◌, ℕ, ◌⊎◌, List, refl, sym, ap, ◌∙◌, inl, inr, Ok, Err}
use Rattle.rdb_prims.specs.declared.rdb_fault.RdbFault.{RdbFault}
use Rattle.rdb_prims.specs.Places.{AreBytes, HasLength, HasString}
use Rattle.rdb_prims.specs.Faults.{LengthFault, StringFault}
use Rattle.rdb_prims.specs.Reading.{Read, length_at, string_at}
use Rattle.rdb_prims.proofs.Steps.{done, failed, ok_is, err_is, no_err}
use Rattle.rdb_prims.proofs.Lengths.{length_again, length_fault_again, length_is, length_lacks}
use Rattle.rdb_prims.proofs.Strings.{string_again, string_fault_again}
use Rattle.rdb_prims.proofs.StringsFound.{string_is, string_lacks}

-- a value or a fault
either : {X : Type 0} (r : Read X)
    → ((x : X × ℕ) × (r ≡ done x)) ⊎ ((d : RdbFault) × (r ≡ failed d))
either (Ok x) = inl (x, refl)
either (Err d) = inr (d, refl)

-- one value
same : {X : Type 0} (r : Read X) (x y : X) (m n : ℕ) → r ≡ done (x, m) → r ≡ done (y, n)
    → (x ≡ y) × (m ≡ n)
same {X} r x y m n e f =
    let p : (x, m) ≡ (y, n) = ok_is (x, m) (y, n) (sym e ∙ f) in
    (ap (λ (z : X × ℕ). z.0) p, ap (λ (z : X × ℕ). z.1) p)

-- one fault
same_fault : {X : Type 0} (r : Read X) (d f : RdbFault) → r ≡ failed d → r ≡ failed f → d ≡ f
same_fault {X} r d f e g = err_is {A = X × ℕ} d f (sym e ∙ g)

-- and not both
apart : {X : Type 0} (r : Read X) (x : X) (n : ℕ) (d : RdbFault) → r ≡ done (x, n)
    → ¬ (r ≡ failed d)
apart r x n d e f = no_err (x, n) d (sym e ∙ f)

pub length_either : (bytes : List ℕ) (at : ℕ) → AreBytes bytes
    → ((n : ℕ) × (next : ℕ) × HasLength bytes at n next) ⊎ ((fault : RdbFault) × LengthFault bytes at fault)
length_either bytes at fits =
    elim (either (length_at bytes at)) [
      | inl p ↦ inl (p.0.0, p.0.1, length_is bytes at p.0 fits p.1)
      | inr p ↦ inr (p.0, length_lacks bytes at p.0 fits p.1)
    ]

pub length_same : (bytes : List ℕ) (at n other next place : ℕ) → HasLength bytes at n next
    → HasLength bytes at other place → (n ≡ other) × (next ≡ place)
length_same bytes at n other next place g h =
    same (length_at bytes at) n other next place (length_again bytes at n next g) (length_again bytes at other place h)

pub length_fault_same : (bytes : List ℕ) (at : ℕ) (fault other : RdbFault)
    → LengthFault bytes at fault → LengthFault bytes at other → fault ≡ other
length_fault_same bytes at fault other g h =
    same_fault (length_at bytes at) fault other (length_fault_again bytes at fault g) (length_fault_again bytes at other h)

pub length_apart : (bytes : List ℕ) (at n next : ℕ) (fault : RdbFault) → HasLength bytes at n next
    → ¬ LengthFault bytes at fault
length_apart bytes at n next fault g h =
    apart (length_at bytes at) n next fault (length_again bytes at n next g) (length_fault_again bytes at fault h)

pub string_either : (bytes : List ℕ) (at : ℕ) → AreBytes bytes
    → ((text : List ℕ) × (next : ℕ) × HasString bytes at text next) ⊎ ((fault : RdbFault) × StringFault bytes at fault)
string_either bytes at fits =
    elim (either (string_at bytes at)) [
      | inl p ↦ inl (p.0.0, p.0.1, string_is bytes at p.0 fits p.1)
      | inr p ↦ inr (p.0, string_lacks bytes at p.0 fits p.1)
    ]

pub string_same : (bytes : List ℕ) (at : ℕ) (text other : List ℕ) (next place : ℕ)
    → HasString bytes at text next → HasString bytes at other place
    → (text ≡ other) × (next ≡ place)
string_same bytes at text other next place g h =
    same (string_at bytes at) text other next place (string_again bytes at text next g) (string_again bytes at other place h)

pub string_fault_same : (bytes : List ℕ) (at : ℕ) (fault other : RdbFault)
    → StringFault bytes at fault → StringFault bytes at other → fault ≡ other
string_fault_same bytes at fault other g h =
    same_fault (string_at bytes at) fault other (string_fault_again bytes at fault g) (string_fault_again bytes at other h)

pub string_apart : (bytes : List ℕ) (at : ℕ) (text : List ℕ) (next : ℕ) (fault : RdbFault)
    → HasString bytes at text next → ¬ StringFault bytes at fault
string_apart bytes at text next fault g h =
    apart (string_at bytes at) text next fault (string_again bytes at text next g) (string_fault_again bytes at fault h)
