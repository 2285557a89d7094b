-- What each change of names keeps: no file gets two names.
use Rattle.std.proofs.Common.{◌≡◌, ◌≢◌, ◌⊎◌, ◌<◌, ◌≤◌, ◌++◌, ℕ, zero, suc, List, [], ◌∷◌, take, Option, Some, None, refl, sym, ◌∙◌, inl, inr, arith}
use Rattle.disk_model.specs.Disk.{Names, NameChange, number_of, with_number, renamed, after_renames}
use Rattle.disk_model.proofs.Sound.{AreDistinct, AreBelow, AreFresh}
use Rattle.disk_model.specs.declared.file_name.FileName.{FileName}
use Rattle.disk_model.specs.declared.file_name.FileName.TheVariants.{Log, LogTemp, Dump, DumpTemp}

-- two names are one or not
pub same_name : (a b : FileName) → (a ≡ b) ⊎ (a ≢ b)
same_name Log Log = inl refl
same_name Log LogTemp = inr (λ e. cc)
same_name Log Dump = inr (λ e. cc)
same_name Log DumpTemp = inr (λ e. cc)
same_name LogTemp Log = inr (λ e. cc)
same_name LogTemp LogTemp = inl refl
same_name LogTemp Dump = inr (λ e. cc)
same_name LogTemp DumpTemp = inr (λ e. cc)
same_name Dump Log = inr (λ e. cc)
same_name Dump LogTemp = inr (λ e. cc)
same_name Dump Dump = inl refl
same_name Dump DumpTemp = inr (λ e. cc)
same_name DumpTemp Log = inr (λ e. cc)
same_name DumpTemp LogTemp = inr (λ e. cc)
same_name DumpTemp Dump = inr (λ e. cc)
same_name DumpTemp DumpTemp = inl refl

-- the name that was given a number has it
pub number_there : (name : FileName) (number : Option ℕ) (names : Names) → number_of name (with_number name number names) ≡ number
number_there Log number names = refl
number_there LogTemp number names = refl
number_there Dump number names = refl
number_there DumpTemp number names = refl

-- and each other one has what it had
pub number_elsewhere : (other name : FileName) (number : Option ℕ) (names : Names) → other ≢ name → number_of other (with_number name number names) ≡ number_of other names
number_elsewhere Log Log number names ne = absurd (ne refl)
number_elsewhere Log LogTemp number names ne = refl
number_elsewhere Log Dump number names ne = refl
number_elsewhere Log DumpTemp number names ne = refl
number_elsewhere LogTemp Log number names ne = refl
number_elsewhere LogTemp LogTemp number names ne = absurd (ne refl)
number_elsewhere LogTemp Dump number names ne = refl
number_elsewhere LogTemp DumpTemp number names ne = refl
number_elsewhere Dump Log number names ne = refl
number_elsewhere Dump LogTemp number names ne = refl
number_elsewhere Dump Dump number names ne = absurd (ne refl)
number_elsewhere Dump DumpTemp number names ne = refl
number_elsewhere DumpTemp Log number names ne = refl
number_elsewhere DumpTemp LogTemp number names ne = refl
number_elsewhere DumpTemp Dump number names ne = refl
number_elsewhere DumpTemp DumpTemp number names ne = absurd (ne refl)

-- Where a name got its number from: it was given it, or had it.
pub after_created : (other name : FileName) (new number : ℕ) (names : Names) → number_of other (with_number name (Some new) names) ≡ Some number
    → ((other ≡ name) × (new ≡ number)) ⊎ ((other ≢ name) × (number_of other names ≡ Some number))
after_created other name new number names has = elim (same_name other name) [
  | inl same ↦ inl (same, (let there : number_of name (with_number name (Some new) names) ≡ Some new = number_there name (Some new) names in cc))
  | inr ne ↦ inr (ne, sym (number_elsewhere other name (Some new) names ne) ∙ has)
]

-- After a move the one name has what the other had.
pub after_moved : (other from to : FileName) (number : ℕ) (names : Names) → number_of other (renamed names (NameChange.Renamed from to)) ≡ Some number
    → ((other ≡ to) × (number_of from names ≡ Some number)) ⊎ ((other ≢ to) × (other ≢ from) × (number_of other names ≡ Some number))
after_moved other from to number names has = elim (same_name other to) [
  | inl same ↦ inl (same, (let there : number_of to (renamed names (NameChange.Renamed from to)) ≡ number_of from names = number_there to (number_of from names) (with_number from None names) in cc))
  | inr ne ↦ (let kept : number_of other (with_number from None names) ≡ Some number = sym (number_elsewhere other to (number_of from names) (with_number from None names) ne) ∙ has in
      elim (same_name other from) [
        | inl same ↦ absurd (let gone : number_of from (with_number from None names) ≡ None = number_there from None names in cc)
        | inr other_ne ↦ inr (ne, other_ne, sym (number_elsewhere other from None names other_ne) ∙ kept)
      ])
]

pub created_distinct : (name : FileName) (new bound : ℕ) (names : Names) → AreDistinct names → AreBelow bound names → bound ≤ new → AreDistinct (with_number name (Some new) names)
created_distinct name new bound names distinct below le a b number has_a has_b =
    elim (after_created a name new number names has_a) [
      | inl one ↦ elim (after_created b name new number names has_b) [
        | inl two ↦ one.0 ∙ sym two.0
        | inr two ↦ absurd (let low : number < bound = below b number two.1 in omega (arith, one.1))
      ]
      | inr one ↦ elim (after_created b name new number names has_b) [
        | inl two ↦ absurd (let low : number < bound = below a number one.1 in omega (arith, two.1))
        | inr two ↦ distinct a b number one.1 two.1
      ]
    ]

pub created_below : (name : FileName) (new bound : ℕ) (names : Names) → AreBelow bound names → bound ≤ new → AreBelow (suc new) (with_number name (Some new) names)
created_below name new bound names below le a number has = elim (after_created a name new number names has) [
  | inl one ↦ omega (arith, one.1)
  | inr one ↦ (let low : number < bound = below a number one.1 in omega arith)
]

pub moved_distinct : (from to : FileName) (names : Names) → AreDistinct names → AreDistinct (renamed names (NameChange.Renamed from to))
moved_distinct from to names distinct a b number has_a has_b =
    elim (after_moved a from to number names has_a) [
      | inl one ↦ elim (after_moved b from to number names has_b) [
        | inl two ↦ one.0 ∙ sym two.0
        | inr two ↦ absurd (two.1 (distinct b from number two.2 one.1))
      ]
      | inr one ↦ elim (after_moved b from to number names has_b) [
        | inl two ↦ absurd (one.1 (distinct a from number one.2 two.1))
        | inr two ↦ distinct a b number one.2 two.2
      ]
    ]

pub moved_below : (from to : FileName) (bound : ℕ) (names : Names) → AreBelow bound names → AreBelow bound (renamed names (NameChange.Renamed from to))
moved_below from to bound names below a number has = elim (after_moved a from to number names has) [
  | inl one ↦ below from number one.1
  | inr one ↦ below a number one.2
]

-- the bound is within the end
pub fresh_within : (bound : ℕ) (changes : List NameChange) (end : ℕ) → AreFresh bound changes end → bound ≤ end
fresh_within bound [] end fresh = fresh
fresh_within bound (NameChange.Created name number ∷ more) end fresh = let le : suc number ≤ end = fresh_within (suc number) more end fresh.1 in let lower : bound ≤ number = fresh.0 in omega arith
fresh_within bound (NameChange.Renamed from to ∷ more) end fresh = fresh_within bound more end fresh

-- so it is of the first changes
pub fresh_front : (k bound : ℕ) (changes : List NameChange) (end : ℕ) → AreFresh bound changes end → AreFresh bound (take k changes) end
fresh_front zero bound changes end fresh = fresh_within bound changes end fresh
fresh_front (suc k) bound [] end fresh = fresh
fresh_front (suc k) bound (NameChange.Created name number ∷ more) end fresh = (fresh.0, fresh_front k (suc number) more end fresh.1)
fresh_front (suc k) bound (NameChange.Renamed from to ∷ more) end fresh = fresh_front k bound more end fresh

-- and with a file more
pub fresh_created : (bound : ℕ) (changes : List NameChange) (end : ℕ) (name : FileName) → AreFresh bound changes end → AreFresh bound (changes ++ NameChange.Created name end ∷ []) (suc end)
fresh_created bound [] end name fresh = (fresh, omega arith)
fresh_created bound (NameChange.Created other number ∷ more) end name fresh = (fresh.0, fresh_created (suc number) more end name fresh.1)
fresh_created bound (NameChange.Renamed from to ∷ more) end name fresh = fresh_created bound more end name fresh

pub fresh_moved : (bound : ℕ) (changes : List NameChange) (end : ℕ) (from to : FileName) → AreFresh bound changes end → AreFresh bound (changes ++ NameChange.Renamed from to ∷ []) end
fresh_moved bound [] end from to fresh = fresh
fresh_moved bound (NameChange.Created other number ∷ more) end from to fresh = (fresh.0, fresh_moved (suc number) more end from to fresh.1)
fresh_moved bound (NameChange.Renamed other another ∷ more) end from to fresh = fresh_moved bound more end from to fresh

-- No file has two names after the changes, and all are below the end.
pub after_distinct : (bound : ℕ) (names : Names) (changes : List NameChange) (end : ℕ) → AreDistinct names → AreBelow bound names → AreFresh bound changes end
    → AreDistinct (after_renames names changes)
after_distinct bound names [] end distinct below fresh = distinct
after_distinct bound names (NameChange.Created name number ∷ more) end distinct below fresh =
    after_distinct (suc number) (with_number name (Some number) names) more end (created_distinct name number bound names distinct below fresh.0) (created_below name number bound names below fresh.0) fresh.1
after_distinct bound names (NameChange.Renamed from to ∷ more) end distinct below fresh =
    after_distinct bound (renamed names (NameChange.Renamed from to)) more end (moved_distinct from to names distinct) (moved_below from to bound names below) fresh

pub after_below : (bound : ℕ) (names : Names) (changes : List NameChange) (end : ℕ) → AreBelow bound names → AreFresh bound changes end
    → AreBelow end (after_renames names changes)
after_below bound names [] end below fresh = λ name number has. let low : number < bound = below name number has in let le : bound ≤ end = fresh in omega arith
after_below bound names (NameChange.Created name number ∷ more) end below fresh =
    after_below (suc number) (with_number name (Some number) names) more end (created_below name number bound names below fresh.0) fresh.1
after_below bound names (NameChange.Renamed from to ∷ more) end below fresh =
    after_below bound (renamed names (NameChange.Renamed from to)) more end (moved_below from to bound names below) fresh

-- the changes after one another
pub renames_append : (names : Names) (changes : List NameChange) (more : List NameChange) → after_renames names (changes ++ more) ≡ after_renames (after_renames names changes) more
renames_append names [] more = refl
renames_append names (change ∷ changes) more = renames_append (renamed names change) changes more
