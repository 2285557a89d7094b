-- Entries as data that can be told apart. The models of the store's types cite them.
use Rattle.std.specs.Prelude.{◌≡◌, ◌⊎◌, ℕ, List, Option, refl}
use Rattle.std.proofs.Common.{inl, inr}
use Rattle.std.specs.Coded.{Coded, code_by, coded×, coded⊎, coded_ℕ, coded_list, coded_option}
use Rattle.core_types.specs.declared.field.Field.{Field}
use Rattle.core_types.specs.declared.value.Value.{Value}
use Rattle.core_types.specs.declared.value.Value.TheVariants as value
use Rattle.core_types.specs.Keys.{Entry}

abbrev pub bytes_code : Coded (List ℕ)
bytes_code = coded_list coded_ℕ

abbrev pub field_code : Coded Field
field_code =
    code_by (List ℕ × List ℕ) (coded× bytes_code bytes_code)
    (λ f. (f.name, f.value)) (λ p. record { name = p.0; value = p.1 }) (λ _. refl)

-- a value by its kind: a string, a list, a hash or one of a module
abbrev pub Kinds : Type 0 → Type 0
Kinds N = List ℕ ⊎ (List (List ℕ) ⊎ (List Field ⊎ N))

module _ {N : Type 0} where
  abbrev pub by_kind : Value N → Kinds N
  by_kind (value.Str text) = inl text
  by_kind (value.List items) = inr (inl items)
  by_kind (value.Hash fields) = inr (inr (inl fields))
  by_kind (value.Native native) = inr (inr (inr native))

  abbrev pub of_kind : Kinds N → Value N
  of_kind (inl text) = value.Str text
  of_kind (inr (inl items)) = value.List items
  of_kind (inr (inr (inl fields))) = value.Hash fields
  of_kind (inr (inr (inr native))) = value.Native native

  abbrev pub kind_and_back : (v : Value N) → of_kind (by_kind v) ≡ v
  kind_and_back (value.Str text) = refl
  kind_and_back (value.List items) = refl
  kind_and_back (value.Hash fields) = refl
  kind_and_back (value.Native native) = refl

  abbrev pub value_code : Coded N → Coded (Value N)
  value_code native =
      code_by (Kinds N)
      (coded⊎ bytes_code (coded⊎ (coded_list bytes_code) (coded⊎ (coded_list field_code) native)))
      by_kind of_kind kind_and_back

  abbrev pub entry_code : Coded N → Coded (Entry N)
  entry_code native =
      code_by (Value N × Option ℕ) (coded× (value_code native) (coded_option coded_ℕ))
      (λ e. (e.value, e.deadline)) (λ p. record { value = p.0; deadline = p.1 }) (λ _. refl)
