-- Laws on values that are lent to be changed. A module's proofs may cite them.
use Rattle.std.proofs.Common.{◌≡◌, List, ℕ, Bool, true, false, Option, Some, None, refl, sym, ap, ◌∙◌, if◌then◌else◌}
use Rattle.std.specs.Option.{option_map, option_and_then}
use Rattle.std.specs.Cmp.Lexicographic.{bytes_decides}
use Rattle.std.specs.Str.{bytes_eq}
use Rattle.std.proofs.lemmas.Option.{none-some, same_Some}
use Rattle.core_types.proofs.KeyLemmas.{entry_at-with_entry, same_keys}
use Rattle.core_types.specs.Keys.{Entry, Keys, Native, entry_at, deadline_at, value_at, with_changed}
use Rattle.core_types.specs.declared.value.Value.{Value}
use Rattle.core_types.specs.declared.value.Value.TheVariants as value
use Rattle.module_laws.specs.Told.{KeepsTypes, Told, is_typed, with_native}

entry_case : (key : List ℕ) (native : Native) (keys : Keys) (found : Option (Entry Native))
    → entry_at keys key ≡ found → option_map (λ entry. entry.value) found ≡ Some (value.Native native)
    → entry_at keys key ≡ Some (record { value = value.Native native; deadline = option_and_then (λ entry. entry.deadline) found })
entry_case key native keys None at e = absurd (none-some _ e)
entry_case key native keys (Some entry) at e =
    at ∙ ap (λ v. Some (record { value = v; deadline = entry.deadline })) (same_Some entry.value (value.Native native) e)

entry_found : (keys : Keys) (key : List ℕ) (native : Native) → value_at keys key ≡ Some (value.Native native) → entry_at keys key ≡ Some (record { value = value.Native native; deadline = deadline_at keys key })
entry_found keys key native found = entry_case key native keys (entry_at keys key) refl found

stays_case : (b : Bool) (keys : Keys) (key other : List ℕ) (entry : Entry Native) → bytes_eq other key ≡ b → entry_at keys key ≡ Some entry → (if b then Some entry else entry_at keys other) ≡ entry_at keys other
stays_case true keys key other entry same at = sym at ∙ ap (entry_at keys) (sym ((bytes_decides other key).0 same))
stays_case false keys key other entry same at = refl

-- a value that is changed into itself changes nothing
pub changed_to_itself : (keys : Keys) (key : List ℕ) (native : Native) → value_at keys key ≡ Some (value.Native native) → with_changed keys key (value.Native native) ≡ keys
changed_to_itself keys key native found =
    same_keys _ keys (λ other. entry_at-with_entry keys key _ other ∙ stays_case (bytes_eq other key) keys key other _ refl (entry_found keys key native found))

pub lent_unchanged : (told : Told) (key : List ℕ) (native : Native) → value_at told.seen.keys key ≡ Some (value.Native native) → with_native key native told ≡ told
lent_unchanged told key native found =
    ap (λ keys. record told { seen = record told.seen { keys = keys } }) (changed_to_itself told.seen.keys key native found)

-- a value that is written over itself leaves the types as they were
pub lent_typed : (native : Native) (there : Option (Value Native)) (old new : Bool) → there ≡ Some (value.Native native) → KeepsTypes native there old new → new ≡ old
lent_typed native there old new found keeps =
    keeps.same (ap (is_typed native.name) found ∙ (bytes_decides native.name native.name).1 refl)

-- and so does one over a value of the same type
pub same_type : (written lent : Native) (there : Option (Value Native)) (old new : Bool)
    → there ≡ Some (value.Native lent) → bytes_eq lent.name written.name ≡ true
    → KeepsTypes written there old new → new ≡ old
same_type written lent there old new found same keeps =
    keeps.same (ap (is_typed written.name) found ∙ same)
