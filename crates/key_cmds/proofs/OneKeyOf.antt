-- What the words over the keys make of one key. Serves the clauses of the commands on one key and
-- of those on several.
use Rattle.std.proofs.Common.{◌≡◌, ℕ, Bool, true, false, List, Option, Some, None, unwrap_or, if◌then◌else◌, refl, sym, ap, ◌∙◌}
use Rattle.std.proofs.lemmas.Option.{none-some}
use Rattle.std.specs.Option.{option_and_then, option_map}
use Rattle.std.specs.Str.{bytes_eq}
use Rattle.std.specs.Cmp.Lexicographic.{bytes_decides}
use Rattle.core_types.specs.declared.value.Value.{Value}
use Rattle.core_types.specs.Keys.{Entry, KeysOf, deadline_at, entry_at, value_at, with_changed, with_entry, with_value, without}
use Rattle.core_types.proofs.KeyLemmas.{entry_at-with_entry, entry_at-without, same_keys}

itself : (key : List ℕ) → bytes_eq key key ≡ true
itself key = (bytes_decides key key).1 refl

module _ {N : Type 0} where
  entry_here : (keys : KeysOf N) (key : List ℕ) (entry : Entry N) → entry_at (with_entry keys key entry) key ≡ Some entry
  entry_here keys key entry =
      entry_at-with_entry keys key entry key ∙ ap (λ (b : Bool). if b then Some entry else entry_at keys key) (itself key)

  same_case : (keys : KeysOf N) (key other : List ℕ) (entry : Entry N) → entry_at keys key ≡ Some entry → (b : Bool) → bytes_eq other key ≡ b → (if b then Some entry else entry_at keys other) ≡ entry_at keys other
  same_case keys key other entry at true same = sym at ∙ ap (entry_at keys) (sym ((bytes_decides other key).0 same))
  same_case keys key other entry at false same = refl

  with_same : (keys : KeysOf N) (key : List ℕ) (entry : Entry N) → entry_at keys key ≡ Some entry → with_entry keys key entry ≡ keys
  with_same keys key entry at =
      same_keys (with_entry keys key entry) keys
      (λ other. entry_at-with_entry keys key entry other ∙ same_case keys key other entry at (bytes_eq other key) refl)

  entry_of : (keys : KeysOf N) (key : List ℕ) (value : Value N) (found : Option (Entry N)) → entry_at keys key ≡ found
      → option_map (λ entry. entry.value) found ≡ Some value → entry_at keys key ≡ Some (record { value = value; deadline = deadline_at keys key })
  entry_of keys key value None at is = absurd (none-some value is)
  entry_of keys key value (Some entry) at is =
      let same : entry.value ≡ value = ap (λ (o : Option (Value N)). unwrap_or o value) is in
      let due : entry.deadline ≡ deadline_at keys key = sym (ap (option_and_then (λ e. e.deadline)) at) in
      at ∙ ap (λ (v : Value N). Some (record { value = v; deadline = entry.deadline })) same
      ∙ ap (λ (d : Option ℕ). Some (record { value = value; deadline = d })) due

  -- a key that gets the value that it has stays as it is
  pub changed_same : (keys : KeysOf N) (key : List ℕ) (value : Value N) → value_at keys key ≡ Some value → with_changed keys key value ≡ keys
  changed_same keys key value is =
      with_same keys key (record { value = value; deadline = deadline_at keys key }) (entry_of keys key value (entry_at keys key) refl is)

  -- it has the value that it was changed to
  pub value_changed : (keys : KeysOf N) (key : List ℕ) (value : Value N) → value_at (with_changed keys key value) key ≡ Some value
  value_changed keys key value =
      ap (option_map (λ entry. entry.value)) (entry_here keys key (record { value = value; deadline = deadline_at keys key }))

  gone_case : (keys : KeysOf N) (other : List ℕ) (entry : Entry N) (b : Bool)
      → (if b then None else (if b then Some entry else entry_at keys other)) ≡ (if b then None else entry_at keys other)
  gone_case keys other entry true = refl
  gone_case keys other entry false = refl

  -- what a key had does not matter once it is removed
  pub without_entry : (keys : KeysOf N) (key : List ℕ) (entry : Entry N) → without (with_entry keys key entry) key ≡ without keys key
  without_entry keys key entry =
      same_keys (without (with_entry keys key entry) key) (without keys key)
      (λ other. entry_at-without (with_entry keys key entry) key other
      ∙ ap (λ (o : Option (Entry N)). if bytes_eq other key then None else o) (entry_at-with_entry keys key entry other)
      ∙ gone_case keys other entry (bytes_eq other key) ∙ sym (entry_at-without keys key other))

  no_value : (found : Option (Entry N)) → option_map (λ entry. entry.value) found ≡ None → found ≡ None
  no_value None is = refl
  no_value (Some entry) is = absurd (none-some entry.value (sym is))

  -- a key that is not there has no entry
  pub no_entry : (keys : KeysOf N) (key : List ℕ) → value_at keys key ≡ None → entry_at keys key ≡ None
  no_entry keys key is = no_value (entry_at keys key) is

  -- a key that was not there has no deadline, whichever way it gets its value
  pub new_value : (keys : KeysOf N) (key : List ℕ) (value : Value N) → value_at keys key ≡ None → with_value keys key value ≡ with_changed keys key value
  new_value keys key value is =
      ap (λ (found : Option (Entry N)). with_entry keys key (record { value = value; deadline = option_and_then (λ entry. entry.deadline) found }))
      (sym (no_entry keys key is))

  absent_case : (keys : KeysOf N) (key other : List ℕ) → entry_at keys key ≡ None → (b : Bool) → bytes_eq other key ≡ b → (if b then None else entry_at keys other) ≡ entry_at keys other
  absent_case keys key other at true same = sym at ∙ ap (entry_at keys) (sym ((bytes_decides other key).0 same))
  absent_case keys key other at false same = refl

  -- a key that is not there is removed in vain
  pub without_absent : (keys : KeysOf N) (key : List ℕ) → value_at keys key ≡ None → without keys key ≡ keys
  without_absent keys key is =
      same_keys (without keys key) keys
      (λ other. entry_at-without keys key other ∙ absent_case keys key other (no_entry keys key is) (bytes_eq other key) refl)
