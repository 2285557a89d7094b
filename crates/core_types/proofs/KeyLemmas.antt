-- What the words over the keys say of each other. Serves the laws `keys_by_key` and
-- `keyspace_is_kept`.
use Rattle.std.proofs.Common.{◌≡◌, ℕ, ◌+◌, ◌-◌, Bool, true, false, List, Option, Some, None, is_some, unwrap_or, if◌then◌else◌, refl, sym, ap, subst, ◌∙◌}
use Rattle.std.proofs.lemmas.Option.{none-some}
use Rattle.std.specs.Option.{option_and_then}
use Rattle.std.specs.FinMap.{get-empty, get-insert, get-remove, len-insert, len-remove, same_map, nat_cmp-IsAntisymmetric, slice_cmp-IsAntisymmetric}
use Rattle.std.specs.Ordering.{nat_cmp}
use Rattle.std.specs.Cmp.Lexicographic.{slice_cmp, nat_list_cmp_total, bytes_decides}
use Rattle.std.specs.Str.{bytes_eq}
use Rattle.std.proofs.lemmas.Map.Text.{is_eq-slice_cmp}
use Rattle.core_types.specs.declared.value.Value.{Value}
use Rattle.core_types.specs.Keys.{Entry, KeysOf, entry_at, deadline_at, with_entry, with_changed, with_due, with_deadline, without, with_moved, renamed, key_count, no_keys}
use Rattle.core_types.specs.Keyspace.{IsString, IsValue, IsDeadline, IsEntry, IsKeyspace}

module _ {N : Type 0} where
  pub entry_at-with_entry : (keys : KeysOf N) (key : List ℕ) (entry : Entry N) (other : List ℕ) → entry_at (with_entry keys key entry) other ≡ (if bytes_eq other key then Some entry else entry_at keys other)
  entry_at-with_entry keys key entry other =
      get-insert nat_list_cmp_total keys key entry other
      ∙ ap (λ (b : Bool). if b then Some entry else entry_at keys other) (is_eq-slice_cmp other key)

  pub entry_at-without : (keys : KeysOf N) (key other : List ℕ) → entry_at (without keys key) other ≡ (if bytes_eq other key then None else entry_at keys other)
  entry_at-without keys key other =
      get-remove nat_list_cmp_total keys key other
      ∙ ap (λ (b : Bool). if b then None else entry_at keys other) (is_eq-slice_cmp other key)

  pub key_count-with_entry : (keys : KeysOf N) (key : List ℕ) (entry : Entry N) → key_count (with_entry keys key entry) ≡ (if is_some (entry_at keys key) then key_count keys else key_count keys + 1)
  key_count-with_entry keys key entry = len-insert nat_list_cmp_total keys key entry

  pub key_count-without : (keys : KeysOf N) (key : List ℕ) → key_count (without keys key) ≡ (if is_some (entry_at keys key) then key_count keys - 1 else key_count keys)
  key_count-without keys key = len-remove nat_list_cmp_total keys key

  pub same_keys : (keys others : KeysOf N) → ((key : List ℕ) → entry_at keys key ≡ entry_at others key) → keys ≡ others
  same_keys keys others same = same_map nat_list_cmp_total (slice_cmp-IsAntisymmetric nat_cmp-IsAntisymmetric) keys others same

  module _ (allowed : N → Bool) where
    pub none_kept : IsKeyspace allowed no_keys
    none_kept key entry at = absurd (none-some entry (sym (get-empty (slice_cmp nat_cmp) key) ∙ at))

    set_case : (keys : KeysOf N) → IsKeyspace allowed keys → (key other : List ℕ) (entry found : Entry N) → IsString key → IsEntry allowed entry
        → (b : Bool) → bytes_eq other key ≡ b → (if b then Some entry else entry_at keys other) ≡ Some found → IsString other × IsEntry allowed found
    set_case keys is key other entry found is_key is_entry true same at =
        let one : entry ≡ found = ap (λ (o : Option (Entry N)). unwrap_or o entry) at in
        (subst IsString (sym ((bytes_decides other key).0 same)) is_key, subst (IsEntry allowed) one is_entry)
    set_case keys is key other entry found is_key is_entry false differs at = is other found at

    pub set_kept : (keys : KeysOf N) → IsKeyspace allowed keys → (key : List ℕ) (entry : Entry N) → IsString key → IsEntry allowed entry → IsKeyspace allowed (with_entry keys key entry)
    set_kept keys is key entry is_key is_entry other found at =
        set_case keys is key other entry found is_key is_entry (bytes_eq other key) refl (sym (entry_at-with_entry keys key entry other) ∙ at)

    removed_case : (keys : KeysOf N) → IsKeyspace allowed keys → (other : List ℕ) (found : Entry N)
        → (b : Bool) → (if b then None else entry_at keys other) ≡ Some found → IsString other × IsEntry allowed found
    removed_case keys is other found true at = absurd (none-some found at)
    removed_case keys is other found false at = is other found at

    pub removed_kept : (keys : KeysOf N) → IsKeyspace allowed keys → (key : List ℕ) → IsKeyspace allowed (without keys key)
    removed_kept keys is key other found at = removed_case keys is other found (bytes_eq other key) (sym (entry_at-without keys key other) ∙ at)

    deadline_case : (keys : KeysOf N) → IsKeyspace allowed keys → (key : List ℕ) (found : Option (Entry N)) → entry_at keys key ≡ found → IsDeadline (option_and_then (λ entry. entry.deadline) found)
    deadline_case keys is key None at = tt
    deadline_case keys is key (Some entry) at = (is key entry at).1.1

    pub changed_kept : (keys : KeysOf N) → IsKeyspace allowed keys → (key : List ℕ) (value : Value N) → IsString key → IsValue allowed value → IsKeyspace allowed (with_changed keys key value)
    changed_kept keys is key value is_key is_value =
        set_kept keys is key (record { value = value; deadline = deadline_at keys key }) is_key (is_value, deadline_case keys is key (entry_at keys key) refl)

    due_case : (keys : KeysOf N) → IsKeyspace allowed keys → (key : List ℕ) (deadline : Option ℕ) → IsDeadline deadline
        → (found : Option (Entry N)) → entry_at keys key ≡ found → IsKeyspace allowed (with_due keys key deadline found)
    due_case keys is key deadline is_deadline None at = is
    due_case keys is key deadline is_deadline (Some entry) at =
        set_kept keys is key (record entry { deadline = deadline }) (is key entry at).0 ((is key entry at).1.0, is_deadline)

    pub due_kept : (keys : KeysOf N) → IsKeyspace allowed keys → (key : List ℕ) (deadline : Option ℕ) → IsDeadline deadline → IsKeyspace allowed (with_deadline keys key deadline)
    due_kept keys is key deadline is_deadline = due_case keys is key deadline is_deadline (entry_at keys key) refl

    moved_case : (keys : KeysOf N) → IsKeyspace allowed keys → (from to : List ℕ) → IsString to
        → (found : Option (Entry N)) → entry_at keys from ≡ found → IsKeyspace allowed (with_moved keys from to found)
    moved_case keys is from to is_to None at = is
    moved_case keys is from to is_to (Some entry) at = set_kept (without keys from) (removed_kept keys is from) to entry is_to (is from entry at).1

    pub moved_kept : (keys : KeysOf N) → IsKeyspace allowed keys → (from to : List ℕ) → IsString to → IsKeyspace allowed (renamed keys from to)
    moved_kept keys is from to is_to = moved_case keys is from to is_to (entry_at keys from) refl
