-- Serves the clauses of `put`: a key that is put in with its deadline.
use Rattle.std.proofs.Common.{◌≡◌, refl, sym, ap, subst, ◌∙◌, ℕ, Bool, true, false, if◌then◌else◌, List, Option, Some, None, IsSome}
use Rattle.std.proofs.lemmas.Slice.Eq.{bytes_eq-Decides}
use Rattle.std.specs.Option.{option_map}
use Rattle.std.specs.Str.{bytes_eq}
use Rattle.core_types.proofs.KeyLemmas.{entry_at-with_entry, entry_at-without, same_keys}
use Rattle.core_types.specs.Keys.{Entry, Keys, Native, entry_at, value_at, with_deadline, with_due, with_entry, with_value, without}
use Rattle.core_types.specs.declared.value.Value.{Value}

twice : (b : Bool) (x y o : Option (Entry Native)) → (if b then x else (if b then y else o)) ≡ (if b then x else o)
twice true x y o = refl
twice false x y o = refl

with_twice : (keys : Keys) (key : List ℕ) (a b : Entry Native) → with_entry (with_entry keys key a) key b ≡ with_entry keys key b
with_twice keys key a b = same_keys _ _ (λ q.
    entry_at-with_entry (with_entry keys key a) key b q ∙ ap (λ o. if bytes_eq q key then Some b else o) (entry_at-with_entry keys key a q)
    ∙ twice (bytes_eq q key) (Some b) (Some a) (entry_at keys q) ∙ sym (entry_at-with_entry keys key b q))

pub without_put : (keys : Keys) (key : List ℕ) (a : Entry Native) → without (with_entry keys key a) key ≡ without keys key
without_put keys key a = same_keys _ _ (λ q.
    entry_at-without (with_entry keys key a) key q ∙ ap (λ o. if bytes_eq q key then None else o) (entry_at-with_entry keys key a q)
    ∙ twice (bytes_eq q key) None (Some a) (entry_at keys q) ∙ sym (entry_at-without keys key q))

without_again : (keys : Keys) (key : List ℕ) → without (without keys key) key ≡ without keys key
without_again keys key = same_keys _ _ (λ q.
    entry_at-without (without keys key) key q ∙ ap (λ o. if bytes_eq q key then None else o) (entry_at-without keys key q)
    ∙ twice (bytes_eq q key) None None (entry_at keys q) ∙ sym (entry_at-without keys key q))

entry_put : (keys : Keys) (key : List ℕ) (a : Entry Native) → entry_at (with_entry keys key a) key ≡ Some a
entry_put keys key a = entry_at-with_entry keys key a key ∙ ap (λ b. if b then Some a else entry_at keys key) ((bytes_eq-Decides key key).1 refl)

pub there_put : (keys : Keys) (key : List ℕ) (value : Value Native) → IsSome (value_at (with_value keys key value) key)
there_put keys key value = subst (λ o. IsSome (option_map (λ (e : Entry Native). e.value) o)) (sym (entry_put keys key (record { value = value; deadline = None }))) refl

pub deadline_put : (keys : Keys) (key : List ℕ) (value : Value Native) (deadline : Option ℕ)
    → with_deadline (with_value keys key value) key deadline ≡ with_entry keys key (record { value = value; deadline = deadline })
deadline_put keys key value deadline =
    ap (with_due (with_value keys key value) key deadline) (entry_put keys key (record { value = value; deadline = None }))
    ∙ with_twice keys key (record { value = value; deadline = None }) (record { value = value; deadline = deadline })

-- a key that was put in and taken out again
pub taken_again : (keys : Keys) (key : List ℕ) (value : Value Native) → without (without (with_value keys key value) key) key ≡ without keys key
taken_again keys key value = without_again (with_value keys key value) key ∙ without_put keys key (record { value = value; deadline = None })
