-- Serves the clauses of `copy_keys` and `picture`: keys that were copied, one after the other.
use Rattle.std.proofs.Common.{◌≡◌, refl, sym, ap, ◌∙◌, ℕ, Bool, true, false, cond, List, [], ◌∷◌, length, map, Option, Some, None}
use Rattle.std.proofs.lemmas.Bool.{false≢true}
use Rattle.std.proofs.lemmas.List.{length-map}
use Rattle.std.specs.declared.cmp.Ordering.{Ordering}
use Rattle.std.specs.declared.cmp.Ordering.TheVariants.{Less, Equal, Greater}
use Rattle.std.proofs.lemmas.Map.Lookups.{exact_bytes}
use Rattle.std.specs.Cmp.Lexicographic.{slice_cmp, nat_list_cmp_total}
use Rattle.std.specs.FinMap as finite
use Rattle.std.specs.FinMap.{find, get-entries, get-from_entries, len-entries}
use Rattle.std.specs.Option.{option_and_then, option_map}
use Rattle.std.specs.Ordering.{is_eq, nat_cmp}
use Rattle.core_types.proofs.KeyLemmas.{same_keys}
use Rattle.core_types.specs.Keys.{Entry, Keys, Native, deadline_at, entry_at}
use Rattle.core_types.specs.declared.value.Value.{Value}
use Rattle.key_store.specs.Listing.{listed}
use Rattle.host_core.specs.declared.opening.SavedKey.{SavedKey}
use Rattle.host_core.specs.inner.Saving.{HasCopied, saved_entry}

equal : (r : Ordering) → is_eq r ≡ true → r ≡ Equal
equal Less is = absurd (false≢true is)
equal Equal is = refl
equal Greater is = absurd (false≢true is)

abbrev by_bytes : List ℕ → List ℕ → Ordering
by_bytes = slice_cmp nat_cmp

-- a key and its value, with the deadline that the key has
abbrev pub entry_of : Keys → List ℕ × Value Native → List ℕ × Entry Native
entry_of keys p = (p.0, record { value = p.1; deadline = deadline_at keys p.0 })

abbrev plain : List ℕ × Entry Native → List ℕ × Value Native
plain e = (e.0, e.1.value)

abbrev due_as : Option ℕ → Entry Native → Entry Native
due_as deadline e = record { value = e.value; deadline = deadline }

found_again : (keys : Keys) (q : List ℕ) (es : List (List ℕ × Entry Native))
    → find by_bytes q (map (entry_of keys) (map plain es)) ≡ option_map (due_as (deadline_at keys q)) (find by_bytes q es)
found_again keys q [] = refl
found_again keys q (e ∷ es) = of_test (is_eq (by_bytes q e.0)) refl (found_again keys q es)
  where
    of_test : (b : Bool) → is_eq (by_bytes q e.0) ≡ b → find by_bytes q (map (entry_of keys) (map plain es)) ≡ option_map (due_as (deadline_at keys q)) (find by_bytes q es)
        → cond b (Some (due_as (deadline_at keys e.0) e.1)) (find by_bytes q (map (entry_of keys) (map plain es))) ≡ option_map (due_as (deadline_at keys q)) (cond b (Some e.1) (find by_bytes q es))
    of_test true same rest =
        let is : q ≡ e.0 = exact_bytes q e.0 (equal (by_bytes q e.0) same) in
        ap (λ k. Some (due_as (deadline_at keys k) e.1)) (sym is)
    of_test false apart rest = rest

its_own : (o : Option (Entry Native)) → option_map (due_as (option_and_then (λ (x : Entry Native). x.deadline) o)) o ≡ o
its_own None = refl
its_own (Some e) = refl

listed_again : (keys : Keys) → finite.from_entries (map (entry_of keys) (listed keys)) ≡ keys
listed_again keys = same_keys _ _ (λ q.
    get-from_entries nat_list_cmp_total (map (entry_of keys) (listed keys)) q ∙ found_again keys q (finite.entries keys)
    ∙ ap (option_map (due_as (deadline_at keys q))) (sym (get-entries keys q)) ∙ its_own (entry_at keys q))

pub copied_all : (keys : Keys) (saved : List SavedKey) → map saved_entry saved ≡ map (entry_of keys) (listed keys) → HasCopied saved keys
copied_all keys saved is = record {
  same = ap finite.from_entries is ∙ listed_again keys;
  each = len-entries keys ∙ sym (length-map (finite.entries keys) plain) ∙ sym (length-map (listed keys) (entry_of keys)) ∙ sym (ap length is) ∙ length-map saved saved_entry;
}
