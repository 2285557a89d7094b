-- The entries of the table as they are shown. Serves the clauses of `iter` and `pop_first`.
use Rattle.std.proofs.Common.{◌≡◌, refl, sym, ap, ◌∙◌, ℕ, List, [], ◌∷◌, map, Option, Some, None, slice_get}
use Rattle.std.specs.Option.{option_map}
use Rattle.std.specs.FinMap as finite
use Rattle.std.proofs.lemmas.Option.{slice_get-map}
use Rattle.core_types.specs.declared.value.Value.{Value}
use Rattle.core_types.specs.Keys.{Entry, KeysOf}
use Rattle.key_store.specs.Listing.{listed}

module _ {K N : Type 0} (read : K → List ℕ) where
  abbrev pub shown : K × Entry N → List ℕ × Value N
  shown p = (read p.0, p.1.value)

  shown_twice : (es : List (K × Entry N)) → map shown es ≡ map (λ (e : List ℕ × Entry N). (e.0, e.1.value)) (map (λ (p : K × Entry N). (read p.0, p.1)) es)
  shown_twice [] = refl
  shown_twice (e ∷ es) = ap (λ rest. shown e ∷ rest) (shown_twice es)

  pub all_shown : (es : List (K × Entry N)) (keys : KeysOf N) → map (λ (p : K × Entry N). (read p.0, p.1)) es ≡ finite.entries keys → map shown es ≡ listed keys
  all_shown es keys is = shown_twice es ∙ ap (map (λ (e : List ℕ × Entry N). (e.0, e.1.value))) is

  shown_once : (taken : Option (K × Entry N)) → option_map shown taken ≡ option_map (λ (e : List ℕ × Entry N). (e.0, e.1.value)) (option_map (λ (p : K × Entry N). (read p.0, p.1)) taken)
  shown_once None = refl
  shown_once (Some p) = refl

  pub first_shown : (taken : Option (K × Entry N)) (keys : KeysOf N) → option_map (λ (p : K × Entry N). (read p.0, p.1)) taken ≡ slice_get (finite.entries keys) 0 → option_map shown taken ≡ slice_get (listed keys) 0
  first_shown taken keys is =
      shown_once taken ∙ ap (option_map (λ (e : List ℕ × Entry N). (e.0, e.1.value))) is
      ∙ sym (slice_get-map (λ (e : List ℕ × Entry N). (e.0, e.1.value)) (finite.entries keys) 0)

module _ {N : Type 0} where
  -- what was taken, its key read as it is
  pub same_first : (taken first : Option (List ℕ × Entry N)) → taken ≡ first → option_map (λ (p : List ℕ × Entry N). (p.0, p.1)) taken ≡ first
  same_first None first is = is
  same_first (Some p) first is = is
