-- What setting pairs one after the other leaves. Serves the clauses of MSET.
use Rattle.std.proofs.Common.{◌≡◌, ◌==◌, ◌<◌, ◌%◌, ℕ, Bool, false, arith, codes, drop, length, if◌then◌else◌, List, [], ◌∷◌, ◌++◌, refl, sym, ap, ◌∙◌, append_assoc}
use Rattle.std.proofs.lemmas.Bool.Decides.{nat_tests}
use Rattle.core_types.specs.Keys.{KeysOf, value_at, with_value}
use Rattle.core_types.specs.Refusals.{wrong_arity}
use Rattle.core_types.specs.declared.value.Value.TheVariants as value
use Rattle.key_cmds.specs.Run.{answers, native_in}
use Rattle.key_cmds.specs.SeveralKeys.{Pair, is_odd, left_by_pairs, pairs_of, set_each, sets, with_pairs}

module _ {N : Type 0} where
  -- pairs are set behind others
  pub set_more : (front more : List Pair) (keys : KeysOf N)
      → with_pairs (front ++ more) keys ≡ with_pairs more (with_pairs front keys)
  set_more [] more keys = refl
  set_more (pair ∷ front) more keys =
      set_more front more (with_value keys pair.key (value.Str pair.value))

  pub left_more : (front more : List Pair) (keys : KeysOf N) → left_by_pairs (front ++ more) keys
      ≡ left_by_pairs front keys ++ left_by_pairs more (with_pairs front keys)
  left_more [] more keys = refl
  left_more (pair ∷ front) more keys =
      let next = with_value keys pair.key (value.Str pair.value) in
      let first = native_in (value_at keys pair.key) in
      ap (λ rest. first ++ rest) (left_more front more next)
      ∙ sym (append_assoc first (left_by_pairs front next)
      (left_by_pairs more (with_pairs front next)))

  -- where each key has a value, all pairs are set
  pub sets_all : (keys : KeysOf N) (words : List (List ℕ)) → is_odd (drop 1 words) ≡ false
      → set_each keys words ≡ sets (pairs_of (drop 1 words)) keys words
  sets_all keys words even =
      ap (λ (b : Bool). if b then answers (wrong_arity (codes "MSET")) keys
      else sets (pairs_of (drop 1 words)) keys words) even

-- an even number of words stands behind the name where it is odd with the name
pub even_rest : (words : List (List ℕ)) → (length words % 2 == 0) ≡ false → 0 < length words
    → is_odd (drop 1 words) ≡ false
even_rest [] odd some = absurd (omega (arith, some))
even_rest (first ∷ rest) odd some = grind (arith, nat_tests)
