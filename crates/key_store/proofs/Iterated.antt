-- One step through the entries of both tables. Serves the clauses of `Entries::next`.
use Rattle.std.proofs.Common.{◌≡◌, refl, sym, ap, subst, ◌∙◌, ℕ, true, false, cond, List, [], ◌∷◌, map, Option, Some, None, slice_get, true≢false, Bor}
use Rattle.core_types.specs.declared.value.Value.{Value}
use Rattle.core_types.specs.Keys.{Entry}
use Rattle.std.proofs.Common.{length, suc, ◌<◌, arith}
use Rattle.std.specs.Prelude.{⊤}
use Rattle.std.specs.Iterator.{MakesProgress, at_most}
use Rattle.std.specs.Map.Iter.{TakesFirst}
use Rattle.std.specs.Option.{option_map}
use Rattle.std.proofs.lemmas.Bool.{false≢true}
use Rattle.key_store.specs.inner.Halves.{comes_first, onto, merged}

abbrev name_of : {X : Type 0} → List (List ℕ × X) → Option (List ℕ)
name_of es = option_map (λ e. e.0) (slice_get es 0)

module _ {X : Type 0} where
  -- where the first of these comes first, it is the first of all
  pub short_step : (e : List ℕ × X) (es fs : List (List ℕ × X)) → comes_first (Some e.0) (name_of fs) ≡ true → merged (e ∷ es) fs ≡ e ∷ merged es fs
  short_step e es [] first = refl
  short_step e es (f ∷ fs) first = ap (λ b. cond b (e ∷ merged es (f ∷ fs)) (f ∷ onto e (merged es) fs)) first

  pub long_step : (es : List (List ℕ × X)) (f : List ℕ × X) (fs : List (List ℕ × X)) → comes_first (name_of es) (Some f.0) ≡ false → merged es (f ∷ fs) ≡ f ∷ merged es fs
  long_step [] f fs first = refl
  long_step (e ∷ es) f fs first = ap (λ b. cond b (e ∷ merged es (f ∷ fs)) (f ∷ onto e (merged es) fs)) first

  -- where there is none of those and none of these comes first, there is none
  pub no_step : (es : List (List ℕ × X)) → comes_first (name_of es) None ≡ false → es ≡ []
  no_step [] first = refl
  no_step (e ∷ es) first = absurd (true≢false first)

-- the first key of a tree, read
pub named : {K X : Type 0} (read : K → List ℕ) (first : Option (Bor K)) (es : List (K × X)) → option_map (λ k. k.now) first ≡ option_map (λ (e : K × X). e.0) (slice_get es 0)
    → option_map (λ k. read k.now) first ≡ name_of (map (λ (e : K × X). (read e.0, e.1)) es)
named {K} {X} read first es is = once first ∙ ap (option_map read) is ∙ by es
  where
    once : (o : Option (Bor K)) → option_map (λ k. read k.now) o ≡ option_map read (option_map (λ k. k.now) o)
    once None = refl
    once (Some k) = refl

    by : (es : List (K × X)) → option_map read (option_map (λ (e : K × X). e.0) (slice_get es 0)) ≡ name_of (map (λ (e : K × X). (read e.0, e.1)) es)
    by [] = refl
    by (e ∷ es) = refl

module _ {N : Type 0} where
  abbrev pub shown : List ℕ × Entry N → List ℕ × Value N
  shown e = (e.0, e.1.value)

  pub short_next : (es fs n : List (List ℕ × Entry N)) (e : List ℕ × Entry N) → es ≡ e ∷ n → comes_first (name_of es) (name_of fs) ≡ true → map shown (merged es fs) ≡ shown e ∷ map shown (merged n fs)
  short_next es fs n e is first =
      ap (λ xs. map shown (merged xs fs)) is
      ∙ ap (map shown) (short_step e n fs (subst (λ xs. comes_first (name_of xs) (name_of fs) ≡ true) is first))

  pub long_next : (es fs n : List (List ℕ × Entry N)) (f : List ℕ × Entry N) → fs ≡ f ∷ n → comes_first (name_of es) (name_of fs) ≡ false → map shown (merged es fs) ≡ shown f ∷ map shown (merged es n)
  long_next es fs n f is first =
      ap (λ xs. map shown (merged es xs)) is
      ∙ ap (map shown) (long_step es f n (subst (λ xs. comes_first (name_of es) (name_of xs) ≡ false) is first))

  pub none_next : (es fs : List (List ℕ × Entry N)) → fs ≡ [] → comes_first (name_of es) (name_of fs) ≡ false → map shown (merged es fs) ≡ []
  none_next es fs is first =
      ap (λ xs. map shown (merged es xs)) is
      ∙ ap (λ xs. map shown (merged xs [])) (no_step es (subst (λ xs. comes_first (name_of es) (name_of xs) ≡ false) is first))

  pub never_none : {A : Type 0} (es fs : List (List ℕ × Entry N)) → es ≡ [] → comes_first (name_of es) (name_of fs) ≡ true → A
  never_none es fs is first = absurd (false≢true (subst (λ xs. comes_first (name_of xs) (name_of fs) ≡ true) is first))

-- a step that takes the first leaves less
pub progress : {A X : Type 0} (shows : A → X) (s t : List X) (r : Option A) → TakesFirst shows s r t → MakesProgress (λ _. ⊤) (λ (xs : List X). at_most (length xs)) s r t
progress shows s t None steps = record { on = λ _. tt; keeps = tt; rests = λ _. tt }
progress shows s t (Some x) steps = record { on = λ _. (tt, tt, fewer s t (ap length steps)); keeps = tt; rests = λ _. tt }
  where
    fewer : {X : Type 0} (s t : List X) → length s ≡ suc (length t) → length t < length s
    fewer s t is = omega (arith, is)

-- an order to what has no first is the order to another that has none
pub order_of_none : {X : Type 0} (es fs : List (List ℕ × X)) → fs ≡ [] → comes_first (name_of es) (name_of fs) ≡ false → (gs : List (List ℕ × X)) → gs ≡ [] → comes_first (name_of es) (name_of gs) ≡ false
order_of_none es fs none order gs also = ap (λ xs. comes_first (name_of es) (name_of xs)) (also ∙ sym none) ∙ order

-- entries, their keys read
abbrev pub read_by : {K X : Type 0} → (K → List ℕ) → List (K × X) → List (List ℕ × X)
read_by read es = map (λ e. (read e.0, e.1)) es
