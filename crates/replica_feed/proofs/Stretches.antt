-- Events of a run, of which most have no effects. It serves the laws on replicas and backlogs.
use Rattle.std.proofs.Common.{◌≡◌, ℕ, ◌+◌, ◌-◌, ◌<◌, ◌≤◌, List, [], ◌∷◌, ◌++◌, take, drop, replicate, zero, suc, Ok, refl, sym, ap, ◌∙◌, arith, append-nil}
use Rattle.std.proofs.lemmas.List.{length-replicate, drop-replicate, drop-drop, drop-append-le, take-append-drop, take-take}
use Rattle.std.proofs.lemmas.List.Concat.{flat_map-append}
use Rattle.core_types.specs.Keys.{Keys}
use Rattle.core_types.specs.declared.effect.Effect.{Effect}
use Rattle.effect_log.specs.Replay.{Meaning, replayed}
use Rattle.effect_log.specs.Written.{effects_in}
use Rattle.effect_log.proofs.Replays.{replayed-on}
use Rattle.replica_feed.specs.Runs.{Run, HasKeys, IsStretch}

abbrev pub none : List Effect
none = []

-- one quiet event more
pub quiet_more : (q : ℕ) → replicate q none ++ none ∷ [] ≡ replicate (suc q) none
quiet_more zero = refl
quiet_more (suc q) = ap (λ (es : List (List Effect)). none ∷ es) (quiet_more q)

-- what is left of a stretch that begins later
later_part : (events : List (List Effect)) (from n to q : ℕ) (es : List Effect)
    → drop from (take to events) ≡ replicate q none ++ es ∷ [] → from ≤ n → n ≤ from + q
    → drop n (take to events) ≡ replicate (q - (n - from)) none ++ es ∷ []
later_part events from n to q es are le most =
    let at : n ≡ from + (n - from) = omega (arith, le) in
    ap (λ (k : ℕ). drop k (take to events)) at
    ∙ sym (drop-drop (n - from) from (take to events))
    ∙ ap (drop (n - from)) are
    ∙ drop-append-le (n - from) (replicate q none) (es ∷ [])
    (omega (arith, length-replicate q none, le, most))
    ∙ ap (λ (xs : List (List Effect)). xs ++ es ∷ []) (drop-replicate (n - from) q none)

pub stretch_later : (r : Run) (from n to : ℕ) (es : List Effect) → IsStretch r from to es
    → from ≤ n → n < to → IsStretch r n to es
stretch_later r from n to es s le below = record {
  quiet = s.quiet - (n - from);
  to_is = omega (arith, s.to_is, le, below);
  within = s.within;
  are =
      later_part r.events from n to s.quiet es s.are le (omega (arith, s.to_is, below));
}

-- quiet events have no effects
quiet_effects : (q : ℕ) (es : List Effect) → effects_in (replicate q none ++ es ∷ []) ≡ es
quiet_effects zero es = append-nil es
quiet_effects (suc q) es = quiet_effects q es

-- the effects up to the end of a stretch
effects_on : (r : Run) (n to : ℕ) (es : List Effect) → IsStretch r n to es
    → effects_in (take to r.events) ≡ effects_in (take n r.events) ++ es
effects_on r n to es s =
    ap (λ (xs : List (List Effect)). effects_in xs) (sym (take-append-drop n (take to r.events)))
    ∙ flat_map-append (λ (x : List Effect). x) (take n (take to r.events))
    (drop n (take to r.events))
    ∙ ap (λ (xs : List (List Effect)). effects_in xs ++ effects_in (drop n (take to r.events)))
    (take-take n to r.events (omega (arith, s.to_is)))
    ∙ ap (λ (xs : List (List Effect)). effects_in (take n r.events) ++ effects_in xs) s.are
    ∙ ap (λ (xs : List Effect). effects_in (take n r.events) ++ xs) (quiet_effects s.quiet es)

-- the keys after a stretch, from those after some of its quiet events
pub goes_on : (replay : Meaning) (r : Run) (from n to : ℕ) (es : List Effect) (old new : Keys)
    → HasKeys replay r n old → IsStretch r from to es → from ≤ n → n < to
    → replayed replay old es ≡ Ok new → HasKeys replay r to new
goes_on replay r from n to es old new has s le below made = record {
  within = s.within;
  made =
      ap (λ (xs : List Effect). replayed replay r.opening xs)
      (effects_on r n to es (stretch_later r from n to es s le below))
      ∙ replayed-on replay r.opening old (effects_in (take n r.events)) es has.made
      ∙ made;
}
