-- Units one after the other, and effects replayed one after the other.
use Rattle.std.proofs.Common.{◌≡◌, ℕ, ◌<◌, List, [], ◌∷◌, ◌++◌, length, refl, ap, ◌∙◌, append-nil, length-append, arith, Result, Ok, Err, inl, inr}
use Rattle.std.specs.List.{AllByRecursion}
use Rattle.std.proofs.lemmas.List.Concat.{flat_map-append}
use Rattle.core_types.specs.Keys.{Keys}
use Rattle.core_types.specs.declared.effect.Effect.{Effect}
use Rattle.effect_log.specs.Refusal.{Refusal}
use Rattle.effect_log.specs.Unit.{effect_text}
use Rattle.effect_log.specs.Log.{Unit, unit_bytes, units_bytes, effects_text, IsUnit}
use Rattle.effect_log.specs.Replay.{Meaning, and_then, replayed, effects_of}

after-first : (replay : Meaning) (e : Effect) (es fs : List Effect) (keys : Keys) (r : Result Keys Refusal) → replay keys e ≡ r
    → ((then : Keys) → replayed replay then (es ++ fs) ≡ and_then (replayed replay then es) (λ k. replayed replay k fs))
    → replayed replay keys (e ∷ es ++ fs) ≡ and_then (replayed replay keys (e ∷ es)) (λ k. replayed replay k fs)
after-first replay e es fs keys (Ok then) is more = rw is (more then)
after-first replay e es fs keys (Err why) is more = rw is refl

-- some effects, and then others
pub replayed-append : (replay : Meaning) (keys : Keys) (es fs : List Effect) → replayed replay keys (es ++ fs) ≡ and_then (replayed replay keys es) (λ then. replayed replay then fs)
replayed-append replay keys [] fs = refl
replayed-append replay keys (e ∷ es) fs = after-first replay e es fs keys (replay keys e) refl (λ then. replayed-append replay then es fs)

-- the same, where the first make some keys
pub replayed-on : (replay : Meaning) (keys then : Keys) (es fs : List Effect) → replayed replay keys es ≡ Ok then → replayed replay keys (es ++ fs) ≡ replayed replay then fs
replayed-on replay keys then es fs made = replayed-append replay keys es fs ∙ ap (λ (r : Result Keys Refusal). and_then r (λ k. replayed replay k fs)) made

-- a unit more
pub units_bytes-push : (units : List Unit) (u : Unit) → units_bytes (units ++ u ∷ []) ≡ units_bytes units ++ unit_bytes u
units_bytes-push units u = flat_map-append unit_bytes units (u ∷ []) ∙ ap (λ (more : List ℕ). units_bytes units ++ more) (append-nil (unit_bytes u))

pub effects_of-push : (units : List Unit) (u : Unit) → effects_of (units ++ u ∷ []) ≡ effects_of units ++ u.effects
effects_of-push units u = flat_map-append (λ (u : Unit). u.effects) units (u ∷ []) ∙ ap (λ (more : List Effect). effects_of units ++ more) (append-nil u.effects)

pub each-push : (units : List Unit) (u : Unit) → AllByRecursion IsUnit units → IsUnit u → AllByRecursion IsUnit (units ++ u ∷ [])
each-push [] u each is_unit = (is_unit, tt)
each-push (x ∷ units) u each is_unit = (each.0, each-push units u each.1 is_unit)

effects_some : (es : List Effect) → length es ≡ 1 → 0 < length (effects_text es)
effects_some [] one = absurd (omega arith)
effects_some (e ∷ es) one = omega (arith, length-append (effect_text e) (effects_text es))

-- a unit has a byte
pub unit_some : (u : Unit) → IsUnit u → 0 < length (unit_bytes u)
unit_some u is_unit = elim is_unit.form [
  | inl lone ↦ omega (arith, effects_some u.effects lone.one, length-append u.opening (effects_text u.effects), length-append (u.opening ++ effects_text u.effects) u.closing)
  | inr enclosed ↦ omega (arith, ap length enclosed.opening.whole, length-append u.opening (effects_text u.effects), length-append (u.opening ++ effects_text u.effects) u.closing)
]
