-- Serves the clauses of `expire`: the removal of the keys that are due, key by key.
use Rattle.std.proofs.Common.{◌≡◌, ◌<◌, refl, sym, ap, ◌∙◌, ℕ, suc, zero, ◌-◌, List, [], ◌∷◌, ◌++◌, Option, Some, None, arith}
use Rattle.std.proofs.lemmas.List.{append_assoc, append-nil}
use Rattle.std.proofs.lemmas.Option.{none-some, same_Some}
use Rattle.std.specs.Option.{option_map}
use Rattle.core_types.specs.Keys.{Keys, Native}
use Rattle.core_types.specs.declared.effect.Effect.{Effect}
use Rattle.key_cmds.specs.Deadlines.{Expired, first_expired}
use Rattle.key_cmds.specs.Leaving.{HasExpired, KeysAndLeft, expired_told}
use Rattle.key_cmds.specs.declared.deadlines.ExpiredKey.{ExpiredKey}
use Rattle.host_core.specs.Expiry.{Expiry, after_one, expired_up_to}

-- removals that were made, and then others
abbrev pub after_these : List Effect → Expiry → Expiry
after_these made more = record { keys = more.keys; effects = made ++ more.effects }

-- of a number of removals of these keys some were made, and these keys are left
abbrev pub HasMade : ℕ → ℕ → Keys → ℕ → List Effect → Keys → Type 0
HasMade moment count keys done made left = expired_up_to count moment keys ≡ after_these made (expired_up_to (count - done) moment left)

pub made_none : (moment count : ℕ) (keys : Keys) → HasMade moment count keys 0 [] keys
made_none moment count keys = ap (λ n. expired_up_to n moment keys) (omega arith)

one_more : (moment n : ℕ) (left : Keys) (expired : Expired Native) → first_expired left moment ≡ Some expired
    → expired_up_to (suc n) moment left ≡ record { keys = (expired_up_to n moment expired.keys).keys; effects = expired.effect ∷ (expired_up_to n moment expired.keys).effects }
one_more moment n left expired is = ap (λ o. after_one left o (expired_up_to n moment)) is

pub made_more : (moment count : ℕ) (keys : Keys) (done : ℕ) (made : List Effect) (left : Keys) (expired : Expired Native)
    → done < count → first_expired left moment ≡ Some expired → HasMade moment count keys done made left
    → HasMade moment count keys (suc done) (made ++ expired.effect ∷ []) expired.keys
made_more moment count keys done made left expired within is so_far =
    let next : count - done ≡ suc (count - suc done) = omega (arith, within) in
    let rest = expired_up_to (count - suc done) moment expired.keys in
    so_far ∙ ap (λ n. after_these made (expired_up_to n moment left)) next ∙ ap (after_these made) (one_more moment (count - suc done) left expired is)
    ∙ ap (λ effects. record { keys = rest.keys; effects = effects }) (sym (append_assoc made (expired.effect ∷ []) rest.effects))

none_more : (moment n : ℕ) (left : Keys) → first_expired left moment ≡ None → expired_up_to n moment left ≡ record { keys = left; effects = [] }
none_more moment zero left none = refl
none_more moment (suc n) left none = ap (λ o. after_one left o (expired_up_to n moment)) none

-- no key is due any longer, or as many were removed as may be
pub made_all : (moment count : ℕ) (keys : Keys) (done : ℕ) (made : List Effect) (left : Keys) → first_expired left moment ≡ None
    → HasMade moment count keys done made left → expired_up_to count moment keys ≡ record { keys = left; effects = made }
made_all moment count keys done made left none so_far =
    so_far ∙ ap (after_these made) (none_more moment (count - done) left none) ∙ ap (λ effects. record { keys = left; effects = effects }) (append-nil made)

pub made_count : (moment count : ℕ) (keys : Keys) (made : List Effect) (left : Keys) → HasMade moment count keys count made left
    → expired_up_to count moment keys ≡ record { keys = left; effects = made }
made_count moment count keys made left so_far =
    so_far ∙ ap (λ n. after_these made (expired_up_to n moment left)) none ∙ ap (λ effects. record { keys = left; effects = effects }) (append-nil made)
  where
    none : count - count ≡ 0
    none = omega arith

-- ---- what one call says

abbrev Held : Type 0
Held = KeysAndLeft Native

none_of_map : (o : Option (Expired Native)) → None ≡ option_map expired_told o → o ≡ None
none_of_map None is = refl
none_of_map (Some x) is = absurd (none-some (expired_told x) is)

pub none_removed : (o : Option (Expired Native)) (given : Option ExpiredKey) (before after : Held) → HasExpired o before after → given ≡ option_map expired_told o → given ≡ None
    → (o ≡ None) × (after.keys ≡ before.keys)
none_removed None given before after has told none = (refl, ap (λ h. h.keys) has)
none_removed (Some x) given before after has told none = absurd (none-some (expired_told x) (sym none ∙ told))

-- one key was removed
pub record IsRemoval (o : Option (Expired Native)) (given : ExpiredKey) (after : Held) : Type 0 where
  pub removal : Expired Native
  pub is : o ≡ Some removal
  pub keys : after.keys ≡ removal.keys
  pub effect : given.effect ≡ removal.effect

pub one_removed : (o : Option (Expired Native)) (given : Option ExpiredKey) (before after : Held) (e : ExpiredKey) → HasExpired o before after → given ≡ option_map expired_told o → given ≡ Some e
    → IsRemoval o e after
one_removed None given before after e has told one = absurd (none-some e (sym told ∙ one))
one_removed (Some x) given before after e has told one =
    record { removal = x; is = refl; keys = ap (λ h. h.keys) has; effect = ap (λ (k : ExpiredKey). k.effect) (same_Some e (expired_told x) (sym one ∙ told)) }
