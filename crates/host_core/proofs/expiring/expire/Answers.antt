-- Serves the clauses of expire.
use Rattle.std.proofs.Common.{◌++◌, ◌∷◌, [], suc, ap, subst, sym, ◌∙◌, add-one, arith}
use Rattle.core_types.specs.Keys.{key_count}
use Rattle.host_core.proofs.Removals.{HasMade, made_all, made_more, none_removed, one_removed}
use Rattle.host_core.proofs.expiring.expire.Goals as goal

pub returns-in_default-clause-keys : goal.returns-in_default-clause-keys
returns-in_default-clause-keys c =
    let none = none_removed _ _ _ _ c.in_ok-expired.ensures.removes c.in_ok-expired.ensures.told c.in_default.is in
    none.1 ∙ sym (ap (λ e. e.keys) (made_all c.args.moment _ c.args.keys.now c.loop.counter c.loop.effects c.loop.keys none.0 c.loop.invariant))

pub returns-in_default-clause-effects : goal.returns-in_default-clause-effects
returns-in_default-clause-effects c =
    let none = none_removed _ _ _ _ c.in_ok-expired.ensures.removes c.in_ok-expired.ensures.told c.in_default.is in
    sym (ap (λ e. e.effects) (made_all c.args.moment _ c.args.keys.now c.loop.counter c.loop.effects c.loop.keys none.0 c.loop.invariant))

pub loop-preserved : goal.loop-preserved
loop-preserved c =
    let one = one_removed _ _ _ _ c.in-Some.expired c.in_ok-expired.ensures.removes c.in_ok-expired.ensures.told c.in-Some.is in
    subst (λ n. HasMade c.args.moment (key_count c.args.keys.now) c.args.keys.now n c.push.new.self c.expire_first.new.keys) (sym (add-one c.loop.counter))
    (subst (λ es. HasMade c.args.moment (key_count c.args.keys.now) c.args.keys.now (suc c.loop.counter) es c.expire_first.new.keys)
    (sym (c.in_ok-push.ensures.ok ∙ ap (λ e. c.loop.effects ++ e ∷ []) one.effect))
    (subst (λ k. HasMade c.args.moment (key_count c.args.keys.now) c.args.keys.now (suc c.loop.counter) (c.loop.effects ++ one.removal.effect ∷ []) k) (sym one.keys)
    (made_more c.args.moment (key_count c.args.keys.now) c.args.keys.now c.loop.counter c.loop.effects c.loop.keys one.removal (omega (arith, c.loop-test.true, c.len-end.ensures.count)) one.is c.loop.invariant)))
