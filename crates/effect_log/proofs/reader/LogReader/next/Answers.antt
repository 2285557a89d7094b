use Rattle.std.proofs.Common.{◌≡◌, ◌+◌, refl, sym}
use Rattle.std.proofs.lemmas.List.{take_rest}
use Rattle.effect_log.proofs.Taken.{takes_unit, takes_lone, effect_within, is_faulty}
use Rattle.effect_log.proofs.reader.LogReader.next.Goals as goal

pub returns-in-Unit-clause-unit : goal.returns-in-Unit-clause-unit
returns-in-Unit-clause-unit c effects e =
    let s = c.self.inside in
    let front = rw (c.in-Unit.is, take_rest s.bytes.now s.place) at c.in_ok-effects.ensures in
    let same : c.in-Unit.effects ≡ effects = cc e in
    rw (← same) (takes_unit c.args.self.now c.pass.new.self c.in-Unit.effects c.in-Unit.starts.items c.in-Unit.size (rw (← c.self.view_is) front) c.pass.ensures.bytes c.pass.ensures.place c.pass.ensures.starts)

pub pass_lone-requires : goal.pass_lone-requires
pass_lone-requires c =
    let s = c.self.inside in
    let front = rw (c.in-Lone.is, take_rest s.bytes.now s.place) at c.in_ok-effects.ensures in
    rw (← c.self.view_is) (effect_within s.bytes.now s.place c.in-Lone.size c.in-Lone.effect c.self.invariant front)

pub returns-in_ok-pass_lone-in-Lone-clause-unit : goal.returns-in_ok-pass_lone-in-Lone-clause-unit
returns-in_ok-pass_lone-in-Lone-clause-unit c effects e =
    let s = c.self.inside in
    let front = rw (c.in-Lone.is, take_rest s.bytes.now s.place) at c.in_ok-effects.ensures in
    let same : c.in_ok-pass_lone-in-Lone.field-0 ≡ effects = cc e in
    rw (← same, c.in_ok-pass_lone-in-Lone.ensures.effects)
    (takes_lone c.args.self.now c.pass_lone.new.self c.in-Lone.effect c.in-Lone.size (rw (← c.self.view_is) front) c.in_ok-pass_lone-in-Lone.ensures.ok)

pub returns-in-Torn-clause-tail : goal.returns-in-Torn-clause-tail
returns-in-Torn-clause-tail c offset e =
    let s = c.self.inside in
    let torn = rw (c.in-Torn.is, take_rest s.bytes.now s.place) at c.in_ok-effects.ensures in
    let there : s.place ≡ offset = cc e in
    ((rw (← c.self.view_is) (sym there), rw (← c.self.view_is) torn), refl)

pub returns-in-Bad-clause-bad : goal.returns-in-Bad-clause-bad
returns-in-Bad-clause-bad c offset why e =
    let s = c.self.inside in
    let bad = rw (c.in-Bad.is, take_rest s.bytes.now s.place) at c.in_ok-effects.ensures in
    let there : s.place + c.in-Bad.place ≡ offset = cc e in
    let same : c.in-Bad.why ≡ why = cc e in
    (rw (← same) (is_faulty c.args.self.now offset c.in-Bad.place c.in-Bad.why (rw (← c.self.view_is) bad.0) (rw (← c.self.view_is) (sym there))), refl)
