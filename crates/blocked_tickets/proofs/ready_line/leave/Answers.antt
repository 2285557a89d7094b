-- Serves the clause on what is left.
use Rattle.std.proofs.Common.{◌==◌, not, Some, sym, ap, refl, ◌∙◌, rules}
use Rattle.std.proofs.lemmas.Fn.{filter_same}
use Rattle.blocked_tickets.proofs.Once.{popped}
use Rattle.blocked_tickets.proofs.ready_line.leave.Goals as goal

pub returns-in-Some-clause-left : goal.returns-in-Some-clause-left
returns-in-Some-clause-left c =
    let first = c.in-Some.first.now in
    let is = c.pop_front.ensures.value first (c.in-Some.ensures.variant.0 refl) ∙ ap Some (sym c.in-Some.ensures.lookup ∙ c.if-first-number.true) in
    popped c.args.number c.args.numbers.now.items c.pop_front.new.self.items c.pop_front.result c.requires c.pop_front.ensures.items is

pub returns-in_default-clause-left : goal.returns-in_default-clause-left
returns-in_default-clause-left c = filter_same _ (λ n. not (n == c.args.number)) _ (λ x b f' k. search rules) _ _ c.retain.ensures.filtered
