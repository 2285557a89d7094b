-- Serves the clauses of put.
use Rattle.std.proofs.Common.{IsSome, ap, subst, sym, ◌∙◌}
use Rattle.core_types.specs.Keys.{value_at, with_deadline, without}
use Rattle.host_core.proofs.PutIn.{deadline_put, taken_again, there_put}
use Rattle.host_core.proofs.loading.put.Goals as goal

pub set_deadline-requires : goal.set_deadline-requires
set_deadline-requires c =
    let name = c.as_slice.ensures.bytes ∙ c.in_ok-name.ensures.same in
    record {
      there = subst (λ k. IsSome (value_at c.put.new.self k)) (sym name)
          (subst (λ keys. IsSome (value_at keys c.args.key)) (sym c.in_default.ensures.ok) (there_put c.args.keys.now c.args.key c.args.value));
      positive = c.requires.positive;
    }

pub returns-in-Err-set_deadline-clause-others : goal.returns-in-Err-set_deadline-clause-others
returns-in-Err-set_deadline-clause-others c =
    let name = c.as_slice-in-Err-set_deadline.ensures.bytes ∙ c.in_ok-name.ensures.same in
    ap (λ keys. without keys c.args.key)
    (c.take.ensures.taken ∙ ap (λ k. without c.set_deadline.new.self k) name
    ∙ ap (λ keys. without keys c.args.key) (c.in-Err-set_deadline.ensures.err ∙ c.in_default.ensures.ok))
    ∙ taken_again c.args.keys.now c.args.key c.args.value

pub returns-clause-ok : goal.returns-clause-ok
returns-clause-ok c =
    let name = c.as_slice.ensures.bytes ∙ c.in_ok-name.ensures.same in
    c.in_default-set_deadline.ensures.ok ∙ ap (λ k. with_deadline c.put.new.self k c.args.deadline) name
    ∙ ap (λ keys. with_deadline keys c.args.key c.args.deadline) c.in_default.ensures.ok
    ∙ deadline_put c.args.keys.now c.args.key c.args.value c.args.deadline
