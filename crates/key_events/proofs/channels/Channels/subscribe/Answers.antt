-- Serves the invariant and the count after a name was given.
use Rattle.std.proofs.Common.{◌≡◌, ◌+◌, ◌<◌, false, Result, Ok, Err, is_err, OnOk, sym, ap, subst, ◌∙◌}
use Rattle.std.proofs.lemmas.Bool.{true≢false}
use Rattle.key_events.specs.Subscribers.{Subscribers, count_of, most_names}
use Rattle.key_events.proofs.Few.{moved, few_more, one_more}
use Rattle.key_events.proofs.channels.Channels.subscribe.Goals as goal

on_ok : {T E P : Type 0} (r : Result T E) → is_err r ≡ false → OnOk r P → P
on_ok (Ok x) is p = p
on_ok (Err e) is p = absurd (true≢false is)

pub invariant_of-self-2 : goal.invariant_of-self-2
invariant_of-self-2 c =
    let now = c.self.inside.rolls in
    let client = c.args.client in
    let room : count_of now client < most_names =
    subst (λ n. n < most_names)
    (c.count-count.ensures.count ∙ ap (λ (s : Subscribers). count_of s client) (sym c.self.view_is))
    c.if-count-ge-MOST.false in
    moved _ c.add-entered.new.self
    (on_ok c.add-entered.result (sym c.is_err.ensures.value ∙ c.if-is_err.false)
    c.add-entered.ensures.ok)
    (few_more now client c.args.name.now c.args.pattern room c.self.invariant)

pub returns-clause-count : goal.returns-clause-count
returns-clause-count c =
    let now = c.self.inside.rolls in
    let client = c.args.client in
    sym (ap (λ (s : Subscribers). count_of s client)
    (on_ok c.add-entered.result (sym c.is_err.ensures.value ∙ c.if-is_err.false)
    c.add-entered.ensures.ok)
    ∙ one_more now client c.args.name.now c.args.pattern
    ∙ ap (λ (s : Subscribers). count_of s client + 1) c.self.view_is
    ∙ ap (λ n. n + 1) (sym c.count-count.ensures.count))
