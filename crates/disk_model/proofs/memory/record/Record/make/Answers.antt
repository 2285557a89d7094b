-- What the files read as after the call is what it makes of them.
use Rattle.std.proofs.Common.{◌≡◌, ◌++◌, [], ◌∷◌, ◌∙◌, ap, rules}
use Rattle.disk_model.specs.Past.{Past, with_calls}
use Rattle.disk_model.specs.inner.Recorded.{made_of}
use Rattle.disk_model.proofs.Past.{files_pushed, past_pushed}
use Rattle.disk_model.proofs.memory.record.Record.make.Goals as goal

pushed : (c : goal.Joined-push) → c.push.new.self.items ≡ c.self.inside.deeds.items ++ c.args.deed ∷ []
pushed c = search rules

pub invariant_of-self-2 : goal.invariant_of-self-2
invariant_of-self-2 c =
    files_pushed c.args.deed c.self.inside.began c.self.inside.files c.apply.new.self c.self.inside.deeds.items c.push.new.self.items
    (pushed c) c.self.invariant (c.in_ok-apply.ensures.ok)

pub returns-clause-ok : goal.returns-clause-ok
returns-clause-ok c =
    past_pushed c.args.deed c.self.inside.began c.self.inside.deeds.items c.push.new.self.items (pushed c)
    ∙ ap (λ (past : Past). with_calls (made_of c.args.deed ∷ []) past) c.self.view_is
