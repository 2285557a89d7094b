-- Serves the clauses ok and err of write.
use Rattle.std.proofs.Common.{List, refl, sym, ap, ◌∙◌}
use Rattle.std.specs.Result.{IsOk}
use Rattle.module_laws.specs.Told.{with_native}
use Rattle.module_laws.specs.Lending.{lent_unchanged, same_type}
use Rattle.mod_samples.specs.Counts.{Counted, with_count}
use Rattle.mod_samples.specs.WordCount.{counts_shown}
use Rattle.mod_samples.proofs.CountRuns.{words_found}
use Rattle.mod_samples.proofs.HelloRuns.{on_err, on_ok}
use Rattle.mod_samples.proofs.word_count.write.Goals as goal

pub returns-in-Ok-clause-ok : goal.returns-in-Ok-clause-ok
returns-in-Ok-clause-ok g c =
    let told = g.C.Context.told c.args.ctx.now in let key = c.args.key.now in let value = c.in-Ok.value.now in
    let is : IsOk c.native_mut.result = rw c.in-Ok.is refl in
    on_ok c.set.result _ _ c.set.ensures.ok (λ made.
    (c.native_mut.follows.holds c.set.new.self is).0
    ∙ ap (λ (cs : List Counted). with_native key (counts_shown cs) told) (made
    ∙ ap (with_count c.args.word.now c.args.n) (sym (words_found told.seen.keys key value.counts value.counted c.in-Ok.ensures.value))))

pub returns-in-Ok-clause-err : goal.returns-in-Ok-clause-err
returns-in-Ok-clause-err g c =
    let told = g.C.Context.told c.args.ctx.now in let key = c.args.key.now in let value = c.in-Ok.value.now in
    let is : IsOk c.native_mut.result = rw c.in-Ok.is refl in
    on_err c.set.result _ _ c.set.ensures.err (λ same.
    (c.native_mut.follows.holds c.set.new.self is).0
    ∙ ap (λ v. with_native key (counts_shown v.counts) told) same ∙ lent_unchanged told key (counts_shown value.counts) c.in-Ok.ensures.value)

pub returns-in-Ok-clause-typed : goal.returns-in-Ok-clause-typed
returns-in-Ok-clause-typed g c =
    let is : IsOk c.native_mut.result = rw c.in-Ok.is refl in
    same_type _ _ _ _ _ c.in-Ok.ensures.value refl (c.native_mut.follows.holds c.set.new.self is).2
