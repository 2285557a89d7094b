-- Serves clause ok of remove, and what it owes to WordCounts::remove.
use Rattle.std.proofs.Common.{◌≡◌, List, true, refl, sym, ap, ◌∙◌, subst}
use Rattle.std.specs.Result.{IsOk}
use Rattle.module_laws.specs.Lending.{same_type}
use Rattle.module_laws.specs.Told.{with_native}
use Rattle.mod_samples.specs.Counts.{Counted, some_counts, without_word}
use Rattle.mod_samples.specs.WordCount.{counts_shown}
use Rattle.mod_samples.proofs.CountRuns.{words_found}
use Rattle.mod_samples.proofs.word_count.remove.Goals as goal

pub remove-requires : goal.remove-requires
remove-requires g c =
    let value = c.in-Ok.value.now in
    subst (λ cs. some_counts (without_word c.args.word.now cs) ≡ true)
    (words_found (g.C.Context.told c.args.ctx.now).seen.keys c.args.key.now value.counts value.counted c.in-Ok.ensures.value) c.requires

pub returns-in-Ok-clause-ok : goal.returns-in-Ok-clause-ok
returns-in-Ok-clause-ok g c =
    let told = g.C.Context.told c.args.ctx.now in let key = c.args.key.now in let value = c.in-Ok.value.now in
    let is : IsOk c.native_mut.result = rw c.in-Ok.is refl in
    (c.native_mut.follows.holds c.remove.new.self is).0
    ∙ ap (λ (cs : List Counted). with_native key (counts_shown cs) told) (c.remove.ensures
    ∙ ap (without_word c.args.word.now) (sym (words_found told.seen.keys key value.counts value.counted c.in-Ok.ensures.value)))

pub returns-in-Ok-clause-typed : goal.returns-in-Ok-clause-typed
returns-in-Ok-clause-typed g c =
    let is : IsOk c.native_mut.result = rw c.in-Ok.is refl in
    same_type _ _ _ _ _ c.in-Ok.ensures.value refl (c.native_mut.follows.holds c.remove.new.self is).2
