-- Serves the clauses ok and err of write.
use Rattle.std.proofs.Common.{ℤ, List, refl, sym, ap, ◌∙◌}
use Rattle.std.specs.Int.{w64}
use Rattle.std.specs.Result.{IsOk}
use Rattle.std.proofs.lemmas.Int.{to_z-of_z}
use Rattle.module_laws.specs.Told.{with_native}
use Rattle.module_laws.specs.Lending.{lent_unchanged, same_type}
use Rattle.mod_samples.specs.HelloType.{shown}
use Rattle.mod_samples.specs.Rising.{inserted}
use Rattle.mod_samples.proofs.HelloRuns.{list_found, on_err, on_ok}
use Rattle.mod_samples.proofs.hello_type.write.Goals as goal

pub returns-in-Ok-clause-ok : goal.returns-in-Ok-clause-ok
returns-in-Ok-clause-ok g c =
    let told = g.C.Context.told c.args.ctx.now in let key = c.args.key.now in let list = c.in-Ok.list.now in
    let is : IsOk c.native_mut.result = rw c.in-Ok.is refl in
    on_ok c.insert.result _ _ c.insert.ensures.ok (λ made.
    (c.native_mut.follows.holds c.insert.new.self is).0
    ∙ ap (λ (ns : List ℤ). with_native key (shown ns) told) (made ∙ ap (λ m. inserted m list.numbers) (to_z-of_z w64 c.args.n c.ranges.n)
    ∙ ap (inserted c.args.n) (sym (list_found told.seen.keys key list.numbers list.rising c.in-Ok.ensures.value))))

pub returns-in-Ok-clause-err : goal.returns-in-Ok-clause-err
returns-in-Ok-clause-err g c =
    let told = g.C.Context.told c.args.ctx.now in let key = c.args.key.now in let list = c.in-Ok.list.now in
    let is : IsOk c.native_mut.result = rw c.in-Ok.is refl in
    on_err c.insert.result _ _ c.insert.ensures.err (λ same.
    (c.native_mut.follows.holds c.insert.new.self is).0
    ∙ ap (λ l. with_native key (shown l.numbers) told) same ∙ lent_unchanged told key (shown list.numbers) c.in-Ok.ensures.value)

pub returns-in-Ok-clause-typed : goal.returns-in-Ok-clause-typed
returns-in-Ok-clause-typed g c =
    let is : IsOk c.native_mut.result = rw c.in-Ok.is refl in
    same_type _ _ _ _ _ c.in-Ok.ensures.value refl (c.native_mut.follows.holds c.insert.new.self is).2
