-- Serves clauses writes_back and value of KeyStore::get_mut, and the invariant once the loan is
-- over.
use Rattle.std.proofs.Common.{refl, ap, sym, ◌∙◌, Some}
use Rattle.std.specs.Option.{option_map, option_copied_mut}
use Rattle.core_types.specs.Keys.{value_at, with_changed}
use Rattle.key_store.proofs.Indexes.{indexed_as, indexed_changed}
use Rattle.key_store.proofs.Moves.{changed}
use Rattle.key_store.proofs.store.KeyStore.get_mut.Goals as goal

pub returns-in-Some : goal.returns-in-Some
returns-in-Some g c =
    let lent = c.get_mut in
    let stored = c.in-Some.stored in (
      (
        refl,
        λ w. changed c.self.inside.table (lent.follows.lender (record stored.now { value = w })) c.args.key.now lent.result stored w c.in-Some.is lent.ensures.entry (lent.follows.holds (record stored.now { value = w }))
            ∙ ap (λ keys. with_changed keys c.args.key.now w) c.self.view_is,
        refl,
      ),
      record {
        writes_back = tt;
        value = ap Some c.value_mut.ensures.value
            ∙ ap (option_map (λ e. e.value)) (ap option_copied_mut (sym c.in-Some.is) ∙ lent.ensures.entry)
            ∙ ap (λ keys. value_at keys c.args.key.now) c.self.view_is;
      },
    )

pub invariant_of-self-lent : goal.invariant_of-self-lent
invariant_of-self-lent g c = λ w.
    let lent = c.get_mut in
    let stored = c.in-Some.stored in
    let left = record stored.now { value = w } in
    indexed_as c.self.inside.dues c.self.inside.dues (with_changed c.self.inside.table c.args.key.now w) (lent.follows.lender left)
    refl
    (changed c.self.inside.table (lent.follows.lender left) c.args.key.now lent.result stored w c.in-Some.is lent.ensures.entry (lent.follows.holds left))
    (indexed_changed c.self.inside.dues c.self.inside.table c.args.key.now w c.self.invariant)
