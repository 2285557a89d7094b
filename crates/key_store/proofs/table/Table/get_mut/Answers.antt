-- Serves clauses writes_back and entry of Table::get_mut, and the invariant once the loan is over.
use Rattle.std.proofs.Common.{◌≡◌, refl, subst, sym, ap, ◌∙◌, arith}
use Rattle.std.specs.Option.{option_copied_mut, OnSome}
use Rattle.core_types.specs.Keys.{entry_at, with_entry}
use Rattle.key_store.specs.inner.Halves.{both}
use Rattle.key_store.proofs.Counts.{count_lent}
use Rattle.key_store.proofs.Halves.{lent_long, lent_short, long_at, long_lent, short_at, short_lent}
use Rattle.key_store.proofs.table.Table.get_mut.Goals as goal

pub invariant_of-self-lent : goal.invariant_of-self-lent
invariant_of-self-lent g c = λ w.
    let t = c.self.inside in
    let lent = c.get_mut in
    record {
      shorts = short_lent t.short (lent.follows.lender w) c.args.key.now c.new.result lent.result c.in-Some.stored w c.in-Some.is (lent.follows.holds w) c.new.ensures c.self.invariant.shorts
          (sym c.is_short.ensures ∙ c.if-is_short.true);
      longs = c.self.invariant.longs;
      few = (
          let same = count_lent t.short (lent.follows.lender w) c.new.result lent.result c.in-Some.stored w c.in-Some.is lent.ensures.entry (lent.follows.holds w) in
          let few = c.self.invariant.few in
          omega (arith, same, few)
          );
    }

pub returns-in-Some : goal.returns-in-Some
returns-in-Some g c =
    let t = c.self.inside in
    let lent = c.get_mut in
    let key = c.args.key.now in (
      (
        refl,
        λ w. subst (λ o. OnSome o (both (lent.follows.lender w) t.long ≡ with_entry c.args.self.now key w)) c.in-Some.is
            (lent_short t.short t.long (lent.follows.lender w) c.args.self.now key c.new.result lent.result w (lent.follows.holds w) c.new.ensures c.self.view_is),
        refl,
      ),
      record {
        writes_back = tt;
        entry = ap option_copied_mut (sym c.in-Some.is) ∙ lent.ensures.entry ∙ ap (entry_at t.short) c.new.ensures
            ∙ sym (short_at t.short t.long key c.self.invariant.longs (sym c.is_short.ensures ∙ c.if-is_short.true))
            ∙ ap (λ keys. entry_at keys key) c.self.view_is;
      },
    )

pub returns-in-None : goal.returns-in-None
returns-in-None g c =
    let t = c.self.inside in
    let lent = c.get_mut in
    let key = c.args.key.now in (
      (
        refl,
        λ w. tt,
        ap (λ s. both s t.long) lent.follows.holds-at-none ∙ c.self.view_is,
      ),
      record {
        writes_back = tt;
        entry = ap option_copied_mut (sym c.in-None.is) ∙ lent.ensures.entry ∙ ap (entry_at t.short) c.new.ensures
            ∙ sym (short_at t.short t.long key c.self.invariant.longs (sym c.is_short.ensures ∙ c.if-is_short.true))
            ∙ ap (λ keys. entry_at keys key) c.self.view_is;
      },
    )

pub invariant_of-self-lent-in-Some-get_mut : goal.invariant_of-self-lent-in-Some-get_mut
invariant_of-self-lent-in-Some-get_mut g c = λ w.
    let t = c.self.inside in
    let lent = c.get_mut-else-is_short in
    record {
      shorts = c.self.invariant.shorts;
      longs = long_lent t.long (lent.follows.lender w) c.args.key.now lent.result c.in-Some-get_mut.stored w c.in-Some-get_mut.is (lent.follows.holds w) c.self.invariant.longs
          (sym c.is_short.ensures ∙ c.if-is_short.false);
      few = (
          let same = count_lent t.long (lent.follows.lender w) c.args.key.now lent.result c.in-Some-get_mut.stored w c.in-Some-get_mut.is lent.ensures.entry (lent.follows.holds w) in
          let few = c.self.invariant.few in
          omega (arith, same, few)
          );
    }

pub returns-in-Some-get_mut : goal.returns-in-Some-get_mut
returns-in-Some-get_mut g c =
    let t = c.self.inside in
    let lent = c.get_mut-else-is_short in
    let key = c.args.key.now in
    let long = sym c.is_short.ensures ∙ c.if-is_short.false in (
      (
        refl,
        λ w. subst (λ o. OnSome o (both t.short (lent.follows.lender w) ≡ with_entry c.args.self.now key w)) c.in-Some-get_mut.is
            (lent_long t.short t.long (lent.follows.lender w) c.args.self.now key lent.result w (lent.follows.holds w) c.self.invariant.shorts long c.self.view_is),
        refl,
      ),
      record {
        writes_back = tt;
        entry = ap option_copied_mut (sym c.in-Some-get_mut.is) ∙ lent.ensures.entry
            ∙ sym (long_at t.short t.long key c.self.invariant.shorts long)
            ∙ ap (λ keys. entry_at keys key) c.self.view_is;
      },
    )

pub returns-in-None-get_mut : goal.returns-in-None-get_mut
returns-in-None-get_mut g c =
    let t = c.self.inside in
    let lent = c.get_mut-else-is_short in
    let key = c.args.key.now in (
      (
        refl,
        λ w. tt,
        ap (both t.short) lent.follows.holds-at-none ∙ c.self.view_is,
      ),
      record {
        writes_back = tt;
        entry = ap option_copied_mut (sym c.in-None-get_mut.is) ∙ lent.ensures.entry
            ∙ sym (long_at t.short t.long key c.self.invariant.shorts (sym c.is_short.ensures ∙ c.if-is_short.false))
            ∙ ap (λ keys. entry_at keys key) c.self.view_is;
      },
    )
