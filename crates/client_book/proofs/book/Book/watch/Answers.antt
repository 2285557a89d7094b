use Rattle.std.proofs.Common.{Result, Ok, Err, OnErr, ap, sym, subst, refl, ◌∙◌, ⊎_elim, IfSome, IsSome}
use Rattle.client_book.specs.Client.{watches, is_among}
use Rattle.client_book.specs.Register.{changes, on_record}
use Rattle.client_book.specs.inner.Entry.{shown, Fits}
use Rattle.client_book.specs.inner.Watching.{is_listed}
use Rattle.client_book.proofs.Changing.{changed, kept, not_absent}
use Rattle.client_book.proofs.Fitting.{all_fit, among_inserted}
use Rattle.client_book.proofs.book.Book.watch.Goals as goal

pub unreachable-requires : goal.unreachable-requires
unreachable-requires c = not_absent c.self.inside c.args.client c.self.view_is c.in_default.ensures.value c.requires.there

on_err_from : {T E P : Type 0} (r : Result T E) → P → OnErr r P
on_err_from (Ok x) p = tt
on_err_from (Err e) p = p

pub returns-in_err-add-clause-err : goal.returns-in_err-add-clause-err
returns-in_err-add-clause-err c =
    let e = c.in-Some.entry.now in
    on_err_from c.from_residual.result (kept c.self.inside (c.get_mut.follows.lender e) c.args.client e c.in-Some.ensures.value (c.get_mut.follows.holds e) refl ∙ c.self.view_is)

pub invariant_of-self-in_default-insert : goal.invariant_of-self-in_default-insert
invariant_of-self-in_default-insert c =
    let b = c.self.inside in
    let e = c.in-Some.entry.now in
    let w = record e { watched = c.insert.new.self } in
    let fits : Fits b.flushes b.watchers c.args.client e = subst (λ o. IfSome o (Fits b.flushes b.watchers c.args.client)) (sym c.in-Some.ensures.value) (c.self.invariant c.args.client) in
    all_fit b.flushes b.watchers c.add.new.self b.clients (c.get_mut.follows.lender w) c.args.client ((c.get_mut.follows.holds w).3 (subst IsSome c.in-Some.ensures.value refl)) c.in_ok-add.ensures.kept c.self.invariant
    (record {
      past = fits.past;
      early = fits.early;
      indexed = λ key among.
          ⊎_elim
          (λ same. ap (λ k. is_listed c.add.new.self k c.args.client) same ∙ c.in_ok-add.ensures.added)
          (λ old. c.in_ok-add.ensures.kept key c.args.client (fits.indexed key old))
          (among_inserted key c.args.key.now e.watched (ap (is_among key) (sym c.in_default-insert.ensures.ok) ∙ among));
      few = fits.few;
    })

pub returns-in_default-insert-clause-ok : goal.returns-in_default-insert-clause-ok
returns-in_default-insert-clause-ok c =
    let b = c.self.inside in
    let e = c.in-Some.entry.now in
    let w = record e { watched = c.insert.new.self } in
    changed b (c.get_mut.follows.lender w) c.args.client (on_record (watches c.args.key.now)) w c.in-Some.ensures.value (c.get_mut.follows.holds w)
    (ap (λ watched. shown b.flushes (record e { watched = watched })) c.in_default-insert.ensures.ok)
    ∙ ap (changes (watches c.args.key.now) c.args.client) c.self.view_is

pub returns-then-not-contains-clause-err : goal.returns-then-not-contains-clause-err
returns-then-not-contains-clause-err c =
    let e = c.in-Some.entry.now in
    let w = record e { watched = c.insert.new.self } in
    kept c.self.inside (c.get_mut.follows.lender w) c.args.client w c.in-Some.ensures.value (c.get_mut.follows.holds w) (ap (λ watched. shown c.self.inside.flushes (record e { watched = watched })) c.in-Err.ensures.err)
    ∙ c.self.view_is

pub returns-else-not-contains-clause-err : goal.returns-else-not-contains-clause-err
returns-else-not-contains-clause-err c =
    let e = c.in-Some.entry.now in
    let w = record e { watched = c.insert.new.self } in
    kept c.self.inside (c.get_mut.follows.lender w) c.args.client w c.in-Some.ensures.value (c.get_mut.follows.holds w) (ap (λ watched. shown c.self.inside.flushes (record e { watched = watched })) c.in-Err.ensures.err)
    ∙ c.self.view_is
