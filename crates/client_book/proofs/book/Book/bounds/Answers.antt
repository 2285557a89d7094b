use Rattle.std.proofs.Common.{◌≤◌, length, sym, subst, IfSome, arith}
use Rattle.client_book.specs.Register.{pending_of, IsFront}
use Rattle.client_book.specs.inner.Entry.{Fits}
use Rattle.client_book.proofs.Changing.{listed-view, IsFront-shown}
use Rattle.client_book.proofs.book.Book.bounds.Goals as goal

pub returns-in-Some-clause-pending : goal.returns-in-Some-clause-pending
returns-in-Some-clause-pending c =
    let b = c.self.inside in
    let fits : Fits b.flushes b.watchers c.args.client c.in-Some.entry.now =
    subst (λ o. IfSome o (Fits b.flushes b.watchers c.args.client))
    (sym c.in-Some.ensures.value) (c.self.invariant c.args.client) in
    let shown = listed-view b c.args.client c.self.view_is c.in-Some.ensures.value in
    subst (λ o. length (pending_of o) ≤ 1024) (sym shown) fits.few

pub returns-in-Some-clause-front : goal.returns-in-Some-clause-front
returns-in-Some-clause-front c =
    let b = c.self.inside in
    let shown = listed-view b c.args.client c.self.view_is c.in-Some.ensures.value in
    let free = c.free-free in
    subst (λ o. IfSome o IsFront) (sym shown)
    (IsFront-shown b.flushes c.in-Some.entry.now free.result free.ensures.free
    free.ensures.within)

pub returns-in_default-clause-pending : goal.returns-in_default-clause-pending
returns-in_default-clause-pending c =
    let shown =
    listed-view c.self.inside c.args.client c.self.view_is c.in_default.ensures.value in
    subst (λ o. length (pending_of o) ≤ 1024) (sym shown) (omega arith)

pub returns-in_default-clause-front : goal.returns-in_default-clause-front
returns-in_default-clause-front c =
    let shown =
    listed-view c.self.inside c.args.client c.self.view_is c.in_default.ensures.value in
    subst (λ o. IfSome o IsFront) (sym shown) tt
