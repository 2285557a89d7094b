-- Serves the invariant after a ticket began to wait or was refused.
use Rattle.std.proofs.Common.{◌≡◌, ℕ, ◌<◌, Result, Ok, Err, OnOk, OnErr, true, false, None, Some}
use Rattle.std.proofs.Common.{is_some, IsSome, refl, sym, ap, ◌∙◌, arith}
use Rattle.std.specs.Result.{is_err}
use Rattle.std.proofs.lemmas.Bool.{true≢false, false≢true}
use Rattle.key_waiters.specs.Waiting.{Waiting, key_at, with_waiter}
use Rattle.key_waiters.specs.inner.Lines.{LinesMap, without_place}
use Rattle.key_waiters.proofs.Places.{moved, agree_with, agree_back}
use Rattle.key_waiters.proofs.waiters.Waiters.wait.Goals as goal

on_ok : {T E P : Type 0} (r : Result T E) → is_err r ≡ false → OnOk r P → P
on_ok (Ok x) is p = p
on_ok (Err e) is p = absurd (true≢false is)

on_err : {T E P : Type 0} (r : Result T E) → is_err r ≡ true → OnErr r P → P
on_err (Ok x) is p = absurd (false≢true is)
on_err (Err e) is p = p

-- a number above all that wait does not wait
free : (m : Waiting) (t : ℕ) → ((n : ℕ) → IsSome (key_at m n) → n < t) → key_at m t ≡ None
free m t above = elim (key_at m t) as (λ o. key_at m t ≡ o → o ≡ None) [
  | None ↦ λ _. refl
  | Some k ↦ λ is. let less = above t (ap is_some is) in absurd (omega arith)
] refl

pub invariant_of-self-then-is_err : goal.invariant_of-self-then-is_err
invariant_of-self-then-is_err c =
    let now = c.self.inside in
    let key = c.args.key.now in
    let t = c.args.ticket in
    let none : key_at now.table t ≡ None = ap (λ (m : Waiting). key_at m t) c.self.view_is
    ∙ free c.args.self.now t c.requires.above in
    let same : c.insert-entered.new.self ≡ now.table =
    on_err c.insert-entered.result
    (sym c.is_err.ensures.value ∙ c.if-is_err.true) c.insert-entered.ensures.err in
    moved now.table c.insert-entered.new.self _ c.remove.new.self same
    (c.remove.ensures.removed
    ∙ ap (λ (m : LinesMap). without_place m key t) c.in_ok-insert.ensures.ok)
    (agree_back now.table now.lines t key none c.self.invariant)

pub invariant_of-self-else-is_err : goal.invariant_of-self-else-is_err
invariant_of-self-else-is_err c =
    let now = c.self.inside in
    let key = c.args.key.now in
    let t = c.args.ticket in
    let none : key_at now.table t ≡ None = ap (λ (m : Waiting). key_at m t) c.self.view_is
    ∙ free c.args.self.now t c.requires.above in
    let put = on_ok c.insert-entered.result
    (sym c.is_err.ensures.value ∙ c.if-is_err.false) c.insert-entered.ensures.ok in
    moved _ c.insert-entered.new.self _ c.insert.new.self
    (put ∙ ap (with_waiter now.table t) c.in_ok-copy.ensures.bytes) c.in_ok-insert.ensures.ok
    (agree_with now.table now.lines t key none c.self.invariant)
