-- Serves the invariant after a timer was set or refused.
use Rattle.std.proofs.Common.{◌≡◌, ◌+◌, Result, Ok, Err, OnOk, OnErr, true, false, sym, ap, ◌∙◌}
use Rattle.std.proofs.Common.{arith}
use Rattle.std.specs.Result.{is_err}
use Rattle.std.specs.Option.{option_map}
use Rattle.std.specs.FinMap as map
use Rattle.std.specs.FinSet as set
use Rattle.std.proofs.lemmas.Bool.{true≢false, false≢true}
use Rattle.module_timers.specs.declared.dues.Due.{Due}
use Rattle.module_timers.specs.declared.timer.Timer.{Timer}
use Rattle.module_timers.specs.Outcomes.{CanStart}
use Rattle.module_timers.specs.inner.Indexed.{table_of}
use Rattle.module_timers.proofs.Agree.{moved, indexed_started, put_and_taken, next_free}
use Rattle.module_timers.proofs.timers.Timers.start.Goals as goal

on_ok : {T E P : Type 0} (r : Result T E) → is_err r ≡ false → OnOk r P → P
on_ok (Ok x) is p = p
on_ok (Err e) is p = absurd (true≢false is)

on_err : {T E P : Type 0} (r : Result T E) → is_err r ≡ true → OnErr r P → P
on_err (Ok x) is p = absurd (false≢true is)
on_err (Err e) is p = p

pub invariant_of-self-then-is_err-2 : goal.invariant_of-self-then-is_err-2
invariant_of-self-then-is_err-2 c =
    let now = c.self.inside in
    let table = table_of now.timers now.next in
    let due : Due = record { deadline = c.args.deadline; timer = now.next } in
    let entered : c.insert.new.self ≡ set.insert now.dues due =
    on_ok c.insert.result
    (sym c.is_err.ensures.value ∙ c.if-is_err.false) c.insert.ensures.ok in
    let same : c.insert-2.new.self ≡ now.timers =
    on_err c.insert-2.result
    (sym c.is_err-2.ensures.value ∙ c.if-is_err-2.true) c.insert-2.ensures.err in
    let back : c.remove.new.self ≡ now.dues = c.remove.ensures.removed
    ∙ ap (λ s. set.remove s due) entered
    ∙ put_and_taken now.dues now.next c.args.deadline table c.self.invariant.agree
    (ap (option_map (λ (t : Timer). t.deadline)) (next_free now.dues table c.self.invariant)) in
    moved now.dues c.remove.new.self now.timers c.insert-2.new.self now.next back same
    c.self.invariant

pub invariant_of-self-2 : goal.invariant_of-self-2
invariant_of-self-2 c =
    let now = c.self.inside in
    let table = table_of now.timers now.next in
    let timer : Timer =
    record { place = c.args.place; deadline = c.args.deadline; parcel = c.args.parcel } in
    let due : Due = record { deadline = c.args.deadline; timer = now.next } in
    let entered : c.insert.new.self ≡ set.insert now.dues due =
    on_ok c.insert.result
    (sym c.is_err.ensures.value ∙ c.if-is_err.false) c.insert.ensures.ok in
    let put : c.insert-2.new.self ≡ map.insert now.timers now.next timer =
    on_ok c.insert-2.result
    (sym c.is_err-2.ensures.value ∙ c.if-is_err-2.false) c.insert-2.ensures.ok in
    let can : CanStart table = (
      let few = c.if-len-ge-MOST.false in let len = c.len.ensures.length in
          omega arith,
      let fits = c.self.invariant.next_fits in omega arith,
    ) in
    moved _ c.insert.new.self _ c.insert-2.new.self (now.next + 1) entered put
    (indexed_started now.dues table timer c.self.invariant can)
