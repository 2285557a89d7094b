-- Serves the clauses ok and err of numbers_in.
use Rattle.std.proofs.Common.{◌≡◌, ℕ, ◌+◌, ◌-◌, ◌++◌, ◌∷◌, [], ◌<◌, length, sym, ap, ◌∙◌, arith, rules, if◌then◌else◌, to_z, of_z}
use Rattle.std.specs.Int.{w64}
use Rattle.std.proofs.lemmas.Int.{to_z-of_z}
use mir.Val.{SFits}
use Rattle.tagged_io.specs.Taking.{taken_one}
use Rattle.mod_samples.specs.HelloNumbers.{number_after}
use Rattle.mod_samples.proofs.ReadingParts.{last_of, missing, step, unfit}
use Rattle.mod_samples.proofs.reading.numbers_in.Goals as goal

pub returns-in_default-take_unsigned-clause-err : goal.returns-in_default-take_unsigned-clause-err
returns-in_default-take_unsigned-clause-err c =
    let v = c.args.encver in let ns = c.loop.numbers.items in let taking = c.loop.taking in
    let some : 0 < c.in-Ok.count - c.loop.counter = omega arith in
    rw (c.shape-in_default-take_unsigned.ensures, c.place-place.ensures.taken) (c.loop.invariant
    ∙ missing v (last_of ns) (c.in-Ok.count - c.loop.counter) (length taking.taken) ns taking.left _ some (sym c.in_default-take_unsigned.ensures.number))

pub returns-in_default-number_after-clause-err : goal.returns-in_default-number_after-clause-err
returns-in_default-number_after-clause-err c =
    let v = c.args.encver in let ns = c.loop.numbers.items in let taking = c.loop.taking in
    let some : 0 < c.in-Ok.count - c.loop.counter = omega arith in
    let last : c.copied.result ≡ last_of ns = c.copied.ensures ∙ c.last.ensures.value ∙ ap last_of c.deref.ensures.value in
    rw (c.shape-in_default-number_after.ensures, c.place-place.ensures.taken) (c.loop.invariant
    ∙ unfit v (last_of ns) (c.in-Ok.count - c.loop.counter) (length taking.taken) ns taking.left c.in-Ok-take_unsigned.part some (sym c.in-Ok-take_unsigned.ensures.number)
    (ap (λ l. number_after v l c.in-Ok-take_unsigned.part) (sym last) ∙ sym c.number_after.ensures ∙ c.in_default-number_after.is))

pub loop-preserved : goal.loop-preserved
loop-preserved c =
    let v = c.args.encver in let ns = c.loop.numbers.items in let taking = c.loop.taking in let n = c.in-Some.n in
    let left : ℕ = c.in-Ok.count - c.loop.counter in
    let some : 0 < left = omega arith in
    let last : c.copied.result ≡ last_of ns = c.copied.ensures ∙ c.last.ensures.value ∙ ap last_of c.deref.ensures.value in
    let fits : SFits w64 n = search rules in
    let pushed : c.push.new.self.items ≡ ns ++ n ∷ [] =
    c.push.ensures.items ∙ ap (λ b. if b then ns ++ to_z w64 (of_z w64 n) ∷ [] else ns) c.if-is_err.ensures.negation
    ∙ ap (λ m. ns ++ m ∷ []) (to_z-of_z w64 n fits) in
    let taken : c.take_unsigned-in-loop.new.self ≡ taken_one taking.taken taking.left = c.in-Ok-take_unsigned.ensures.ok in
    let less : left - 1 ≡ c.in-Ok.count - (c.loop.counter + 1) = omega arith in
    rw (pushed, taken, ← less) (c.loop.invariant
    ∙ step v (last_of ns) left ns taking.taken taking.left c.in-Ok-take_unsigned.part n some (sym c.in-Ok-take_unsigned.ensures.number)
    (ap (λ l. number_after v l c.in-Ok-take_unsigned.part) (sym last) ∙ sym c.number_after.ensures ∙ c.in-Some.is))
