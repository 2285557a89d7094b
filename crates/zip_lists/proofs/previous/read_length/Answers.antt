use Rattle.std.proofs.Common.{◌≡◌, ◌<◌, ◌∙◌, ℕ, slice_get, Some, None, subst, sym, arith}
use Rattle.zip_lists.specs.inner.Fronts.{IsBegunLength, TellsFirst}
use Rattle.zip_lists.proofs.Fronts.{first_none, first_at, nothing_begun, whole_byte}
use Rattle.zip_lists.proofs.previous.read_length.Goals as goal

pub returns-in-None : goal.returns-in-None
returns-in-None c =
    let none : slice_get c.args.bytes.now 0 ≡ None = sym c.first.ensures.value
    ∙ sym c.copied.ensures ∙ c.in-None.is in
    subst IsBegunLength (sym (first_none c.args.bytes.now none)) nothing_begun

pub returns-in-Some : goal.returns-in-Some
returns-in-Some c =
    let some : slice_get c.args.bytes.now 0 ≡ Some c.in-Some.size = sym c.first.ensures.value
    ∙ sym c.copied.ensures ∙ c.in-Some.is in
    let small : c.in-Some.size < 254 = omega (
      arith,
      first_at c.args.bytes.now c.in-Some.size some,
      c.type_inv.bytes 0,
    ) in
    subst (λ (k : ℕ). TellsFirst c.args.bytes.now k 1) (sym c.from.ensures)
    (whole_byte c.args.bytes.now c.in-Some.size some small)
