-- Serves clauses count and parts of copies.
use Rattle.std.proofs.Common.{◌≡◌, ◌∙◌, ◌++◌, ◌∷◌, [], List, sym, ap, Some, arith}
use Rattle.std.specs.Prelude.{slice_get, slice_range}
use Rattle.std.specs.Option.{option_copied}
use Rattle.core_types.specs.declared.part.Part.{Part}
use Rattle.core_types.specs.declared.part.Part.TheVariants as part
use Rattle.list_cmds.specs.Reading.{bulks}
use Rattle.list_cmds.proofs.Ranges.{bulks_more, slice_more}
use Rattle.list_cmds.proofs.reading.copies.Goals as goal

pub loop-place-preserved : goal.loop-place-preserved
loop-place-preserved c =
    let held = c.args.held.now in
    let start = c.args.start in
    let place = c.loop-place.place in
    let item = c.unwrap-item.result.now in
    let there : slice_get held place ≡ Some item = sym c.get.ensures.at ∙ ap option_copied c.unwrap-item.ensures in
    let more = slice_more held start place item c.loop-place.invariant.0 there in (
      omega (arith, c.loop-place.invariant.0),
      omega (arith, c.loop-place.invariant.0, c.loop-place.invariant.1, c.in_ok-push.ensures.count),
      c.in_ok-push.ensures.parts ∙ ap (λ bytes. c.loop-place.items.parts ++ part.Bulk bytes ∷ []) c.in_ok-copy.ensures.same
          ∙ ap (λ (parts : List Part). parts ++ part.Bulk item ∷ []) c.loop-place.invariant.2
          ∙ sym (bulks_more (slice_range held start place) item) ∙ ap bulks (sym more),
    )
