-- Serves the clause of all_shown.
use Rattle.std.proofs.Common.{◌<◌, [], length, take, get_or, ap, sym, ◌∙◌, arith}
use Rattle.std.specs.List.{flat_map}
use Rattle.std.proofs.lemmas.List.{flat_map_more, take_more}
use Rattle.std.proofs.lemmas.Option.{slice_get-get_or}
use Rattle.core_types.specs.Answers.{several}
use Rattle.hash_cmds.specs.Reading.{field_shown}
use Rattle.hash_cmds.proofs.reading.all_shown.Goals as goal

pub loop-place-preserved : goal.loop-place-preserved
loop-place-preserved c =
    let held = c.args.hash.now in
    let place = c.loop-place.place in
    let field = get_or held place (record { name = []; value = [] }) in
    let within : place < length held = omega (arith, c.loop-place-test.true, c.len-place-end.ensures.length) in
    let next = flat_map_more (field_shown c.args.what) [] (take place held) field in
    c.in_ok-show.ensures field (flat_map (field_shown c.args.what) (take place held)) (slice_get-get_or held place _ within) c.loop-place.invariant
    ∙ ap several (next ∙ ap (flat_map (field_shown c.args.what)) (sym (take_more held place (record { name = []; value = [] }) within)))
