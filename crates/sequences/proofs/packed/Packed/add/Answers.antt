-- Serves clauses ok of Draft::add.
use Rattle.std.proofs.Common.{◌++◌, List, ℕ, ap, ◌∙◌}
use Rattle.sequences.specs.Drafts.{DraftWords}
use Rattle.sequences.proofs.Packing.{rises_append, cut_append}
use Rattle.sequences.proofs.packed.Packed.add.Goals as goal

pub invariant_of-self-2 : goal.invariant_of-self-2
invariant_of-self-2 c =
    let inside = c.self.inside in
    let more = c.args.bytes.now in
    let same = ap (λ (there : List ℕ). there ++ more) c.make_room.ensures.same in
    let bytes = c.in_ok-extend_from_slice.ensures.items ∙ same in
    rw bytes (rises_append inside.bytes.items more inside.ends.items c.self.invariant)

pub returns-clause-ok : goal.returns-clause-ok
returns-clause-ok c =
    let inside = c.self.inside in
    let more = c.args.bytes.now in
    let same = ap (λ (there : List ℕ). there ++ more) c.make_room.ensures.same in
    let bytes = c.in_ok-extend_from_slice.ensures.items ∙ same in
    let added : DraftWords → DraftWords =
    λ (d : DraftWords). record { words = d.words; tail = d.tail ++ more } in
    rw bytes (cut_append inside.bytes.items more inside.ends.items c.self.invariant
    ∙ ap added c.self.view_is)
