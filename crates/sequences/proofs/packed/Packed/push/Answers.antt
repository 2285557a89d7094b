-- Serves clause ok of Args::push.
use Rattle.std.proofs.Common.{◌≡◌, ◌++◌, [], ◌∷◌, List, ℕ, length, ap, ◌∙◌, arith}
use Rattle.sequences.specs.Drafts.{DraftWords}
use Rattle.sequences.proofs.Packing.{rises_append, rises_end, cut_push}
use Rattle.sequences.proofs.packed.Packed.push.Goals as goal

pub invariant_of-self-2 : goal.invariant_of-self-2
invariant_of-self-2 c =
    let inside = c.self.inside in
    let word = c.args.word.now in
    let whole = inside.bytes.items ++ word in
    let same = ap (λ (there : List ℕ). there ++ word) c.make_room.ensures.same in
    let bytes = c.in_ok-extend_from_slice.ensures.items ∙ same in
    let long : c.len.result ≡ length c.extend_from_slice.new.self.items = omega arith in
    let end = long ∙ ap (λ (all : List ℕ). length all) bytes in
    let reserved = ap (λ (there : List ℕ). there ++ c.len.result ∷ []) c.reserve.ensures.items in
    let at_end = ap (λ (n : ℕ). inside.ends.items ++ n ∷ []) end in
    let ends = c.push_reserved.ensures.items ∙ reserved ∙ at_end in
    let rises = rises_append inside.bytes.items word inside.ends.items c.self.invariant in
    rw (bytes, ends) (rises_end 0 (length whole) inside.ends.items rises)

pub returns-clause-ok : goal.returns-clause-ok
returns-clause-ok c =
    let inside = c.self.inside in
    let word = c.args.word.now in
    let same = ap (λ (there : List ℕ). there ++ word) c.make_room.ensures.same in
    let bytes = c.in_ok-extend_from_slice.ensures.items ∙ same in
    let long : c.len.result ≡ length c.extend_from_slice.new.self.items = omega arith in
    let end = long ∙ ap (λ (all : List ℕ). length all) bytes in
    let reserved = ap (λ (there : List ℕ). there ++ c.len.result ∷ []) c.reserve.ensures.items in
    let at_end = ap (λ (n : ℕ). inside.ends.items ++ n ∷ []) end in
    let ends = c.push_reserved.ensures.items ∙ reserved ∙ at_end in
    let none = ap (λ d. d.tail) c.self.view_is ∙ c.requires in
    let put : DraftWords → DraftWords =
    λ (d : DraftWords). record { words = d.words ++ word ∷ []; tail = [] } in
    let done = cut_push inside.bytes.items word inside.ends.items c.self.invariant none in
    rw (bytes, ends) (done ∙ ap put c.self.view_is)
