-- Serves clause ok of Draft::end_word.
use Rattle.std.proofs.Common.{◌≡◌, ◌++◌, [], ◌∷◌, ℕ, length, ap, ◌∙◌, arith}
use Rattle.sequences.specs.Drafts.{DraftWords}
use Rattle.sequences.proofs.Packing.{rises_end, cut_end}
use Rattle.sequences.proofs.packed.Packed.end_word.Goals as goal

pub invariant_of-self-2 : goal.invariant_of-self-2
invariant_of-self-2 c =
    let inside = c.self.inside in
    let long : c.len.result ≡ length inside.bytes.items = omega arith in
    let ends = c.in_ok-push.ensures.items ∙ ap (λ (end : ℕ). inside.ends.items ++ end ∷ []) long in
    rw ends (rises_end 0 (length inside.bytes.items) inside.ends.items c.self.invariant)

pub returns-clause-ok : goal.returns-clause-ok
returns-clause-ok c =
    let inside = c.self.inside in
    let long : c.len.result ≡ length inside.bytes.items = omega arith in
    let ends = c.in_ok-push.ensures.items ∙ ap (λ (end : ℕ). inside.ends.items ++ end ∷ []) long in
    let whole : DraftWords → DraftWords =
    λ (d : DraftWords). record { words = d.words ++ d.tail ∷ []; tail = [] } in
    rw ends (cut_end inside.bytes.items inside.ends.items ∙ ap whole c.self.view_is)
