-- Serves clause length of Draft::tail_len.
use Rattle.std.proofs.Common.{◌≡◌, ◌≤◌, List, ℕ, length, ap, ◌∙◌, arith}
use Rattle.std.proofs.lemmas.List.{take_all, length-drop}
use Rattle.sequences.specs.inner.Packing.{last_end}
use Rattle.sequences.proofs.Packing.{last_top}
use Rattle.sequences.proofs.packed.Packed.tail_len.Goals as goal

pub overflow_sub-result : goal.overflow_sub-result
overflow_sub-result c =
    let inside = c.self.inside in
    let all : length c.deref.result.now ≤ c.len-2.result = omega arith in
    let whole = take_all c.len-2.result c.deref.result.now all ∙ c.deref.ensures.value in
    let last : c.start_of.result ≡ last_end 0 inside.ends.items =
    c.start_of.ensures.start ∙ ap (λ (ends : List ℕ). last_end 0 ends) whole in
    let top = last_top 0 (length inside.bytes.items) inside.ends.items c.self.invariant in
    omega (arith, last, top)

pub returns : goal.returns
returns c =
    let inside = c.self.inside in
    let all : length c.deref.result.now ≤ c.len-2.result = omega arith in
    let whole = take_all c.len-2.result c.deref.result.now all ∙ c.deref.ensures.value in
    let last : c.start_of.result ≡ last_end 0 inside.ends.items =
    c.start_of.ensures.start ∙ ap (λ (ends : List ℕ). last_end 0 ends) whole in
    let long = length-drop (last_end 0 inside.ends.items) inside.bytes.items in
    let tail = ap (λ d. length d.tail) c.self.view_is in
    record { length = omega (arith, last, long, tail) }
