-- Serves clause word of Args::word.
use Rattle.std.proofs.Common.{◌<◌, List, ℕ, [], length, take, get_or, sym, ap, ◌∙◌, arith}
use Rattle.std.proofs.lemmas.List.{get_or_read}
use Rattle.sequences.specs.Words.{word}
use Rattle.sequences.specs.inner.Packing.{last_end}
use Rattle.sequences.proofs.Packing.{length-words_from, word_at, word_within}
use Rattle.sequences.proofs.packed.Packed.word.Goals as goal

pub start_of-start-requires : goal.start_of-start-requires
start_of-start-requires c =
    let inside = c.self.inside in
    let many = length-words_from 0 inside.bytes.items inside.ends.items in
    let same = ap (λ d. length d.words) c.self.view_is in
    omega (arith, many, same)

pub index-end-requires : goal.index-end-requires
index-end-requires c =
    let inside = c.self.inside in
    let many = length-words_from 0 inside.bytes.items inside.ends.items in
    let same = ap (λ d. length d.words) c.self.view_is in
    omega (arith, many, same)

pub part-requires : goal.part-requires
part-requires c =
    let inside = c.self.inside in
    let many = length-words_from 0 inside.bytes.items inside.ends.items in
    let same = ap (λ d. length d.words) c.self.view_is in
    let there : c.args.place < length inside.ends.items = omega (arith, many, same) in
    let ends = inside.ends.items in
    let before : List ℕ → ℕ = λ (all : List ℕ). last_end 0 (take c.args.place all) in
    let start = c.start_of-start.ensures.start ∙ ap before c.deref.ensures.value in
    let read = c.index-end.result.now in
    let end = get_or_read ends c.args.place read there c.index-end.ensures 0 in
    let bytes = ap (λ (bs : List ℕ). length bs) c.deref-2.ensures.value in
    let size = length inside.bytes.items in
    let within = word_within 0 size ends c.args.place c.self.invariant there in
    let order = within.0 in
    let top = within.1 in
    record { order = omega (arith, start, end, order); within = omega (arith, end, bytes, top) }

pub returns : goal.returns
unfolding word
returns c =
    let inside = c.self.inside in
    let many = length-words_from 0 inside.bytes.items inside.ends.items in
    let same = ap (λ d. length d.words) c.self.view_is in
    let there : c.args.place < length inside.ends.items = omega (arith, many, same) in
    let ends = inside.ends.items in
    let before : List ℕ → ℕ = λ (all : List ℕ). last_end 0 (take c.args.place all) in
    let start = c.start_of-start.ensures.start ∙ ap before c.deref.ensures.value in
    let read = c.index-end.result.now in
    let end = get_or_read ends c.args.place read there c.index-end.ensures 0 in
    record {
      word = c.part.ensures.part
          ∙ rw (start, end, c.deref-2.ensures.value)
          (sym (word_at 0 inside.bytes.items inside.ends.items c.args.place [] there))
          ∙ ap (λ d. get_or d.words c.args.place []) c.self.view_is;
    }
