-- Serves clause at of Args::get.
use Rattle.std.proofs.Common.{◌<◌, ◌≤◌, List, ℕ, [], length, sym, ap, ◌∙◌, arith, Some, slice_get}
use Rattle.std.proofs.lemmas.Option.{slice_get-get_or, slice_get_past}
use Rattle.sequences.specs.Words.{word}
use Rattle.sequences.proofs.words.Args.get.Goals as goal

pub returns-then-place-len : goal.returns-then-place-len
unfolding word
returns-then-place-len c =
    let words = c.self.inside.packed.words in
    let view = c.self.view_is in
    let there : c.args.place < length words = omega arith in
    record {
      at = ap Some c.word.ensures.word ∙ sym (slice_get-get_or words c.args.place [] there)
          ∙ ap (λ (ws : List (List ℕ)). slice_get ws c.args.place) view;
    }

pub returns-else-place-len : goal.returns-else-place-len
returns-else-place-len c =
    let words = c.self.inside.packed.words in
    let view = c.self.view_is in
    let past : length words ≤ c.args.place = omega arith in
    record {
      at = sym (slice_get_past words c.args.place past)
          ∙ ap (λ (ws : List (List ℕ)). slice_get ws c.args.place) view;
    }
