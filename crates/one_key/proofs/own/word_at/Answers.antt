-- Serves the clause of word_at.
use Rattle.std.proofs.Common.{[], ap, sym, ◌∙◌, unwrap_or}
use Rattle.std.specs.Option.{option_map}
use Rattle.std.proofs.lemmas.Option.{get_or_from_slice_get, unwrap_or-slice_get}
use Rattle.sequences.specs.Words.{word}
use Rattle.one_key.proofs.own.word_at.Goals as goal

pub returns-in-Some : goal.returns-in-Some
unfolding word
returns-in-Some c =
    sym (get_or_from_slice_get c.args.words.now c.args.place _ []
    (sym c.get.ensures.at ∙ ap (option_map (λ word. word.now)) c.in-Some.is))

pub returns-in-None : goal.returns-in-None
unfolding word
returns-in-None c =
    ap (λ o. unwrap_or o []) (sym (ap (option_map (λ word. word.now)) c.in-None.is) ∙ c.get.ensures.at)
    ∙ unwrap_or-slice_get c.args.words.now c.args.place []
