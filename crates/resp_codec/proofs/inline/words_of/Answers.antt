use Rattle.std.proofs.Common.{◌≡◌, List, map, Option, None, ◌∙◌, rules, tests}
use Rattle.std.proofs.lemmas.Iterator.{YieldsList}
use Rattle.std.specs.Iterator.{Yields}
use Rattle.std.proofs.lemmas.Iterator.Consumers.{YieldsList-at, YieldsList-from_filter, YieldsList-end}
use Rattle.std.proofs.lemmas.Iterator.Splits.{YieldsList-from_slice_split}
use Rattle.resp_codec.specs.Inline.{is_blank}
use Rattle.resp_codec.proofs.InlineWords.{full}
use Rattle.resp_codec.proofs.inline.words_of.Goals as goal

ended : {S A B : Type 0} {steps : S → Option A → S → Type 0} {v : A → B} {s : S} {all : List B} (xs : List A) (t u : S) (r : Option A) → Yields steps s xs t → r ≡ None → steps t r u → YieldsList steps v s all → map v xs ≡ all
ended xs t u r yielded none step e = (YieldsList-end e xs t yielded r u none step).0

pub returns : goal.returns
returns c =
    c.loop-word.invariant
    ∙ ended c.loop-word.yielded _ _ _ c.loop-word.yielded_by c.in-None.is c.next.ensures.steps
    (YieldsList-at c.into_iter-word-iterator.ensures.into_iter_gives
    (YieldsList-from_filter _ full
    (YieldsList-at c.filter-word-items.ensures.source
    (YieldsList-from_slice_split _ is_blank c.args.text.now c.split-parts.ensures.rest c.split-parts.ensures.done c.split-parts.ensures.closure (λ x r q k. search (rules, tests)))) c.filter-word-items.ensures.closure
    (λ x r q k. search (rules, tests))))
