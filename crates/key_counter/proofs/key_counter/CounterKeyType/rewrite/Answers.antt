-- Serves clause builds of Counter::rewrite.
use Rattle.std.proofs.Common.{[], ◌∷◌, ◌++◌, sym, ap, ◌∙◌, subst, arith}
use Rattle.module_laws.specs.Rewriting.{Builds}
use Rattle.one_key.specs.MeaningOf.{meaning_of}
use Rattle.key_counter.specs.KeyCounter.{counter, saved_number, counter_set}
use Rattle.key_counter.specs.KeyCounterLaws.{rebuilds}
use Rattle.key_counter.proofs.key_counter.CounterKeyType.rewrite.Goals as goal

pub returns : goal.returns
returns c =
    let key = c.args.key.now in let n = c.args.value.now in
    record {
      builds = subst (Builds (meaning_of counter) key (saved_number n))
          (sym (c.in_ok-push.ensures.ok ∙ ap (λ es. es ++ c.in_ok-on_key.field-0 ∷ []) c.new-effects.ensures.empty
          ∙ ap (λ e. e ∷ []) (c.in_ok-on_key.ensures.words
          ∙ ap (λ text. record { words = counter_set ∷ key ∷ text ∷ [] }) (c.as_slice.ensures.bytes ∙ c.u64_text-text.ensures.text))))
          (rebuilds key n (omega arith) c.requires.key);
    }
