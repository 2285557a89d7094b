-- Serves clause applies of WordCount::apply, and what it owes to apply_set and to remove.
use Rattle.std.proofs.Common.{◌≡◌, Some, true, refl, sym, ap, ◌∙◌, arith}
use Rattle.sequences.specs.Words.{word}
use Rattle.mod_samples.specs.CountParts.{saved_counts}
use Rattle.mod_samples.specs.Counts.{some_counts, without_word}
use Rattle.mod_samples.proofs.CountRuns.{counts_rising, drop_edit, drop_there, no_edit, some_without, to_set_count, value_is}
use Rattle.mod_samples.proofs.word_count.WordCountModule.apply.Goals as goal

pub apply_set-requires : goal.apply_set-requires
apply_set-requires c = to_set_count c.args.words.now c.in-Some.n (sym c.to_set.ensures ∙ c.in-Some.is)

pub returns-then-not-drops_one : goal.returns-then-not-drops_one
returns-then-not-drops_one c =
    let words = c.args.words.now in let value = c.in-Some-old.value in
    rw c.in-Some-old.is (record {
      applies = record {
        value = tt;
        back = (refl, no_edit words value.counts value.counted (sym c.to_set.ensures ∙ c.in_default.is) (sym c.if-not-drops_one.ensures));
        private = refl;
        counted = tt;
        kept = record { made = omega arith; freed = omega arith; balance = omega arith };
        spent = tt;
      };
      made = omega arith;
    })

pub remove-requires : goal.remove-requires
remove-requires c =
    let words = c.args.words.now in let value = c.in-Some-old.value in
    rw c.word_at-word.ensures (some_without (word 2 words) value.counts (counts_rising value.counts value.counted)
    (drop_there words value.counts (sym c.if-not-drops_one.ensures)) (λ one. omega (arith, one, c.len.ensures, c.if-len-eq1.false)))

pub returns : goal.returns
returns c =
    let words = c.args.words.now in let value = c.in-Some-old.value in
    let some : some_counts (without_word (word 2 words) value.counts) ≡ true =
    some_without (word 2 words) value.counts (counts_rising value.counts value.counted)
    (drop_there words value.counts (sym c.if-not-drops_one.ensures)) (λ one. omega (arith, one, c.len.ensures, c.if-len-eq1.false)) in
    rw c.in-Some-old.is (record {
      applies = record {
        value = drop_edit words value.counts value.counted (sym c.to_set.ensures ∙ c.in_default.is) (sym c.if-not-drops_one.ensures)
            ∙ ap (λ v. Some v) (value_is (without_word (word 2 words) value.counts) some)
            ∙ ap (λ l. Some (Some (saved_counts l))) (ap (λ wd. without_word wd value.counts) (sym c.word_at-word.ensures) ∙ sym c.remove.ensures);
        back = tt;
        private = refl;
        counted = record { made = omega arith; freed = omega arith; balance = omega arith };
        kept = tt;
        spent = tt;
      };
      made = omega arith;
    })
