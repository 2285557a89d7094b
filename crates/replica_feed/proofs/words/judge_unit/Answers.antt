-- Serves the clause of judge_unit.
use Rattle.std.proofs.Common.{List, ℕ, subst, sym, ◌∙◌}
use Rattle.replica_feed.specs.declared.words.Judged.{Judged}
use Rattle.replica_feed.specs.Reading.{IsJudged}
use Rattle.replica_feed.specs.inner.Texts.{IsText}
use Rattle.replica_feed.proofs.UnitWords.{unit_judged}
use Rattle.replica_feed.proofs.Judging.{small, unit_without}
use Rattle.replica_feed.proofs.words.judge_unit.Goals.{in_default-via-in-Some+in-Some+in_default, in_default-via-in-Some+in_default, in_default-via-in_default}
use Rattle.replica_feed.proofs.words.judge_unit.Goals as goal

pub returns-in_ok-text-in-Some-Some-Some : goal.returns-in_ok-text-in-Some-Some-Some
returns-in_ok-text-in-Some-Some-Some c =
    let read = c.in-Some-Some-Some in
    let text = c.in_ok-text-in-Some-Some-Some in
    subst (λ (j : Judged). IsJudged c.args.words.now j) (sym c.unit_of.ensures)
    (unit_judged c.args.words.now read.run' read.from read.to (record {
      begin = (c.requires.count, c.requires.name);
      first = sym c.word.ensures.word ∙ read.ensures.text;
      second = sym c.word-2.ensures.word ∙ read.ensures'.text;
      third = sym c.word-3.ensures.word ∙ read.ensures''.text;
      run_fits = small _ _ (sym read.ensures.value);
      from_fits = small _ _ (sym read.ensures'.value);
      to_fits = small _ _ (sym read.ensures''.value);
    }) text.text (subst (λ (b : List ℕ). IsText b text.text) c.word-in-Some-Some-Some.ensures.word text.ensures))

pub returns-in_default : goal.returns-in_default
returns-in_default c = unit_without c.args.words.now (c.requires.count, c.requires.name) (λ run from to run_fits from_fits to_fits first second third.
    elim c.in_default.branch [
      | in_default-via-in-Some+in-Some+in_default w ↦ w.in_default.ensures''.none to to_fits (c.word-3.ensures.word ∙ third)
      | in_default-via-in-Some+in_default w ↦ (rw w.in_default.is-1 at c.read_u64-2.ensures.none) from from_fits (c.word-2.ensures.word ∙ second)
      | in_default-via-in_default w ↦ (rw w.in_default.is-0 at c.read_u64.ensures.none) run run_fits (c.word.ensures.word ∙ first)
    ])
