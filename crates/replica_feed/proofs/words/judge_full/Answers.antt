-- Serves the clause of judge_full.
use Rattle.std.proofs.Common.{sym, ◌∙◌}
use Rattle.replica_feed.proofs.Judging.{are_full, full_without, small}
use Rattle.replica_feed.proofs.words.judge_full.Goals.{in_default-via-in-Some+in_default, in_default-via-in_default}
use Rattle.replica_feed.proofs.words.judge_full.Goals as goal

pub returns-in_ok-from_slice-in-Some-Some : goal.returns-in_ok-from_slice-in-Some-Some
returns-in_ok-from_slice-in-Some-Some c =
    rw (c.in_ok-from_slice-in-Some-Some.ensures.bytes ∙ c.word-in-Some-Some.ensures.word)
    (are_full c.args.words.now c.in-Some-Some.run' c.in-Some-Some.number (c.requires.count, c.requires.name)
    (sym c.word.ensures.word ∙ c.in-Some-Some.ensures.text) (sym c.word-2.ensures.word ∙ c.in-Some-Some.ensures'.text) (small _ _ (sym c.in-Some-Some.ensures.value)) (small _ _ (sym c.in-Some-Some.ensures'.value)))

pub returns-in_default : goal.returns-in_default
returns-in_default c = full_without c.args.words.now (c.requires.count, c.requires.name) (λ run number run_fits number_fits first second.
    elim c.in_default.branch [
      | in_default-via-in-Some+in_default w ↦ w.in_default.ensures'.none number number_fits (c.word-2.ensures.word ∙ second)
      | in_default-via-in_default w ↦ (rw w.in_default.is-0 at c.read_u64.ensures.none) run run_fits (c.word.ensures.word ∙ first)
    ])
