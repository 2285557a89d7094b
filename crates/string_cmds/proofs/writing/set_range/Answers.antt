-- Serves clause does of set_range.
use Rattle.std.proofs.Common.{◌≡◌, ◌+◌, ◌∙◌, max, sym, ap, refl, pos, length, codes, Some}
use Rattle.core_types.specs.declared.reply.Reply.TheVariants as reply
use Rattle.string_cmds.specs.Writing.{laid_over, set_range, writes}
use Rattle.string_cmds.proofs.Laying.{length-laid_over}
use Rattle.string_cmds.proofs.Outcomes.{does_by, range_done}
use Rattle.string_cmds.proofs.writing.set_range.Goals as goal

pub returns-clause-does : goal.returns-clause-does
returns-clause-does c =
    let held = c.args.old.now in
    let words = c.args.words.now in
    let piece = c.word-piece.result.now in
    let start = c.offset-start.result in
    let size : c.max.result ≡ max (length held) (start + length piece) = cc in
    does_by c.in_ok-outcome.outcome _ (Some held) (Some c.lay_over.new.value) (set_range held words)
    (writes (laid_over held start piece) (codes "SETRANGE") (codes "setrange") words)
    c.in_ok-outcome.ensures.outcome
    (sym (range_done held words start piece c.word-piece.ensures.word c.offset-start.ensures.offset
    (sym c.is_empty.ensures ∙ c.if-is_empty.false) c.if-end-gt-LONGEST.false))
    record {
      body = ap Some c.in_ok-lay_over.ensures.ok;
      reply = ap (λ n. reply.Int (pos n)) (size ∙ sym (length-laid_over held start piece));
      effects = refl;
      notes = refl;
    }
