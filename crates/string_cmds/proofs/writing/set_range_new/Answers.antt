-- Serves clause does of set_range_new.
use Rattle.std.proofs.Common.{◌≡◌, ◌+◌, ◌∙◌, sym, ap, refl, pos, length, [], codes, None, arith}
use Rattle.core_types.specs.declared.reply.Reply.TheVariants as reply
use Rattle.string_cmds.specs.Writing.{laid_over, set_range, writes}
use Rattle.string_cmds.proofs.Laying.{length-laid_over}
use Rattle.string_cmds.proofs.Outcomes.{does_by, ok_map, range_done}
use Rattle.string_cmds.proofs.writing.set_range_new.Goals as goal

pub returns : goal.returns
returns c =
    let words = c.args.words.now in
    let piece = c.word-piece.result.now in
    let start = c.offset-start.result in
    let size : start + length piece ≡ length (laid_over [] start piece) = omega (arith, length-laid_over [] start piece) in
    record {
      does = ok_map c.range_set.result _ _
          (λ o e. does_by o _ None None (set_range [] words)
          (writes (laid_over [] start piece) (codes "SETRANGE") (codes "setrange") words) e
          (sym (range_done [] words start piece c.word-piece.ensures.word c.offset-start.ensures.offset
          (sym c.is_empty.ensures ∙ c.if-is_empty.false) c.if-end-gt-LONGEST.false))
          record {
            body = c.in_ok-lay_over.ensures.ok ∙ ap (λ held. laid_over held start piece) c.new-value.ensures.empty;
            reply = ap (λ n. reply.Int (pos n)) size;
            effects = refl;
            notes = refl;
          })
          c.range_set.ensures.outcome;
    }
