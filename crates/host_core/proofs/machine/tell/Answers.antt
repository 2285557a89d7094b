-- Serves what `tell` asks of `set_closing`.
use Rattle.std.proofs.Common.{IsSome, subst, sym}
use Rattle.client_book.specs.Client.{tells}
use Rattle.client_book.specs.Register.{listed}
use Rattle.resp_codec.specs.ReplyText.{text}
use Rattle.host_core.proofs.Rolls.{there_changes}
use Rattle.host_core.proofs.machine.tell.Goals as goal

pub set_closing-requires : goal.set_closing-requires
set_closing-requires c =
    record {
      there = subst (λ r. IsSome (listed r c.args.client)) (sym c.in_ok-hold.ensures.ok)
          (there_changes (tells (text c.args.reply.now)) c.args.client c.args.book.now c.args.client c.requires.there);
    }
