-- Serves clause end of `refuse`.
use Rattle.std.proofs.Common.{refl}
use Rattle.server_shell.proofs.Progress.{refusal_stops}
use Rattle.server_shell.proofs.pipe.refuse.Goals as goal

pub returns-in-Ok-clause-end : goal.returns-in-Ok-clause-end
returns-in-Ok-clause-end g c = (refl, refl, c.in-Ok.ensures.served c.args.offset)

pub returns-in-Err-clause-end : goal.returns-in-Err-clause-end
returns-in-Err-clause-end g c =
    refusal_stops c.in-Err.status c.args.kind c.args.offset g.D.Dir.told c.args.host.now c.refuse_stream.new.host (g.K.Sink.told c.args.sink.now).got (g.K.Sink.told c.refuse_stream.new.sink).got
    c.in-Err.ensures.why (c.in-Err.ensures.part c.args.offset)
