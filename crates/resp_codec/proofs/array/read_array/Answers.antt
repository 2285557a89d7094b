use Rattle.resp_codec.proofs.Arrays.{array_first, array-open, array-bad}
use Rattle.resp_codec.proofs.array.read_array.Goals as goal

pub returns-in-Open : goal.returns-in-Open
returns-in-Open c = record { front = array-open c.args.bytes.now (array_first c.args.bytes.now c.if-bytes-ne42.false) c.in-Open.ensures }

pub returns-in-Bad : goal.returns-in-Bad
returns-in-Bad c = record { front = array-bad c.args.bytes.now c.in-Bad.kind c.in-Bad.place (array_first c.args.bytes.now c.if-bytes-ne42.false) c.in-Bad.ensures }
