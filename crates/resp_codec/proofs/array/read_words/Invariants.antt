use Rattle.std.proofs.Common.{◌-◌, length}
use Rattle.resp_codec.proofs.Arrays.{HasRead}
use Rattle.resp_codec.proofs.array.read_words.Given as goal

abbrev pub invariant-loop-rest : goal.invariant-loop-rest
invariant-loop-rest l = HasRead l.bytes l.count l.words l.place

abbrev pub decreases-loop-rest : goal.decreases-loop-rest
decreases-loop-rest l = l.count - length l.words
