use Rattle.std.proofs.Common.{◌+◌, ◌-◌, ◌*◌, ◌^◌, ◌≡◌, ◌<◌, length}
use Rattle.server_shell.proofs.Progress.{Progress}
use Rattle.server_shell.proofs.pipe.serve_source.Given as goal

abbrev pub invariant-serving : goal.invariant-serving
invariant-serving g l =
    let source = g.S.Source.told in
    let clock = g.C.Clock.told in
    let sink = g.K.Sink.told in
    let dir = g.D.Dir.told in
    record {
      some : 0 < length l.buffer;
      full : length l.buffer ≡ 16384;
      progress : Progress dir l.fn.host l.host l.reader l.taken (source l.fn.source).left (source l.source).left (clock l.fn.clock) (clock l.clock) (sink l.fn.sink).got (sink l.sink).got;
      dir_kept : (dir l.host.dir).faults ≡ (dir l.fn.host.dir).faults;
      source_kept : (source l.source).faults ≡ (source l.fn.source).faults;
      sink_kept : (sink l.sink).faults ≡ (sink l.fn.sink).faults;
    }

-- each turn takes a request out of what was fed, or at least one byte more of the input
abbrev pub decreases-serving : goal.decreases-serving
decreases-serving g l = 2 * (2 ^ 40 - l.taken) + length l.reader.rest
