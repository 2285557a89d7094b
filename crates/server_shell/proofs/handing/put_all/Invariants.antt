use Rattle.std.proofs.Common.{length, ◌-◌, ◌≤◌, ◌≡◌, take}
use Rattle.std.specs.Io.KnownBytes.{Appends}
use Rattle.server_shell.proofs.handing.put_all.Given as goal

abbrev pub invariant-loop-done : goal.invariant-loop-done
invariant-loop-done g l =
    let told = g.K.Sink.told in
    record {
      within : l.done ≤ length l.bytes;
      sent : Appends (told l.fn.sink).got (told l.sink).got (take l.done l.bytes);
      kept : (told l.sink).faults ≡ (told l.fn.sink).faults;
    }

abbrev pub decreases-loop-done : goal.decreases-loop-done
decreases-loop-done g l = length l.bytes - l.done
