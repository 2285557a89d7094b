use Rattle.std.proofs.Common.{length, ◌-◌, ◌<◌, ◌≡◌, ℕ, List}
use Rattle.std.specs.Io.KnownBytes.{Appends}
use Rattle.server_shell.specs.Making.{Hands, open_to, taken_by}
use Rattle.server_shell.proofs.handing.hand_out.Given as goal

abbrev pub invariant-handing : goal.invariant-handing
invariant-handing g l =
    let told = g.K.Sink.told in
    record {
      some : 0 < length l.piece;
      bytes : List ℕ;
      hands : Hands g.D.Dir.told bytes l.fn.host l.host;
      sent : Appends (told l.fn.sink).got (told l.sink).got bytes;
      kept : (told l.sink).faults ≡ (told l.fn.sink).faults;
    }

-- each turn less is left that may be taken
abbrev pub decreases-handing : goal.decreases-handing
decreases-handing g l = open_to l.host - taken_by l.host
