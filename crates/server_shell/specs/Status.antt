-- How a run ends, as the status of the process.
use Rattle.std.specs.Prelude.{ℕ}
use Rattle.server_shell.specs.declared.status.Status.{Status}
use Rattle.server_shell.specs.declared.status.Status.TheVariants.{Done, Usage, LogRefused, DirFault, ReadFault, WriteFault, Memory, Protocol, CutOff, TooLong, NumbersSpent, NotBuilt}

abbrev pub code_of : Status → ℕ
code_of Done = 0
code_of (Usage place) = 1
code_of (LogRefused file offset why) = 2
code_of DirFault = 3
code_of ReadFault = 4
code_of WriteFault = 5
code_of Memory = 6
code_of (Protocol kind offset) = 7
code_of (CutOff count) = 8
code_of TooLong = 10
code_of NumbersSpent = 11
code_of (NotBuilt what) = 13
