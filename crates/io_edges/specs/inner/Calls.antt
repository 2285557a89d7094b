-- Which call fails, and what is counted.
use Rattle.std.specs.Prelude.{Contains}
use Rattle.sequences.specs.Causes.{one_more}
use Rattle.io_edges.specs.Memory.{Plan}

-- the next call is one that fails
abbrev pub NextFails : Plan → Type 0
NextFails plan = Contains plan.fails (one_more plan.calls)

-- one more call is counted
abbrev pub counted : Plan → Plan
counted plan = record plan { calls = one_more plan.calls }

-- one more fault is counted
abbrev pub faulted : Plan → Plan
faulted plan = record plan { faults = one_more plan.faults }
