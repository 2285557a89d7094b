-- What a directory in memory is seen as, and what a call makes of it.
use Rattle.std.specs.Prelude.{◌≡◌, ◌⊎◌, ℕ, ◌/◌, List, [], length, Result, Ok, Err, Some, Contains}
use Rattle.sequences.specs.Causes.{one_more}
use Rattle.disk_model.specs.Files.{Files, no_files}
use Rattle.disk_model.specs.Past.{Call, Outcome, Past, with_call}
use Rattle.disk_model.specs.Told.{Told}

-- what was done on it, how often it has failed, how often it was called, and the numbers of the
-- calls that fail
pub record Memory : Type 0 where
  pub past : Past
  pub faults : ℕ
  pub calls : ℕ
  pub fails : List ℕ

-- what it tells: all
abbrev pub telling : Memory → Told
telling dir = record { past = Some dir.past; faults = dir.faults }

-- these files, all of them synced, and no call yet
abbrev pub begun : Files → Past
begun files = record { began = files; made = [] }

-- no files, and no call yet
abbrev pub untouched : List ℕ → Memory
untouched fails = record { past = begun no_files; faults = 0; calls = 0; fails = fails }

-- the same directory, which begins anew with these files
abbrev pub holding : Files → Memory → Memory
holding files dir = record dir { past = begun files }

-- the next call is one that fails
abbrev pub NextFails : Memory → Type 0
NextFails dir = Contains dir.fails (one_more dir.calls)

-- one more call is counted
abbrev pub counted : Memory → Memory
counted dir = record dir { calls = one_more dir.calls }

-- a call came out so
abbrev pub recorded : Call → Outcome → Memory → Memory
recorded call outcome dir = record dir { past = with_call call outcome dir.past }

-- one more fault is counted
abbrev pub faulted : Memory → Memory
faulted dir = record dir { faults = one_more dir.faults }

-- how a call fails: half of an append comes, and nothing of another
abbrev pub failure : Call → Outcome
failure (Call.Append name bytes) = Outcome.FailedFront (length bytes / 2)
failure call = Outcome.FailedUndone

-- How a call ends. A call that is listed fails so, each other one is done, and one that finds no
-- memory is not recorded.
abbrev pub Ends : {T E : Type 0} → Call → Memory → Result T E → Memory → Type 0
Ends call old (Ok done) new = (¬ NextFails old) × (new ≡ recorded call Outcome.Done (counted old))
Ends call old (Err fault) new =
    (NextFails old × (new ≡ faulted (recorded call (failure call) (counted old))))
    ⊎ (new ≡ faulted (counted old))
