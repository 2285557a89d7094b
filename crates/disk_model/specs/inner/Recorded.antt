-- The calls that a directory in memory records, and what they make of its files.
use Rattle.std.specs.Prelude.{[]}
use Rattle.disk_model.specs.Files.{Files, with_file, with_appended, with_cut, with_moved}
use Rattle.disk_model.specs.Past.{Call, Outcome, Made, front_of}
use Rattle.disk_model.specs.declared.memory.deed.Asked.{Asked}
use Rattle.disk_model.specs.declared.memory.deed.Asked.TheVariants as asked
use Rattle.disk_model.specs.declared.memory.deed.Came.{Came}
use Rattle.disk_model.specs.declared.memory.deed.Came.TheVariants as came
use Rattle.disk_model.specs.declared.memory.deed.Deed.{Deed}

-- what was asked for
abbrev pub call_of : Asked → Call
call_of (asked.ReadAll name) = Call.ReadAll name
call_of (asked.Append name bytes) = Call.Append name bytes
call_of (asked.Cut name length) = Call.Cut name length
call_of (asked.Sync name) = Call.Sync name
call_of (asked.Create name) = Call.Create name
call_of (asked.Rename from to) = Call.Rename from to
call_of asked.SyncNames = Call.SyncNames

-- what came of it
abbrev pub outcome_of : Came → Outcome
outcome_of came.Done = Outcome.Done
outcome_of came.Undone = Outcome.FailedUndone
outcome_of (came.Front count) = Outcome.FailedFront count

-- both
abbrev pub made_of : Deed → Made
made_of deed = record { call = call_of deed.asked; outcome = outcome_of deed.came }

-- what a call makes of what the files read as, where it is done
abbrev pub effect : Call → Files → Files
effect (Call.Append name bytes) files = with_appended name bytes files
effect (Call.Cut name length) files = with_cut name length files
effect (Call.Create name) files = with_file name [] files
effect (Call.Rename from to) files = with_moved from to files
effect call files = files

-- and where it came out so
abbrev pub effect_so : Call → Outcome → Files → Files
effect_so call Outcome.Done files = effect call files
effect_so call Outcome.FailedDone files = effect call files
effect_so call (Outcome.FailedFront count) files = effect (front_of count call) files
effect_so call outcome files = files
