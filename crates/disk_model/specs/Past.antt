-- What was done on a directory: the files at first, the calls since, and the disk that follows.
use Rattle.std.specs.Prelude.{⊤, ℕ, List, [], ◌∷◌, ◌++◌, take}
use Rattle.disk_model.specs.Files.{Files}
use Rattle.disk_model.specs.Disk.{Disk, reads, settled_disk, appended, cut_to, synced, created, moved, names_synced}
use Rattle.disk_model.specs.declared.file_name.FileName.{FileName}

-- a call, as it was asked for
pub data Call : Type 0 where
  ReadAll : (name : FileName) → Call
  Append : (name : FileName) (bytes : List ℕ) → Call
  Cut : (name : FileName) (length : ℕ) → Call
  Sync : (name : FileName) → Call
  Create : (name : FileName) → Call
  Rename : (from to : FileName) → Call
  SyncNames : Call

-- How a call came out. It answered Ok and was done. Or it failed, and was done all the same, or not
-- done, or of an append this many of the first bytes came, or it found no memory to be recorded and
-- was not done.
pub data Outcome : Type 0 where
  Done : Outcome
  FailedDone : Outcome
  FailedUndone : Outcome
  FailedFront : (count : ℕ) → Outcome
  Unrecorded : Outcome

-- in which ways a call may fail
abbrev pub MayFail : Call → Outcome → Type 0
MayFail call Outcome.Done = ⊥
MayFail call Outcome.FailedUndone = ⊤
MayFail call Outcome.Unrecorded = ⊤
MayFail (Call.Append name bytes) (Outcome.FailedFront count) = ⊤
MayFail (Call.Cut name length) Outcome.FailedDone = ⊤
MayFail (Call.Create name) Outcome.FailedDone = ⊤
MayFail (Call.Rename from to) Outcome.FailedDone = ⊤
MayFail call outcome = ⊥

-- what a call makes of a disk where it is done
abbrev pub done : Call → Disk → Disk
done (Call.ReadAll name) disk = disk
done (Call.Append name bytes) disk = appended name bytes disk
done (Call.Cut name length) disk = cut_to name length disk
done (Call.Sync name) disk = synced name disk
done (Call.Create name) disk = created name disk
done (Call.Rename from to) disk = moved from to disk
done Call.SyncNames disk = names_synced disk

-- the append of this many of the first bytes alone
abbrev pub front_of : ℕ → Call → Call
front_of count (Call.Append name bytes) = Call.Append name (take count bytes)
front_of count call = call

-- a call that was made, and how it came out
pub record Made : Type 0 where
  pub call : Call
  pub outcome : Outcome

-- the disk that it left
abbrev pub left_by : Call → Outcome → Disk → Disk
left_by call Outcome.Done disk = done call disk
left_by call Outcome.FailedDone disk = done call disk
left_by call (Outcome.FailedFront count) disk = done (front_of count call) disk
left_by call outcome disk = disk

-- the disk after several calls, in order
abbrev pub after : Disk → List Made → Disk
after disk [] = disk
after disk (one ∷ more) = after (left_by one.call one.outcome disk) more

-- the files at first, all of them synced, and the calls since
pub record Past : Type 0 where
  pub began : Files
  pub made : List Made

-- The moments are numbered: 0 is the one before the first call, and n the one after call n. The
-- disk at a moment, or the last one:
unfoldable pub disk_at : Past → ℕ → Disk
disk_at past n = after (settled_disk past.began) (take n past.made)

unfoldable pub disk_now : Past → Disk
disk_now past = after (settled_disk past.began) past.made

-- what reading each file gives
unfoldable pub files_now : Past → Files
files_now past = reads (disk_now past)

-- the past, and further calls
abbrev pub with_calls : List Made → Past → Past
with_calls more past = record past { made = past.made ++ more }

-- the past, and one more call that came out so, where it was recorded
abbrev pub with_call : Call → Outcome → Past → Past
with_call call Outcome.Unrecorded past = past
with_call call outcome past = with_calls ((record { call = call; outcome = outcome }) ∷ []) past
