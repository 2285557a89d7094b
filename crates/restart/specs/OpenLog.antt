-- What opening a log finds and leaves.
use Rattle.std.specs.Prelude.{◌≡◌, ◌⊎◌, ◌≤◌, ⊤, false, length, Option, None, IfSome}
use Rattle.core_types.specs.Keys.{Keys}
use Rattle.core_types.specs.declared.stop.Stop.TheVariants as stop
use Rattle.disk_model.specs.declared.file_name.FileName.TheVariants.{Log}
use Rattle.disk_model.specs.declared.dir.ReadAllStop.{ReadAllStop}
use Rattle.disk_model.specs.declared.dir.ReadAllStop.TheVariants as reads
use Rattle.disk_model.specs.Files.{Files, with_file, Become, Stay}
use Rattle.disk_model.specs.Told.{Told, Now, files_told, disk_told}
use Rattle.disk_model.specs.Runs.{MayLeave, SameDisk}
use Rattle.disk_model.specs.Safe.{IsSafe}
use Rattle.effect_log.specs.Replay.{Holds, Meaning}
use Rattle.restart.specs.Restart.{Opening, Opens, Restarts, IsRefusedLog, HasDumpAlone}
use Rattle.restart.specs.declared.opening.Opened.{Opened}
use Rattle.restart.specs.declared.opening.OpenStop.{OpenStop}
use Rattle.restart.specs.declared.opening.OpenStop.TheVariants as stops

-- the lengths that were found
pub record AreLengths (files : Option Files) (opened : Opened) (opening : Opening) : Type 0 where
  pub kept : opened.kept ≡ length opening.log
  pub within : opened.kept ≤ opened.length
  pub length_is : IfSome files (λ known. IfSome known.log (λ bytes. opened.length ≡ length bytes))
  pub new : IfSome files (λ known. known.log ≡ None → opened.length ≡ 0)

-- The files stand for these keys, and this was found of them.
pub record Finds (replay : Meaning) (files : Option Files) (keys : Keys) (opened : Opened)
    : Type 0 where
  pub opening : Opening
  pub opens : IfSome files (λ known. Opens replay known opening)
  pub keys_are : opening.keys ≡ keys
  pub lengths : AreLengths files opened opening
  pub imported : opened.imported ≡ false

-- The log is opened: the directory stood for these keys, the log has its bytes without a torn unit,
-- which stand for the keys, told or not, and no other file changed. The log is safe, and whatever a
-- crash now leaves restarts to the keys.
pub record HasOpened (replay : Meaning) (old new : Told) (keys : Keys) (opened : Opened)
    : Type 0 where
  pub finds : Finds replay (files_told old) keys opened
  pub stands : Holds replay finds.opening.log keys (length finds.opening.log)
  pub log : Become (with_file Log finds.opening.log) (files_told old) (files_told new)
  pub safe : Now (IsSafe Log finds.opening.log) new
  pub images : (image : Files) → MayLeave (disk_told new) image → Restarts replay image keys

-- What stands in files that are not opened, by why they are not.
abbrev pub IsUnopened : Meaning → OpenStop → Option Files → Type 0
IsUnopened replay (stops.LogRefused file at why) files =
    (file ≡ Log) × IfSome files (λ known. IsRefusedLog replay known why at)
IsUnopened replay stops.NotBuilt files = IfSome files HasDumpAlone
IsUnopened replay stops.Dir files = ⊤
IsUnopened replay (stops.Stopped why) files = ⊤

-- The log is as an opened one: the files stood for the opening's keys, and the log has its bytes.
pub record IsOpen (replay : Meaning) (old new : Option Files) (opening : Opening) : Type 0 where
  pub opens : IfSome old (λ known. Opens replay known opening)
  pub log : Become (with_file Log opening.log) old new

-- The files are as they were, or the log is as an opened one.
abbrev pub IsPartlyOpen : Meaning → Option Files → Option Files → Type 0
IsPartlyOpen replay old new = Stay old new ⊎ ((opening : Opening) × IsOpen replay old new opening)

-- Why a log was not opened, and how that left the directory.
abbrev pub OpenStops : Meaning → OpenStop → Told → Told → Type 0
OpenStops replay (stops.LogRefused file at why) old new =
    IsUnopened replay (stops.LogRefused file at why) (files_told old) × SameDisk old new
OpenStops replay stops.NotBuilt old new =
    IsUnopened replay stops.NotBuilt (files_told old) × SameDisk old new
OpenStops replay stops.Dir old new = IsPartlyOpen replay (files_told old) (files_told new)
OpenStops replay (stops.Stopped why) old new = SameDisk old new

-- Which stop of opening a stop of reading leads to.
abbrev pub stop_of_read : ReadAllStop → OpenStop
stop_of_read reads.Dir = stops.Dir
stop_of_read reads.Memory = stops.Stopped stop.Memory
