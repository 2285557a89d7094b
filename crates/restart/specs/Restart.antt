-- What a directory restarts to, whatever replaying an effect means.
use Rattle.std.specs.Prelude.{◌≡◌, ◌↔◌, ℕ, List, [], take, Option, Some, None, IsSome}
use Rattle.core_types.specs.Keys.{Keys, no_keys}
use Rattle.disk_model.specs.Disk.{Disk}
use Rattle.disk_model.specs.Files.{Files}
use Rattle.disk_model.specs.Runs.{MayLeave}
use Rattle.effect_log.specs.declared.reason.Reason.{Reason}
use Rattle.effect_log.specs.Replay.{Meaning, Holds, IsRefused}

-- a log that was opened: the keys that it stands for, and its bytes without a torn unit
pub record Opening : Type 0 where
  pub keys : Keys
  pub log : List ℕ

-- what a log and a dump are opened as. Without both there are no keys, and a new log. A dump alone
-- is not opened yet.
abbrev pub OpensAs : Meaning → Option (List ℕ) → Option (List ℕ) → Opening → Type 0
OpensAs replay (Some bytes) dump opening =
    (kept : ℕ) × Holds replay bytes opening.keys kept × (opening.log ≡ take kept bytes)
OpensAs replay None None opening = (opening.keys ≡ no_keys) × (opening.log ≡ [])
OpensAs replay None (Some dump) opening = ⊥

abbrev pub Opens : Meaning → Files → Opening → Type 0
Opens replay files opening = OpensAs replay files.log files.dump opening

-- The keys that the files stand for.
pub record Restarts (replay : Meaning) (files : Files) (keys : Keys) : Type 0 where
  pub opening : Opening
  pub opens : Opens replay files opening
  pub same : opening.keys ≡ keys

-- the log is refused: why, and where
pub record IsRefusedLog (replay : Meaning) (files : Files) (why : Reason) (at : ℕ) : Type 0 where
  pub bytes : List ℕ
  pub there : files.log ≡ Some bytes
  pub refused : IsRefused replay bytes why at

-- there is no log, and a dump is there
pub record HasDumpAlone (files : Files) : Type 0 where
  pub no_log : files.log ≡ None
  pub dump : IsSome files.dump

-- Both restart to the same keys, or neither does.
abbrev pub RestartsSame : Meaning → Files → Files → Type 0
RestartsSame replay files others =
    (keys : Keys) → Restarts replay files keys ↔ Restarts replay others keys

-- The files restart as some do that a crash of this disk may leave. The files that the disk reads
-- as are among these.
pub record RestartsAsLeft (replay : Meaning) (disk : Option Disk) (files : Files) : Type 0 where
  pub left : Files
  pub may : MayLeave disk left
  pub same : RestartsSame replay files left
