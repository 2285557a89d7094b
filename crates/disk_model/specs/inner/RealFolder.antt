-- What is known of a folder of the file system: whether it is locked, and of its names and of each
-- of its four files what is owed.
use Rattle.std.specs.Prelude.{◌≡◌, ◌⊎◌, ◌==◌, if◌then◌else◌, ℕ, List, length, codes, Bool, true, false}
use Rattle.std.specs.Path.{path_join}
use Rattle.disk_model.specs.FileName.{text}
use Rattle.disk_model.specs.declared.file_name.FileName.{FileName}
use Rattle.disk_model.specs.declared.file_name.FileName.TheVariants.{Log, LogTemp, Dump, DumpTemp}
use Rattle.disk_model.specs.declared.real.synced.Synced.{Synced}
use Rattle.disk_model.specs.declared.real.synced.Synced.TheVariants.{No}
use Rattle.disk_model.specs.inner.Synced.{after_change, either_of}

-- a file: its path, whether a handle of it is open, and whether its bytes are on the disk
pub record RealFile : Type 0 where
  pub path : List ℕ
  pub is_open : Bool
  pub bytes : Synced

-- the four files
pub record RealFiles : Type 0 where
  pub log : RealFile
  pub log_temp : RealFile
  pub dump : RealFile
  pub dump_temp : RealFile

-- a folder: whether this process has locked it, whether its names are on the disk, and its files
pub record RealFolder : Type 0 where
  pub is_locked : Bool
  pub names : Synced
  pub files : RealFiles

-- a file that was not opened yet, and whose bytes an earlier run may have left unsynced
abbrev pub unopened : List ℕ → RealFile
unopened path = record { path = path; is_open = false; bytes = No }

-- a file of a folder that was not opened yet
abbrev pub unopened_in : List ℕ → FileName → RealFile
unopened_in folder name = unopened (path_join folder (text name))

-- the files of a folder, of which none was opened yet
abbrev pub all_unopened : List ℕ → RealFiles
all_unopened folder =
    record {
      log = unopened_in folder Log;
      log_temp = unopened_in folder LogTemp;
      dump =
          unopened_in folder Dump;
      dump_temp = unopened_in folder DumpTemp;
    }

-- the file without a handle, with bytes of which this is known
abbrev pub closed : Synced → RealFile → RealFile
closed bytes file = record file { is_open = false; bytes = bytes }

-- the file with its handle, or without, after a change of its bytes
abbrev pub changed : Bool → RealFile → RealFile
changed is_open file = record file { is_open = is_open; bytes = after_change file.bytes }

-- the file with its handle, or without, after a sync of which this is known
abbrev pub synced : Bool → Synced → RealFile → RealFile
synced is_open bytes file = record file { is_open = is_open; bytes = bytes }

-- the file of a name
abbrev pub named : FileName → RealFiles → RealFile
named Log files = files.log
named LogTemp files = files.log_temp
named Dump files = files.dump
named DumpTemp files = files.dump_temp

-- the same files, but for that of a name
abbrev pub put : FileName → RealFile → RealFiles → RealFiles
put Log file files = record files { log = file }
put LogTemp file files = record files { log_temp = file }
put Dump file files = record files { dump = file }
put DumpTemp file files = record files { dump_temp = file }

-- After a file moved to another name. That has its bytes, and the old name nothing that counts as
-- synced. The handles are closed: each is of a file that has its name no more.
abbrev pub moved : FileName → FileName → RealFiles → RealFiles
moved from to files =
    let left = put from (closed No (named from files)) files in
    put to (closed (named from files).bytes (named to left)) left

-- After a move that failed, which has happened or not. A failed sync of one of the two is not made
-- good.
abbrev pub maybe_moved : FileName → FileName → RealFiles → RealFiles
maybe_moved from to files =
    let left = put from (closed (after_change (named from files).bytes) (named from files)) files in
    put to (closed (either_of (named to left).bytes (named from files).bytes) (named to left)) left

-- a folder of which nothing was asked yet
abbrev pub unlocked : List ℕ → RealFolder
unlocked path = record { is_locked = false; names = No; files = all_unopened path }

-- the path, where the empty one is the folder that the program runs in
abbrev pub or_here : List ℕ → List ℕ
or_here path = if length path == 0 then codes "." else path

-- the folder, locked
abbrev pub locked : RealFolder → RealFolder
locked folder = record folder { is_locked = true }

-- the file of a name in the folder
abbrev pub file : FileName → RealFolder → RealFile
file name folder = named name folder.files

-- the locked folder after this change of what is known of one file
abbrev pub after : FileName → (RealFile → RealFile) → RealFolder → RealFolder
after name change folder =
    record folder { is_locked = true; files = put name (change (file name folder)) folder.files }

-- the locked folder with these files, after a change of its names
abbrev pub after_names : RealFiles → RealFolder → RealFolder
after_names files folder =
    record folder { is_locked = true; names = after_change folder.names; files = files }

-- the locked folder, with names of which this is known
abbrev pub with_names : Synced → RealFolder → RealFolder
with_names names folder = record folder { is_locked = true; names = names }

-- a call that could not lock the folder has touched nothing
pub record Untouched (old new : RealFolder) : Type 0 where
  pub unlocked : old.is_locked ≡ false
  pub same : new ≡ old

-- a failed call could not lock the folder, or left it so
abbrev pub FailsAt : RealFolder → RealFolder → RealFolder → Type 0
FailsAt left old new = Untouched old new ⊎ (new ≡ left)
