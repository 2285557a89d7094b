-- A disk: which file each name stands for, what is synced of each file, and what has changed since.
use Rattle.std.specs.Prelude.{ℕ, zero, suc, List, [], ◌∷◌, ◌++◌, length, take, slice_get, Option, Some, None}
use Rattle.std.specs.Option.{option_map, option_and_then}
use Rattle.disk_model.specs.Files.{Files}
use Rattle.disk_model.specs.declared.file_name.FileName.{FileName}
use Rattle.disk_model.specs.declared.file_name.FileName.TheVariants.{Log, LogTemp, Dump, DumpTemp}

-- a change of a file's bytes: some were added at its end, or only this many of them were kept
pub data Change : Type 0 where
  Added : (bytes : List ℕ) → Change
  CutTo : (length : ℕ) → Change

-- the bytes after a change
abbrev pub changed : List ℕ → Change → List ℕ
changed bytes (Change.Added more) = bytes ++ more
changed bytes (Change.CutTo length) = take length bytes

-- and after several, in order
abbrev pub after_changes : List ℕ → List Change → List ℕ
after_changes bytes [] = bytes
after_changes bytes (change ∷ more) = after_changes (changed bytes change) more

-- a file: its synced bytes, and the changes since
pub record Stored : Type 0 where
  pub synced : List ℕ
  pub changes : List Change

-- the bytes that a read of it gives
abbrev pub bytes_now : Stored → List ℕ
bytes_now stored = after_changes stored.synced stored.changes

-- a file whose bytes are all synced
abbrev pub settled : List ℕ → Stored
settled bytes = record { synced = bytes; changes = [] }

-- the number of the file that each name stands for, where it stands for one
pub record Names : Type 0 where
  pub log : Option ℕ
  pub log_temp : Option ℕ
  pub dump : Option ℕ
  pub dump_temp : Option ℕ

abbrev pub number_of : FileName → Names → Option ℕ
number_of Log names = names.log
number_of LogTemp names = names.log_temp
number_of Dump names = names.dump
number_of DumpTemp names = names.dump_temp

abbrev pub with_number : FileName → Option ℕ → Names → Names
with_number Log number names = record names { log = number }
with_number LogTemp number names = record names { log_temp = number }
with_number Dump number names = record names { dump = number }
with_number DumpTemp number names = record names { dump_temp = number }

-- a change of the names: a name stands for another file, or a file moved from one name to another
pub data NameChange : Type 0 where
  Created : (name : FileName) (number : ℕ) → NameChange
  Renamed : (from to : FileName) → NameChange

-- the names after a change. What the other name stood for is gone.
abbrev pub renamed : Names → NameChange → Names
renamed names (NameChange.Created name number) = with_number name (Some number) names
renamed names (NameChange.Renamed from to) =
    with_number to (number_of from names) (with_number from None names)

abbrev pub after_renames : Names → List NameChange → Names
after_renames names [] = names
after_renames names (change ∷ more) = after_renames (renamed names change) more

-- A disk: the synced names, the changes of names since, and every file that was ever made, by its
-- number.
pub record Disk : Type 0 where
  pub names : Names
  pub renames : List NameChange
  pub files : List Stored

-- the names as they are
abbrev pub names_now : Disk → Names
names_now disk = after_renames disk.names disk.renames

-- the file of a name
abbrev pub stored : FileName → Names → List Stored → Option Stored
stored name names files = option_and_then (λ number. slice_get files number) (number_of name names)

-- what a read of each name gives
abbrev pub reads : Disk → Files
reads disk = record {
  log = option_map bytes_now (stored Log (names_now disk) disk.files);
  log_temp = option_map bytes_now (stored LogTemp (names_now disk) disk.files);
  dump = option_map bytes_now (stored Dump (names_now disk) disk.files);
  dump_temp = option_map bytes_now (stored DumpTemp (names_now disk) disk.files);
}

-- a file with one more change
abbrev pub with_change : Change → Stored → Stored
with_change change stored = record stored { changes = stored.changes ++ change ∷ [] }

-- a file whose bytes are made safe
abbrev pub made_safe : Stored → Stored
made_safe stored = settled (bytes_now stored)

-- the files, but for the one of this number, which is changed so
abbrev pub with_stored : (Stored → Stored) → ℕ → List Stored → List Stored
with_stored change number [] = []
with_stored change zero (stored ∷ more) = change stored ∷ more
with_stored change (suc number) (stored ∷ more) = stored ∷ with_stored change number more

abbrev pub with_changed : (Stored → Stored) → Option ℕ → List Stored → List Stored
with_changed change None files = files
with_changed change (Some number) files = with_stored change number files

-- the same disk, but for the file of a name
abbrev pub on_file : FileName → (Stored → Stored) → Disk → Disk
on_file name change disk =
    record disk { files = with_changed change (number_of name (names_now disk)) disk.files }

-- What a call does: bytes come to the end of a file
abbrev pub appended : FileName → List ℕ → Disk → Disk
appended name bytes disk = on_file name (with_change (Change.Added bytes)) disk

-- a file is cut to this many of its first bytes
abbrev pub cut_to : FileName → ℕ → Disk → Disk
cut_to name length disk = on_file name (with_change (Change.CutTo length)) disk

-- a file's bytes are made safe
abbrev pub synced : FileName → Disk → Disk
synced name disk = on_file name made_safe disk

-- a name stands for a new and empty file
abbrev pub created : FileName → Disk → Disk
created name disk = record disk {
  renames =
      disk.renames ++ NameChange.Created name (length disk.files) ∷ [];
  files =
      disk.files ++ settled [] ∷ [];
}

-- a file moves to another name
abbrev pub moved : FileName → FileName → Disk → Disk
moved from to disk = record disk { renames = disk.renames ++ NameChange.Renamed from to ∷ [] }

-- the names are made safe
abbrev pub names_synced : Disk → Disk
names_synced disk = record disk { names = names_now disk; renames = [] }

-- the number of a file, where it is there
abbrev pub if_there : Option (List ℕ) → ℕ → Option ℕ
if_there None number = None
if_there (Some bytes) number = Some number

-- a file of these bytes, or of none
abbrev pub settled_or_empty : Option (List ℕ) → Stored
settled_or_empty None = settled []
settled_or_empty (Some bytes) = settled bytes

-- the disk that has these files, all of it synced
abbrev pub settled_disk : Files → Disk
settled_disk files = record {
  names = record {
    log = if_there files.log 0;
    log_temp = if_there files.log_temp 1;
    dump = if_there files.dump 2;
    dump_temp = if_there files.dump_temp 3;
  };
  renames = [];
  files = settled_or_empty files.log ∷ settled_or_empty files.log_temp
      ∷ settled_or_empty files.dump ∷ settled_or_empty files.dump_temp ∷ [];
}
