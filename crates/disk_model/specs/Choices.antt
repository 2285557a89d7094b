-- The directory that a choice of what a crash kept leaves.
use Rattle.std.specs.Prelude.{ℕ, ◌-◌, max, List, [], ◌∷◌, ◌++◌, length, take, Option}
use Rattle.std.specs.Option.{option_map}
use Rattle.disk_model.specs.Files.{Files}
use Rattle.disk_model.specs.Disk.{Change, Stored, Names, after_renames, Disk, stored}
use Rattle.disk_model.specs.Past.{Past, disk_at}
use Rattle.disk_model.specs.declared.choice.Choice.{Choice}
use Rattle.disk_model.specs.declared.file_name.FileName.{FileName}
use Rattle.disk_model.specs.declared.file_name.FileName.TheVariants.{Log, LogTemp, Dump, DumpTemp}

-- Each byte that is added or cut off is a step: how many steps a change has
abbrev pub steps_of : List ℕ → Change → ℕ
steps_of bytes (Change.Added more) = length more
steps_of bytes (Change.CutTo kept) = length bytes - kept

-- the bytes after this many of its first steps, or all
abbrev pub stepped : ℕ → List ℕ → Change → List ℕ
stepped steps bytes (Change.Added more) = bytes ++ take steps more
stepped steps bytes (Change.CutTo kept) = take (max kept (length bytes - steps)) bytes

-- and after the first steps of several changes, in order
abbrev pub after_steps : ℕ → List ℕ → List Change → List ℕ
after_steps steps bytes [] = bytes
after_steps steps bytes (change ∷ more) =
    after_steps (steps - steps_of bytes change) (stepped steps bytes change) more

-- the bytes of a name, with the first steps of what is unsynced of its file
abbrev pub chosen_file : FileName → ℕ → Names → List Stored → Option (List ℕ)
chosen_file name steps names files =
    option_map (λ file. after_steps steps file.synced file.changes) (stored name names files)

-- what the choice leaves of a disk
abbrev pub chosen_of : Choice → Disk → Files
chosen_of choice disk = let names =
    after_renames disk.names (take choice.names disk.renames) in record {
      log = chosen_file Log choice.log names disk.files;
      log_temp = chosen_file LogTemp choice.log_temp names disk.files;
      dump = chosen_file Dump choice.dump names disk.files;
      dump_temp = chosen_file DumpTemp choice.dump_temp names disk.files;
    }

-- what it leaves at its moment
abbrev pub chosen : Choice → Past → Files
chosen choice past = chosen_of choice (disk_at past choice.since)
