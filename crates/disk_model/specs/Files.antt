-- What a directory reads as, and how a call changes it.
use Rattle.std.specs.Prelude.{◌≡◌, ◌<◌, ◌≤◌, ◌^◌, ℕ, List, ◌++◌, ⊤, length, take, Option, Some, None, IsSome}
use Rattle.std.specs.Option.{option_map}
use Rattle.disk_model.specs.declared.file_name.FileName.{FileName}
use Rattle.disk_model.specs.declared.file_name.FileName.TheVariants.{Log, LogTemp, Dump, DumpTemp}

-- the bytes of each of the four files, where it is there
pub record Files : Type 0 where
  pub log : Option (List ℕ)
  pub log_temp : Option (List ℕ)
  pub dump : Option (List ℕ)
  pub dump_temp : Option (List ℕ)

-- no file is there
abbrev pub no_files : Files
no_files = record { log = None; log_temp = None; dump = None; dump_temp = None }

-- what a read of the name gives
abbrev pub file : FileName → Files → Option (List ℕ)
file Log files = files.log
file LogTemp files = files.log_temp
file Dump files = files.dump
file DumpTemp files = files.dump_temp

-- the same files, but for one, which has these bytes or is gone
abbrev pub put : FileName → Option (List ℕ) → Files → Files
put Log bytes files = record files { log = bytes }
put LogTemp bytes files = record files { log_temp = bytes }
put Dump bytes files = record files { dump = bytes }
put DumpTemp bytes files = record files { dump_temp = bytes }

-- the same files, but for one that has these bytes
abbrev pub with_file : FileName → List ℕ → Files → Files
with_file name bytes files = put name (Some bytes) files

-- the same files, but for one that has these bytes at its end
abbrev pub with_appended : FileName → List ℕ → Files → Files
with_appended name bytes files = put name (option_map (λ old. old ++ bytes) (file name files)) files

-- the same files, but for one that has only this many of its first bytes
abbrev pub with_cut : FileName → ℕ → Files → Files
with_cut name length files = put name (option_map (take length) (file name files)) files

-- the same files, but for one that moved to another name. What that had is gone.
abbrev pub with_moved : FileName → FileName → Files → Files
with_moved from to files = put to (file from files) (put from None files)

-- The files became this. A directory that tells its files goes on telling them, and one that
-- doesn't goes on telling nothing.
abbrev pub Become : (Files → Files) → Option Files → Option Files → Type 0
Become change old new = new ≡ option_map change old

-- they stayed as they were
abbrev pub Stay : Option Files → Option Files → Type 0
Stay old new = new ≡ old

-- the file is there, where the directory tells
abbrev pub IsThere : FileName → Option Files → Type 0
IsThere name None = ⊤
IsThere name (Some files) = IsSome (file name files)

-- a file that is there and has at least this many bytes
abbrev pub HasAtLeast : ℕ → Option (List ℕ) → Type 0
HasAtLeast n None = ⊥
HasAtLeast n (Some bytes) = n ≤ length bytes

-- the file is there and has at least this many bytes, where the directory tells
abbrev pub IsAtLeast : ℕ → FileName → Option Files → Type 0
IsAtLeast n name None = ⊤
IsAtLeast n name (Some files) = HasAtLeast n (file name files)

-- a file that is there has fewer than 2^64 bytes
abbrev pub HasFew : Option (List ℕ) → Type 0
HasFew None = ⊤
HasFew (Some bytes) = length bytes < 2 ^ 64

-- the same, where the directory tells
abbrev pub IsSmall : FileName → Option Files → Type 0
IsSmall name None = ⊤
IsSmall name (Some files) = HasFew (file name files)
