-- What a call adds to what a crash may leave.
use Rattle.std.specs.Prelude.{◌≡◌, ⊤, List, [], ◌∷◌}
use Rattle.disk_model.specs.Files.{Files, file}
use Rattle.disk_model.specs.Disk.{NameChange, Disk, reads}
use Rattle.disk_model.specs.Images.{Leaves}
use Rattle.disk_model.specs.Safe.{IsSettled}
use Rattle.disk_model.specs.declared.file_name.FileName.{FileName}
use Rattle.disk_model.specs.declared.file_name.FileName.TheVariants.{Log, LogTemp, Dump, DumpTemp}

-- An image of the disk in which the file of the name is whole, as it reads, but that this was done
-- to it. Where the name is not settled the file may stand under another name there.
pub record IsChangedImage (name : FileName) (change : FileName → Files → Files) (disk : Disk)
    (image : Files) : Type 0 where
  pub before : Files
  pub leaves : Leaves disk before
  pub under : FileName
  pub at_home : IsSettled name disk → under ≡ name
  pub whole : file under before ≡ file name (reads disk)
  pub changed : image ≡ change under before

-- files were made alone, and none moved
abbrev pub OnlyCreated : List NameChange → Type 0
OnlyCreated [] = ⊤
OnlyCreated (NameChange.Created name number ∷ more) = OnlyCreated more
OnlyCreated (NameChange.Renamed from to ∷ more) = ⊥

-- a file that a rename is to move to its place
abbrev pub IsTemporary : FileName → Type 0
IsTemporary Log = ⊥
IsTemporary LogTemp = ⊤
IsTemporary Dump = ⊥
IsTemporary DumpTemp = ⊤

-- A crash of the disk leaves some files with the same log and the same dump.
pub record LeavesSame (disk : Disk) (image : Files) : Type 0 where
  pub files : Files
  pub leaves : Leaves disk files
  pub log : files.log ≡ image.log
  pub dump : files.dump ≡ image.dump
