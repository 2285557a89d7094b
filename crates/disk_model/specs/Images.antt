-- What a crash may leave of a disk.
use Rattle.std.specs.Prelude.{◌≡◌, ◌⊎◌, ◌≤◌, ℕ, List, [], ◌∷◌, ◌++◌, take, Option, Some, None}
use Rattle.disk_model.specs.Files.{Files, file}
use Rattle.disk_model.specs.Disk.{Change, changed, Stored, Disk, after_renames, stored}
use Rattle.disk_model.specs.declared.file_name.FileName.{FileName}

-- a change of bytes that a crash found done in part: some of the bytes were added, or some were cut
-- off
abbrev pub Partly : List ℕ → Change → List ℕ → Type 0
Partly bytes (Change.Added more) image = (count : ℕ) × (image ≡ bytes ++ take count more)
Partly bytes (Change.CutTo length) image = (count : ℕ) × (length ≤ count)
    × (image ≡ take count bytes)

-- Of a file with these synced bytes and these changes since, a crash leaves what some changes made
-- of it, this many of the first, and a part of the next.
abbrev pub LeavesBytes : List ℕ → List Change → List ℕ → Type 0
LeavesBytes bytes [] image = image ≡ bytes
LeavesBytes bytes (change ∷ more) image = Partly bytes change image
    ⊎ LeavesBytes (changed bytes change) more image

-- the same where a file may be there
abbrev pub LeavesFile : Option Stored → Option (List ℕ) → Type 0
LeavesFile None image = image ≡ None
LeavesFile (Some stored) image = (bytes : List ℕ) × (image ≡ Some bytes)
    × LeavesBytes stored.synced stored.changes bytes

-- A crash leaves the names after this many of the first changes of them, and of each file what it
-- leaves of that.
pub record Leaves (disk : Disk) (image : Files) : Type 0 where
  pub kept : ℕ
  pub each : (name : FileName)
      → LeavesFile (stored name (after_renames disk.names (take kept disk.renames)) disk.files)
      (file name image)
