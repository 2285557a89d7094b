-- When a crash leaves a name what it has.
use Rattle.std.specs.Prelude.{◌≡◌, ◌⊎◌, ℕ, List, [], ◌∷◌, ◌++◌, take, map, Some}
use Rattle.std.specs.List.{AllByRecursion, concat}
use Rattle.disk_model.specs.Files.{Files, file}
use Rattle.disk_model.specs.Disk.{Change, NameChange, settled, Disk, names_now, stored}
use Rattle.disk_model.specs.Past.{Call}
use Rattle.disk_model.specs.declared.file_name.FileName.{FileName}

-- the change of names touches the name
abbrev pub Touches : FileName → NameChange → Type 0
Touches name (NameChange.Created made number) = made ≡ name
Touches name (NameChange.Renamed from to) = (from ≡ name) ⊎ (to ≡ name)

-- No unsynced change of names touches the name.
abbrev pub IsSettled : FileName → Disk → Type 0
IsSettled name disk = AllByRecursion (λ change. ¬ Touches name change) disk.renames

-- The name stands for a file of these bytes, and all of them are synced.
abbrev pub IsSynced : FileName → List ℕ → Disk → Type 0
IsSynced name bytes disk = stored name (names_now disk) disk.files ≡ Some (settled bytes)

-- A name is safe: it is settled, and the bytes of its file are synced.
pub record IsSafe (name : FileName) (bytes : List ℕ) (disk : Disk) : Type 0 where
  pub settled : IsSettled name disk
  pub synced : IsSynced name bytes disk

-- A name is safe up to what was added: it is settled, these bytes of its file are synced, those
-- came since, in pieces, and none was cut off.
pub record IsSafeUpTo (name : FileName) (bytes added : List ℕ) (disk : Disk) : Type 0 where
  pub settled : IsSettled name disk
  pub pieces : List (List ℕ)
  pub joined : concat pieces ≡ added
  pub file : stored name (names_now disk) disk.files
      ≡ Some (record { synced = bytes; changes = map Change.Added pieces })

-- In the image the name has these bytes and this many of the first of the others.
abbrev pub HasFront : FileName → (bytes added : List ℕ) → Files → Type 0
HasFront name bytes added image = (count : ℕ) × (file name image ≡ Some (bytes ++ take count added))

-- the names that a call is about
abbrev pub names_of : Call → List FileName
names_of (Call.Append name bytes) = name ∷ []
names_of (Call.Cut name length) = name ∷ []
names_of (Call.Sync name) = name ∷ []
names_of (Call.Create name) = name ∷ []
names_of (Call.Rename from to) = from ∷ to ∷ []
names_of call = []

-- The call is about other names.
abbrev pub IsElsewhere : FileName → Call → Type 0
IsElsewhere name call = AllByRecursion (λ other. ¬ (other ≡ name)) (names_of call)
