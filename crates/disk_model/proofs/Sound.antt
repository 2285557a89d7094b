-- A disk on which no file has two names, now and after fewer changes of names.
use Rattle.std.specs.Prelude.{◌≡◌, ◌<◌, ◌≤◌, ℕ, suc, List, [], ◌∷◌, length, Some}
use Rattle.disk_model.specs.Disk.{Names, NameChange, number_of, Disk}
use Rattle.disk_model.specs.declared.file_name.FileName.{FileName}

-- no two names stand for one file
abbrev pub AreDistinct : Names → Type 0
AreDistinct names = (a b : FileName) (number : ℕ) → number_of a names ≡ Some number → number_of b names ≡ Some number → a ≡ b

-- each number of a name is below the bound
abbrev pub AreBelow : ℕ → Names → Type 0
AreBelow bound names = (name : FileName) (number : ℕ) → number_of name names ≡ Some number → number < bound

-- The files that the changes made have numbers from the bound on, each above those before it, and
-- below the end.
abbrev pub AreFresh : ℕ → List NameChange → ℕ → Type 0
AreFresh bound [] end = bound ≤ end
AreFresh bound (NameChange.Created name number ∷ more) end = (bound ≤ number) × AreFresh (suc number) more end
AreFresh bound (NameChange.Renamed from to ∷ more) end = AreFresh bound more end

-- The synced names stand for files, each for another, and each file that was made since has a
-- number of its own.
pub record IsSound (disk : Disk) : Type 0 where
  pub bound : ℕ
  pub distinct : AreDistinct disk.names
  pub below : AreBelow bound disk.names
  pub fresh : AreFresh bound disk.renames (length disk.files)
