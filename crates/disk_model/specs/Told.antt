-- What a directory tells.
use Rattle.std.specs.Prelude.{◌≡◌, ℕ, Option}
use Rattle.std.specs.Option.{option_map, IfSome}
use Rattle.disk_model.specs.Files.{Files}
use Rattle.disk_model.specs.Disk.{Disk}
use Rattle.disk_model.specs.Past.{Call, Outcome, MayFail, Past, disk_now, files_now, with_call}

-- what was done on it, where it tells that, and how often it has failed
pub record Told : Type 0 where
  pub past : Option Past
  pub faults : ℕ

-- what reading each file gives, where it tells
abbrev pub files_told : Told → Option Files
files_told told = option_map files_now told.past

-- the disk as it is now, where it tells
abbrev pub disk_told : Told → Option Disk
disk_told told = option_map disk_now told.past

-- The disk as it is now has P, where it is told.
abbrev pub Now : (Disk → Type 0) → Told → Type 0
Now P told = IfSome (disk_told told) P

-- A call was made and came out so. A directory that tells its past goes on telling it, and one that
-- doesn't goes on telling nothing.
abbrev pub Goes : Call → Outcome → Told → Told → Type 0
Goes call outcome old new = new.past ≡ option_map (with_call call outcome) old.past

-- A call failed, in one of the ways in which it may.
pub record Fails (call : Call) (old new : Told) : Type 0 where
  pub outcome : Outcome
  pub may : MayFail call outcome
  pub goes : Goes call outcome old new

-- A call was made, whatever came of it.
pub record Was (call : Call) (old new : Told) : Type 0 where
  pub outcome : Outcome
  pub goes : Goes call outcome old new
