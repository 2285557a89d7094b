-- What a crash may leave while calls are made.
use Rattle.std.specs.Prelude.{◌≡◌, ℕ, List, take, Option, Some}
use Rattle.std.specs.List.{AllByRecursion}
use Rattle.std.specs.Option.{option_map}
use Rattle.disk_model.specs.Files.{Files}
use Rattle.disk_model.specs.Disk.{Disk}
use Rattle.disk_model.specs.Images.{Leaves}
use Rattle.disk_model.specs.Past.{Call, Made, Past, after, disk_now, with_calls}
use Rattle.disk_model.specs.Told.{Told, Now}
use Rattle.disk_model.specs.declared.file_name.FileName.{FileName}

-- A crash of this disk may leave this image, where the disk is told.
pub record MayLeave (told : Option Disk) (image : Files) : Type 0 where
  pub disk : Disk
  pub tells : told ≡ Some disk
  pub leaves : Leaves disk image

-- The past went on by these calls.
abbrev pub GoesOnBy : List Made → Told → Told → Type 0
GoesOnBy more old new = new.past ≡ option_map (with_calls more) old.past

-- A crash might have left this image at some moment since, the first and the last among them.
pub record LeftSince (old new : Told) (image : Files) : Type 0 where
  pub past : Past
  pub more : List Made
  pub tells : old.past ≡ Some past
  pub goes_on : GoesOnBy more old new
  pub count : ℕ
  pub leaves : Leaves (after (disk_now past) (take count more)) image

-- Calls were made, any or none, and each image that a crash might have left since has P.
pub record LeavesOnly (old new : Told) (P : Files → Type 0) : Type 0 where
  pub more : List Made
  pub goes_on : GoesOnBy more old new
  pub each : (image : Files) → LeftSince old new image → P image

-- The same in two parts: up to a moment at which the disk has M each image has P, and from it on Q.
pub record LeavesOnlyThen (old new : Told) (P : Files → Type 0) (M : Disk → Type 0)
    (Q : Files → Type 0) : Type 0 where
  pub middle : Told
  pub before : LeavesOnly old middle P
  pub there : Now M middle
  pub since : LeavesOnly middle new Q

-- The same disk at each moment: nothing was asked but reads.
pub record SameDisk (old new : Told) : Type 0 where
  pub more : List Made
  pub goes_on : GoesOnBy more old new
  pub reads : AllByRecursion (λ made. (name : FileName) × (made.call ≡ Call.ReadAll name)) more
