-- What a directory in memory tells, for the clauses of `append` and `read_all`.
use Rattle.std.proofs.Common.{◌≡◌, ℕ, List, Result, Ok, Err, OnOk, OnErr, Option, sym, subst}
use Rattle.std.specs.Option.{IfSome}
use Rattle.disk_model.specs.Files.{Files, file, IsSmall, HasFew, Stay}
use Rattle.disk_model.specs.Past.{Past, files_now}
use Rattle.disk_model.specs.Memory.{Memory, telling}
use Rattle.disk_model.specs.Told.{files_told}
use Rattle.disk_model.specs.declared.file_name.FileName.{FileName}

small_told : (dir : Memory) (name : FileName) → HasFew (file name (files_now dir.past)) → IsSmall name (files_told (telling dir))
small_told dir name few = few

pub small_ok : {T E : Type 0} (result : Result T E) (dir : Memory) (name : FileName) → HasFew (file name (files_now dir.past)) → OnOk result (IsSmall name (files_told (telling dir)))
small_ok (Ok x) dir name few = small_told dir name few
small_ok (Err e) dir name few = tt

pub small_err : {T E : Type 0} (result : Result T E) (old dir : Memory) (name : FileName) → HasFew (file name (files_now dir.past))
    → OnErr result (IsSmall name (files_told (telling old)) → IsSmall name (files_told (telling dir)))
small_err (Ok x) old dir name few = tt
small_err (Err e) old dir name few = λ was. small_told dir name few

pub small_kept : (old new : Memory) (name : FileName) → new.past ≡ old.past → IsSmall name (files_told (telling old)) → IsSmall name (files_told (telling new))
small_kept old new name same few =
    let P : Past → Type 0 = λ past. HasFew (file name (files_now past)) in
    subst P (sym same) few

told_as : (dir : Memory) (name : FileName) (found : Option (List ℕ)) → found ≡ file name (files_now dir.past) → IfSome (files_told (telling dir)) (λ files. found ≡ file name files)
told_as dir name found is = is

-- what was found in the files as they are stands in them as they were
pub found_before : (old new : Memory) (name : FileName) (found : Option (List ℕ)) → Stay (files_told (telling old)) (files_told (telling new)) → found ≡ file name (files_now new.past)
    → IfSome (files_told (telling old)) (λ files. found ≡ file name files)
found_before old new name found same is =
    let P : Option Files → Type 0 = λ told. IfSome told (λ files. found ≡ file name files) in
    let now : P (files_told (telling new)) = told_as new name found is in
    subst P same now
