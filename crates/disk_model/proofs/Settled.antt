-- A settled name stands for one file, whatever a crash keeps.
use Rattle.std.proofs.Common.{◌≡◌, ◌++◌, ℕ, zero, suc, List, [], ◌∷◌, take, Option, Some, None, refl, sym, ◌∙◌, ap, subst, inl, inr}
use Rattle.std.specs.List.{slice_get, AllByRecursion}
use Rattle.std.specs.Option.{option_map, option_and_then}
use Rattle.disk_model.specs.Files.{Files, file}
use Rattle.disk_model.specs.Disk.{Stored, bytes_now, Names, NameChange, number_of, with_number, renamed, after_renames, Disk, names_now, stored, reads, made_safe, synced}
use Rattle.disk_model.specs.Images.{LeavesFile, Leaves}
use Rattle.disk_model.specs.Safe.{Touches, IsSettled}
use Rattle.disk_model.proofs.NameLaws.{number_elsewhere}
use Rattle.disk_model.proofs.DiskLaws.{read_at, changed_there, number_unmoved}
use Rattle.disk_model.specs.declared.file_name.FileName.{FileName}

pub all_take : {X : Type 0} (P : X → Type 0) (k : ℕ) (xs : List X) → AllByRecursion P xs → AllByRecursion P (take k xs)
all_take P zero xs all = tt
all_take P (suc k) [] all = tt
all_take P (suc k) (x ∷ xs) all = (all.0, all_take P k xs all.1)

pub all_more : {X : Type 0} (P : X → Type 0) (xs : List X) (x : X) → AllByRecursion P xs → P x → AllByRecursion P (xs ++ x ∷ [])
all_more P [] x all one = (one, tt)
all_more P (first ∷ xs) x all one = (all.0, all_more P xs x all.1 one)

-- changes that do not touch a name leave what it stands for
untouched : (name : FileName) (names : Names) (renames : List NameChange) → AllByRecursion (λ change. ¬ Touches name change) renames
    → number_of name (after_renames names renames) ≡ number_of name names
untouched name names [] all = refl
untouched name names (NameChange.Created made number ∷ more) all =
    untouched name (with_number made (Some number) names) more all.1 ∙ number_elsewhere name made (Some number) names (λ same. all.0 (sym same))
untouched name names (NameChange.Renamed from to ∷ more) all =
    untouched name (renamed names (NameChange.Renamed from to)) more all.1
    ∙ number_unmoved name from to names (λ same. all.0 (inr (sym same))) (λ same. all.0 (inl (sym same)))

pub settled_number : (name : FileName) (disk : Disk) (kept : ℕ) → IsSettled name disk
    → number_of name (after_renames disk.names (take kept disk.renames)) ≡ number_of name (names_now disk)
settled_number name disk kept settled =
    untouched name disk.names (take kept disk.renames) (all_take (λ change. ¬ Touches name change) kept disk.renames settled)
    ∙ sym (untouched name disk.names disk.renames settled)

-- what a crash leaves under a settled name is left of its file
pub settled_left : (name : FileName) (disk : Disk) (image : Files) → IsSettled name disk → Leaves disk image → LeavesFile (stored name (names_now disk) disk.files) (file name image)
settled_left name disk image settled leaves =
    let P : Option ℕ → Type 0 = λ number. LeavesFile (option_and_then (λ n. slice_get disk.files n) number) (file name image) in
    subst P (settled_number name disk leaves.kept settled) (leaves.each name)

-- a synced file is left as it reads
pub safe_left : (one : Option Stored) (image : Option (List ℕ)) → LeavesFile (option_map made_safe one) image → image ≡ option_map bytes_now one
safe_left None image leaves = leaves
safe_left (Some one) image leaves = leaves.1 ∙ ap Some leaves.2

-- A file that was synced has one outcome under a settled name.
pub one_outcome : (name : FileName) (disk : Disk) (image : Files) → IsSettled name disk → Leaves (synced name disk) image → file name image ≡ file name (reads disk)
one_outcome name disk image settled leaves =
    let P : Option Stored → Type 0 = λ one. LeavesFile one (file name image) in
    let here : P (option_map made_safe (stored name (names_now disk) disk.files)) =
    subst P (changed_there made_safe (number_of name (names_now disk)) disk.files) (settled_left name (synced name disk) image settled leaves) in
    safe_left (stored name (names_now disk) disk.files) (file name image) here ∙ sym (read_at name disk)
