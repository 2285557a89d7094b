-- What a crash leaves of a disk is given by choices, and how it reads is one of that.
use Rattle.std.proofs.Common.{◌≡◌, ◌≤◌, ◌+◌, ◌-◌, ◌++◌, ℕ, min, max, List, [], ◌∷◌, length, take, Option, Some, None, refl, sym, ◌∙◌, ap, subst, inl, inr, arith, append-nil}
use Rattle.std.specs.Option.{option_map}
use Rattle.std.proofs.lemmas.Bool.{cases_lt}
use Rattle.std.proofs.lemmas.List.{take_all, take_min}
use Rattle.std.proofs.Math.Seq.{take-length}
use Rattle.disk_model.specs.Files.{Files, file}
use Rattle.disk_model.specs.Disk.{Change, changed, after_changes, Stored, bytes_now, Names, NameChange, after_renames, Disk, names_now, stored, reads}
use Rattle.disk_model.specs.Images.{Partly, LeavesBytes, LeavesFile, Leaves}
use Rattle.disk_model.specs.Past.{Past, disk_at}
use Rattle.disk_model.proofs.DiskLaws.{same_files, read_at}
use Rattle.disk_model.specs.Choices.{steps_of, stepped, after_steps, chosen_of, chosen}
use Rattle.disk_model.specs.declared.choice.Choice.{Choice}
use Rattle.disk_model.specs.declared.file_name.FileName.{FileName}
use Rattle.disk_model.specs.declared.file_name.FileName.TheVariants.{Log, LogTemp, Dump, DumpTemp}

-- no step of a change
no_step : (bytes : List ℕ) (change : Change) → stepped 0 bytes change ≡ bytes
no_step bytes (Change.Added more) = append-nil bytes
no_step bytes (Change.CutTo kept) = take_all (max kept (length bytes - 0)) bytes (omega arith)

no_steps : (bytes : List ℕ) (changes : List Change) → after_steps 0 bytes changes ≡ bytes
no_steps bytes [] = refl
no_steps bytes (change ∷ more) =
    let none : 0 - steps_of bytes change ≡ 0 = omega arith in
    let same : stepped 0 bytes change ≡ bytes = no_step bytes change in
    rw (none, same) (no_steps bytes more)

-- all steps of a change
all_steps : (steps : ℕ) (bytes : List ℕ) (change : Change) → steps_of bytes change ≤ steps → stepped steps bytes change ≡ changed bytes change
all_steps steps bytes (Change.Added more) enough = ap (λ (back : List ℕ). bytes ++ back) (take_all steps more enough)
all_steps steps bytes (Change.CutTo kept) enough =
    let last : max kept (length bytes - steps) ≡ kept = omega (arith, enough) in
    ap (λ (n : ℕ). take n bytes) last

-- some steps of a change do it in part
some_steps : (steps : ℕ) (bytes : List ℕ) (change : Change) → Partly bytes change (stepped steps bytes change)
some_steps steps bytes (Change.Added more) = (steps, refl)
some_steps steps bytes (Change.CutTo kept) = (max kept (length bytes - steps), (omega arith), refl)

-- Each number of steps leaves what a crash may leave.
steps_leave : (steps : ℕ) (bytes : List ℕ) (changes : List Change) → LeavesBytes bytes changes (after_steps steps bytes changes)
steps_leave steps bytes [] = refl
steps_leave steps bytes (change ∷ more) = elim (cases_lt (steps_of bytes change) steps) [
  | inl all ↦ (let whole : stepped steps bytes change ≡ changed bytes change = all_steps steps bytes change (omega (arith, all)) in
      let P : List ℕ → Type 0 = λ front. LeavesBytes (changed bytes change) more (after_steps (steps - steps_of bytes change) front more) in
      let rest : P (changed bytes change) = steps_leave (steps - steps_of bytes change) (changed bytes change) more in
      inr (subst P (sym whole) rest))
  | inr some ↦ (let none : steps - steps_of bytes change ≡ 0 = omega (arith, some) in
      let end : after_steps (steps - steps_of bytes change) (stepped steps bytes change) more ≡ stepped steps bytes change = rw none (no_steps (stepped steps bytes change) more) in
      let P : List ℕ → Type 0 = λ image. Partly bytes change image in
      inl (subst P (sym end) (some_steps steps bytes change)))
]

-- a change in part is some of its steps
part_steps : (bytes : List ℕ) (change : Change) (image : List ℕ) → Partly bytes change image → (steps : ℕ) × (steps ≤ steps_of bytes change) × (stepped steps bytes change ≡ image)
part_steps bytes (Change.Added more) image part =
    (min part.0 (length more), (omega arith), ap (λ (back : List ℕ). bytes ++ back) (take_min part.0 more) ∙ sym part.1)
part_steps bytes (Change.CutTo kept) image part =
    let steps : ℕ = length bytes - part.0 in
    let low : kept ≤ part.0 = part.1 in (
      steps,
      (omega arith),
      (elim (cases_lt (length bytes) part.0) [
        | inl long ↦ take_all (max kept (length bytes - steps)) bytes (omega arith) ∙ sym (take_all part.0 bytes (omega arith)) ∙ sym part.2
        | inr short ↦ (let same : max kept (length bytes - steps) ≡ part.0 = omega arith in ap (λ (n : ℕ). take n bytes) same ∙ sym part.2)
      ]),
    )

-- What a crash may leave is left after some number of steps.
left_steps : (bytes : List ℕ) (changes : List Change) (image : List ℕ) → LeavesBytes bytes changes image → (steps : ℕ) × (after_steps steps bytes changes ≡ image)
left_steps bytes [] image leaves = (0, sym leaves)
left_steps bytes (change ∷ more) image (inl part) =
    let some : (steps : ℕ) × (steps ≤ steps_of bytes change) × (stepped steps bytes change ≡ image) = part_steps bytes change image part in
    let none : some.0 - steps_of bytes change ≡ 0 = omega (arith, some.1) in
    (some.0, (rw none (no_steps (stepped some.0 bytes change) more ∙ some.2)))
left_steps bytes (change ∷ more) image (inr leaves) =
    let rest : (steps : ℕ) × (after_steps steps (changed bytes change) more ≡ image) = left_steps (changed bytes change) more image leaves in
    let steps : ℕ = steps_of bytes change + rest.0 in
    let left : steps - steps_of bytes change ≡ rest.0 = omega arith in
    let whole : stepped steps bytes change ≡ changed bytes change = all_steps steps bytes change (omega arith) in
    (steps, (rw (left, whole) rest.1))

file_leaves : (steps : ℕ) (one : Option Stored) → LeavesFile one (option_map (λ file. after_steps steps file.synced file.changes) one)
file_leaves steps None = refl
file_leaves steps (Some one) = (after_steps steps one.synced one.changes, refl, steps_leave steps one.synced one.changes)

file_steps : (one : Option Stored) (image : Option (List ℕ)) → LeavesFile one image → (steps : ℕ) × (option_map (λ file. after_steps steps file.synced file.changes) one ≡ image)
file_steps None image leaves = (0, sym leaves)
file_steps (Some one) image leaves =
    let some : (steps : ℕ) × (after_steps steps one.synced one.changes ≡ leaves.0) = left_steps one.synced one.changes leaves.0 leaves.2 in
    (some.0, ap Some some.1 ∙ sym leaves.1)

choice_each : (choice : Choice) (disk : Disk) (name : FileName) → LeavesFile (stored name (after_renames disk.names (take choice.names disk.renames)) disk.files) (file name (chosen_of choice disk))
choice_each choice disk Log = file_leaves choice.log (stored Log (after_renames disk.names (take choice.names disk.renames)) disk.files)
choice_each choice disk LogTemp = file_leaves choice.log_temp (stored LogTemp (after_renames disk.names (take choice.names disk.renames)) disk.files)
choice_each choice disk Dump = file_leaves choice.dump (stored Dump (after_renames disk.names (take choice.names disk.renames)) disk.files)
choice_each choice disk DumpTemp = file_leaves choice.dump_temp (stored DumpTemp (after_renames disk.names (take choice.names disk.renames)) disk.files)

-- Each choice gives what a crash may leave.
pub choice_leaves : (choice : Choice) (disk : Disk) → Leaves disk (chosen_of choice disk)
choice_leaves choice disk = record { kept = choice.names; each = choice_each choice disk }

-- And each image is given by some choice.
pub choice_of : (n : ℕ) (disk : Disk) (image : Files) → Leaves disk image → (choice : Choice) × (choice.since ≡ n) × (chosen_of choice disk ≡ image)
choice_of n disk image leaves =
    let names : Names = after_renames disk.names (take leaves.kept disk.renames) in
    let log : (steps : ℕ) × (option_map (λ file. after_steps steps file.synced file.changes) (stored Log names disk.files) ≡ image.log) = file_steps (stored Log names disk.files) image.log (leaves.each Log) in
    let log_temp : (steps : ℕ) × (option_map (λ file. after_steps steps file.synced file.changes) (stored LogTemp names disk.files) ≡ image.log_temp) = file_steps (stored LogTemp names disk.files) image.log_temp (leaves.each LogTemp) in
    let dump : (steps : ℕ) × (option_map (λ file. after_steps steps file.synced file.changes) (stored Dump names disk.files) ≡ image.dump) = file_steps (stored Dump names disk.files) image.dump (leaves.each Dump) in
    let dump_temp : (steps : ℕ) × (option_map (λ file. after_steps steps file.synced file.changes) (stored DumpTemp names disk.files) ≡ image.dump_temp) = file_steps (stored DumpTemp names disk.files) image.dump_temp (leaves.each DumpTemp) in
    let choice : Choice = record { since = n; names = leaves.kept; log = log.0; log_temp = log_temp.0; dump = dump.0; dump_temp = dump_temp.0 } in
    (choice, refl, same_files (chosen_of choice disk) image (elim [ Log ↦ log.1 | LogTemp ↦ log_temp.1 | Dump ↦ dump.1 | DumpTemp ↦ dump_temp.1 ]))

pub choice_at : (past : Past) (n : ℕ) (image : Files) → Leaves (disk_at past n) image → (choice : Choice) × (chosen choice past ≡ image)
choice_at past n image leaves =
    let found : (choice : Choice) × (choice.since ≡ n) × (chosen_of choice (disk_at past n) ≡ image) = choice_of n (disk_at past n) image leaves in
    let P : ℕ → Type 0 = λ at. chosen_of found.0 (disk_at past at) ≡ image in
    (found.0, subst P (sym found.1) found.2)

-- all that was changed is one of what a crash may leave
pub now_leaves : (bytes : List ℕ) (changes : List Change) → LeavesBytes bytes changes (after_changes bytes changes)
now_leaves bytes [] = refl
now_leaves bytes (change ∷ more) = inr (now_leaves (changed bytes change) more)

pub file_now_leaves : (one : Option Stored) → LeavesFile one (option_map bytes_now one)
file_now_leaves None = refl
file_now_leaves (Some one) = (bytes_now one, refl, now_leaves one.synced one.changes)

-- A disk as it reads is one of its images.
pub reads_leaves : (disk : Disk) → Leaves disk (reads disk)
reads_leaves disk =
    record {
      kept = length disk.renames;
      each = λ name. (
          let P : List NameChange → Type 0 = λ renames. LeavesFile (stored name (after_renames disk.names renames) disk.files) (file name (reads disk)) in
          let Q : Option (List ℕ) → Type 0 = λ bytes. LeavesFile (stored name (names_now disk) disk.files) bytes in
          let here : P disk.renames = subst Q (sym (read_at name disk)) (file_now_leaves (stored name (names_now disk) disk.files)) in
          subst P (sym (take-length disk.renames)) here);
    }
