-- How a disk is made again, change by change.
use Rattle.std.proofs.Common.{◌≡◌, ◌<◌, ◌≤◌, ◌+◌, ℕ, zero, suc, List, [], ◌∷◌, length, take, drop, map, get_or, set, Option, refl, sym, ◌∙◌, ap, subst, arith, add-one}
use Rattle.std.proofs.Math.Seq.{drop-cons}
use Rattle.std.specs.List.{slice_get}
use Rattle.std.specs.Option.{option_map, option_and_then}
use Rattle.disk_model.specs.Files.{Files, file}
use Rattle.disk_model.specs.Disk.{Names, number_of, after_renames, Stored, Disk, with_stored, settled_disk}
use Rattle.disk_model.proofs.DiskLaws.{same_files}
use Rattle.disk_model.specs.Images.{Leaves}
use Rattle.disk_model.specs.Past.{Made, Past, after, disk_at}
use Rattle.disk_model.specs.Choices.{after_steps, chosen_file, chosen_of, chosen}
use Rattle.disk_model.specs.inner.Recorded.{made_of}
use Rattle.disk_model.proofs.Images.{choice_leaves}
use Rattle.disk_model.specs.declared.choice.Choice.{Choice}
use Rattle.disk_model.specs.declared.file_name.FileName.{FileName}
use Rattle.disk_model.specs.declared.file_name.FileName.TheVariants.{Log, LogTemp, Dump, DumpTemp}
use Rattle.disk_model.specs.declared.memory.deed.Deed.{Deed}

-- what is left of a list, one further
pub drop_step : {A : Type 0} (xs : List A) (i : ℕ) (x : A) → i < length xs → x ≡ get_or xs i x → drop i xs ≡ x ∷ drop (i + 1) xs
drop_step xs i x within is = rw add-one (drop-cons xs i x within ∙ ap (λ first. first ∷ drop (suc i) xs) (sym is))

-- a file written in its place is the one that was changed
pub set_there : (change : Stored → Stored) (files : List Stored) (i : ℕ) (one new : Stored) → i < length files → one ≡ get_or files i one → new ≡ change one
    → set files i new ≡ with_stored change i files
set_there change [] i one new within is changed = absurd (omega (arith, within))
set_there change (first ∷ files) zero one new within is changed = ap (λ (head : Stored). head ∷ files) (changed ∙ ap change is)
set_there change (first ∷ files) (suc i) one new within is changed =
    ap (λ (rest : List Stored). first ∷ rest) (set_there change files i one new (omega (arith, within)) is changed)

-- where there is no such file nothing is changed
pub none_there : (change : Stored → Stored) (files : List Stored) (i : ℕ) → length files ≤ i → with_stored change i files ≡ files
none_there change [] i past = refl
none_there change (first ∷ files) zero past = absurd (omega (arith, past))
none_there change (first ∷ files) (suc i) past = ap (λ (rest : List Stored). first ∷ rest) (none_there change files i (omega (arith, past)))

-- the disk at a moment is the one that was made again from the calls up to it
take_map : (n : ℕ) (deeds : List Deed) → take n (map made_of deeds) ≡ map made_of (take n deeds)
take_map zero deeds = refl
take_map (suc n) [] = refl
take_map (suc n) (one ∷ deeds) = ap (λ (made : List Made). made_of one ∷ made) (take_map n deeds)

pub disk_made : (past : Past) (n : ℕ) (began : Files) (deeds made : List Deed) (start disk : Disk)
    → (let parts : Past = record { began = began; made = map made_of deeds } in parts) ≡ past → start ≡ settled_disk began → disk ≡ after start (map made_of made) → made ≡ take n deeds
    → disk ≡ disk_at past n
unfolding disk_at
disk_made past n began deeds made start disk is starts made_is until =
    let parts : Past = record { began = began; made = map made_of deeds } in
    let P : Past → Type 0 = λ whole. disk ≡ after (settled_disk whole.began) (take n whole.made) in
    let here : P parts = made_is ∙ ap (λ (from : Disk). after from (map made_of made)) starts ∙ ap (λ (some : List Deed). after (settled_disk began) (map made_of some)) until
    ∙ ap (after (settled_disk began)) (sym (take_map n deeds)) in
    subst P is here

-- a name's file with its first unsynced steps, by its number
numbered : ℕ → Option ℕ → List Stored → Option (List ℕ)
numbered steps number files = option_map (λ file. after_steps steps file.synced file.changes) (option_and_then (λ n. slice_get files n) number)

file_chosen : (name : FileName) (steps : ℕ) (names kept : Names) (files : List Stored) (number : Option ℕ) (image : Option (List ℕ))
    → names ≡ kept → number ≡ number_of name names → image ≡ option_map (λ file. after_steps steps file.synced file.changes) (option_and_then (λ n. slice_get files n) number)
    → image ≡ chosen_file name steps kept files
unfolding numbered
file_chosen name steps names kept files number image same is left = left ∙ ap (λ (o : Option ℕ). numbered steps o files) (is ∙ ap (number_of name) same)

pub chosen_made : (choice : Choice) (disk : Disk) (names : Names) (log log_temp dump dump_temp : Option ℕ) (image : Files)
    → names ≡ after_renames disk.names (take choice.names disk.renames)
    → log ≡ number_of Log names → log_temp ≡ number_of LogTemp names → dump ≡ number_of Dump names → dump_temp ≡ number_of DumpTemp names
    → image.log ≡ option_map (λ file. after_steps choice.log file.synced file.changes) (option_and_then (λ n. slice_get disk.files n) log)
    → image.log_temp ≡ option_map (λ file. after_steps choice.log_temp file.synced file.changes) (option_and_then (λ n. slice_get disk.files n) log_temp)
    → image.dump ≡ option_map (λ file. after_steps choice.dump file.synced file.changes) (option_and_then (λ n. slice_get disk.files n) dump)
    → image.dump_temp ≡ option_map (λ file. after_steps choice.dump_temp file.synced file.changes) (option_and_then (λ n. slice_get disk.files n) dump_temp)
    → image ≡ chosen_of choice disk
chosen_made choice disk names log log_temp dump dump_temp image same is_log is_log_temp is_dump is_dump_temp left_log left_log_temp left_dump left_dump_temp =
    let kept : Names = after_renames disk.names (take choice.names disk.renames) in
    let one : file Log image ≡ file Log (chosen_of choice disk) = file_chosen Log choice.log names kept disk.files log image.log same is_log left_log in
    let two : file LogTemp image ≡ file LogTemp (chosen_of choice disk) = file_chosen LogTemp choice.log_temp names kept disk.files log_temp image.log_temp same is_log_temp left_log_temp in
    let three : file Dump image ≡ file Dump (chosen_of choice disk) = file_chosen Dump choice.dump names kept disk.files dump image.dump same is_dump left_dump in
    let four : file DumpTemp image ≡ file DumpTemp (chosen_of choice disk) = file_chosen DumpTemp choice.dump_temp names kept disk.files dump_temp image.dump_temp same is_dump_temp left_dump_temp in
    same_files image (chosen_of choice disk) (elim [ Log ↦ one | LogTemp ↦ two | Dump ↦ three | DumpTemp ↦ four ])

-- an image's files
pub image_allowed : (choice : Choice) (past : Past) (files : Files) → files ≡ chosen choice past → Leaves (disk_at past choice.since) files
image_allowed choice past files is =
    let P : Files → Type 0 = λ all. Leaves (disk_at past choice.since) all in
    subst P (sym is) (choice_leaves choice (disk_at past choice.since))
