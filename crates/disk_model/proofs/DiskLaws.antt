-- What a read gives after each change of a disk, and that each keeps the disk sound.
use Rattle.std.proofs.Common.{◌≡◌, ◌≢◌, ◌<◌, ◌++◌, ℕ, zero, suc, List, [], ◌∷◌, length, take, Option, Some, None, refl, sym, ◌∙◌, ap, subst, inl, inr, arith}
use Rattle.std.specs.List.{slice_get}
use Rattle.std.specs.Option.{option_map, option_and_then}
use Rattle.disk_model.specs.Files.{Files, file, put, with_file, with_appended, with_cut, with_moved}
use Rattle.disk_model.specs.Disk.{Change, changed, after_changes, Stored, bytes_now, settled, Names, NameChange, number_of, with_number, renamed, Disk, names_now, stored, reads, with_change, made_safe, with_stored, with_changed, on_file, appended, cut_to, synced, created, moved, names_synced}
use Rattle.disk_model.proofs.Sound.{AreDistinct, AreBelow, AreFresh, IsSound}
use Rattle.disk_model.proofs.NameLaws.{same_name, number_there, number_elsewhere, fresh_created, fresh_moved, after_distinct, after_below, renames_append}
use Rattle.disk_model.specs.declared.file_name.FileName.{FileName}
use Rattle.disk_model.specs.declared.file_name.FileName.TheVariants.{Log, LogTemp, Dump, DumpTemp}

-- files are one where each name reads the same
pub same_files : (x y : Files) → ((name : FileName) → file name x ≡ file name y) → x ≡ y
same_files x y same =
    let log : x.log ≡ y.log = same Log in
    let log_temp : x.log_temp ≡ y.log_temp = same LogTemp in
    let dump : x.dump ≡ y.dump = same Dump in
    let dump_temp : x.dump_temp ≡ y.dump_temp = same DumpTemp in
    let made : record { log = x.log; log_temp = x.log_temp; dump = x.dump; dump_temp = x.dump_temp } ≡ record { log = y.log; log_temp = y.log_temp; dump = y.dump; dump_temp = y.dump_temp } = rw (log, log_temp, dump, dump_temp) in
    made

-- what a name reads as
pub read_at : (name : FileName) (disk : Disk) → file name (reads disk) ≡ option_map bytes_now (stored name (names_now disk) disk.files)
read_at Log disk = refl
read_at LogTemp disk = refl
read_at Dump disk = refl
read_at DumpTemp disk = refl

pub file_there : (name : FileName) (bytes : Option (List ℕ)) (files : Files) → file name (put name bytes files) ≡ bytes
file_there Log bytes files = refl
file_there LogTemp bytes files = refl
file_there Dump bytes files = refl
file_there DumpTemp bytes files = refl

pub file_elsewhere : (other name : FileName) (bytes : Option (List ℕ)) (files : Files) → other ≢ name → file other (put name bytes files) ≡ file other files
file_elsewhere Log Log bytes files ne = absurd (ne refl)
file_elsewhere Log LogTemp bytes files ne = refl
file_elsewhere Log Dump bytes files ne = refl
file_elsewhere Log DumpTemp bytes files ne = refl
file_elsewhere LogTemp Log bytes files ne = refl
file_elsewhere LogTemp LogTemp bytes files ne = absurd (ne refl)
file_elsewhere LogTemp Dump bytes files ne = refl
file_elsewhere LogTemp DumpTemp bytes files ne = refl
file_elsewhere Dump Log bytes files ne = refl
file_elsewhere Dump LogTemp bytes files ne = refl
file_elsewhere Dump Dump bytes files ne = absurd (ne refl)
file_elsewhere Dump DumpTemp bytes files ne = refl
file_elsewhere DumpTemp Log bytes files ne = refl
file_elsewhere DumpTemp LogTemp bytes files ne = refl
file_elsewhere DumpTemp Dump bytes files ne = refl
file_elsewhere DumpTemp DumpTemp bytes files ne = absurd (ne refl)

-- the one file that was changed, and each other
pub stored_there : (change : Stored → Stored) (number : ℕ) (files : List Stored) → slice_get (with_stored change number files) number ≡ option_map change (slice_get files number)
stored_there change number [] = refl
stored_there change zero (one ∷ more) = refl
stored_there change (suc number) (one ∷ more) = stored_there change number more

pub stored_elsewhere : (change : Stored → Stored) (number other : ℕ) (files : List Stored) → other ≢ number → slice_get (with_stored change number files) other ≡ slice_get files other
stored_elsewhere change number other [] ne = refl
stored_elsewhere change zero zero (one ∷ more) ne = absurd (ne refl)
stored_elsewhere change zero (suc other) (one ∷ more) ne = refl
stored_elsewhere change (suc number) zero (one ∷ more) ne = refl
stored_elsewhere change (suc number) (suc other) (one ∷ more) ne = stored_elsewhere change number other more (λ same. ne (ap suc same))

pub stored_length : (change : Stored → Stored) (number : ℕ) (files : List Stored) → length (with_stored change number files) ≡ length files
stored_length change number [] = refl
stored_length change zero (one ∷ more) = refl
stored_length change (suc number) (one ∷ more) = ap suc (stored_length change number more)

pub changed_length : (change : Stored → Stored) (number : Option ℕ) (files : List Stored) → length (with_changed change number files) ≡ length files
changed_length change None files = refl
changed_length change (Some number) files = stored_length change number files

pub changed_there : (change : Stored → Stored) (number : Option ℕ) (files : List Stored) →
    option_and_then (λ n. slice_get (with_changed change number files) n) number ≡ option_map change (option_and_then (λ n. slice_get files n) number)
changed_there change None files = refl
changed_there change (Some number) files = stored_there change number files

pub changed_elsewhere : (change : Stored → Stored) (number other : Option ℕ) (files : List Stored) → ((n : ℕ) → other ≡ Some n → number ≡ Some n → ⊥) →
    option_and_then (λ n. slice_get (with_changed change number files) n) other ≡ option_and_then (λ n. slice_get files n) other
changed_elsewhere change number None files apart = refl
changed_elsewhere change None (Some other) files apart = refl
changed_elsewhere change (Some number) (Some other) files apart = stored_elsewhere change number other files (λ same. apart other refl (ap Some (sym same)))

-- a file more stands behind those that are there
pub slice_before : (files : List Stored) (one : Stored) (number : ℕ) → number < length files → slice_get (files ++ one ∷ []) number ≡ slice_get files number
slice_before [] one number low = absurd (omega (arith, low))
slice_before (first ∷ files) one zero low = refl
slice_before (first ∷ files) one (suc number) low = slice_before files one number (omega (arith, low))

pub slice_last : (files : List Stored) (one : Stored) → slice_get (files ++ one ∷ []) (length files) ≡ Some one
slice_last [] one = refl
slice_last (first ∷ files) one = slice_last files one

-- the bytes after one change more
pub changes_append : (bytes : List ℕ) (changes : List Change) (one : Change) → after_changes bytes (changes ++ one ∷ []) ≡ changed (after_changes bytes changes) one
changes_append bytes [] one = refl
changes_append bytes (change ∷ changes) one = changes_append (changed bytes change) changes one

pub bytes_changed : (one : Change) (file : Option Stored) → option_map bytes_now (option_map (with_change one) file) ≡ option_map (λ bytes. changed bytes one) (option_map bytes_now file)
bytes_changed one None = refl
bytes_changed one (Some file) = ap Some (changes_append file.synced file.changes one)

pub bytes_safe : (file : Option Stored) → option_map bytes_now (option_map made_safe file) ≡ option_map bytes_now file
bytes_safe None = refl
bytes_safe (Some file) = refl

pub names_distinct : (disk : Disk) → IsSound disk → AreDistinct (names_now disk)
names_distinct disk sound = after_distinct sound.bound disk.names disk.renames (length disk.files) sound.distinct sound.below sound.fresh

pub names_below : (disk : Disk) → IsSound disk → AreBelow (length disk.files) (names_now disk)
names_below disk sound = after_below sound.bound disk.names disk.renames (length disk.files) sound.below sound.fresh

pub length_one_more : (files : List Stored) (one : Stored) → length (files ++ one ∷ []) ≡ suc (length files)
length_one_more [] one = refl
length_one_more (first ∷ files) one = ap suc (length_one_more files one)

-- what a name reads as where one file was changed
pub read_changed : (name : FileName) (change : Stored → Stored) (disk : Disk) →
    file name (reads (on_file name change disk)) ≡ option_map bytes_now (option_map change (stored name (names_now disk) disk.files))
read_changed name change disk = read_at name (on_file name change disk) ∙ ap (option_map bytes_now) (changed_there change (number_of name (names_now disk)) disk.files)

pub read_unchanged : (other name : FileName) (change : Stored → Stored) (disk : Disk) → IsSound disk → other ≢ name →
    file other (reads (on_file name change disk)) ≡ file other (reads disk)
read_unchanged other name change disk sound ne =
    read_at other (on_file name change disk)
    ∙ ap (option_map bytes_now) (changed_elsewhere change (number_of name (names_now disk)) (number_of other (names_now disk)) disk.files
    (λ n has_other has_name. ne (names_distinct disk sound other name n has_other has_name)))
    ∙ sym (read_at other disk)

-- Where the file of one name was changed, the others read as before.
pub reads_changed : (name : FileName) (change : Stored → Stored) (bytes : Option (List ℕ)) (disk : Disk) → IsSound disk →
    option_map bytes_now (option_map change (stored name (names_now disk) disk.files)) ≡ bytes → reads (on_file name change disk) ≡ put name bytes (reads disk)
reads_changed name change bytes disk sound now = same_files (reads (on_file name change disk)) (put name bytes (reads disk))
    (λ other. elim (same_name other name) [
      | inl same ↦ (let P : FileName → Type 0 = λ n. file n (reads (on_file name change disk)) ≡ file n (put name bytes (reads disk)) in
          let here : P name = read_changed name change disk ∙ now ∙ sym (file_there name bytes (reads disk)) in
          rw same here)
      | inr ne ↦ read_unchanged other name change disk sound ne ∙ sym (file_elsewhere other name bytes (reads disk) ne)
    ])

pub reads_appended : (name : FileName) (bytes : List ℕ) (disk : Disk) → IsSound disk → reads (appended name bytes disk) ≡ with_appended name bytes (reads disk)
reads_appended name bytes disk sound =
    reads_changed name (with_change (Change.Added bytes)) (option_map (λ old. old ++ bytes) (file name (reads disk))) disk sound
    (bytes_changed (Change.Added bytes) (stored name (names_now disk) disk.files) ∙ ap (option_map (λ old. old ++ bytes)) (sym (read_at name disk)))

pub reads_cut : (name : FileName) (n : ℕ) (disk : Disk) → IsSound disk → reads (cut_to name n disk) ≡ with_cut name n (reads disk)
reads_cut name n disk sound =
    reads_changed name (with_change (Change.CutTo n)) (option_map (take n) (file name (reads disk))) disk sound
    (bytes_changed (Change.CutTo n) (stored name (names_now disk) disk.files) ∙ ap (option_map (take n)) (sym (read_at name disk)))

pub put_same : (name : FileName) (files : Files) → put name (file name files) files ≡ files
put_same Log files = refl
put_same LogTemp files = refl
put_same Dump files = refl
put_same DumpTemp files = refl

pub reads_synced : (name : FileName) (disk : Disk) → IsSound disk → reads (synced name disk) ≡ reads disk
reads_synced name disk sound =
    reads_changed name made_safe (file name (reads disk)) disk sound (bytes_safe (stored name (names_now disk) disk.files) ∙ sym (read_at name disk))
    ∙ put_same name (reads disk)

-- a name that stands for a file reads the same where there is a file more
pub stored_before : (number : Option ℕ) (files : List Stored) (one : Stored) → ((n : ℕ) → number ≡ Some n → n < length files) →
    option_and_then (λ n. slice_get (files ++ one ∷ []) n) number ≡ option_and_then (λ n. slice_get files n) number
stored_before None files one low = refl
stored_before (Some n) files one low = slice_before files one n (low n refl)

pub names_created : (name : FileName) (disk : Disk) → names_now (created name disk) ≡ with_number name (Some (length disk.files)) (names_now disk)
names_created name disk = renames_append disk.names disk.renames (NameChange.Created name (length disk.files) ∷ [])

pub read_created : (name : FileName) (disk : Disk) → file name (reads (created name disk)) ≡ Some []
read_created name disk =
    let files : List Stored = disk.files ++ settled [] ∷ [] in
    let P : Option ℕ → Type 0 = λ number. option_map bytes_now (option_and_then (λ n. slice_get files n) number) ≡ Some [] in
    let number : number_of name (names_now (created name disk)) ≡ Some (length disk.files) = rw names_created (number_there name (Some (length disk.files)) (names_now disk)) in
    let last : P (Some (length disk.files)) = ap (option_map bytes_now) (slice_last disk.files (settled [])) in
    let here : P (number_of name (names_now (created name disk))) = rw number last in
    read_at name (created name disk) ∙ here

pub read_uncreated : (other name : FileName) (disk : Disk) → IsSound disk → other ≢ name → file other (reads (created name disk)) ≡ file other (reads disk)
read_uncreated other name disk sound ne =
    let files : List Stored = disk.files ++ settled [] ∷ [] in
    let number : number_of other (names_now (created name disk)) ≡ number_of other (names_now disk) = rw names_created (number_elsewhere other name (Some (length disk.files)) (names_now disk) ne) in
    read_at other (created name disk)
    ∙ ap (λ (n : Option ℕ). option_map bytes_now (option_and_then (λ n. slice_get files n) n)) number
    ∙ ap (option_map bytes_now) (stored_before (number_of other (names_now disk)) disk.files (settled []) (names_below disk sound other))
    ∙ sym (read_at other disk)

pub reads_created : (name : FileName) (disk : Disk) → IsSound disk → reads (created name disk) ≡ with_file name [] (reads disk)
reads_created name disk sound = same_files (reads (created name disk)) (put name (Some []) (reads disk))
    (λ other. elim (same_name other name) [
      | inl same ↦ (let P : FileName → Type 0 = λ n. file n (reads (created name disk)) ≡ file n (put name (Some []) (reads disk)) in
          let here : P name = read_created name disk ∙ sym (file_there name (Some []) (reads disk)) in
          rw same here)
      | inr ne ↦ read_uncreated other name disk sound ne ∙ sym (file_elsewhere other name (Some []) (reads disk) ne)
    ])

-- a moved file's number stands under its new name alone
pub number_moved : (from to : FileName) (names : Names) → number_of to (renamed names (NameChange.Renamed from to)) ≡ number_of from names
number_moved from to names = number_there to (number_of from names) (with_number from None names)

pub number_gone : (from to : FileName) (names : Names) → from ≢ to → number_of from (renamed names (NameChange.Renamed from to)) ≡ None
number_gone from to names ne = number_elsewhere from to (number_of from names) (with_number from None names) ne ∙ number_there from None names

pub number_unmoved : (other from to : FileName) (names : Names) → other ≢ to → other ≢ from → number_of other (renamed names (NameChange.Renamed from to)) ≡ number_of other names
number_unmoved other from to names ne_to ne_from =
    number_elsewhere other to (number_of from names) (with_number from None names) ne_to ∙ number_elsewhere other from None names ne_from

pub names_moved : (from to : FileName) (disk : Disk) → names_now (moved from to disk) ≡ renamed (names_now disk) (NameChange.Renamed from to)
names_moved from to disk = renames_append disk.names disk.renames (NameChange.Renamed from to ∷ [])

-- what a name reads as where it stands for this number
pub read_numbered : (name : FileName) (number : Option ℕ) (disk : Disk) → number_of name (names_now disk) ≡ number →
    file name (reads disk) ≡ option_map bytes_now (option_and_then (λ n. slice_get disk.files n) number)
read_numbered name number disk same = read_at name disk ∙ ap (λ (o : Option ℕ). option_map bytes_now (option_and_then (λ n. slice_get disk.files n) o)) same

pub read_moved : (from to : FileName) (disk : Disk) → file to (reads (moved from to disk)) ≡ file from (reads disk)
read_moved from to disk =
    read_numbered to (number_of from (names_now disk)) (moved from to disk) (rw names_moved (number_moved from to (names_now disk)))
    ∙ sym (read_at from disk)

pub read_gone : (from to : FileName) (disk : Disk) → from ≢ to → file from (reads (moved from to disk)) ≡ None
read_gone from to disk ne = read_numbered from None (moved from to disk) (rw names_moved (number_gone from to (names_now disk) ne))

pub read_unmoved : (other from to : FileName) (disk : Disk) → other ≢ to → other ≢ from → file other (reads (moved from to disk)) ≡ file other (reads disk)
read_unmoved other from to disk ne_to ne_from =
    read_numbered other (number_of other (names_now disk)) (moved from to disk) (rw names_moved (number_unmoved other from to (names_now disk) ne_to ne_from))
    ∙ sym (read_at other disk)

pub reads_moved : (from to : FileName) (disk : Disk) → reads (moved from to disk) ≡ with_moved from to (reads disk)
reads_moved from to disk =
    let old : Files = reads disk in
    let taken : Files = put from None old in
    same_files (reads (moved from to disk)) (with_moved from to old)
    (λ other. elim (same_name other to) [
      | inl same ↦ (let P : FileName → Type 0 = λ n. file n (reads (moved from to disk)) ≡ file n (put to (file from old) taken) in
          let here : P to = read_moved from to disk ∙ sym (file_there to (file from old) taken) in
          rw same here)
      | inr ne_to ↦ elim (same_name other from) [
        | inl same ↦ (let P : FileName → Type 0 = λ n. file n (reads (moved from to disk)) ≡ file n (put to (file from old) taken) in
            let ne : from ≢ to = rw same at ne_to in
            let here : P from = read_gone from to disk ne ∙ sym (file_elsewhere from to (file from old) taken ne ∙ file_there from None old) in
            rw same here)
        | inr ne_from ↦ read_unmoved other from to disk ne_to ne_from
            ∙ sym (file_elsewhere other to (file from old) taken ne_to ∙ file_elsewhere other from None old ne_from)
      ]
    ])

-- Each change keeps a disk sound.
pub changed_sound : (name : FileName) (change : Stored → Stored) (disk : Disk) → IsSound disk → IsSound (on_file name change disk)
changed_sound name change disk sound =
    let P : ℕ → Type 0 = λ end. AreFresh sound.bound disk.renames end in
    let same : length disk.files ≡ length (with_changed change (number_of name (names_now disk)) disk.files) = sym (changed_length change (number_of name (names_now disk)) disk.files) in
    record { bound = sound.bound; distinct = sound.distinct; below = sound.below; fresh = subst P same sound.fresh }

pub created_sound : (name : FileName) (disk : Disk) → IsSound disk → IsSound (created name disk)
created_sound name disk sound =
    let P : ℕ → Type 0 = λ end. AreFresh sound.bound (disk.renames ++ NameChange.Created name (length disk.files) ∷ []) end in
    let same : suc (length disk.files) ≡ length (disk.files ++ settled [] ∷ []) = sym (length_one_more disk.files (settled [])) in
    record { bound = sound.bound; distinct = sound.distinct; below = sound.below; fresh = subst P same (fresh_created sound.bound disk.renames (length disk.files) name sound.fresh) }

pub moved_sound : (from to : FileName) (disk : Disk) → IsSound disk → IsSound (moved from to disk)
moved_sound from to disk sound =
    record { bound = sound.bound; distinct = sound.distinct; below = sound.below; fresh = fresh_moved sound.bound disk.renames (length disk.files) from to sound.fresh }

pub names_synced_sound : (disk : Disk) → IsSound disk → IsSound (names_synced disk)
names_synced_sound disk sound =
    record { bound = length disk.files; distinct = names_distinct disk sound; below = names_below disk sound; fresh = omega arith }
