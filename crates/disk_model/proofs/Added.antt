-- What a call adds to what a crash may leave, and what a sync takes away.
use Rattle.std.proofs.Common.{◌≡◌, ◌≢◌, ◌⊎◌, ◌≤◌, ◌+◌, ◌++◌, ℕ, zero, suc, min, List, [], ◌∷◌, length, take, Option, Some, None, refl, sym, ◌∙◌, ap, subst, inl, inr, arith}
use Rattle.std.specs.List.{slice_get}
use Rattle.std.specs.Option.{option_map, option_and_then}
use Rattle.std.proofs.lemmas.Bool.{cases_eq, cases_lt}
use Rattle.std.proofs.lemmas.List.{take_all, take-append-le, length-append}
use Rattle.std.proofs.Math.Seq.{take-nil}
use Rattle.disk_model.specs.Files.{Files, file, put, with_file, with_appended, with_cut, with_moved}
use Rattle.disk_model.specs.Disk.{Change, changed, after_changes, Stored, bytes_now, settled, Names, NameChange, number_of, after_renames, Disk, names_now, stored, reads, with_change, made_safe, with_stored, with_changed, on_file, appended, cut_to, synced, created, moved, names_synced}
use Rattle.disk_model.specs.Images.{Partly, LeavesBytes, LeavesFile, Leaves}
use Rattle.disk_model.specs.Past.{Call, Outcome, done, front_of, left_by}
use Rattle.disk_model.specs.Safe.{IsSettled}
use Rattle.disk_model.specs.Crash.{IsChangedImage}
use Rattle.disk_model.proofs.Sound.{AreDistinct, IsSound}
use Rattle.disk_model.proofs.NameLaws.{same_name, number_there, number_elsewhere, fresh_front, after_distinct, after_below}
use Rattle.disk_model.proofs.DiskLaws.{same_files, read_at, file_there, file_elsewhere, put_same, stored_there, changed_elsewhere, names_below, names_created, names_moved, number_moved, number_gone, number_unmoved, slice_last, stored_before}
use Rattle.disk_model.proofs.Images.{file_now_leaves}
use Rattle.disk_model.proofs.Settled.{safe_left, settled_number}
use Rattle.disk_model.specs.declared.file_name.FileName.{FileName}
use Rattle.disk_model.specs.declared.file_name.FileName.TheVariants.{Log, LogTemp, Dump, DumpTemp}

-- Where what is left of a file after one change is left of it after another, so it is whichever
-- file it was.
left_swap : (f g : Stored → Stored) → ((one : Stored) (image : Option (List ℕ)) → LeavesFile (Some (f one)) image → LeavesFile (Some (g one)) image)
    → (number n : ℕ) (files : List Stored) (image : Option (List ℕ)) → LeavesFile (slice_get (with_stored f number files) n) image → LeavesFile (slice_get (with_stored g number files) n) image
left_swap f g swap number n [] image leaves = leaves
left_swap f g swap zero zero (one ∷ more) image leaves = swap one image leaves
left_swap f g swap zero (suc n) (one ∷ more) image leaves = leaves
left_swap f g swap (suc number) zero (one ∷ more) image leaves = leaves
left_swap f g swap (suc number) (suc n) (one ∷ more) image leaves = left_swap f g swap number n more image leaves

file_swap : (f g : Stored → Stored) → ((one : Stored) (image : Option (List ℕ)) → LeavesFile (Some (f one)) image → LeavesFile (Some (g one)) image)
    → (number other : Option ℕ) (files : List Stored) (image : Option (List ℕ)) → LeavesFile (option_and_then (λ n. slice_get (with_changed f number files) n) other) image
    → LeavesFile (option_and_then (λ n. slice_get (with_changed g number files) n) other) image
file_swap f g swap number None files image leaves = leaves
file_swap f g swap None (Some n) files image leaves = leaves
file_swap f g swap (Some number) (Some n) files image leaves = left_swap f g swap number n files image leaves

stored_same : (number : ℕ) (files : List Stored) → with_stored (λ one. one) number files ≡ files
stored_same number [] = refl
stored_same zero (one ∷ more) = refl
stored_same (suc number) (one ∷ more) = ap (λ (files : List Stored). one ∷ files) (stored_same number more)

changed_same : (number : Option ℕ) (files : List Stored) → with_changed (λ one. one) number files ≡ files
changed_same None files = refl
changed_same (Some number) files = stored_same number files

safe_back : (one : Stored) (image : Option (List ℕ)) → LeavesFile (Some (made_safe one)) image → LeavesFile (Some one) image
safe_back one image leaves =
    let P : Option (List ℕ) → Type 0 = λ bytes. LeavesFile (Some one) bytes in
    subst P (sym (safe_left (Some one) image leaves)) (file_now_leaves (Some one))

-- A sync only takes images away.
pub sync_takes : (name : FileName) (disk : Disk) (image : Files) → Leaves (synced name disk) image → Leaves disk image
sync_takes name disk image leaves =
    let number : Option ℕ = number_of name (names_now disk) in
    record {
      kept = leaves.kept;
      each = λ other.
          (let of_other : Option ℕ = number_of other (after_renames disk.names (take leaves.kept disk.renames)) in
          let P : List Stored → Type 0 = λ files. LeavesFile (option_and_then (λ n. slice_get files n) of_other) (file other image) in
          subst P (changed_same number disk.files) (file_swap made_safe (λ one. one) safe_back number of_other disk.files (file other image) (leaves.each other)));
    }

pub names_sync_takes : (disk : Disk) (image : Files) → Leaves (names_synced disk) image → Leaves disk image
names_sync_takes disk image leaves = record {
  kept = length disk.renames;
  each = λ other.
      (let P : List NameChange → Type 0 = λ renames. LeavesFile (stored other (after_renames disk.names renames) disk.files) (file other image) in
      let none : take leaves.kept (names_synced disk).renames ≡ [] = take-nil leaves.kept in
      let Q : List NameChange → Type 0 = λ renames. LeavesFile (stored other (after_renames (names_now disk) renames) disk.files) (file other image) in
      let here : P disk.renames = subst Q none (leaves.each other) in
      subst P (sym (take_all (length disk.renames) disk.renames (omega arith))) here);
}

-- one change more: what is left of it was left before, or the change came in part behind all others
left_more : (bytes : List ℕ) (changes : List Change) (one : Change) (image : List ℕ) → LeavesBytes bytes (changes ++ one ∷ []) image
    → LeavesBytes bytes changes image ⊎ Partly (after_changes bytes changes) one image
left_more bytes [] one image (inl part) = inr part
left_more bytes [] (Change.Added more) image (inr all) = inr (length more, all ∙ ap (λ (back : List ℕ). bytes ++ back) (sym (take_all (length more) more (omega arith))))
left_more bytes [] (Change.CutTo kept) image (inr all) = inr (kept, (omega arith), all)
left_more bytes (change ∷ changes) one image (inl part) = inl (inl part)
left_more bytes (change ∷ changes) one image (inr leaves) = elim (left_more (changed bytes change) changes one image leaves) [
  | inl before ↦ inl (inr before)
  | inr part ↦ inr part
]

file_more : (file : Stored) (one : Change) (image : Option (List ℕ)) → LeavesFile (Some (with_change one file)) image
    → LeavesFile (Some file) image ⊎ ((bytes : List ℕ) × (image ≡ Some bytes) × Partly (bytes_now file) one bytes)
file_more file one image leaves = elim (left_more file.synced file.changes one leaves.0 leaves.2) [
  | inl before ↦ inl (leaves.0, leaves.1, before)
  | inr part ↦ inr (leaves.0, leaves.1, part)
]

-- which name has a number, if one has
has_number : (number : Option ℕ) (n : ℕ) → (number ≡ Some n) ⊎ (number ≢ Some n)
has_number None n = inr (λ e. cc)
has_number (Some m) n = elim (cases_eq m n) [
  | inl same ↦ inl (ap Some same)
  | inr ne ↦ inr (λ e. ne (cc))
]

-- the names that a crash leaves are distinct too
left_distinct : (disk : Disk) (kept : ℕ) → IsSound disk → AreDistinct (after_renames disk.names (take kept disk.renames))
left_distinct disk kept sound =
    after_distinct sound.bound disk.names (take kept disk.renames) (length disk.files) sound.distinct sound.below (fresh_front kept sound.bound disk.renames (length disk.files) sound.fresh)

find : (names : Names) (n : ℕ) → ((under : FileName) × (number_of under names ≡ Some n)) ⊎ ((other : FileName) → number_of other names ≢ Some n)
find names n = elim (has_number names.log n) [
  | inl has ↦ inl (Log, has)
  | inr log ↦ elim (has_number names.log_temp n) [
    | inl has ↦ inl (LogTemp, has)
    | inr log_temp ↦ elim (has_number names.dump n) [
      | inl has ↦ inl (Dump, has)
      | inr dump ↦ elim (has_number names.dump_temp n) [
        | inl has ↦ inl (DumpTemp, has)
        | inr dump_temp ↦ inr (λ other. elim other as (λ o. number_of o names ≢ Some n) [ Log ↦ log | LogTemp ↦ log_temp | Dump ↦ dump | DumpTemp ↦ dump_temp ])
      ]
    ]
  ]
]

-- an image in which a file stands under a name, and what is left of each other
record Standing (change : Stored → Stored) (disk : Disk) (image : Files) (n : ℕ) : Type 0 where
  kept : ℕ
  under : FileName
  has : number_of under (after_renames disk.names (take kept disk.renames)) ≡ Some n
  each : (other : FileName) → LeavesFile (option_and_then (λ m. slice_get (with_stored change n disk.files) m) (number_of other (after_renames disk.names (take kept disk.renames)))) (file other image)

-- the disk leaves what has all of it but that file, where it leaves that
standing_left : (change : Stored → Stored) (disk : Disk) (image new : Files) (n : ℕ) → IsSound disk → (at : Standing change disk image n)
    → ((other : FileName) → other ≢ at.under → file other new ≡ file other image) → LeavesFile (slice_get disk.files n) (file at.under new) → Leaves disk new
standing_left change disk image new n sound at same there =
    let names : Names = after_renames disk.names (take at.kept disk.renames) in
    record {
      kept = at.kept;
      each = λ other. elim (same_name other at.under) [
        | inl is ↦ (let P : FileName → Type 0 = λ name. LeavesFile (stored name names disk.files) (file name new) in
            let Q : Option ℕ → Type 0 = λ number. LeavesFile (option_and_then (λ m. slice_get disk.files m) number) (file at.under new) in
            subst P (sym is) (subst Q (sym at.has) there))
        | inr ne ↦ (let P : Option (List ℕ) → Type 0 = λ bytes. LeavesFile (stored other names disk.files) bytes in
            let Q : Option Stored → Type 0 = λ one. LeavesFile one (file other image) in
            subst P (sym (same other ne)) (subst Q (changed_elsewhere change (Some n) (number_of other names) disk.files
            (λ m has_other has_n. ne (left_distinct disk at.kept sound other at.under m has_other (at.has ∙ has_n)))) (at.each other)))
      ];
    }

-- What is left behind one change more of a name's file: what was left before, or the file whole and
-- the change in part.
record IsPartly (name : FileName) (one : Change) (disk : Disk) (image : Files) : Type 0 where
  before : Files
  leaves : Leaves disk before
  under : FileName
  at_home : IsSettled name disk → under ≡ name
  now : List ℕ
  bytes : List ℕ
  there : file under before ≡ Some now
  reads_now : file name (reads disk) ≡ Some now
  part : Partly now one bytes
  is : image ≡ put under (Some bytes) before

put_put : (name : FileName) (one other : Option (List ℕ)) (files : Files) → put name one (put name other files) ≡ put name one files
put_put Log one other files = refl
put_put LogTemp one other files = refl
put_put Dump one other files = refl
put_put DumpTemp one other files = refl

standing_partly : (name : FileName) (one : Change) (disk : Disk) (image : Files) (n : ℕ) (found : Stored) → IsSound disk → number_of name (names_now disk) ≡ Some n
    → slice_get disk.files n ≡ Some found → (at : Standing (with_change one) disk image n) → (bytes : List ℕ) → file at.under image ≡ Some bytes → Partly (bytes_now found) one bytes
    → IsPartly name one disk image
standing_partly name one disk image n found sound number is_found at bytes is part =
    let before : Files = put at.under (Some (bytes_now found)) image in
    let there : file at.under before ≡ Some (bytes_now found) = file_there at.under (Some (bytes_now found)) image in
    let P : Option Stored → Type 0 = λ file. LeavesFile file (Some (bytes_now found)) in
    let Q : Option (List ℕ) → Type 0 = λ now. LeavesFile (slice_get disk.files n) now in
    record {
      before = before;
      leaves = standing_left (with_change one) disk image before n sound at (λ other ne. file_elsewhere other at.under (Some (bytes_now found)) image ne)
          (subst Q (sym there) (subst P (sym is_found) (file_now_leaves (Some found))));
      under = at.under;
      at_home = λ settled. left_distinct disk at.kept sound at.under name n at.has (settled_number name disk at.kept settled ∙ number);
      now = bytes_now found;
      bytes = bytes;
      there = there;
      reads_now = read_at name disk ∙ ap (λ (o : Option ℕ). option_map bytes_now (option_and_then (λ m. slice_get disk.files m) o)) number ∙ ap (option_map bytes_now) is_found;
      part = part;
      is = sym (put_same at.under image) ∙ ap (λ (now : Option (List ℕ)). put at.under now image) is ∙ sym (put_put at.under (Some bytes) (Some (bytes_now found)) image);
    }

standing_more : (name : FileName) (one : Change) (disk : Disk) (image : Files) (n : ℕ) (found : Option Stored) → IsSound disk → number_of name (names_now disk) ≡ Some n
    → slice_get disk.files n ≡ found → (at : Standing (with_change one) disk image n) → LeavesFile (option_map (with_change one) found) (file at.under image)
    → Leaves disk image ⊎ IsPartly name one disk image
standing_more name one disk image n None sound number is_found at there =
    let P : Option Stored → Type 0 = λ some. LeavesFile some (file at.under image) in
    inl (standing_left (with_change one) disk image image n sound at (λ other ne. refl) (subst P (sym is_found) there))
standing_more name one disk image n (Some found) sound number is_found at there = elim (file_more found one (file at.under image) there) [
  | inl before ↦ (let P : Option Stored → Type 0 = λ some. LeavesFile some (file at.under image) in
      inl (standing_left (with_change one) disk image image n sound at (λ other ne. refl) (subst P (sym is_found) before)))
  | inr part ↦ inr (standing_partly name one disk image n found sound number is_found at part.0 part.1 part.2)
]

by_number : (name : FileName) (one : Change) (disk : Disk) (image : Files) (kept : ℕ) (number : Option ℕ) → IsSound disk → number_of name (names_now disk) ≡ number
    → ((other : FileName) → LeavesFile (option_and_then (λ m. slice_get (with_changed (with_change one) number disk.files) m) (number_of other (after_renames disk.names (take kept disk.renames)))) (file other image))
    → Leaves disk image ⊎ IsPartly name one disk image
by_number name one disk image kept None sound number each = inl (record { kept = kept; each = each })
by_number name one disk image kept (Some n) sound number each =
    let names : Names = after_renames disk.names (take kept disk.renames) in
    elim (find names n) [
      | inl found ↦ (let at : Standing (with_change one) disk image n = record { kept = kept; under = found.0; has = found.1; each = each } in
          let P : Option ℕ → Type 0 = λ o. LeavesFile (option_and_then (λ m. slice_get (with_stored (with_change one) n disk.files) m) o) (file found.0 image) in
          let Q : Option Stored → Type 0 = λ some. LeavesFile some (file found.0 image) in
          standing_more name one disk image n (slice_get disk.files n) sound number refl at (subst Q (stored_there (with_change one) n disk.files) (subst P found.1 (each found.0))))
      | inr none ↦ inl (record {
        kept = kept;
        each = λ other.
            (let Q : Option Stored → Type 0 = λ some. LeavesFile some (file other image) in
            subst Q (changed_elsewhere (with_change one) (Some n) (number_of other names) disk.files (λ m has_other has_n. none other (has_other ∙ sym has_n))) (each other));
      })
    ]

change_adds : (name : FileName) (one : Change) (disk : Disk) (image : Files) → IsSound disk → Leaves (on_file name (with_change one) disk) image → Leaves disk image ⊎ IsPartly name one disk image
change_adds name one disk image sound leaves = by_number name one disk image leaves.kept (number_of name (names_now disk)) sound refl leaves.each

-- What an append adds: the front of what was appended.
pub append_adds : (name : FileName) (bytes : List ℕ) (disk : Disk) (image : Files) → IsSound disk → Leaves (appended name bytes disk) image
    → Leaves disk image ⊎ ((count : ℕ) × IsChangedImage name (λ under. with_appended under (take count bytes)) disk image)
append_adds name bytes disk image sound leaves = elim (change_adds name (Change.Added bytes) disk image sound leaves) [
  | inl before ↦ inl before
  | inr at ↦ inr (
    at.part.0,
    record {
      before = at.before;
      leaves = at.leaves;
      under = at.under;
      at_home = at.at_home;
      whole = at.there ∙ sym at.reads_now;
      changed = at.is ∙ ap (λ (now : List ℕ). put at.under (Some now) at.before) at.part.1
          ∙ ap (λ (now : Option (List ℕ)). put at.under (option_map (λ old. old ++ take at.part.0 bytes) now) at.before) (sym at.there);
    },
  )
]

-- What a cut adds: the file cut somewhere from there on.
pub cut_adds : (name : FileName) (length : ℕ) (disk : Disk) (image : Files) → IsSound disk → Leaves (cut_to name length disk) image
    → Leaves disk image ⊎ ((count : ℕ) × (length ≤ count) × IsChangedImage name (λ under. with_cut under count) disk image)
cut_adds name length disk image sound leaves = elim (change_adds name (Change.CutTo length) disk image sound leaves) [
  | inl before ↦ inl before
  | inr at ↦ inr (
    at.part.0,
    at.part.1,
    record {
      before = at.before;
      leaves = at.leaves;
      under = at.under;
      at_home = at.at_home;
      whole = at.there ∙ sym at.reads_now;
      changed = at.is ∙ ap (λ (now : List ℕ). put at.under (Some now) at.before) at.part.2
          ∙ ap (λ (now : Option (List ℕ)). put at.under (option_map (take at.part.0) now) at.before) (sym at.there);
    },
  )
]

-- the changes of names that a crash keeps, where there is one more
renames_kept : (renames : List NameChange) (one : NameChange) (kept : ℕ) → (take kept (renames ++ one ∷ []) ≡ take kept renames) ⊎ (take kept (renames ++ one ∷ []) ≡ renames ++ one ∷ [])
renames_kept renames one kept = elim (cases_lt (length renames) kept) [
  | inl all ↦ inr (take_all kept (renames ++ one ∷ []) (let count : length (renames ++ one ∷ []) ≡ length renames + 1 = length-append renames (one ∷ []) in omega (arith, all)))
  | inr some ↦ inl (take-append-le kept renames (one ∷ []) some)
]

-- an image that has after all changes of names what each of them leaves
all_kept : (disk : Disk) (image : Files) → ((other : FileName) → LeavesFile (stored other (names_now disk) disk.files) (file other image)) → Leaves disk image
all_kept disk image each = record {
  kept = length disk.renames;
  each = λ other. (let P : List NameChange → Type 0 = λ renames. LeavesFile (stored other (after_renames disk.names renames) disk.files) (file other image) in
      subst P (sym (take_all (length disk.renames) disk.renames (omega arith))) (each other));
}

-- a new name for an empty file
created_before : (name : FileName) (disk : Disk) (image : Files) → IsSound disk
    → ((other : FileName) → LeavesFile (stored other (names_now (created name disk)) (created name disk).files) (file other image))
    → (before : Files) × Leaves disk before × (image ≡ with_file name [] before)
created_before name disk image sound each =
    let files : List Stored = disk.files ++ settled [] ∷ [] in
    let now : Option (List ℕ) = option_map bytes_now (stored name (names_now disk) disk.files) in
    let before : Files = put name now image in
    let number : number_of name (names_now (created name disk)) ≡ Some (length disk.files) = rw names_created (number_there name (Some (length disk.files)) (names_now disk)) in
    let P : Option ℕ → Type 0 = λ o. LeavesFile (option_and_then (λ n. slice_get files n) o) (file name image) in
    let Q : Option Stored → Type 0 = λ one. LeavesFile one (file name image) in
    let new : LeavesFile (Some (settled [])) (file name image) = subst Q (slice_last disk.files (settled [])) (subst P number (each name)) in
    let is : file name image ≡ Some [] = new.1 ∙ ap Some new.2 in (
      before,
      (all_kept disk before (λ other. elim (same_name other name) [
        | inl same ↦ (let R : FileName → Type 0 = λ o. LeavesFile (stored o (names_now disk) disk.files) (file o before) in
            let S : Option (List ℕ) → Type 0 = λ bytes. LeavesFile (stored name (names_now disk) disk.files) bytes in
            subst R (sym same) (subst S (sym (file_there name now image)) (file_now_leaves (stored name (names_now disk) disk.files))))
        | inr ne ↦ (let S : Option (List ℕ) → Type 0 = λ bytes. LeavesFile (stored other (names_now disk) disk.files) bytes in
            let T : Option Stored → Type 0 = λ one. LeavesFile one (file other image) in
            let unmoved : number_of other (names_now (created name disk)) ≡ number_of other (names_now disk) =
            rw names_created (number_elsewhere other name (Some (length disk.files)) (names_now disk) ne) in
            let U : Option ℕ → Type 0 = λ o. LeavesFile (option_and_then (λ n. slice_get files n) o) (file other image) in
            subst S (sym (file_elsewhere other name now image ne))
            (subst T (stored_before (number_of other (names_now disk)) disk.files (settled []) (names_below disk sound other)) (subst U unmoved (each other))))
      ])),
      (sym (put_same name image) ∙ ap (λ (bytes : Option (List ℕ)). put name bytes image) is ∙ sym (put_put name (Some []) now image)),
    )

-- What a creation adds: an empty file under the name.
pub create_adds : (name : FileName) (disk : Disk) (image : Files) → IsSound disk → Leaves (created name disk) image
    → Leaves disk image ⊎ ((before : Files) × Leaves disk before × (image ≡ with_file name [] before))
create_adds name disk image sound leaves =
    let made : NameChange = NameChange.Created name (length disk.files) in
    let files : List Stored = disk.files ++ settled [] ∷ [] in
    elim (renames_kept disk.renames made leaves.kept) [
      | inl some ↦ inl (record {
        kept = leaves.kept;
        each = λ other.
            (let names : Names = after_renames disk.names (take leaves.kept disk.renames) in
            let P : List NameChange → Type 0 = λ renames. LeavesFile (stored other (after_renames disk.names renames) files) (file other image) in
            let Q : Option Stored → Type 0 = λ one. LeavesFile one (file other image) in
            subst Q (stored_before (number_of other names) disk.files (settled [])
            (after_below sound.bound disk.names (take leaves.kept disk.renames) (length disk.files) sound.below (fresh_front leaves.kept sound.bound disk.renames (length disk.files) sound.fresh) other))
            (subst P some (leaves.each other)));
      })
      | inr all ↦ inr (created_before name disk image sound (λ other.
          (let P : List NameChange → Type 0 = λ renames. LeavesFile (stored other (after_renames disk.names renames) files) (file other image) in
          subst P all (leaves.each other))))
    ]

-- a file that moved
moved_before : (from to : FileName) (disk : Disk) (image : Files)
    → ((other : FileName) → LeavesFile (stored other (names_now (moved from to disk)) disk.files) (file other image))
    → (before : Files) × Leaves disk before × (image ≡ with_moved from to before)
moved_before from to disk image each =
    let now : Option (List ℕ) = option_map bytes_now (stored to (names_now disk) disk.files) in
    let before : Files = put from (file to image) (put to now image) in
    let at : (other : FileName) (number : Option ℕ) → number_of other (names_now (moved from to disk)) ≡ number → LeavesFile (option_and_then (λ n. slice_get disk.files n) number) (file other image) =
    λ other number same. (let P : Option ℕ → Type 0 = λ o. LeavesFile (option_and_then (λ n. slice_get disk.files n) o) (file other image) in subst P same (each other)) in
    let is_there : file from before ≡ file to image = file_there from (file to image) (put to now image) in (
      before,
      (all_kept disk before (λ other. elim (same_name other from) [
        | inl same ↦ (let R : FileName → Type 0 = λ o. LeavesFile (stored o (names_now disk) disk.files) (file o before) in
            let S : Option (List ℕ) → Type 0 = λ bytes. LeavesFile (stored from (names_now disk) disk.files) bytes in
            subst R (sym same) (subst S (sym is_there) (at to (number_of from (names_now disk)) (rw names_moved (number_moved from to (names_now disk))))))
        | inr ne_from ↦ elim (same_name other to) [
          | inl same ↦ (let S : Option (List ℕ) → Type 0 = λ bytes. LeavesFile (stored other (names_now disk) disk.files) bytes in
              let R : FileName → Type 0 = λ o. file o (put to now image) ≡ option_map bytes_now (stored o (names_now disk) disk.files) in
              subst S (sym (file_elsewhere other from (file to image) (put to now image) ne_from ∙ subst R (sym same) (file_there to now image)))
              (file_now_leaves (stored other (names_now disk) disk.files)))
          | inr ne_to ↦ (let S : Option (List ℕ) → Type 0 = λ bytes. LeavesFile (stored other (names_now disk) disk.files) bytes in
              subst S (sym (file_elsewhere other from (file to image) (put to now image) ne_from ∙ file_elsewhere other to now image ne_to))
              (at other (number_of other (names_now disk)) (rw names_moved (number_unmoved other from to (names_now disk) ne_to ne_from))))
        ]
      ])),
      (same_files image (with_moved from to before) (λ other. elim (same_name other to) [
        | inl same ↦ (let R : FileName → Type 0 = λ o. file o image ≡ file o (put to (file from before) (put from None before)) in
            subst R (sym same) (sym (file_there to (file from before) (put from None before) ∙ is_there)))
        | inr ne_to ↦ elim (same_name other from) [
          | inl same ↦ (let R : FileName → Type 0 = λ o. file o image ≡ file o (put from None before) in
              let ne : from ≢ to = λ e. ne_to (same ∙ e) in
              let gone : file from image ≡ None = at from None (rw names_moved (number_gone from to (names_now disk) ne)) in
              subst R (sym same) (gone ∙ sym (file_there from None before)) ∙ sym (file_elsewhere other to (file from before) (put from None before) ne_to))
          | inr ne_from ↦ sym (file_elsewhere other to (file from before) (put from None before) ne_to ∙ file_elsewhere other from None before ne_from
              ∙ file_elsewhere other from (file to image) (put to now image) ne_from ∙ file_elsewhere other to now image ne_to)
        ]
      ])),
    )

-- What a move adds: the file under its new name.
pub rename_adds : (from to : FileName) (disk : Disk) (image : Files) → Leaves (moved from to disk) image
    → Leaves disk image ⊎ ((before : Files) × Leaves disk before × (image ≡ with_moved from to before))
rename_adds from to disk image leaves =
    elim (renames_kept disk.renames (NameChange.Renamed from to) leaves.kept) [
      | inl some ↦ inl (record {
        kept = leaves.kept;
        each = λ other.
            (let P : List NameChange → Type 0 = λ renames. LeavesFile (stored other (after_renames disk.names renames) disk.files) (file other image) in subst P some (leaves.each other));
      })
      | inr all ↦ inr (moved_before from to disk image (λ other.
          (let P : List NameChange → Type 0 = λ renames. LeavesFile (stored other (after_renames disk.names renames) disk.files) (file other image) in subst P all (leaves.each other))))
    ]

-- a front of an append leaves no more than the append
front_taken : (n count : ℕ) (bytes : List ℕ) → take n (take count bytes) ≡ take (min n count) bytes
front_taken zero count bytes = (let none : min 0 count ≡ 0 = omega arith in rw none refl)
front_taken (suc n) zero bytes = (let none : min (suc n) 0 ≡ 0 = omega arith in rw none refl)
front_taken (suc n) (suc count) [] = sym (take-nil (min (suc n) (suc count)))
front_taken (suc n) (suc count) (byte ∷ bytes) =
    let next : min (suc n) (suc count) ≡ suc (min n count) = omega arith in
    rw next (ap (λ (rest : List ℕ). byte ∷ rest) (front_taken n count bytes))

front_left : (count : ℕ) (more bytes : List ℕ) (changes : List Change) (image : List ℕ) → LeavesBytes bytes (changes ++ Change.Added (take count more) ∷ []) image
    → LeavesBytes bytes (changes ++ Change.Added more ∷ []) image
front_left count more bytes [] image (inl part) = inl (min part.0 count, part.1 ∙ ap (λ (back : List ℕ). bytes ++ back) (front_taken part.0 count more))
front_left count more bytes [] image (inr all) = inl (count, all)
front_left count more bytes (change ∷ changes) image (inl part) = inl part
front_left count more bytes (change ∷ changes) image (inr leaves) = inr (front_left count more (changed bytes change) changes image leaves)

front_file : (count : ℕ) (more : List ℕ) (one : Stored) (image : Option (List ℕ)) → LeavesFile (Some (with_change (Change.Added (take count more)) one)) image
    → LeavesFile (Some (with_change (Change.Added more) one)) image
front_file count more one image leaves = (leaves.0, leaves.1, front_left count more one.synced one.changes leaves.0 leaves.2)

front_adds : (name : FileName) (bytes : List ℕ) (count : ℕ) (disk : Disk) (image : Files) → Leaves (appended name (take count bytes) disk) image → Leaves (appended name bytes disk) image
front_adds name bytes count disk image leaves =
    let number : Option ℕ = number_of name (names_now disk) in
    record {
      kept = leaves.kept;
      each = λ other. file_swap (with_change (Change.Added (take count bytes))) (with_change (Change.Added bytes)) (front_file count bytes) number
          (number_of other (after_renames disk.names (take leaves.kept disk.renames))) disk.files (file other image) (leaves.each other);
    }

front_done : (count : ℕ) (call : Call) (disk : Disk) (image : Files) → Leaves (done (front_of count call) disk) image → Leaves (done call disk) image
front_done count (Call.ReadAll name) disk image leaves = leaves
front_done count (Call.Append name bytes) disk image leaves = front_adds name bytes count disk image leaves
front_done count (Call.Cut name length) disk image leaves = leaves
front_done count (Call.Sync name) disk image leaves = leaves
front_done count (Call.Create name) disk image leaves = leaves
front_done count (Call.Rename from to) disk image leaves = leaves
front_done count Call.SyncNames disk image leaves = leaves

-- However a call came out, it leaves nothing else than was left before, or than it leaves where it
-- is done.
pub left_however : (call : Call) (outcome : Outcome) (disk : Disk) (image : Files) → Leaves (left_by call outcome disk) image → Leaves disk image ⊎ Leaves (done call disk) image
left_however call Outcome.Done disk image leaves = inr leaves
left_however call Outcome.FailedDone disk image leaves = inr leaves
left_however call (Outcome.FailedFront count) disk image leaves = inr (front_done count call disk image leaves)
left_however call Outcome.FailedUndone disk image leaves = inl leaves
left_however call Outcome.Unrecorded disk image leaves = inl leaves
