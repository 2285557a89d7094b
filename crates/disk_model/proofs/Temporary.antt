-- A call on a temporary file leaves the log and the dump as they were.
use Rattle.std.proofs.Common.{◌≡◌, ◌≢◌, ◌⊎◌, ◌<◌, ◌≤◌, ◌++◌, ℕ, zero, suc, List, [], ◌∷◌, length, take, Option, Some, ap, subst, refl, inl, inr, arith}
use Rattle.std.specs.List.{slice_get}
use Rattle.std.specs.Option.{option_map, option_and_then}
use Rattle.disk_model.specs.Files.{Files, file}
use Rattle.disk_model.specs.Disk.{Change, Stored, bytes_now, settled, Names, NameChange, number_of, with_number, renamed, after_renames, Disk, names_now, stored, with_change, made_safe, with_changed, on_file, created}
use Rattle.disk_model.specs.Images.{LeavesFile, Leaves}
use Rattle.disk_model.specs.Past.{Call, Outcome, done, left_by}
use Rattle.disk_model.specs.Safe.{names_of}
use Rattle.disk_model.specs.Crash.{OnlyCreated, IsTemporary, LeavesSame}
use Rattle.disk_model.proofs.Sound.{AreDistinct, AreBelow, AreFresh, IsSound}
use Rattle.disk_model.proofs.NameLaws.{number_elsewhere, after_created, created_distinct, created_below, fresh_front, after_below}
use Rattle.disk_model.proofs.DiskLaws.{changed_elsewhere, stored_before}
use Rattle.disk_model.proofs.Images.{file_now_leaves}
use Rattle.disk_model.proofs.Added.{left_however}
use Rattle.disk_model.specs.declared.file_name.FileName.{FileName}
use Rattle.disk_model.specs.declared.file_name.FileName.TheVariants.{Log, LogTemp, Dump, DumpTemp}

-- where a name's number came from, where no file moved
number_from : (name : FileName) (bound : ℕ) (names : Names) (renames : List NameChange) (end number : ℕ) → OnlyCreated renames → AreFresh bound renames end
    → number_of name (after_renames names renames) ≡ Some number → (number_of name names ≡ Some number) ⊎ (bound ≤ number)
number_from name bound names [] end number only fresh has = inl has
number_from name bound names (NameChange.Created other new ∷ more) end number only fresh has =
    elim (number_from name (suc new) (with_number other (Some new) names) more end number only fresh.1 has) [
      | inl given ↦ elim (after_created name other new number names given) [
        | inl one ↦ inr (let low : bound ≤ new = fresh.0 in omega (arith, one.1))
        | inr one ↦ inl one.1
      ]
      | inr late ↦ inr (let low : bound ≤ new = fresh.0 in omega arith)
    ]
number_from name bound names (NameChange.Renamed from to ∷ more) end number only fresh has = absurd only

-- Where no file moved, a file that one name ever stood for is never another's.
never_shared : (name other : FileName) → name ≢ other → (bound : ℕ) (names : Names) (renames : List NameChange) (end kept number : ℕ)
    → AreDistinct names → AreBelow bound names → AreFresh bound renames end → OnlyCreated renames
    → number_of name (after_renames names (take kept renames)) ≡ Some number → number_of other (after_renames names renames) ≡ Some number → ⊥
never_shared name other ne bound names renames end zero number distinct below fresh only has other_has =
    elim (number_from other bound names renames end number only fresh other_has) [
      | inl given ↦ ne (distinct name other number has given)
      | inr late ↦ (let low : number < bound = below name number has in absurd (omega arith))
    ]
never_shared name other ne bound names [] end (suc kept) number distinct below fresh only has other_has = ne (distinct name other number has other_has)
never_shared name other ne bound names (NameChange.Created made new ∷ more) end (suc kept) number distinct below fresh only has other_has =
    never_shared name other ne (suc new) (with_number made (Some new) names) more end kept number
    (created_distinct made new bound names distinct below fresh.0) (created_below made new bound names below fresh.0) fresh.1 only has other_has
never_shared name other ne bound names (NameChange.Renamed from to ∷ more) end (suc kept) number distinct below fresh only has other_has = absurd only

-- the same log and dump, and the temporary files as they read
same_image : (names : Names) (files : List Stored) (image : Files) → Files
same_image names files image = record image {
  log_temp = option_map bytes_now (stored LogTemp names files);
  dump_temp = option_map bytes_now (stored DumpTemp names files);
}

same_each : (names : Names) (files : List Stored) (image : Files) → LeavesFile (stored Log names files) image.log → LeavesFile (stored Dump names files) image.dump
    → (name : FileName) → LeavesFile (stored name names files) (file name (same_image names files image))
unfolding same_image
same_each names files image log dump Log = log
same_each names files image log dump LogTemp = file_now_leaves (stored LogTemp names files)
same_each names files image log dump Dump = dump
same_each names files image log dump DumpTemp = file_now_leaves (stored DumpTemp names files)

same_left : (disk : Disk) (kept : ℕ) (image : Files) → LeavesFile (stored Log (after_renames disk.names (take kept disk.renames)) disk.files) image.log
    → LeavesFile (stored Dump (after_renames disk.names (take kept disk.renames)) disk.files) image.dump → LeavesSame disk image
unfolding same_image
same_left disk kept image log dump =
    let names : Names = after_renames disk.names (take kept disk.renames) in
    record { files = same_image names disk.files image; leaves = record { kept = kept; each = same_each names disk.files image log dump }; log = refl; dump = refl }

not_log : (name : FileName) → IsTemporary name → Log ≢ name
not_log Log temporary same = temporary
not_log LogTemp temporary same = cc
not_log Dump temporary same = temporary
not_log DumpTemp temporary same = cc

not_dump : (name : FileName) → IsTemporary name → Dump ≢ name
not_dump Log temporary same = temporary
not_dump LogTemp temporary same = cc
not_dump Dump temporary same = temporary
not_dump DumpTemp temporary same = cc

-- what a change of one file leaves of another
other_left : (name other : FileName) (change : Stored → Stored) (disk : Disk) (kept : ℕ) (image : Option (List ℕ)) → IsSound disk → OnlyCreated disk.renames → other ≢ name
    → LeavesFile (stored other (after_renames disk.names (take kept disk.renames)) (with_changed change (number_of name (names_now disk)) disk.files)) image
    → LeavesFile (stored other (after_renames disk.names (take kept disk.renames)) disk.files) image
other_left name other change disk kept image sound only ne leaves =
    let P : Option Stored → Type 0 = λ one. LeavesFile one image in
    let names : Names = after_renames disk.names (take kept disk.renames) in
    subst P (changed_elsewhere change (number_of name (names_now disk)) (number_of other names) disk.files
    (λ number has_other has_name. never_shared other name ne sound.bound disk.names disk.renames (length disk.files) kept number sound.distinct sound.below sound.fresh only has_other has_name)) leaves

changed_left : (name : FileName) (change : Stored → Stored) (disk : Disk) (image : Files) → IsSound disk → OnlyCreated disk.renames → IsTemporary name
    → Leaves (on_file name change disk) image → LeavesSame disk image
changed_left name change disk image sound only temporary leaves = same_left disk leaves.kept image
    (other_left name Log change disk leaves.kept image.log sound only (not_log name temporary) (leaves.each Log))
    (other_left name Dump change disk leaves.kept image.dump sound only (not_dump name temporary) (leaves.each Dump))

-- a file made for one name changes no other's number, however many changes a crash keeps
number_kept : (name other : FileName) (new : ℕ) → other ≢ name → (names : Names) (renames : List NameChange) (kept : ℕ)
    → number_of other (after_renames names (take kept (renames ++ NameChange.Created name new ∷ []))) ≡ number_of other (after_renames names (take kept renames))
number_kept name other new ne names renames zero = refl
number_kept name other new ne names [] (suc zero) = number_elsewhere other name (Some new) names ne
number_kept name other new ne names [] (suc (suc kept)) = number_elsewhere other name (Some new) names ne
number_kept name other new ne names (change ∷ renames) (suc kept) = number_kept name other new ne (renamed names change) renames kept

other_kept : (name other : FileName) (disk : Disk) (kept : ℕ) (image : Option (List ℕ)) → IsSound disk → other ≢ name
    → LeavesFile (stored other (after_renames disk.names (take kept (created name disk).renames)) (created name disk).files) image
    → LeavesFile (stored other (after_renames disk.names (take kept disk.renames)) disk.files) image
other_kept name other disk kept image sound ne leaves =
    let P : Option Stored → Type 0 = λ one. LeavesFile one image in
    let files : List Stored = disk.files ++ settled [] ∷ [] in
    let names : Names = after_renames disk.names (take kept disk.renames) in
    let number : P (option_and_then (λ n. slice_get files n) (number_of other names)) =
    subst P (ap (λ (o : Option ℕ). option_and_then (λ n. slice_get files n) o) (number_kept name other (length disk.files) ne disk.names disk.renames kept)) leaves in
    subst P (stored_before (number_of other names) disk.files (settled [])
    (after_below sound.bound disk.names (take kept disk.renames) (length disk.files) sound.below (fresh_front kept sound.bound disk.renames (length disk.files) sound.fresh) other)) number

created_left : (name : FileName) (disk : Disk) (image : Files) → IsSound disk → IsTemporary name → Leaves (created name disk) image → LeavesSame disk image
created_left name disk image sound temporary leaves = same_left disk leaves.kept image
    (other_kept name Log disk leaves.kept image.log sound (not_log name temporary) (leaves.each Log))
    (other_kept name Dump disk leaves.kept image.dump sound (not_dump name temporary) (leaves.each Dump))

-- the name that a call is about
same_one : (a b : FileName) → (a ∷ []) ≡ (b ∷ []) → a ≡ b
same_one a b same = cc

done_left : (name : FileName) (call : Call) (disk : Disk) (image : Files) → IsSound disk → OnlyCreated disk.renames → IsTemporary name → names_of call ≡ name ∷ []
    → Leaves (done call disk) image → LeavesSame disk image
done_left name (Call.ReadAll other) disk image sound only temporary is leaves = absurd (cc)
done_left name (Call.Append other bytes) disk image sound only temporary is leaves =
    let P : FileName → Type 0 = λ n. Leaves (on_file n (with_change (Change.Added bytes)) disk) image in
    changed_left name (with_change (Change.Added bytes)) disk image sound only temporary (subst P (same_one other name is) leaves)
done_left name (Call.Cut other length) disk image sound only temporary is leaves =
    let P : FileName → Type 0 = λ n. Leaves (on_file n (with_change (Change.CutTo length)) disk) image in
    changed_left name (with_change (Change.CutTo length)) disk image sound only temporary (subst P (same_one other name is) leaves)
done_left name (Call.Sync other) disk image sound only temporary is leaves =
    let P : FileName → Type 0 = λ n. Leaves (on_file n made_safe disk) image in
    changed_left name made_safe disk image sound only temporary (subst P (same_one other name is) leaves)
done_left name (Call.Create other) disk image sound only temporary is leaves =
    let P : FileName → Type 0 = λ n. Leaves (created n disk) image in
    created_left name disk image sound temporary (subst P (same_one other name is) leaves)
done_left name (Call.Rename from to) disk image sound only temporary is leaves = absurd (cc)
done_left name Call.SyncNames disk image sound only temporary is leaves = absurd (cc)

-- What a call on a temporary file leaves, some crash before it left under Log and under Dump.
pub temporary_left : (name : FileName) (call : Call) (outcome : Outcome) (disk : Disk) (image : Files) → IsSound disk → OnlyCreated disk.renames → IsTemporary name → names_of call ≡ name ∷ []
    → Leaves (left_by call outcome disk) image → LeavesSame disk image
temporary_left name call outcome disk image sound only temporary is leaves = elim (left_however call outcome disk image leaves) [
  | inl before ↦ same_left disk before.kept image (before.each Log) (before.each Dump)
  | inr after ↦ done_left name call disk image sound only temporary is after
]
