-- What a crash leaves of a safe name, and what keeps it safe.
use Rattle.std.proofs.Common.{◌≡◌, ◌+◌, ◌++◌, ℕ, min, List, [], ◌∷◌, length, take, map, Option, Some, None, refl, sym, ◌∙◌, ap, subst, inl, inr, arith, append_assoc, append-nil}
use Rattle.std.specs.List.{slice_get, concat}
use Rattle.std.specs.Option.{option_map, option_and_then}
use Rattle.std.proofs.lemmas.List.{take-append-le, take_min, map-append}
use Rattle.std.proofs.lemmas.List.Folds.{concat-append}
use Rattle.std.proofs.Math.Seq.{take-append-add}
use Rattle.disk_model.specs.Files.{Files, file}
use Rattle.disk_model.specs.Disk.{Change, after_changes, Stored, bytes_now, settled, NameChange, number_of, Disk, names_now, stored, reads, with_change, made_safe, with_changed, appended, synced, created, names_synced}
use Rattle.disk_model.specs.Images.{LeavesBytes, LeavesFile, Leaves}
use Rattle.disk_model.specs.Past.{Call, Outcome, done, front_of, left_by}
use Rattle.disk_model.specs.Safe.{Touches, IsSettled, IsSynced, IsSafe, IsSafeUpTo, HasFront, IsElsewhere}
use Rattle.disk_model.proofs.Sound.{IsSound}
use Rattle.disk_model.proofs.NameLaws.{number_there, number_elsewhere}
use Rattle.disk_model.proofs.DiskLaws.{read_at, changed_there, changed_elsewhere, names_distinct, names_below, names_created, names_moved, number_unmoved, slice_last, stored_before}
use Rattle.disk_model.proofs.Settled.{all_more, settled_left}
use Rattle.disk_model.specs.declared.file_name.FileName.{FileName}

-- of bytes that came in pieces a first part is left
pieces_left : (bytes : List ℕ) (pieces : List (List ℕ)) (image : List ℕ) → LeavesBytes bytes (map Change.Added pieces) image → (count : ℕ) × (image ≡ bytes ++ take count (concat pieces))
pieces_left bytes [] image leaves = (0, leaves ∙ sym (append-nil bytes))
pieces_left bytes (piece ∷ pieces) image (inl part) =
    let count : ℕ = min part.0 (length piece) in
    (count, part.1 ∙ ap (λ (back : List ℕ). bytes ++ back) (sym (take-append-le count piece (concat pieces) (omega arith) ∙ take_min part.0 piece)))
pieces_left bytes (piece ∷ pieces) image (inr leaves) =
    let rest : (count : ℕ) × (image ≡ (bytes ++ piece) ++ take count (concat pieces)) = pieces_left (bytes ++ piece) pieces image leaves in
    (length piece + rest.0, rest.1 ∙ append_assoc bytes piece (take rest.0 (concat pieces)) ∙ ap (λ (back : List ℕ). bytes ++ back) (sym (take-append-add piece (concat pieces) rest.0)))

pieces_now : (bytes : List ℕ) (pieces : List (List ℕ)) → after_changes bytes (map Change.Added pieces) ≡ bytes ++ concat pieces
pieces_now bytes [] = sym (append-nil bytes)
pieces_now bytes (piece ∷ pieces) = pieces_now (bytes ++ piece) pieces ∙ append_assoc bytes piece (concat pieces)

-- What a crash leaves of a safe name.
pub safe_leaves : (name : FileName) (bytes added : List ℕ) (disk : Disk) (image : Files) → IsSafeUpTo name bytes added disk → Leaves disk image → HasFront name bytes added image
safe_leaves name bytes added disk image safe leaves =
    let P : Option Stored → Type 0 = λ one. LeavesFile one (file name image) in
    let left : P (Some (record { synced = bytes; changes = map Change.Added safe.pieces })) = subst P safe.file (settled_left name disk image safe.settled leaves) in
    let front : (count : ℕ) × (left.0 ≡ bytes ++ take count (concat safe.pieces)) = pieces_left bytes safe.pieces left.0 left.2 in
    (front.0, left.1 ∙ ap Some (front.1 ∙ ap (λ (all : List ℕ). bytes ++ take front.0 all) safe.joined))

pub safe_one : (name : FileName) (bytes : List ℕ) (disk : Disk) (image : Files) → IsSafe name bytes disk → Leaves disk image → file name image ≡ Some bytes
safe_one name bytes disk image safe leaves =
    let P : Option Stored → Type 0 = λ one. LeavesFile one (file name image) in
    let left : P (Some (settled bytes)) = subst P safe.synced (settled_left name disk image safe.settled leaves) in
    left.1 ∙ ap Some left.2

pub safe_reads : (name : FileName) (bytes added : List ℕ) (disk : Disk) → IsSafeUpTo name bytes added disk → file name (reads disk) ≡ Some (bytes ++ added)
safe_reads name bytes added disk safe =
    read_at name disk ∙ ap (option_map bytes_now) safe.file ∙ ap Some (pieces_now bytes safe.pieces ∙ ap (λ (all : List ℕ). bytes ++ all) safe.joined)

pub safe_up_to : (name : FileName) (bytes : List ℕ) (disk : Disk) → IsSafe name bytes disk → IsSafeUpTo name bytes [] disk
safe_up_to name bytes disk safe = record { settled = safe.settled; pieces = []; joined = refl; file = safe.synced }

-- An append adds to what was added.
pub appended_safe : (name : FileName) (bytes added more : List ℕ) (disk : Disk) → IsSafeUpTo name bytes added disk → IsSafeUpTo name bytes (added ++ more) (appended name more disk)
appended_safe name bytes added more disk safe = record {
  settled = safe.settled;
  pieces = safe.pieces ++ more ∷ [];
  joined = concat-append safe.pieces (more ∷ []) ∙ ap (λ (all : List ℕ). all ++ (more ++ [])) safe.joined ∙ ap (λ (back : List ℕ). added ++ back) (append-nil more);
  file = changed_there (with_change (Change.Added more)) (number_of name (names_now disk)) disk.files
      ∙ ap (option_map (with_change (Change.Added more))) safe.file
      ∙ ap (λ (changes : List Change). let one : Stored = record { synced = bytes; changes = changes } in Some one) (sym (map-append Change.Added safe.pieces (more ∷ [])));
}

-- A sync makes it safe.
pub flushed_safe : (name : FileName) (bytes added : List ℕ) (disk : Disk) → IsSafeUpTo name bytes added disk → IsSafe name (bytes ++ added) (synced name disk)
flushed_safe name bytes added disk safe = record {
  settled = safe.settled;
  synced = changed_there made_safe (number_of name (names_now disk)) disk.files
      ∙ ap (option_map made_safe) safe.file
      ∙ ap (λ (now : List ℕ). Some (settled now)) (pieces_now bytes safe.pieces ∙ ap (λ (all : List ℕ). bytes ++ all) safe.joined);
}

made_there : (one : Option Stored) → option_map made_safe one ≡ option_map settled (option_map bytes_now one)
made_there None = refl
made_there (Some one) = refl

pub synced_there : (name : FileName) (bytes : List ℕ) (disk : Disk) → file name (reads disk) ≡ Some bytes → IsSynced name bytes (synced name disk)
synced_there name bytes disk is =
    changed_there made_safe (number_of name (names_now disk)) disk.files
    ∙ made_there (stored name (names_now disk) disk.files)
    ∙ ap (option_map settled) (sym (read_at name disk) ∙ is)

pub created_there : (name : FileName) (disk : Disk) → IsSynced name [] (created name disk)
created_there name disk =
    let files : List Stored = disk.files ++ settled [] ∷ [] in
    let number : number_of name (names_now (created name disk)) ≡ Some (length disk.files) = rw names_created (number_there name (Some (length disk.files)) (names_now disk)) in
    ap (λ (o : Option ℕ). option_and_then (λ n. slice_get files n) o) number ∙ slice_last disk.files (settled [])

pub names_safe : (name : FileName) (bytes : List ℕ) (disk : Disk) → IsSynced name bytes disk → IsSafe name bytes (names_synced disk)
names_safe name bytes disk is = record { settled = tt; synced = is }

-- A call on other names leaves a settled name settled, and its file.
settled_elsewhere : (name : FileName) (call : Call) (disk : Disk) → IsElsewhere name call → IsSettled name disk → IsSettled name (done call disk)
settled_elsewhere name (Call.ReadAll other) disk away is = is
settled_elsewhere name (Call.Append other bytes) disk away is = is
settled_elsewhere name (Call.Cut other length) disk away is = is
settled_elsewhere name (Call.Sync other) disk away is = is
settled_elsewhere name (Call.Create other) disk away is =
    all_more (λ change. ¬ Touches name change) disk.renames (NameChange.Created other (length disk.files)) is (λ same. away.0 same)
settled_elsewhere name (Call.Rename from to) disk away is =
    all_more (λ change. ¬ Touches name change) disk.renames (NameChange.Renamed from to) is (λ one. elim one [ inl same ↦ away.0 same | inr same ↦ away.1.0 same ])
settled_elsewhere name Call.SyncNames disk away is = tt

other_file : (name other : FileName) (change : Stored → Stored) (disk : Disk) → IsSound disk → ¬ (other ≡ name)
    → option_and_then (λ n. slice_get (with_changed change (number_of other (names_now disk)) disk.files) n) (number_of name (names_now disk)) ≡ stored name (names_now disk) disk.files
other_file name other change disk sound ne =
    changed_elsewhere change (number_of other (names_now disk)) (number_of name (names_now disk)) disk.files
    (λ n has_name has_other. ne (sym (names_distinct disk sound name other n has_name has_other)))

stored_elsewhere : (name : FileName) (call : Call) (disk : Disk) → IsSound disk → IsElsewhere name call
    → stored name (names_now (done call disk)) (done call disk).files ≡ stored name (names_now disk) disk.files
stored_elsewhere name (Call.ReadAll other) disk sound away = refl
stored_elsewhere name (Call.Append other bytes) disk sound away = other_file name other (with_change (Change.Added bytes)) disk sound away.0
stored_elsewhere name (Call.Cut other length) disk sound away = other_file name other (with_change (Change.CutTo length)) disk sound away.0
stored_elsewhere name (Call.Sync other) disk sound away = other_file name other made_safe disk sound away.0
stored_elsewhere name (Call.Create other) disk sound away =
    let files : List Stored = disk.files ++ settled [] ∷ [] in
    let number : number_of name (names_now (created other disk)) ≡ number_of name (names_now disk) =
    rw names_created (number_elsewhere name other (Some (length disk.files)) (names_now disk) (λ same. away.0 (sym same))) in
    ap (λ (o : Option ℕ). option_and_then (λ n. slice_get files n) o) number ∙ stored_before (number_of name (names_now disk)) disk.files (settled []) (names_below disk sound name)
stored_elsewhere name (Call.Rename from to) disk sound away =
    ap (λ (o : Option ℕ). option_and_then (λ n. slice_get disk.files n) o)
    (rw names_moved (number_unmoved name from to (names_now disk) (λ same. away.1.0 (sym same)) (λ same. away.0 (sym same))))
stored_elsewhere name Call.SyncNames disk sound away = refl

safe_elsewhere : (name : FileName) (bytes : List ℕ) (call : Call) (disk : Disk) → IsSound disk → IsElsewhere name call → IsSafe name bytes disk → IsSafe name bytes (done call disk)
safe_elsewhere name bytes call disk sound away safe =
    record { settled = settled_elsewhere name call disk away safe.settled; synced = stored_elsewhere name call disk sound away ∙ safe.synced }

up_to_elsewhere : (name : FileName) (bytes added : List ℕ) (call : Call) (disk : Disk) → IsSound disk → IsElsewhere name call
    → IsSafeUpTo name bytes added disk → IsSafeUpTo name bytes added (done call disk)
up_to_elsewhere name bytes added call disk sound away safe =
    record { settled = settled_elsewhere name call disk away safe.settled; pieces = safe.pieces; joined = safe.joined; file = stored_elsewhere name call disk sound away ∙ safe.file }

front_away : (name : FileName) (count : ℕ) (call : Call) → IsElsewhere name call → IsElsewhere name (front_of count call)
front_away name count (Call.ReadAll other) away = away
front_away name count (Call.Append other bytes) away = away
front_away name count (Call.Cut other length) away = away
front_away name count (Call.Sync other) away = away
front_away name count (Call.Create other) away = away
front_away name count (Call.Rename from to) away = away
front_away name count Call.SyncNames away = away

-- A call on other names, however it came out, leaves a safe name safe.
pub safe_stays : (name : FileName) (bytes : List ℕ) (call : Call) (outcome : Outcome) (disk : Disk) → IsSound disk → IsElsewhere name call
    → IsSafe name bytes disk → IsSafe name bytes (left_by call outcome disk)
safe_stays name bytes call Outcome.Done disk sound away safe = safe_elsewhere name bytes call disk sound away safe
safe_stays name bytes call Outcome.FailedDone disk sound away safe = safe_elsewhere name bytes call disk sound away safe
safe_stays name bytes call (Outcome.FailedFront count) disk sound away safe = safe_elsewhere name bytes (front_of count call) disk sound (front_away name count call away) safe
safe_stays name bytes call Outcome.FailedUndone disk sound away safe = safe
safe_stays name bytes call Outcome.Unrecorded disk sound away safe = safe

pub up_to_stays : (name : FileName) (bytes added : List ℕ) (call : Call) (outcome : Outcome) (disk : Disk) → IsSound disk → IsElsewhere name call
    → IsSafeUpTo name bytes added disk → IsSafeUpTo name bytes added (left_by call outcome disk)
up_to_stays name bytes added call Outcome.Done disk sound away safe = up_to_elsewhere name bytes added call disk sound away safe
up_to_stays name bytes added call Outcome.FailedDone disk sound away safe = up_to_elsewhere name bytes added call disk sound away safe
up_to_stays name bytes added call (Outcome.FailedFront count) disk sound away safe =
    up_to_elsewhere name bytes added (front_of count call) disk sound (front_away name count call away) safe
up_to_stays name bytes added call Outcome.FailedUndone disk sound away safe = safe
up_to_stays name bytes added call Outcome.Unrecorded disk sound away safe = safe
