-- How a safe name comes through a call.
use Rattle.std.proofs.Common.{◌≡◌, ◌++◌, ℕ, min, List, [], length, take, Option, Some, None, sym, ◌∙◌, ap, arith, append-nil}
use Rattle.std.specs.Option.{option_map, IfSome}
use Rattle.std.proofs.lemmas.List.{take-append-le, take_min}
use Rattle.disk_model.specs.Files.{Files, file}
use Rattle.disk_model.specs.Disk.{Disk, reads}
use Rattle.disk_model.specs.Past.{Call, Outcome, MayFail, Past, done, left_by, disk_now, files_now}
use Rattle.disk_model.specs.Told.{Told, files_told, disk_told, Now, Goes, Fails, Was}
use Rattle.disk_model.specs.Safe.{IsSynced, IsSafe, IsSafeUpTo, HasFront, IsElsewhere}
use Rattle.disk_model.specs.Runs.{LeavesOnly}
use Rattle.disk_model.proofs.Past.{now_sound}
use Rattle.disk_model.proofs.Safe.{safe_leaves, appended_safe, flushed_safe, synced_there, created_there, names_safe, safe_stays, up_to_stays}
use Rattle.disk_model.proofs.Moments.{now_step, by_call, by_sync, may_leave, now_map}
use Rattle.disk_model.specs.declared.file_name.FileName.{FileName}

pub elsewhere : (name : FileName) (bytes : List ℕ) (call : Call) (old new : Told) → Was call old new → IsElsewhere name call
    → Now (IsSafe name bytes) old → Now (IsSafe name bytes) new
elsewhere name bytes call old new was away now =
    now_step (IsSafe name bytes) (IsSafe name bytes) call was.outcome old new was.goes (λ past safe. safe_stays name bytes call was.outcome (disk_now past) (now_sound past) away safe) now

pub elsewhere_up_to : (name : FileName) (bytes added : List ℕ) (call : Call) (old new : Told) → Was call old new → IsElsewhere name call
    → Now (IsSafeUpTo name bytes added) old → Now (IsSafeUpTo name bytes added) new
elsewhere_up_to name bytes added call old new was away now =
    now_step (IsSafeUpTo name bytes added) (IsSafeUpTo name bytes added) call was.outcome old new was.goes
    (λ past safe. up_to_stays name bytes added call was.outcome (disk_now past) (now_sound past) away safe) now

pub appended : (name : FileName) (bytes added more : List ℕ) (old new : Told) → Goes (Call.Append name more) Outcome.Done old new
    → Now (IsSafeUpTo name bytes added) old → Now (IsSafeUpTo name bytes (added ++ more)) new
appended name bytes added more old new goes now =
    now_step (IsSafeUpTo name bytes added) (IsSafeUpTo name bytes (added ++ more)) (Call.Append name more) Outcome.Done old new goes
    (λ past safe. appended_safe name bytes added more (disk_now past) safe) now

more_none : (name : FileName) (bytes added : List ℕ) (disk : Disk) → IsSafeUpTo name bytes added disk → IsSafeUpTo name bytes (added ++ []) disk
more_none name bytes added disk safe =
    record { settled = safe.settled; pieces = safe.pieces; joined = safe.joined ∙ sym (append-nil added); file = safe.file }

front_added : (name : FileName) (bytes added more : List ℕ) (outcome : Outcome) (old new : Told) → MayFail (Call.Append name more) outcome → Goes (Call.Append name more) outcome old new
    → Now (IsSafeUpTo name bytes added) old → (count : ℕ) × Now (IsSafeUpTo name bytes (added ++ take count more)) new
front_added name bytes added more Outcome.Done old new may goes now = absurd may
front_added name bytes added more Outcome.FailedDone old new may goes now = absurd may
front_added name bytes added more (Outcome.FailedFront count) old new may goes now = (
  count,
  now_step (IsSafeUpTo name bytes added) (IsSafeUpTo name bytes (added ++ take count more)) (Call.Append name more) (Outcome.FailedFront count) old new goes
      (λ past safe. appended_safe name bytes added (take count more) (disk_now past) safe) now,
)
front_added name bytes added more Outcome.FailedUndone old new may goes now = (
  0,
  now_step (IsSafeUpTo name bytes added) (IsSafeUpTo name bytes (added ++ [])) (Call.Append name more) Outcome.FailedUndone old new goes
      (λ past safe. more_none name bytes added (disk_now past) safe) now,
)
front_added name bytes added more Outcome.Unrecorded old new may goes now = (
  0,
  now_step (IsSafeUpTo name bytes added) (IsSafeUpTo name bytes (added ++ [])) (Call.Append name more) Outcome.Unrecorded old new goes
      (λ past safe. more_none name bytes added (disk_now past) safe) now,
)

pub append_failed : (name : FileName) (bytes added more : List ℕ) (old new : Told) → Fails (Call.Append name more) old new
    → Now (IsSafeUpTo name bytes added) old → (count : ℕ) × Now (IsSafeUpTo name bytes (added ++ take count more)) new
append_failed name bytes added more old new fails now = front_added name bytes added more fails.outcome old new fails.may fails.goes now

unsynced : (name : FileName) (bytes added : List ℕ) (outcome : Outcome) (old new : Told) → MayFail (Call.Sync name) outcome → Goes (Call.Sync name) outcome old new
    → Now (IsSafeUpTo name bytes added) old → Now (IsSafeUpTo name bytes added) new
unsynced name bytes added Outcome.Done old new may goes now = absurd may
unsynced name bytes added Outcome.FailedDone old new may goes now = absurd may
unsynced name bytes added (Outcome.FailedFront count) old new may goes now = absurd may
unsynced name bytes added Outcome.FailedUndone old new may goes now =
    now_step (IsSafeUpTo name bytes added) (IsSafeUpTo name bytes added) (Call.Sync name) Outcome.FailedUndone old new goes (λ past safe. safe) now
unsynced name bytes added Outcome.Unrecorded old new may goes now =
    now_step (IsSafeUpTo name bytes added) (IsSafeUpTo name bytes added) (Call.Sync name) Outcome.Unrecorded old new goes (λ past safe. safe) now

pub sync_failed : (name : FileName) (bytes added : List ℕ) (old new : Told) → Fails (Call.Sync name) old new
    → Now (IsSafeUpTo name bytes added) old → Now (IsSafeUpTo name bytes added) new
sync_failed name bytes added old new fails now = unsynced name bytes added fails.outcome old new fails.may fails.goes now

-- What makes a name safe.
pub flushed : (name : FileName) (bytes added : List ℕ) (old new : Told) → Goes (Call.Sync name) Outcome.Done old new
    → Now (IsSafeUpTo name bytes added) old → Now (IsSafe name (bytes ++ added)) new
flushed name bytes added old new goes now =
    now_step (IsSafeUpTo name bytes added) (IsSafe name (bytes ++ added)) (Call.Sync name) Outcome.Done old new goes (λ past safe. flushed_safe name bytes added (disk_now past) safe) now

Reads : FileName → List ℕ → Disk → Type 0
Reads name bytes disk = file name (reads disk) ≡ Some bytes

reads_option : (name : FileName) (bytes : List ℕ) (past : Option Past) → IfSome (option_map files_now past) (λ files. file name files ≡ Some bytes) → IfSome (option_map disk_now past) (Reads name bytes)
unfolding Reads files_now
reads_option name bytes None is = tt
reads_option name bytes (Some past) is = is

there : (name : FileName) (bytes : List ℕ) (disk : Disk) → Reads name bytes disk → IsSynced name bytes (left_by (Call.Sync name) Outcome.Done disk)
unfolding Reads
there name bytes disk is = synced_there name bytes disk is

pub synced : (name : FileName) (bytes : List ℕ) (old new : Told) → Goes (Call.Sync name) Outcome.Done old new
    → IfSome (files_told old) (λ files. file name files ≡ Some bytes) → Now (IsSynced name bytes) new
synced name bytes old new goes is =
    now_step (Reads name bytes) (IsSynced name bytes) (Call.Sync name) Outcome.Done old new goes (λ past has. there name bytes (disk_now past) has) (reads_option name bytes old.past is)

all_pasts : (past : Option Past) → IfSome (option_map disk_now past) (λ disk. Unit {0})
all_pasts None = tt
all_pasts (Some past) = tt

pub created : (name : FileName) (old new : Told) → Goes (Call.Create name) Outcome.Done old new → Now (IsSynced name []) new
created name old new goes =
    now_step (λ disk. Unit {0}) (IsSynced name []) (Call.Create name) Outcome.Done old new goes (λ past any. created_there name (disk_now past)) (all_pasts old.past)

pub names_synced : (name : FileName) (bytes : List ℕ) (old new : Told) → Goes Call.SyncNames Outcome.Done old new
    → Now (IsSynced name bytes) old → Now (IsSafe name bytes) new
names_synced name bytes old new goes now =
    now_step (IsSynced name bytes) (IsSafe name bytes) Call.SyncNames Outcome.Done old new goes (λ past is. names_safe name bytes (disk_now past) is) now

-- A front of what was added is one of that and more.
pub front_further : (name : FileName) (bytes added more : List ℕ) (image : Files) → HasFront name bytes added image → HasFront name bytes (added ++ more) image
front_further name bytes added more image has =
    let count : ℕ = min has.0 (length added) in
    (count, has.1 ∙ ap (λ (back : List ℕ). Some (bytes ++ back)) (sym (take-append-le count added more (omega arith) ∙ take_min has.0 added)))

-- An append, however it came out, leaves the synced bytes and a front of the others.
pub append_leaves : (name : FileName) (bytes added more : List ℕ) (old new : Told) → Was (Call.Append name more) old new → Now (IsSafeUpTo name bytes added) old
    → LeavesOnly old new (HasFront name bytes (added ++ more))
append_leaves name bytes added more old new was safe =
    let call : Call = Call.Append name more in
    by_call call old new (HasFront name bytes (added ++ more)) was
    (may_leave (IsSafeUpTo name bytes added) (HasFront name bytes (added ++ more)) (disk_told old) safe
    (λ disk image is leaves. front_further name bytes added more image (safe_leaves name bytes added disk image is leaves)))
    (may_leave (IsSafeUpTo name bytes (added ++ more)) (HasFront name bytes (added ++ more)) (option_map (done call) (disk_told old))
    (now_map (IsSafeUpTo name bytes added) (IsSafeUpTo name bytes (added ++ more)) (done call) (disk_told old) safe (λ disk is. appended_safe name bytes added more disk is))
    (λ disk image is leaves. safe_leaves name bytes (added ++ more) disk image is leaves))

-- So does a sync.
pub sync_leaves : (name : FileName) (bytes added : List ℕ) (old new : Told) → Was (Call.Sync name) old new → Now (IsSafeUpTo name bytes added) old → LeavesOnly old new (HasFront name bytes added)
sync_leaves name bytes added old new was safe =
    by_sync name old new (HasFront name bytes added) was
    (may_leave (IsSafeUpTo name bytes added) (HasFront name bytes added) (disk_told old) safe (λ disk image is leaves. safe_leaves name bytes added disk image is leaves))
