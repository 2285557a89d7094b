-- Serves the clauses of `make_safe` and of the parts of it: what is synced, and how the files are
-- left.
use Rattle.std.specs.Prelude.{⊤}
use Rattle.std.proofs.Common.{◌≡◌, ◌⊎◌, ℕ, List, [], take, Option, Some, None, IfSome, OnOk, OnErr, Result, Ok, Err, refl, ap, ◌∙◌, inl, inr}
use Rattle.std.specs.Option.{option_map}
use Rattle.disk_model.specs.declared.file_name.FileName.TheVariants.{Log}
use Rattle.disk_model.specs.Files.{Files, file, with_file, with_cut, Become, Stay}
use Rattle.disk_model.specs.Disk.{Disk, reads}
use Rattle.disk_model.specs.Past.{Call, Outcome, Past, disk_now, files_now}
use Rattle.disk_model.specs.Told.{Told, Now, Goes, Fails, files_told, disk_told}
use Rattle.disk_model.specs.Runs.{MayLeave}
use Rattle.disk_model.specs.Safe.{IsSynced, IsSafe}
use Rattle.disk_model.proofs.Failures.{cut_failed, was_made}
use Rattle.disk_model.proofs.Moments as moments
use Rattle.disk_model.proofs.Moments.{now_step}
use Rattle.disk_model.proofs.Safe.{synced_there, created_there, names_safe}
use Rattle.restart.specs.Restart.{RestartsAsLeft}
use Rattle.restart.specs.inner.Keeping.{LeavesNothingNew, RestartsAsAtFirst}
use Rattle.restart.proofs.Crash.{as_it_is, crash_further}

pub always_on_err : {T E : Type 0} (r : Result T E) (P : Type 0) → P → OnErr r P
always_on_err (Ok x) P p = tt
always_on_err (Err e) P p = p

reads_log : (bytes : List ℕ) (past : Option Past) → IfSome (option_map files_now past) (λ known. known.log ≡ Some bytes) → IfSome (option_map disk_now past) (λ disk. file Log (reads disk) ≡ Some bytes)
unfolding files_now
reads_log bytes None there = tt
reads_log bytes (Some past) there = there

-- the disk reads as the files
disk_there : (bytes : List ℕ) (told : Told) → IfSome (files_told told) (λ known. known.log ≡ Some bytes) → Now (λ disk. file Log (reads disk) ≡ Some bytes) told
disk_there bytes told there = reads_log bytes told.past there

-- the log is synced
pub synced_told : (bytes : List ℕ) (old new : Told) → Goes (Call.Sync Log) Outcome.Done old new → IfSome (files_told old) (λ known. known.log ≡ Some bytes) → Now (IsSynced Log bytes) new
synced_told bytes old new goes there =
    now_step (λ disk. file Log (reads disk) ≡ Some bytes) (IsSynced Log bytes) (Call.Sync Log) Outcome.Done old new goes (λ past is. synced_there Log bytes (disk_now past) is) (disk_there bytes old there)

pub synced_ok : {T E : Type 0} (result : Result T E) (bytes : List ℕ) (old new : Told)
    → OnOk result (Goes (Call.Sync Log) Outcome.Done old new)
    → IfSome (files_told old) (λ known. known.log ≡ Some bytes)
    → OnOk result (Now (IsSynced Log bytes) new)
synced_ok (Ok x) bytes old new goes there = synced_told bytes old new goes there
synced_ok (Err e) bytes old new goes there = tt

anything : (o : Option Disk) → IfSome o (λ disk. ⊤)
anything None = tt
anything (Some disk) = tt

-- a new log is synced, and empty
pub created_told : (old new : Told) → Goes (Call.Create Log) Outcome.Done old new → Now (IsSynced Log []) new
created_told old new goes =
    now_step (λ disk. ⊤) (IsSynced Log []) (Call.Create Log) Outcome.Done old new goes (λ past is. created_there Log (disk_now past)) (anything (disk_told old))

-- with its name it is safe
pub names_told : (bytes : List ℕ) (old new : Told) → Goes Call.SyncNames Outcome.Done old new → Now (IsSynced Log bytes) old → Now (IsSafe Log bytes) new
names_told bytes old new goes synced =
    now_step (IsSynced Log bytes) (IsSafe Log bytes) Call.SyncNames Outcome.Done old new goes (λ past is. names_safe Log bytes (disk_now past) is) synced

-- a log of these bytes that is cut
pub cut_log : (bytes : List ℕ) (kept : ℕ) (old new : Option Files) → IfSome old (λ known. known.log ≡ Some bytes) → Become (with_cut Log kept) old new → Become (with_file Log (take kept bytes)) old new
cut_log bytes kept None new there become = become
cut_log bytes kept (Some files) new there become = become ∙ ap (λ (log : Option (List ℕ)). Some (record files { log = option_map (take kept) log })) there

pub cut_or_not : (bytes : List ℕ) (kept : ℕ) (old new : Told) → IfSome (files_told old) (λ known. known.log ≡ Some bytes) → Fails (Call.Cut Log kept) old new
    → Stay (files_told old) (files_told new) ⊎ Become (with_file Log (take kept bytes)) (files_told old) (files_told new)
cut_or_not bytes kept old new there fails = elim (cut_failed Log kept old new fails) [
  | inl stay ↦ inl stay
  | inr become ↦ inr (cut_log bytes kept (files_told old) (files_told new) there become)
]

-- a sync of the log leaves nothing new
pub sync_adds_nothing : {T E : Type 0} (result : Result T E) (old new : Told)
    → OnOk result (Goes (Call.Sync Log) Outcome.Done old new)
    → OnErr result (Fails (Call.Sync Log) old new) → LeavesNothingNew old new
sync_adds_nothing result old new goes fails =
    let was = was_made result (Call.Sync Log) old new goes fails in
    moments.by_sync Log old new (MayLeave (disk_told old)) was (λ image may. may)

module _ (bytes : List ℕ) (kept : ℕ) where
  -- where nothing new is left, it restarts as at first
  pub nothing_new : (old new : Told) → LeavesNothingNew old new
      → RestartsAsAtFirst bytes kept old new
  nothing_new old new only = record {
    each = λ replay keys holds.
        let P = RestartsAsLeft replay (disk_told old) in
        moments.weaker old new (MayLeave (disk_told old)) P only
        (λ image may. as_it_is replay (disk_told old) image may);
  }

  -- where nothing is done, nothing new is left
  pub no_crash : (told : Told) → RestartsAsAtFirst bytes kept told told
  no_crash told =
      let only = moments.no_call told told (MayLeave (disk_told told)) refl (λ image may. may) in
      nothing_new told told only

  further : (a b c : Told) → RestartsAsAtFirst bytes kept a b → RestartsAsAtFirst bytes kept b c
      → RestartsAsAtFirst bytes kept a c
  further a b c first second = record {
    each = λ replay keys holds.
        crash_further replay a b c (first.each replay keys holds) (second.each replay keys holds);
  }

  -- what leaves nothing new may come first, or last
  pub after_nothing : (a b c : Told) → LeavesNothingNew a b → RestartsAsAtFirst bytes kept b c
      → RestartsAsAtFirst bytes kept a c
  after_nothing a b c only then = further a b c (nothing_new a b only) then

  pub before_nothing : (a b c : Told) → LeavesNothingNew b c → RestartsAsAtFirst bytes kept a b
      → RestartsAsAtFirst bytes kept a c
  before_nothing a b c only first = further a b c first (nothing_new b c only)
