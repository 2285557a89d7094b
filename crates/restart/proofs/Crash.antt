-- Serves the clauses `crash`: what a crash leaves while a log is opened restarts as it might have
-- at the entry.
use Rattle.std.proofs.Common.{◌≡◌, ℕ, ◌≤◌, List, [], take, Option, Some, None, IfSome, refl, sym, ap, subst, ◌∙◌, inl, inr}
use Rattle.std.specs.Option.{option_map}
use Rattle.core_types.specs.Keys.{Keys, no_keys}
use Rattle.disk_model.specs.declared.file_name.FileName.{FileName}
use Rattle.disk_model.specs.declared.file_name.FileName.TheVariants.{Log, LogTemp, Dump, DumpTemp}
use Rattle.disk_model.specs.Files.{Files, file, with_file, with_cut}
use Rattle.disk_model.specs.Disk.{Disk, reads}
use Rattle.disk_model.specs.Images.{Leaves}
use Rattle.disk_model.specs.Past.{Call, Past, done, disk_now, files_now}
use Rattle.disk_model.specs.Told.{Told, files_told, disk_told}
use Rattle.disk_model.specs.Runs.{MayLeave, LeavesOnly}
use Rattle.disk_model.specs.Crash.{IsChangedImage}
use Rattle.disk_model.proofs.Images.{reads_leaves}
use Rattle.disk_model.proofs.Past.{now_sound}
use Rattle.disk_model.proofs.Added.{cut_adds, create_adds}
use Rattle.disk_model.proofs.Moments as moments
use Rattle.effect_log.specs.Replay.{Meaning, Holds}
use Rattle.effect_log.proofs.Shorter.{Holds-cut}
use Rattle.restart.specs.Restart.{Opening, OpensAs, Opens, Restarts, RestartsSame, RestartsAsLeft}
use Rattle.restart.proofs.OneOpening.{one_outcome}

same_refl : (replay : Meaning) (files : Files) → RestartsSame replay files files
same_refl replay files keys = ((λ r. r), (λ r. r))

same_further : (replay : Meaning) (a b c : Files) → RestartsSame replay a b → RestartsSame replay b c → RestartsSame replay a c
same_further replay a b c first second keys = ((λ r. (second keys).0 ((first keys).0 r)), (λ r. (first keys).1 ((second keys).1 r)))

-- files restart to one map
restarts_one : (replay : Meaning) (files : Files) (keys others : Keys) → Restarts replay files keys → Restarts replay files others → keys ≡ others
restarts_one replay files keys others r s = sym r.same ∙ ap (λ (o : Opening). o.keys) (one_outcome replay files r.opening s.opening r.opens s.opens) ∙ s.same

-- files that restart to the same keys
same_keys : (replay : Meaning) (a b : Files) (keys : Keys) → Restarts replay a keys → Restarts replay b keys → RestartsSame replay a b
same_keys replay a b keys of_a of_b others = (
  (λ r. subst (λ (k : Keys). Restarts replay b k) (restarts_one replay a keys others of_a r) of_b),
  (λ r. subst (λ (k : Keys). Restarts replay a k) (restarts_one replay b keys others of_b r) of_a),
)

by_openings : (replay : Meaning) (a b : Files) → ((o : Opening) → Opens replay a o → Opens replay b o) → ((o : Opening) → Opens replay b o → Opens replay a o) → RestartsSame replay a b
by_openings replay a b to from keys = (
  (λ r. record { opening = r.opening; opens = to r.opening r.opens; same = r.same }),
  (λ r. record { opening = r.opening; opens = from r.opening r.opens; same = r.same }),
)

-- a log that is there stands for its keys
pub log_restarts : (replay : Meaning) (files : Files) (bytes : List ℕ) (kept : ℕ) (keys : Keys) → files.log ≡ Some bytes → Holds replay bytes keys kept → Restarts replay files keys
log_restarts replay files bytes kept keys there holds = record {
  opening = record { keys = keys; log = take kept bytes };
  opens = rw there (kept, holds, refl);
  same = refl;
}

as_left : (replay : Meaning) (disk : Disk) (image : Files) → Leaves disk image → RestartsAsLeft replay (Some disk) image
as_left replay disk image leaves = record { left = image; may = record { disk = disk; tells = refl; leaves = leaves }; same = same_refl replay image }

-- an image at the entry restarts as itself
pub as_it_is : (replay : Meaning) (entry : Option Disk) (image : Files) → MayLeave entry image → RestartsAsLeft replay entry image
as_it_is replay entry image may = record { left = image; may = may; same = same_refl replay image }

-- what restarts as an image of a later disk does, whose images restart as those at the entry
pub as_left_on : (replay : Meaning) (entry later : Option Disk) (image : Files) → ((files : Files) → MayLeave later files → RestartsAsLeft replay entry files) → RestartsAsLeft replay later image → RestartsAsLeft replay entry image
as_left_on replay entry later image before r =
    let first = before r.left r.may in
    record { left = first.left; may = first.may; same = same_further replay image r.left first.left r.same first.same }

-- a dump that is cut is one that is not opened, as it was
dump_cut : (replay : Meaning) (log dump : Option (List ℕ)) (count : ℕ) (o : Opening) → OpensAs replay log (option_map (take count) dump) o → OpensAs replay log dump o
dump_cut replay (Some bytes) dump count o opens = opens
dump_cut replay None None count o opens = opens
dump_cut replay None (Some bytes) count o opens = opens

dump_whole : (replay : Meaning) (log dump : Option (List ℕ)) (count : ℕ) (o : Opening) → OpensAs replay log dump o → OpensAs replay log (option_map (take count) dump) o
dump_whole replay (Some bytes) dump count o opens = opens
dump_whole replay None None count o opens = opens
dump_whole replay None (Some bytes) count o opens = opens

module _ (replay : Meaning) (bytes : List ℕ) (kept : ℕ) (keys : Keys) (holds : Holds replay bytes keys kept) where
  -- a file of these bytes is cut behind its whole units, under whatever name it stands
  cut_under : (under : FileName) (count : ℕ) (before : Files) → kept ≤ count → file under before ≡ Some bytes → RestartsSame replay (with_cut under count before) before
  cut_under Log count before within there =
      same_keys replay (with_cut Log count before) before keys
      (log_restarts replay (with_cut Log count before) (take count bytes) kept keys (ap (option_map (take count)) there) (Holds-cut replay bytes keys kept count holds within))
      (log_restarts replay before bytes kept keys there holds)
  cut_under LogTemp count before within there = by_openings replay (with_cut LogTemp count before) before (λ o opens. opens) (λ o opens. opens)
  cut_under Dump count before within there =
      by_openings replay (with_cut Dump count before) before (λ o opens. dump_cut replay before.log before.dump count o opens) (λ o opens. dump_whole replay before.log before.dump count o opens)
  cut_under DumpTemp count before within there = by_openings replay (with_cut DumpTemp count before) before (λ o opens. opens) (λ o opens. opens)

  cut_image : (disk : Disk) (image : Files) (count : ℕ) → kept ≤ count → file Log (reads disk) ≡ Some bytes → IsChangedImage Log (λ under. with_cut under count) disk image → RestartsAsLeft replay (Some disk) image
  cut_image disk image count within there at = record {
    left = at.before;
    may = record { disk = disk; tells = refl; leaves = at.leaves };
    same = subst (λ (files : Files). RestartsSame replay files at.before) (sym at.changed) (cut_under at.under count at.before within (at.whole ∙ there));
  }

  cut_left : (past : Past) (image : Files) → (files_now past).log ≡ Some bytes → Leaves (done (Call.Cut Log kept) (disk_now past)) image → RestartsAsLeft replay (Some (disk_now past)) image
  unfolding files_now
  cut_left past image there leaves = elim (cut_adds Log kept (disk_now past) image (now_sound past) leaves) [
    | inl before ↦ as_left replay (disk_now past) image before
    | inr (count, within, at) ↦ cut_image (disk_now past) image count within there at
  ]

-- an image of a disk that was changed so
pub changed_left : (P : Option Disk → Files → Type 0) (change : Disk → Disk) (past : Option Past) (image : Files) → ((one : Past) → past ≡ Some one → Leaves (change (disk_now one)) image → P (Some (disk_now one)) image)
    → MayLeave (option_map change (option_map disk_now past)) image → P (option_map disk_now past) image
changed_left P change None image has may = let e : None ≡ Some may.disk = may.tells in absurd cc
changed_left P change (Some one) image has may =
    let e : Some (change (disk_now one)) ≡ Some may.disk = may.tells in
    let same : may.disk ≡ change (disk_now one) = cc in
    has one refl (subst (λ (disk : Disk). Leaves disk image) same may.leaves)

log_now : (past : Option Past) (one : Past) (P : Files → Type 0) → IfSome (option_map files_now past) P → past ≡ Some one → P (files_now one)
log_now None one P known is = let e : None ≡ Some one = is in absurd cc
log_now (Some past) one P known is =
    let same : past ≡ one = cc in
    subst (λ (p : Past). P (files_now p)) same known

-- Whatever a crash leaves of a cut restarts as it might have before.
pub cut_as_left : (replay : Meaning) (bytes : List ℕ) (kept : ℕ) (keys : Keys) → Holds replay bytes keys kept → (old : Told) → IfSome (files_told old) (λ known. known.log ≡ Some bytes) → (image : Files)
    → MayLeave (option_map (done (Call.Cut Log kept)) (disk_told old)) image → RestartsAsLeft replay (disk_told old) image
cut_as_left replay bytes kept keys holds old there image may =
    changed_left (RestartsAsLeft replay) (done (Call.Cut Log kept)) old.past image
    (λ one is leaves. cut_left replay bytes kept keys holds one image (log_now old.past one (λ known. known.log ≡ Some bytes) there is) leaves) may

-- Two runs that leave what restarts as before each are one.
pub crash_further : (replay : Meaning) (a b c : Told)
    → LeavesOnly a b (RestartsAsLeft replay (disk_told a))
    → LeavesOnly b c (RestartsAsLeft replay (disk_told b))
    → LeavesOnly a c (RestartsAsLeft replay (disk_told a))
crash_further replay a b c first second =
    let P : Files → Type 0 = RestartsAsLeft replay (disk_told a) in
    let Q : Files → Type 0 = RestartsAsLeft replay (disk_told b) in
    let before : (files : Files) → MayLeave (disk_told b) files → P files = moments.now a b P first in
    let later : (image : Files) → Q image → P image =
    λ image r. as_left_on replay (disk_told a) (disk_told b) image before r in
    moments.further a b c P first (moments.weaker b c Q P second later)

pub holds_none : (replay : Meaning) → Holds replay [] no_keys 0
holds_none replay = record { units = []; holds = record { each = tt; rest = []; whole = refl; place = refl; torn = inl refl }; makes = refl }

none_restart : (replay : Meaning) (files : Files) → files.log ≡ None → files.dump ≡ None → Restarts replay files no_keys
none_restart replay files log dump = record { opening = record { keys = no_keys; log = [] }; opens = rw (log, dump) (refl, refl); same = refl }

created_image : (replay : Meaning) (disk : Disk) (image before : Files) → (reads disk).log ≡ None → (reads disk).dump ≡ None → image ≡ with_file Log [] before → RestartsAsLeft replay (Some disk) image
created_image replay disk image before log dump is = record {
  left = reads disk;
  may = record { disk = disk; tells = refl; leaves = reads_leaves disk };
  same = same_keys replay image (reads disk) no_keys (log_restarts replay image [] 0 no_keys (ap (λ (files : Files). files.log) is) (holds_none replay)) (none_restart replay (reads disk) log dump);
}

created_left : (replay : Meaning) (past : Past) (image : Files) → ((files_now past).log ≡ None) × ((files_now past).dump ≡ None) → Leaves (done (Call.Create Log) (disk_now past)) image → RestartsAsLeft replay (Some (disk_now past)) image
unfolding files_now
created_left replay past image none leaves = elim (create_adds Log (disk_now past) image (now_sound past) leaves) [
  | inl left ↦ as_left replay (disk_now past) image left
  | inr (before, left, is) ↦ created_image replay (disk_now past) image before none.0 none.1 is
]

-- Whatever a crash leaves of a new log restarts as it might have before.
pub create_as_left : (replay : Meaning) (old : Told) → IfSome (files_told old) (λ known. (known.log ≡ None) × (known.dump ≡ None)) → (image : Files)
    → MayLeave (option_map (done (Call.Create Log)) (disk_told old)) image → RestartsAsLeft replay (disk_told old) image
create_as_left replay old none image may =
    changed_left (RestartsAsLeft replay) (done (Call.Create Log)) old.past image
    (λ one is leaves. created_left replay one image (log_now old.past one (λ known. (known.log ≡ None) × (known.dump ≡ None)) none is) leaves) may
