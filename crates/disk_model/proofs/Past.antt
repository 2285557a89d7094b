-- What holds of the disk of any past: no file has two names, and it reads as the calls say.
use Rattle.std.proofs.Common.{◌≡◌, ◌<◌, ◌++◌, ℕ, List, [], ◌∷◌, length, map, Option, Some, None, refl, sym, ◌∙◌, ap, subst, arith}
use Rattle.disk_model.specs.Files.{Files, file}
use Rattle.disk_model.specs.Disk.{number_of, Disk, reads, settled_disk, if_there, with_change, made_safe, Change}
use Rattle.disk_model.specs.Past.{Call, Outcome, Made, Past, done, front_of, left_by, after, disk_now, files_now, with_calls, with_call}
use Rattle.disk_model.specs.Memory.{begun}
use Rattle.disk_model.specs.inner.Recorded.{made_of, effect, effect_so}
use Rattle.disk_model.proofs.Sound.{IsSound}
use Rattle.disk_model.proofs.DiskLaws.{same_files, reads_appended, reads_cut, reads_synced, reads_created, reads_moved, changed_sound, created_sound, moved_sound, names_synced_sound}
use Rattle.disk_model.specs.declared.file_name.FileName.{FileName}
use Rattle.disk_model.specs.declared.file_name.FileName.TheVariants.{Log, LogTemp, Dump, DumpTemp}
use Rattle.disk_model.specs.declared.memory.deed.Deed.{Deed}

-- a file that is there has this number and no other
there_alone : (bytes : Option (List ℕ)) (n number : ℕ) → if_there bytes n ≡ Some number → n ≡ number
there_alone None n number has = cc
there_alone (Some bytes) n number has = cc

-- the number of each name on a settled disk
place : FileName → ℕ
place Log = 0
place LogTemp = 1
place Dump = 2
place DumpTemp = 3

place_alone : (a b : FileName) → place a ≡ place b → a ≡ b
unfolding place
place_alone Log Log same = refl
place_alone Log LogTemp same = absurd (omega (arith, same))
place_alone Log Dump same = absurd (omega (arith, same))
place_alone Log DumpTemp same = absurd (omega (arith, same))
place_alone LogTemp Log same = absurd (omega (arith, same))
place_alone LogTemp LogTemp same = refl
place_alone LogTemp Dump same = absurd (omega (arith, same))
place_alone LogTemp DumpTemp same = absurd (omega (arith, same))
place_alone Dump Log same = absurd (omega (arith, same))
place_alone Dump LogTemp same = absurd (omega (arith, same))
place_alone Dump Dump same = refl
place_alone Dump DumpTemp same = absurd (omega (arith, same))
place_alone DumpTemp Log same = absurd (omega (arith, same))
place_alone DumpTemp LogTemp same = absurd (omega (arith, same))
place_alone DumpTemp Dump same = absurd (omega (arith, same))
place_alone DumpTemp DumpTemp same = refl

place_low : (name : FileName) → place name < 4
unfolding place
place_low Log = omega arith
place_low LogTemp = omega arith
place_low Dump = omega arith
place_low DumpTemp = omega arith

settled_place : (name : FileName) (files : Files) (number : ℕ) → number_of name (settled_disk files).names ≡ Some number → place name ≡ number
unfolding place
settled_place Log files number has = there_alone files.log 0 number has
settled_place LogTemp files number has = there_alone files.log_temp 1 number has
settled_place Dump files number has = there_alone files.dump 2 number has
settled_place DumpTemp files number has = there_alone files.dump_temp 3 number has

pub settled_sound : (files : Files) → IsSound (settled_disk files)
settled_sound files = record {
  bound = 4;
  distinct = λ a b number has_a has_b. place_alone a b (settled_place a files number has_a ∙ sym (settled_place b files number has_b));
  below = λ name number has. (let same : place name ≡ number = settled_place name files number has in let low : place name < 4 = place_low name in omega arith);
  fresh = omega arith;
}

-- a settled disk reads as its files
settled_log : (log log_temp dump dump_temp : Option (List ℕ)) → (reads (settled_disk (record { log = log; log_temp = log_temp; dump = dump; dump_temp = dump_temp }))).log ≡ log
settled_log None log_temp dump dump_temp = refl
settled_log (Some bytes) log_temp dump dump_temp = refl

settled_log_temp : (log log_temp dump dump_temp : Option (List ℕ)) → (reads (settled_disk (record { log = log; log_temp = log_temp; dump = dump; dump_temp = dump_temp }))).log_temp ≡ log_temp
settled_log_temp log None dump dump_temp = refl
settled_log_temp log (Some bytes) dump dump_temp = refl

settled_dump : (log log_temp dump dump_temp : Option (List ℕ)) → (reads (settled_disk (record { log = log; log_temp = log_temp; dump = dump; dump_temp = dump_temp }))).dump ≡ dump
settled_dump log log_temp None dump_temp = refl
settled_dump log log_temp (Some bytes) dump_temp = refl

settled_dump_temp : (log log_temp dump dump_temp : Option (List ℕ)) → (reads (settled_disk (record { log = log; log_temp = log_temp; dump = dump; dump_temp = dump_temp }))).dump_temp ≡ dump_temp
settled_dump_temp log log_temp dump None = refl
settled_dump_temp log log_temp dump (Some bytes) = refl

settled_file : (name : FileName) (files : Files) → file name (reads (settled_disk files)) ≡ file name files
settled_file Log files = settled_log files.log files.log_temp files.dump files.dump_temp
settled_file LogTemp files = settled_log_temp files.log files.log_temp files.dump files.dump_temp
settled_file Dump files = settled_dump files.log files.log_temp files.dump files.dump_temp
settled_file DumpTemp files = settled_dump_temp files.log files.log_temp files.dump files.dump_temp

pub reads_settled : (files : Files) → reads (settled_disk files) ≡ files
reads_settled files = same_files (reads (settled_disk files)) files (λ name. settled_file name files)

-- a call that is done keeps the disk sound
pub done_sound : (call : Call) (disk : Disk) → IsSound disk → IsSound (done call disk)
done_sound (Call.ReadAll name) disk sound = sound
done_sound (Call.Append name bytes) disk sound = changed_sound name (with_change (Change.Added bytes)) disk sound
done_sound (Call.Cut name length) disk sound = changed_sound name (with_change (Change.CutTo length)) disk sound
done_sound (Call.Sync name) disk sound = changed_sound name made_safe disk sound
done_sound (Call.Create name) disk sound = created_sound name disk sound
done_sound (Call.Rename from to) disk sound = moved_sound from to disk sound
done_sound Call.SyncNames disk sound = names_synced_sound disk sound

pub left_sound : (call : Call) (outcome : Outcome) (disk : Disk) → IsSound disk → IsSound (left_by call outcome disk)
left_sound call Outcome.Done disk sound = done_sound call disk sound
left_sound call Outcome.FailedDone disk sound = done_sound call disk sound
left_sound call (Outcome.FailedFront count) disk sound = done_sound (front_of count call) disk sound
left_sound call Outcome.FailedUndone disk sound = sound
left_sound call Outcome.Unrecorded disk sound = sound

after_sound : (made : List Made) (disk : Disk) → IsSound disk → IsSound (after disk made)
after_sound [] disk sound = sound
after_sound (one ∷ more) disk sound = after_sound more (left_by one.call one.outcome disk) (left_sound one.call one.outcome disk sound)

pub now_sound : (past : Past) → IsSound (disk_now past)
unfolding disk_now
now_sound past = after_sound past.made (settled_disk past.began) (settled_sound past.began)

-- and does to what the files read as what it should
pub reads_done : (call : Call) (disk : Disk) → IsSound disk → reads (done call disk) ≡ effect call (reads disk)
reads_done (Call.ReadAll name) disk sound = refl
reads_done (Call.Append name bytes) disk sound = reads_appended name bytes disk sound
reads_done (Call.Cut name length) disk sound = reads_cut name length disk sound
reads_done (Call.Sync name) disk sound = reads_synced name disk sound
reads_done (Call.Create name) disk sound = reads_created name disk sound
reads_done (Call.Rename from to) disk sound = reads_moved from to disk
reads_done Call.SyncNames disk sound = refl

pub reads_left : (call : Call) (outcome : Outcome) (disk : Disk) → IsSound disk → reads (left_by call outcome disk) ≡ effect_so call outcome (reads disk)
reads_left call Outcome.Done disk sound = reads_done call disk sound
reads_left call Outcome.FailedDone disk sound = reads_done call disk sound
reads_left call (Outcome.FailedFront count) disk sound = reads_done (front_of count call) disk sound
reads_left call Outcome.FailedUndone disk sound = refl
reads_left call Outcome.Unrecorded disk sound = refl

-- the disk after further calls
pub after_more : (disk : Disk) (made more : List Made) → after disk (made ++ more) ≡ after (after disk made) more
after_more disk [] more = refl
after_more disk (one ∷ made) more = after_more (left_by one.call one.outcome disk) made more

pub now_more : (more : List Made) (past : Past) → disk_now (with_calls more past) ≡ after (disk_now past) more
unfolding disk_now
now_more more past = after_more (settled_disk past.began) past.made more

-- The disk after one call more.
pub now_by_call : (call : Call) (outcome : Outcome) (past : Past) → disk_now (with_call call outcome past) ≡ left_by call outcome (disk_now past)
now_by_call call Outcome.Done past = now_more ((record { call = call; outcome = Outcome.Done }) ∷ []) past
now_by_call call Outcome.FailedDone past = now_more ((record { call = call; outcome = Outcome.FailedDone }) ∷ []) past
now_by_call call Outcome.FailedUndone past = now_more ((record { call = call; outcome = Outcome.FailedUndone }) ∷ []) past
now_by_call call (Outcome.FailedFront count) past = now_more ((record { call = call; outcome = Outcome.FailedFront count }) ∷ []) past
now_by_call call Outcome.Unrecorded past = refl

-- And what its files read as.
pub files_by_call : (call : Call) (outcome : Outcome) (past : Past) → files_now (with_call call outcome past) ≡ effect_so call outcome (files_now past)
unfolding files_now
files_by_call call outcome past = ap reads (now_by_call call outcome past) ∙ reads_left call outcome (disk_now past) (now_sound past)

files_by_made : (made : Made) (past : Past) → files_now (with_calls (made ∷ []) past) ≡ effect_so made.call made.outcome (files_now past)
unfolding files_now
files_by_made made past = ap reads (now_more (made ∷ []) past) ∙ reads_left made.call made.outcome (disk_now past) (now_sound past)

-- A past that begins has the files that it begins with.
pub files_begun : (files : Files) → files_now (begun files) ≡ files
unfolding files_now disk_now
files_begun files = reads_settled files

-- the same, by the parts of the record of calls
pub map_more : (deeds : List Deed) (one : Deed) → map made_of (deeds ++ one ∷ []) ≡ map made_of deeds ++ made_of one ∷ []
map_more [] one = refl
map_more (first ∷ deeds) one = ap (λ (made : List Made). made_of first ∷ made) (map_more deeds one)

pub past_pushed : (one : Deed) (began : Files) (deeds more : List Deed) → more ≡ deeds ++ one ∷ []
    → (let new : Past = record { began = began; made = map made_of more } in new) ≡ with_calls (made_of one ∷ []) (record { began = began; made = map made_of deeds })
past_pushed one began deeds more pushed =
    let P : List Made → Past = λ made. record { began = began; made = made } in
    ap (λ (all : List Deed). P (map made_of all)) pushed ∙ ap P (map_more deeds one)

pub files_pushed : (one : Deed) (began files new : Files) (deeds more : List Deed) → more ≡ deeds ++ one ∷ [] → files ≡ files_now (record { began = began; made = map made_of deeds })
    → new ≡ effect_so (made_of one).call (made_of one).outcome files → new ≡ files_now (record { began = began; made = map made_of more })
files_pushed one began files new deeds more pushed now effect_is =
    let old : Past = record { began = began; made = map made_of deeds } in
    effect_is ∙ ap (effect_so (made_of one).call (made_of one).outcome) now ∙ sym (files_by_made (made_of one) old) ∙ sym (ap files_now (past_pushed one began deeds more pushed))

pub files_at_first : (files began : Files) (deeds : List Deed) → began ≡ files → deeds ≡ [] → files ≡ files_now (record { began = began; made = map made_of deeds })
files_at_first files began deeds same none =
    let P : Files → Type 0 = λ first. files ≡ files_now (record { began = first; made = map made_of deeds }) in
    let Q : List Deed → Type 0 = λ calls. files ≡ files_now (record { began = files; made = map made_of calls }) in
    let here : Q [] = sym (files_begun files) in
    subst P (sym same) (subst Q (sym none) here)
