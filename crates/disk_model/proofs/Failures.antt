-- What the files read as after a call, however it came out.
use Rattle.std.proofs.Common.{◌≡◌, ◌⊎◌, ◌++◌, ℕ, List, [], take, Option, Some, None, Result, Ok, Err, OnOk, OnErr, refl, sym, ◌∙◌, ap, inl, inr, append-nil}
use Rattle.std.specs.Option.{option_map}
use Rattle.disk_model.specs.Files.{Files, file, put, with_file, with_appended, with_cut, with_moved, Become, Stay}
use Rattle.disk_model.specs.Past.{Call, Outcome, MayFail, Past, front_of, files_now, with_call}
use Rattle.disk_model.specs.Told.{Told, files_told, Goes, Fails, Was}
use Rattle.disk_model.specs.inner.Recorded.{effect, effect_so}
use Rattle.disk_model.proofs.DiskLaws.{put_same}
use Rattle.disk_model.proofs.Past.{files_by_call}
use Rattle.disk_model.specs.declared.file_name.FileName.{FileName}

-- a call that came out so
reads_so : (call : Call) (outcome : Outcome) (old new : Option Past) → new ≡ option_map (with_call call outcome) old
    → option_map files_now new ≡ option_map (effect_so call outcome) (option_map files_now old)
reads_so call outcome None new goes = ap (option_map files_now) goes
reads_so call outcome (Some past) new goes = ap (option_map files_now) goes ∙ ap Some (files_by_call call outcome past)

pub goes_reads : (call : Call) (outcome : Outcome) (old new : Told) → Goes call outcome old new → files_told new ≡ option_map (effect_so call outcome) (files_told old)
goes_reads call outcome old new goes = reads_so call outcome old.past new.past goes

each_same : (change : Files → Files) → ((files : Files) → change files ≡ files) → (o : Option Files) → option_map change o ≡ o
each_same change same None = refl
each_same change same (Some files) = ap Some (same files)

each_as : (one other : Files → Files) → ((files : Files) → one files ≡ other files) → (o : Option Files) → option_map one o ≡ option_map other o
each_as one other same None = refl
each_as one other same (Some files) = ap Some (same files)

unchanged : (call : Call) (outcome : Outcome) (old new : Told) → ((files : Files) → effect_so call outcome files ≡ files) → Goes call outcome old new → Stay (files_told old) (files_told new)
unchanged call outcome old new same goes = goes_reads call outcome old new goes ∙ each_same (effect_so call outcome) same (files_told old)

-- a read and a sync change nothing, however they come out
effect_none : (call : Call) (outcome : Outcome) → ((files : Files) → effect call files ≡ files) → ((count : ℕ) (files : Files) → effect (front_of count call) files ≡ files)
    → (files : Files) → effect_so call outcome files ≡ files
effect_none call Outcome.Done done front files = done files
effect_none call Outcome.FailedDone done front files = done files
effect_none call (Outcome.FailedFront count) done front files = front count files
effect_none call Outcome.FailedUndone done front files = refl
effect_none call Outcome.Unrecorded done front files = refl

pub read_stays : (name : FileName) (old new : Told) → Was (Call.ReadAll name) old new → Stay (files_told old) (files_told new)
read_stays name old new was = unchanged (Call.ReadAll name) was.outcome old new (effect_none (Call.ReadAll name) was.outcome (λ files. refl) (λ count files. refl)) was.goes

pub sync_stays : (name : FileName) (old new : Told) → Was (Call.Sync name) old new → Stay (files_told old) (files_told new)
sync_stays name old new was = unchanged (Call.Sync name) was.outcome old new (effect_none (Call.Sync name) was.outcome (λ files. refl) (λ count files. refl)) was.goes

pub names_sync_stays : (old new : Told) → Was Call.SyncNames old new → Stay (files_told old) (files_told new)
names_sync_stays old new was = unchanged Call.SyncNames was.outcome old new (effect_none Call.SyncNames was.outcome (λ files. refl) (λ count files. refl)) was.goes

-- a call that was made
pub was_done : (call : Call) (old new : Told) → Goes call Outcome.Done old new → Was call old new
was_done call old new goes = record { outcome = Outcome.Done; goes = goes }

pub was_failed : (call : Call) (old new : Told) → Fails call old new → Was call old new
was_failed call old new fails = record { outcome = fails.outcome; goes = fails.goes }

pub was_made : {T E : Type 0} (result : Result T E) (call : Call) (old new : Told) → OnOk result (Goes call Outcome.Done old new) → OnErr result (Fails call old new) → Was call old new
was_made (Ok x) call old new goes fails = was_done call old new goes
was_made (Err e) call old new goes fails = was_failed call old new fails

-- and was done
pub done_reads : {T E : Type 0} (result : Result T E) (call : Call) (old new : Told) → OnOk result (Goes call Outcome.Done old new) → OnOk result (Become (effect call) (files_told old) (files_told new))
done_reads (Ok x) call old new goes = goes_reads call Outcome.Done old new goes
done_reads (Err e) call old new goes = tt

-- an append that did nothing has added none of its bytes
nothing_more : (bytes : Option (List ℕ)) → option_map (λ old. old ++ []) bytes ≡ bytes
nothing_more None = refl
nothing_more (Some bytes) = ap Some (append-nil bytes)

nothing_appended : (name : FileName) (files : Files) → with_appended name [] files ≡ files
nothing_appended name files = ap (λ (bytes : Option (List ℕ)). put name bytes files) (nothing_more (file name files)) ∙ put_same name files

appended_by : (name : FileName) (bytes : List ℕ) (outcome : Outcome) (old new : Told) → MayFail (Call.Append name bytes) outcome → Goes (Call.Append name bytes) outcome old new
    → (kept : ℕ) × Become (with_appended name (take kept bytes)) (files_told old) (files_told new)
appended_by name bytes Outcome.Done old new may goes = absurd may
appended_by name bytes Outcome.FailedDone old new may goes = absurd may
appended_by name bytes (Outcome.FailedFront count) old new may goes = (count, goes_reads (Call.Append name bytes) (Outcome.FailedFront count) old new goes)
appended_by name bytes Outcome.FailedUndone old new may goes =
    (0, unchanged (Call.Append name bytes) Outcome.FailedUndone old new (λ files. refl) goes ∙ sym (each_same (with_appended name []) (nothing_appended name) (files_told old)))
appended_by name bytes Outcome.Unrecorded old new may goes =
    (0, unchanged (Call.Append name bytes) Outcome.Unrecorded old new (λ files. refl) goes ∙ sym (each_same (with_appended name []) (nothing_appended name) (files_told old)))

-- What the files read as after a call that failed.
pub append_failed : (name : FileName) (bytes : List ℕ) (old new : Told) → Fails (Call.Append name bytes) old new
    → (kept : ℕ) × Become (with_appended name (take kept bytes)) (files_told old) (files_told new)
append_failed name bytes old new fails = appended_by name bytes fails.outcome old new fails.may fails.goes

whole_or_not : (call : Call) (outcome : Outcome) (old new : Told) → ((count : ℕ) (files : Files) → effect (front_of count call) files ≡ effect call files) → Goes call outcome old new
    → Stay (files_told old) (files_told new) ⊎ Become (effect call) (files_told old) (files_told new)
whole_or_not call Outcome.Done old new front goes = inr (goes_reads call Outcome.Done old new goes)
whole_or_not call Outcome.FailedDone old new front goes = inr (goes_reads call Outcome.FailedDone old new goes)
whole_or_not call (Outcome.FailedFront count) old new front goes = inr (goes_reads call (Outcome.FailedFront count) old new goes ∙ each_as (effect (front_of count call)) (effect call) (front count) (files_told old))
whole_or_not call Outcome.FailedUndone old new front goes = inl (unchanged call Outcome.FailedUndone old new (λ files. refl) goes)
whole_or_not call Outcome.Unrecorded old new front goes = inl (unchanged call Outcome.Unrecorded old new (λ files. refl) goes)

pub cut_failed : (name : FileName) (length : ℕ) (old new : Told) → Fails (Call.Cut name length) old new
    → Stay (files_told old) (files_told new) ⊎ Become (with_cut name length) (files_told old) (files_told new)
cut_failed name length old new fails = whole_or_not (Call.Cut name length) fails.outcome old new (λ count files. refl) fails.goes

pub create_failed : (name : FileName) (old new : Told) → Fails (Call.Create name) old new
    → Stay (files_told old) (files_told new) ⊎ Become (with_file name []) (files_told old) (files_told new)
create_failed name old new fails = whole_or_not (Call.Create name) fails.outcome old new (λ count files. refl) fails.goes

pub rename_failed : (from to : FileName) (old new : Told) → Fails (Call.Rename from to) old new
    → Stay (files_told old) (files_told new) ⊎ Become (with_moved from to) (files_told old) (files_told new)
rename_failed from to old new fails = whole_or_not (Call.Rename from to) fails.outcome old new (λ count files. refl) fails.goes
