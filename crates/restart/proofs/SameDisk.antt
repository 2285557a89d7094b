-- Serves the clauses `same` of `find` and `look`, and `stop` of `open_log`: reads leave the same
-- disk.
use Rattle.std.proofs.Common.{◌≡◌, List, [], ◌∷◌, ◌++◌, Option, Some, None, refl, sym, ap, ◌∙◌, append-nil}
use Rattle.std.specs.List.{AllByRecursion}
use Rattle.std.specs.Option.{option_map}
use Rattle.disk_model.specs.declared.file_name.FileName.{FileName}
use Rattle.disk_model.specs.Files.{Stay}
use Rattle.disk_model.specs.Disk.{reads}
use Rattle.disk_model.specs.Past.{Call, Outcome, Made, Past, disk_now, files_now, with_call, with_calls}
use Rattle.disk_model.specs.Told.{Told, Was, files_told, disk_told}
use Rattle.disk_model.specs.Runs.{SameDisk}
use Rattle.disk_model.proofs.Moments.{same_disk, goes_further}

-- the calls that were recorded
abbrev made_of : Call → Outcome → List Made
made_of call Outcome.Done = (record { call = call; outcome = Outcome.Done }) ∷ []
made_of call Outcome.FailedDone = (record { call = call; outcome = Outcome.FailedDone }) ∷ []
made_of call Outcome.FailedUndone = (record { call = call; outcome = Outcome.FailedUndone }) ∷ []
made_of call (Outcome.FailedFront count) = (record { call = call; outcome = Outcome.FailedFront count }) ∷ []
made_of call Outcome.Unrecorded = []

by_calls : (call : Call) (outcome : Outcome) (past : Past) → with_call call outcome past ≡ with_calls (made_of call outcome) past
by_calls call Outcome.Done past = refl
by_calls call Outcome.FailedDone past = refl
by_calls call Outcome.FailedUndone past = refl
by_calls call (Outcome.FailedFront count) past = refl
by_calls call Outcome.Unrecorded past = ap (λ (made : List Made). record past { made = made }) (sym (append-nil past.made))

told_calls : (call : Call) (outcome : Outcome) (old new : Option Past) → new ≡ option_map (with_call call outcome) old → new ≡ option_map (with_calls (made_of call outcome)) old
told_calls call outcome None new goes = goes
told_calls call outcome (Some past) new goes = goes ∙ ap Some (by_calls call outcome past)

all_reads : (name : FileName) (outcome : Outcome) → AllByRecursion (λ made. (read : FileName) × (made.call ≡ Call.ReadAll read)) (made_of (Call.ReadAll name) outcome)
all_reads name Outcome.Done = ((name, refl), tt)
all_reads name Outcome.FailedDone = ((name, refl), tt)
all_reads name Outcome.FailedUndone = ((name, refl), tt)
all_reads name (Outcome.FailedFront count) = ((name, refl), tt)
all_reads name Outcome.Unrecorded = tt

-- a read leaves the same disk
pub read_same : (name : FileName) (old new : Told) → Was (Call.ReadAll name) old new → SameDisk old new
read_same name old new was = record {
  more = made_of (Call.ReadAll name) was.outcome;
  goes_on = told_calls (Call.ReadAll name) was.outcome old.past new.past was.goes;
  reads = all_reads name was.outcome;
}

both_read : (P : Made → Type 0) (one other : List Made) → AllByRecursion P one → AllByRecursion P other → AllByRecursion P (one ++ other)
both_read P [] other first second = second
both_read P (x ∷ one) other first second = (first.0, both_read P one other first.1 second)

-- and so do several
pub same_further : (a b c : Told) → SameDisk a b → SameDisk b c → SameDisk a c
same_further a b c first second = record {
  more = first.more ++ second.more;
  goes_on = goes_further first.more second.more a b c first.goes_on second.goes_on;
  reads = both_read (λ made. (read : FileName) × (made.call ≡ Call.ReadAll read)) first.more second.more first.reads second.reads;
}

reads_told : (past : Option Past) → option_map files_now past ≡ option_map reads (option_map disk_now past)
unfolding files_now
reads_told None = refl
reads_told (Some past) = refl

files_by_disk : (told : Told) → files_told told ≡ option_map reads (disk_told told)
files_by_disk told = reads_told told.past

-- the same disk reads the same
pub same_files : (old new : Told) → SameDisk old new → Stay (files_told old) (files_told new)
same_files old new same = files_by_disk new ∙ ap (option_map reads) (same_disk old new same) ∙ sym (files_by_disk old)
