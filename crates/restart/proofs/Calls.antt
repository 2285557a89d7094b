-- Serves the clauses `calls` of `open_log`, of `look` and of their parts.
use Rattle.std.proofs.Common.{◌≡◌, ℕ, List, [], ◌∷◌, ◌++◌, Option, Some, None, IfSome, Result, Ok, Err, sym, subst}
use Rattle.std.proofs.lemmas.List.{map-append}
use Rattle.disk_model.specs.declared.file_name.FileName.TheVariants.{Log, Dump}
use Rattle.disk_model.specs.declared.dir.ReadAllStop.{ReadAllStop}
use Rattle.disk_model.specs.declared.dir.ReadAllStop.TheVariants as reads
use Rattle.disk_model.specs.Files.{Files}
use Rattle.disk_model.specs.Past.{Call, Made, Outcome}
use Rattle.disk_model.specs.Runs.{GoesOnBy}
use Rattle.disk_model.specs.Told.{Told, Goes, files_told}
use Rattle.disk_model.proofs.Moments.{goes_further}
use Rattle.restart.specs.declared.opening.OpenStop.{OpenStop}
use Rattle.restart.specs.declared.opening.OpenStop.TheVariants as stops
use Rattle.restart.specs.declared.finding.Found.{Found}
use Rattle.restart.specs.declared.finding.Found.TheVariants as found
use Rattle.restart.specs.Calls.{all_done, finding_calls, keeping_calls, AsksToFind, AsksToOpen, LookAsks}
use Rattle.restart.specs.OpenLog.{stop_of_read}
use Rattle.restart.specs.inner.Finding.{IsThereAs, calls_to_keep, opened_of}

-- ---- calls one after the other

pub one_done : (call : Call) (old new : Told) → Goes call Outcome.Done old new
    → GoesOnBy (all_done (call ∷ [])) old new
one_done call old new goes = goes

pub done_further : (one other : List Call) (a b c : Told) → GoesOnBy (all_done one) a b
    → GoesOnBy (all_done other) b c → GoesOnBy (all_done (one ++ other)) a c
done_further one other a b c first second =
    subst (λ (made : List Made). GoesOnBy made a c) (sym (map-append _ one other))
    (goes_further (all_done one) (all_done other) a b c first second)

pub done_before : (call : Call) (more : List Call) (a b c : Told) → Goes call Outcome.Done a b
    → GoesOnBy (all_done more) b c → GoesOnBy (all_done (call ∷ more)) a c
done_before call more a b c goes then = done_further (call ∷ []) more a b c goes then

-- ---- what is found

module _ (old mid new : Told) where
  log_read : (bytes : List ℕ) (files : Option Files)
      → IfSome files (λ known. Some bytes ≡ known.log)
      → GoesOnBy (all_done (finding_calls (Some bytes))) old new
      → IfSome files (λ known. GoesOnBy (all_done (finding_calls known.log)) old new)
  log_read bytes None there goes = tt
  log_read bytes (Some files) there goes =
      subst (λ log. GoesOnBy (all_done (finding_calls log)) old new) there goes

  pub asks_log : (bytes : List ℕ) → IfSome (files_told old) (λ known. Some bytes ≡ known.log)
      → Goes (Call.ReadAll Log) Outcome.Done old new → AsksToFind old new
  asks_log bytes there goes = log_read bytes (files_told old) there goes

  both_read : (files : Option Files) → IfSome files (λ known. None ≡ known.log)
      → GoesOnBy (all_done (finding_calls None)) old new
      → IfSome files (λ known. GoesOnBy (all_done (finding_calls known.log)) old new)
  both_read None there goes = tt
  both_read (Some files) there goes =
      subst (λ log. GoesOnBy (all_done (finding_calls log)) old new) there goes

  pub asks_both : IfSome (files_told old) (λ known. None ≡ known.log)
      → Goes (Call.ReadAll Log) Outcome.Done old mid
      → Goes (Call.ReadAll Dump) Outcome.Done mid new → AsksToFind old new
  asks_both none first second =
      both_read (files_told old) none
      (done_before (Call.ReadAll Log) (Call.ReadAll Dump ∷ []) old mid new first second)

  -- whatever came of it
  pub asked : {T : Type 0} (result : Result T OpenStop) → AsksToFind old new
      → LookAsks result old new
  asked (Ok found) asks = asks
  asked (Err (stops.LogRefused file at why)) asks = asks
  asked (Err stops.NotBuilt) asks = asks
  asked (Err stops.Dir) asks = tt
  asked (Err (stops.Stopped why)) asks = tt

  pub read_stopped : (T : Type 0) (stop : ReadAllStop)
      → LookAsks {T = T} (Err (stop_of_read stop)) old new
  read_stopped T reads.Dir = tt
  read_stopped T reads.Memory = tt

  -- ---- what is opened

  opened_log : (bytes : List ℕ) (kept : ℕ) (files : Option Files)
      → IfSome files (λ known. known.log ≡ Some bytes)
      → IfSome files (λ known. GoesOnBy (all_done (finding_calls known.log)) old mid)
      → GoesOnBy (all_done (keeping_calls (Some bytes) kept)) mid new
      → IfSome files (λ known.
      GoesOnBy (all_done (finding_calls known.log ++ keeping_calls known.log kept)) old new)
  opened_log bytes kept None there first then = tt
  opened_log bytes kept (Some files) there first then =
      done_further (finding_calls files.log) (keeping_calls files.log kept) old mid new first
      (subst (λ log. GoesOnBy (all_done (keeping_calls log kept)) mid new) (sym there) then)

  new_log : (files : Option Files)
      → IfSome files (λ known. (known.log ≡ None) × (known.dump ≡ None))
      → IfSome files (λ known. GoesOnBy (all_done (finding_calls known.log)) old mid)
      → GoesOnBy (all_done (keeping_calls None 0)) mid new
      → IfSome files (λ known.
      GoesOnBy (all_done (finding_calls known.log ++ keeping_calls known.log 0)) old new)
  new_log None none first then = tt
  new_log (Some files) none first then =
      done_further (finding_calls files.log) (keeping_calls files.log 0) old mid new first
      (subst (λ log. GoesOnBy (all_done (keeping_calls log 0)) mid new) (sym none.0) then)

  pub asks_to_open : (f : Found) → IsThereAs f (files_told old) → AsksToFind old mid
      → GoesOnBy (all_done (calls_to_keep f)) mid new → AsksToOpen (opened_of f).kept old new
  asks_to_open (found.Log bytes kept) there first then =
      opened_log bytes kept (files_told old) there.1 first then
  asks_to_open found.Nothing there first then = new_log (files_told old) there first then
