-- What opening a log, and a look at one, ask of the directory.
use Rattle.std.specs.Prelude.{⊤, ◌==◌, if◌then◌else◌, ℕ, List, [], ◌∷◌, ◌++◌, length, map, Option, Some, None, IfSome, Result, Ok, Err}
use Rattle.disk_model.specs.declared.file_name.FileName.TheVariants.{Log, Dump}
use Rattle.disk_model.specs.Files.{Files}
use Rattle.disk_model.specs.Past.{Call, Made, Outcome}
use Rattle.disk_model.specs.Runs.{GoesOnBy}
use Rattle.disk_model.specs.Told.{Told, files_told}
use Rattle.restart.specs.declared.opening.OpenStop.{OpenStop}
use Rattle.restart.specs.declared.opening.OpenStop.TheVariants as stops

-- calls of which each was done
abbrev pub all_done : List Call → List Made
all_done calls = map (λ (call : Call). record { call = call; outcome = Outcome.Done }) calls

-- The log is read, and where there is none the dump.
abbrev pub finding_calls : Option (List ℕ) → List Call
finding_calls (Some log) = Call.ReadAll Log ∷ []
finding_calls None = Call.ReadAll Log ∷ Call.ReadAll Dump ∷ []

-- A torn unit is cut off, and that is synced. Where there is none, nothing is asked.
abbrev pub cutting_calls : ℕ → ℕ → List Call
cutting_calls size kept =
    if kept == size then [] else Call.Cut Log kept ∷ Call.Sync Log ∷ []

-- The log is synced, cut where that is due, and then the names are synced. Where there is none, it
-- is made first.
abbrev pub keeping_calls : Option (List ℕ) → ℕ → List Call
keeping_calls (Some log) kept =
    Call.Sync Log ∷ cutting_calls (length log) kept ++ Call.SyncNames ∷ []
keeping_calls None kept = Call.Create Log ∷ Call.SyncNames ∷ []

-- Since then exactly these calls were made, and each was done. They follow from the files at first.
abbrev pub Asks : (Files → List Call) → Told → Told → Type 0
Asks calls old new = IfSome (files_told old) (λ files. GoesOnBy (all_done (calls files)) old new)

-- What a look asks: to read the log, and where there is none the dump.
abbrev pub AsksToFind : Told → Told → Type 0
AsksToFind = Asks (λ files. finding_calls files.log)

-- What opening a log of which so much is kept asks.
abbrev pub AsksToOpen : ℕ → Told → Told → Type 0
AsksToOpen kept = Asks (λ files. finding_calls files.log ++ keeping_calls files.log kept)

-- A look that was answered, also by a refusal, asked that. Otherwise the directory failed, or
-- replaying could not go on.
abbrev pub LookAsks : {T : Type 0} → Result T OpenStop → Told → Told → Type 0
LookAsks (Ok found) old new = AsksToFind old new
LookAsks (Err (stops.LogRefused file at why)) old new = AsksToFind old new
LookAsks (Err stops.NotBuilt) old new = AsksToFind old new
LookAsks (Err stops.Dir) old new = ⊤
LookAsks (Err (stops.Stopped why)) old new = ⊤
