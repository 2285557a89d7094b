-- Serves the clauses `opened` and `stop` of `open_log`, and `found` of `look`.
use Rattle.std.proofs.Common.{◌≡◌, ◌⊎◌, ◌≤◌, false, ℕ, List, [], take, length, Option, Some, None, IfSome, refl, sym, subst, ◌∙◌, inl, inr, arith}
use Rattle.std.proofs.lemmas.List.{length-take-le}
use Rattle.core_types.specs.Keys.{Keys, no_keys}
use Rattle.disk_model.specs.declared.file_name.FileName.TheVariants.{Log}
use Rattle.disk_model.specs.Files.{Files, with_file, Become, Stay}
use Rattle.disk_model.specs.Disk.{Disk}
use Rattle.disk_model.specs.Told.{Told, Now, files_told, disk_told}
use Rattle.disk_model.specs.Runs.{LeavesOnly, SameDisk}
use Rattle.disk_model.specs.Safe.{IsSafe}
use Rattle.disk_model.proofs.Moments as moments
use Rattle.disk_model.proofs.Safe.{safe_one}
use Rattle.effect_log.specs.Replay.{Meaning, Holds}
use Rattle.effect_log.proofs.GoesOn.{Holds-kept}
use Rattle.restart.specs.declared.opening.OpenStop.{OpenStop}
use Rattle.restart.specs.declared.opening.OpenStop.TheVariants as stops
use Rattle.restart.specs.declared.finding.Found.{Found}
use Rattle.restart.specs.declared.finding.Found.TheVariants as found
use Rattle.restart.specs.Restart.{Opening, Opens, Restarts, RestartsAsLeft}
use Rattle.restart.specs.OpenLog.{AreLengths, Finds, HasOpened, IsUnopened, IsPartlyOpen, OpenStops}
use Rattle.restart.specs.inner.Finding.{IsThereAs, StandsFor, log_of, opened_of}
use Rattle.restart.proofs.SameDisk.{same_files}
use Rattle.restart.proofs.Crash.{as_it_is, log_restarts, holds_none}

-- what is opened of what was found
abbrev opening_of : Found → Keys → Opening
opening_of f keys = record { keys = keys; log = log_of f }

opens_log : (replay : Meaning) (bytes : List ℕ) (kept : ℕ) (keys : Keys) (files : Files) → files.log ≡ Some bytes → Holds replay bytes keys kept → Opens replay files (record { keys = keys; log = take kept bytes })
opens_log replay bytes kept keys files there holds = rw there (kept, holds, refl)

opens_nothing : (replay : Meaning) (keys : Keys) (files : Files) → (files.log ≡ None) × (files.dump ≡ None) → keys ≡ no_keys → Opens replay files (record { keys = keys; log = [] })
opens_nothing replay keys files none is = rw (none.0, none.1) (is, refl)

pub found_opens : (replay : Meaning) (f : Found) (keys : Keys) (files : Option Files) → IsThereAs f files → StandsFor replay f keys → IfSome files (λ known. Opens replay known (opening_of f keys))
found_opens replay f keys None there stands = tt
found_opens replay (found.Log bytes kept) keys (Some files) there stands = opens_log replay bytes kept keys files there.1 stands
found_opens replay found.Nothing keys (Some files) there stands = opens_nothing replay keys files there stands

lengths_of : (bytes : List ℕ) (kept : ℕ) (keys : Keys) (files : Option Files) → (kept ≤ length bytes) × IfSome files (λ known. known.log ≡ Some bytes)
    → AreLengths files (record { length = length bytes; kept = kept; imported = false }) (record { keys = keys; log = take kept bytes })
lengths_of bytes kept keys None there = record { kept = sym (length-take-le kept bytes there.0); within = there.0; length_is = tt; new = tt }
lengths_of bytes kept keys (Some files) there = record {
  kept = sym (length-take-le kept bytes there.0);
  within = there.0;
  length_is = rw there.1 refl;
  new = λ none. let e : Some bytes ≡ None = sym there.1 ∙ none in cc;
}

no_lengths : (keys : Keys) (files : Option Files) → IfSome files (λ known. (known.log ≡ None) × (known.dump ≡ None)) → AreLengths files (record { length = 0; kept = 0; imported = false }) (record { keys = keys; log = [] })
no_lengths keys None none = record { kept = refl; within = omega arith; length_is = tt; new = tt }
no_lengths keys (Some files) none = record { kept = refl; within = omega arith; length_is = rw none.0 tt; new = λ e. refl }

pub found_lengths : (f : Found) (keys : Keys) (files : Option Files) → IsThereAs f files → AreLengths files (opened_of f) (opening_of f keys)
found_lengths (found.Log bytes kept) keys files there = lengths_of bytes kept keys files there
found_lengths found.Nothing keys files there = no_lengths keys files there

pub not_imported : (f : Found) → (opened_of f).imported ≡ false
not_imported (found.Log bytes kept) = refl
not_imported found.Nothing = refl

abbrev pub found_finds : (replay : Meaning) (f : Found) (keys : Keys) (files : Option Files) → IsThereAs f files → StandsFor replay f keys → Finds replay files keys (opened_of f)
found_finds replay f keys files there stands = record {
  opening = opening_of f keys;
  opens = found_opens replay f keys files there stands;
  keys_are = refl;
  lengths = found_lengths f keys files there;
  imported = not_imported f;
}

-- the bytes of the log that is opened stand for the keys
log_stands : (replay : Meaning) (f : Found) (keys : Keys) → StandsFor replay f keys → Holds replay (log_of f) keys (length (log_of f))
log_stands replay (found.Log bytes kept) keys stands = Holds-kept replay bytes keys kept stands
log_stands replay found.Nothing keys stands = subst (λ (k : Keys). Holds replay [] k 0) (sym stands) (holds_none replay)

-- a log that is safe stands for the keys
kept_restarts : (replay : Meaning) (f : Found) (keys : Keys) (image : Files) → StandsFor replay f keys → image.log ≡ Some (log_of f) → Restarts replay image keys
kept_restarts replay f keys image stands there = log_restarts replay image (log_of f) (length (log_of f)) keys there (log_stands replay f keys stands)

safe_now : (P : Disk → Type 0) (told : Option Disk) (disk : Disk) → IfSome told P → told ≡ Some disk → P disk
safe_now P None disk safe is = let e : None ≡ Some disk = is in absurd cc
safe_now P (Some one) disk safe is = let same : one ≡ disk = cc in subst P same safe

module _ (replay : Meaning) (f : Found) (keys : Keys) (old mid : Told) (there : IsThereAs f (files_told old)) (stands : StandsFor replay f keys) (same : SameDisk old mid) where
  stayed : files_told mid ≡ files_told old
  stayed = same_files old mid same

  pub has_opened : (new : Told) → Become (with_file Log (log_of f)) (files_told mid) (files_told new) → Now (IsSafe Log (log_of f)) new → HasOpened replay old new keys (opened_of f)
  has_opened new become safe = record {
    finds = found_finds replay f keys (files_told old) there stands;
    stands = log_stands replay f keys stands;
    log = subst (λ (files : Option Files). Become (with_file Log (log_of f)) files (files_told new)) stayed become;
    safe = safe;
    images = λ image may. kept_restarts replay f keys image stands (safe_one Log (log_of f) may.disk image (safe_now (IsSafe Log (log_of f)) (disk_told new) may.disk safe may.tells) may.leaves);
  }

  -- the directory failed on the way
  pub partly : (new : Told) → Stay (files_told mid) (files_told new) ⊎ Become (with_file Log (log_of f)) (files_told mid) (files_told new) → IsPartlyOpen replay (files_told old) (files_told new)
  partly new (inl stay) = inl (stay ∙ stayed)
  partly new (inr become) = inr (
    opening_of f keys,
    record {
      opens = found_opens replay f keys (files_told old) there stands;
      log = subst (λ (files : Option Files). Become (with_file Log (log_of f)) files (files_told new)) stayed become;
    },
  )

  pub there_still : IsThereAs f (files_told mid)
  there_still = subst (λ (files : Option Files). IsThereAs f files) (sym stayed) there

-- opening that stops while it reads
pub unopened_stops : (replay : Meaning) (why : OpenStop) (old new : Told) → IsUnopened replay why (files_told old) → SameDisk old new → OpenStops replay why old new
unopened_stops replay (stops.LogRefused file at why) old new is same = (is, same)
unopened_stops replay stops.NotBuilt old new is same = (is, same)
unopened_stops replay stops.Dir old new is same = inl (same_files old new same)
unopened_stops replay (stops.Stopped why) old new is same = same

-- what a crash leaves while it reads
pub crash_reading : (replay : Meaning) (old new : Told) → SameDisk old new → LeavesOnly old new (RestartsAsLeft replay (disk_told old))
crash_reading replay old new same = moments.same old new (RestartsAsLeft replay (disk_told old)) same (λ image may. as_it_is replay (disk_told old) image may)
