-- Serves the clauses of `one_opening`: files have one opening, or none and one reason.
use Rattle.std.proofs.Common.{◌≡◌, ◌⊎◌, ℕ, List, [], take, Option, Some, None, IsSome, true, false, refl, sym, ap, ◌∙◌, inl, inr}
use Rattle.core_types.specs.Keys.{Keys, no_keys}
use Rattle.disk_model.specs.Files.{Files}
use Rattle.effect_log.specs.declared.reason.Reason.{Reason}
use Rattle.effect_log.specs.Replay.{Meaning, Holds, IsRefused}
use Rattle.effect_log.proofs.OneReplay.{outcome, Holds-one, IsRefused-one, Holds-unrefused}
use Rattle.restart.specs.Restart.{Opening, OpensAs, Opens, IsRefusedLog, HasDumpAlone}

abbrev HasOutcome : Meaning → Files → Type 0
HasOutcome replay files = ((opening : Opening) × Opens replay files opening) ⊎ (((why : Reason) × (at : ℕ) × IsRefusedLog replay files why at) ⊎ HasDumpAlone files)

of_log : (replay : Meaning) (files : Files) (bytes : List ℕ) → files.log ≡ Some bytes → ((keys : Keys) × (kept : ℕ) × Holds replay bytes keys kept) ⊎ ((why : Reason) × (at : ℕ) × IsRefused replay bytes why at) → HasOutcome replay files
of_log replay files bytes there (inl (keys, kept, holds)) = inl (record { keys = keys; log = take kept bytes }, rw there (kept, holds, refl))
of_log replay files bytes there (inr (why, at, refused)) = inr (inl (why, at, record { bytes = bytes; there = there; refused = refused }))

of_files : (replay : Meaning) (files : Files) (log dump : Option (List ℕ)) → files.log ≡ log → files.dump ≡ dump → HasOutcome replay files
of_files replay files (Some bytes) dump is_log is_dump = of_log replay files bytes is_log (outcome replay bytes)
of_files replay files None None is_log is_dump = inl (record { keys = no_keys; log = [] }, rw (is_log, is_dump) (refl, refl))
of_files replay files None (Some dump) is_log is_dump = inr (inr record { no_log = is_log; dump = rw is_dump refl })

pub some_outcome : (replay : Meaning) (files : Files) → HasOutcome replay files
some_outcome replay files = of_files replay files files.log files.dump refl refl

abbrev of_parts : Keys → List ℕ → Opening
of_parts keys log = record { keys = keys; log = log }

same : (a b : Opening) → a.keys ≡ b.keys → a.log ≡ b.log → a ≡ b
same a b keys log = ap (λ (k : Keys). of_parts k a.log) keys ∙ ap (λ (l : List ℕ). of_parts b.keys l) log

opens_one : (replay : Meaning) (log dump : Option (List ℕ)) (a b : Opening) → OpensAs replay log dump a → OpensAs replay log dump b → a ≡ b
opens_one replay (Some bytes) dump a b (kept, holds, is) (other, others, is_other) =
    let one = Holds-one replay bytes a.keys b.keys kept other holds others in
    same a b one.0 (is ∙ ap (λ (n : ℕ). take n bytes) one.1 ∙ sym is_other)
opens_one replay None None a b one two = same a b (one.0 ∙ sym two.0) (one.1 ∙ sym two.1)
opens_one replay None (Some dump) a b one two = absurd one

pub one_outcome : (replay : Meaning) (files : Files) (a b : Opening) → Opens replay files a → Opens replay files b → a ≡ b
one_outcome replay files a b one two = opens_one replay files.log files.dump a b one two

same_bytes : (files : Files) (a b : List ℕ) → files.log ≡ Some a → files.log ≡ Some b → a ≡ b
same_bytes files a b one two = let e : Some a ≡ Some b = sym one ∙ two in cc

pub one_refusal : (replay : Meaning) (files : Files) (why other : Reason) (at place : ℕ) → IsRefusedLog replay files why at → IsRefusedLog replay files other place → (why ≡ other) × (at ≡ place)
one_refusal replay files why other at place a b =
    IsRefused-one replay a.bytes why other at place a.refused (rw (same_bytes files a.bytes b.bytes a.there b.there) b.refused)

unrefused : (replay : Meaning) (log dump : Option (List ℕ)) (opening : Opening) (bytes : List ℕ) (why : Reason) (at : ℕ) → OpensAs replay log dump opening → log ≡ Some bytes → ¬ IsRefused replay bytes why at
unrefused replay (Some held) dump opening bytes why at (kept, holds, is) there refused =
    let same : held ≡ bytes = cc in
    Holds-unrefused replay held opening.keys kept at why holds (rw same refused)
unrefused replay None dump opening bytes why at opens there refused = let e : None ≡ Some bytes = there in cc

dumpless : (replay : Meaning) (log dump : Option (List ℕ)) (opening : Opening) → OpensAs replay log dump opening → log ≡ None → ¬ IsSome dump
dumpless replay (Some bytes) dump opening opens none some = let e : Some bytes ≡ None = none in cc
dumpless replay None None opening opens none some = let e : false ≡ true = some in cc
dumpless replay None (Some dump) opening opens none some = absurd opens

pub outcomes_apart : (replay : Meaning) (files : Files) (opening : Opening) (why : Reason) (at : ℕ) → Opens replay files opening → (¬ IsRefusedLog replay files why at) × (¬ HasDumpAlone files)
outcomes_apart replay files opening why at opens = (
  (λ r. unrefused replay files.log files.dump opening r.bytes why at opens r.there r.refused),
  (λ d. dumpless replay files.log files.dump opening opens d.no_log d.dump),
)

pub refused_has_log : (replay : Meaning) (files : Files) (why : Reason) (at : ℕ) → IsRefusedLog replay files why at → ¬ HasDumpAlone files
refused_has_log replay files why at r d = let e : Some r.bytes ≡ None = sym r.there ∙ d.no_log in cc
