-- What a frame makes of a replica that follows a run. It serves the law on replicas.
use Rattle.std.proofs.Common.{◌≡◌, ℕ, ◌<◌, ◌≤◌, List, [], ◌∷◌, Option, None, Some, refl, arith}
use Rattle.std.specs.List.{AllByRecursion}
use Rattle.std.proofs.lemmas.Bool.Decides.{nat_tests}
use Rattle.core_types.specs.Keys.{Keys, no_keys}
use Rattle.effect_log.specs.Replay.{Meaning}
use Rattle.replica_feed.specs.declared.frame.Frame.{Frame}
use Rattle.replica_feed.specs.declared.frame.Frame.TheVariants as frame
use Rattle.replica_feed.specs.declared.replica.Applied.{Applied}
use Rattle.replica_feed.specs.declared.replica.Applied.TheVariants as applied
use Rattle.replica_feed.specs.Runs.{Run, HasKeys, StandsFor}
use Rattle.replica_feed.specs.Applying.{Place, Following, Follows, Applies, AppliesAll, Becomes, Took, answer_to, answer_to_full, answer_to_unit}
use Rattle.replica_feed.proofs.Stretches.{goes_on}

record UnitTaken (p : Place) (run from to n : ℕ) : Type 0 where
  run_is : run ≡ p.run
  begun : from ≤ p.number
  ahead : p.number < to
  end_is : n ≡ to

unit_taken : (p : Place) (run from to n : ℕ) → applied.To n ≡ answer_to_unit p run from to
    → UnitTaken p run from to n
unit_taken p run from to n is = record {
  run_is = grind (arith, nat_tests);
  begun = grind (arith, nat_tests);
  ahead = grind (arith, nat_tests);
  end_is = grind (arith, nat_tests);
}

full_not_taken : (p : Place) (run number n : ℕ) → ¬ (applied.To n ≡ answer_to_full p run number)
full_not_taken p run number n is = grind (arith, nat_tests)

same_number : (n number : ℕ) → applied.To n ≡ applied.To number → n ≡ number
same_number n number is = grind arith

module _ {R : Type 0} (keys : R → Keys) (replay : Meaning) (saved : List ℕ → Keys → Type 0)
    (r : Run) where
  stays : (old new : Following R) → new ≡ old → Follows keys replay saved r old
      → Follows keys replay saved r new
  stays old new is follows = rw is follows

  stands : (new : Following R) (run n : ℕ) → new.at ≡ Some (record { run = run; number = n })
      → run ≡ r.number → HasKeys replay r n (keys new.replayer) → Follows keys replay saved r new
  stands new run n at is has = rw at (is, has)

  -- a frame was taken
  takes : (old new : Following R) (at : Option Place) (f : Frame) (n : ℕ) → old.at ≡ at
      → applied.To n ≡ answer_to at f → StandsFor replay saved r f
      → Follows keys replay saved r old → Took keys replay saved old f new n
      → Follows keys replay saved r new
  takes old new None (frame.Full run number file) n at is so follows took =
      stands new run n took.at so.0
      (rw (same_number n number is) (so.1 (keys new.replayer) took.makes))
  takes old new None (frame.Unit run from to es) n at is so follows took = absurd (grind arith)
  takes old new (Some p) (frame.Full run number file) n at is so follows took =
      absurd (full_not_taken p run number n is)
  takes old new (Some p) (frame.Unit run from to es) n at is so follows took =
      let t = unit_taken p run from to n is in
      let placed = rw at at follows in
      stands new run n took.at so.0
      (rw t.end_is
      (goes_on replay r from p.number to es (keys old.replayer) (keys new.replayer) placed.1 so.1
      t.begun t.ahead took.makes))

  becomes : (old new : Following R) (f : Frame) (answer : Applied) → answer ≡ answer_to old.at f
      → StandsFor replay saved r f → Follows keys replay saved r old
      → Becomes keys replay saved answer old f new → Follows keys replay saved r new
  becomes old new f (applied.To n) is so follows took =
      takes old new old.at f n refl is so follows took
  becomes old new f applied.Old is so follows same = stays old new same follows
  becomes old new f (applied.Gap from) is so follows same = stays old new same follows
  becomes old new f (applied.OtherRun run) is so follows same = stays old new same follows
  becomes old new f (applied.NeedsFresh number) is so follows same = stays old new same follows

  pub follows_on : (old new : Following R) (f : Frame) (answer : Applied)
      → StandsFor replay saved r f → Follows keys replay saved r old
      → Applies keys replay saved old f new answer → Follows keys replay saved r new
  follows_on old new f answer so follows applies =
      becomes old new f answer applies.answer_is so follows applies.becomes

  pub follows_all : (old last : Following R) (frames : List Frame)
      → AllByRecursion (StandsFor replay saved r) frames → Follows keys replay saved r old
      → AppliesAll keys replay saved old frames last → Follows keys replay saved r last
  follows_all old last [] each follows same = stays old last same follows
  follows_all old last (f ∷ frames) each follows all =
      follows_all all.0 last frames each.1
      (follows_on old all.0 f all.1 each.0 follows all.2) all.3

  pub fresh_follows : (fresh : Following R) → fresh.at ≡ None → keys fresh.replayer ≡ no_keys
      → Follows keys replay saved r fresh
  fresh_follows fresh at none = rw at none
