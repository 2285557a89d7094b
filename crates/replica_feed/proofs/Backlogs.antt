-- A backlog of a run. It serves the law on backlogs.
use Rattle.std.proofs.Common.{◌≡◌, ℕ, ◌+◌, ◌-◌, ◌<◌, ◌≤◌, Bool, true, false, cond, if◌then◌else◌, nat_lt, List, [], ◌∷◌, ◌++◌, length, take, drop, replicate, zero, suc, Option, Some, refl, sym, ap, ◌∙◌, arith, length-append, drop_of_length-le}
use Rattle.std.specs.List.{find}
use Rattle.std.proofs.lemmas.Bool.Decides.{nat_tests}
use Rattle.std.proofs.lemmas.List.{drop-replicate, drop-drop, drop-append-le, take-append-le}
use Rattle.core_types.specs.Keys.{Keys}
use Rattle.core_types.specs.declared.effect.Effect.{Effect}
use Rattle.core_types.specs.Shown.{Backlog, NumberedEffects}
use Rattle.effect_log.specs.Replay.{Meaning}
use Rattle.replica_feed.specs.declared.frame.Frame.{Frame}
use Rattle.replica_feed.specs.declared.backlog.Since.TheVariants as since
use Rattle.replica_feed.specs.Units.{AreKept, last_to, frame_from, since_in, one_later, with_unit, without_oldest, pushed, most_units}
use Rattle.replica_feed.specs.Runs.{Run, IsStretch, StandsFor, AreStretches, IsBacklogOf, with_event}
use Rattle.replica_feed.proofs.Stretches.{none, quiet_more, stretch_later}

-- all of a list
whole : (xs : List (List Effect)) (n : ℕ) → length xs ≤ n → take n xs ≡ xs
whole [] zero l = refl
whole [] (suc n) l = refl
whole (x ∷ xs) zero l = absurd (omega (arith, l))
whole (x ∷ xs) (suc n) l = ap (λ (ys : List (List Effect)). x ∷ ys) (whole xs n (omega (arith, l)))

-- a stretch stays one as the run goes on
grown : (r : Run) (x : List Effect) (from to : ℕ) (es : List Effect) → IsStretch r from to es
    → IsStretch (with_event r x) from to es
grown r x from to es s = record {
  quiet = s.quiet;
  to_is = s.to_is;
  within = omega (arith, s.within, length-append r.events (x ∷ []));
  are = ap (drop from) (take-append-le to r.events (x ∷ []) s.within) ∙ s.are;
}

grown_all : (r : Run) (x : List Effect) (units : List NumberedEffects) → AreStretches r units
    → AreStretches (with_event r x) units
grown_all r x [] each = tt
grown_all r x (u ∷ units) each =
    (grown r x u.from u.to u.effects each.0, grown_all r x units each.1)

all_push : (r : Run) (units : List NumberedEffects) (u : NumberedEffects) → AreStretches r units
    → IsStretch r u.from u.to u.effects → AreStretches r (units ++ u ∷ [])
all_push r [] u each is = (is, tt)
all_push r (v ∷ units) u each is = (each.0, all_push r units u each.1 is)

last_to_push : (first : ℕ) (units : List NumberedEffects) (u : NumberedEffects)
    → last_to first (units ++ u ∷ []) ≡ u.to
last_to_push first [] u = refl
last_to_push first (v ∷ units) u = last_to_push v.to units u

-- an event without effects
later_is : (r : Run) (b : Backlog) → IsBacklogOf r b
    → IsBacklogOf (with_event r none) (one_later b)
later_is r b is = record {
  run = is.run;
  end = omega (arith, is.end, length-append r.events (none ∷ []));
  units = grown_all r none b.units is.units;
  quiet = suc is.quiet;
  end_is = omega (arith, is.end_is);
  after =
      drop-append-le (last_to b.first b.units) r.events (none ∷ [])
      (omega (arith, is.end, is.end_is))
      ∙ ap (λ (xs : List (List Effect)). xs ++ none ∷ []) is.after
      ∙ quiet_more is.quiet;
}

-- the stretch that ends with the event that comes next
next_stretch : (r : Run) (b : Backlog) (es : List Effect) → IsBacklogOf r b
    → IsStretch (with_event r es) (last_to b.first b.units) (b.end + 1) es
next_stretch r b es is = record {
  quiet = is.quiet;
  to_is = omega (arith, is.end_is);
  within = omega (arith, is.end, length-append r.events (es ∷ []));
  are =
      ap (drop (last_to b.first b.units))
      (whole (r.events ++ es ∷ []) (b.end + 1)
      (omega (arith, is.end, length-append r.events (es ∷ []))))
      ∙ drop-append-le (last_to b.first b.units) r.events (es ∷ [])
      (omega (arith, is.end, is.end_is))
      ∙ ap (λ (xs : List (List Effect)). xs ++ es ∷ []) is.after;
}

-- an event with effects
unit_is : (r : Run) (b : Backlog) (es : List Effect) → IsBacklogOf r b
    → IsBacklogOf (with_event r es) (with_unit b es)
unit_is r b es is =
    let u : NumberedEffects = record { from = last_to b.first b.units; to = b.end + 1; effects = es } in
    record {
      run = is.run;
      end = omega (arith, is.end, length-append r.events (es ∷ []));
      units =
          all_push (with_event r es) b.units u (grown_all r es b.units is.units)
          (next_stretch r b es is);
      quiet = 0;
      end_is = omega (arith, last_to_push b.first b.units u);
      after =
          drop_of_length-le (r.events ++ es ∷ [])
          (omega (arith, is.end, length-append r.events (es ∷ []), last_to_push b.first b.units u));
    }

rest_to : (first : ℕ) (units : List NumberedEffects)
    → last_to (last_to first (take 1 units)) (drop 1 units) ≡ last_to first units
rest_to first [] = refl
rest_to first (u ∷ units) = refl

rest_all : (r : Run) (units : List NumberedEffects) → AreStretches r units
    → AreStretches r (drop 1 units)
rest_all r [] each = tt
rest_all r (u ∷ units) each = each.1

-- without its oldest unit it is a backlog of the run
fewer_is : (r : Run) (b : Backlog) (t : Bool) → IsBacklogOf r b
    → IsBacklogOf r (if t then without_oldest b else b)
fewer_is r b true is = record {
  run = is.run;
  end = is.end;
  units = rest_all r b.units is.units;
  quiet = is.quiet;
  end_is = omega (arith, is.end_is, rest_to b.first b.units);
  after = ap (λ (k : ℕ). drop k r.events) (rest_to b.first b.units) ∙ is.after;
}
fewer_is r b false is = is

pub pushed_is : (r : Run) (b : Backlog) (es : List Effect) → IsBacklogOf r b
    → IsBacklogOf (with_event r es) (pushed b es)
pushed_is r b [] is = later_is r b is
pushed_is r b (e ∷ es) is =
    fewer_is (with_event r (e ∷ es)) (with_unit b (e ∷ es))
    (nat_lt most_units (length (with_unit b (e ∷ es)).units)) (unit_is r b (e ∷ es) is)

-- quiet events to the end of the run
quiet_stretch : (r : Run) (last n q end : ℕ) → drop last r.events ≡ replicate q none
    → end ≡ last + q → end ≡ length r.events → last ≤ n → n < end → IsStretch r n end none
quiet_stretch r last n q end after end_is all le below = record {
  quiet = end - n - 1;
  to_is = omega (arith, below);
  within = omega (arith, all);
  are =
      let at : n ≡ last + (n - last) = omega (arith, le) in
      let left : q - (n - last) ≡ suc (end - n - 1) = omega (arith, end_is, le, below) in
      ap (drop n) (whole r.events end (omega (arith, all)))
      ∙ ap (λ (k : ℕ). drop k r.events) at
      ∙ sym (drop-drop (n - last) last r.events)
      ∙ ap (drop (n - last)) after
      ∙ drop-replicate (n - last) q none
      ∙ ap (λ (k : ℕ). replicate k none) left
      ∙ sym (quiet_more (end - n - 1));
}

below_of : (n m : ℕ) → nat_lt n m ≡ true → n < m
below_of n m is = grind (arith, nat_tests)

above_of : (n m : ℕ) → nat_lt n m ≡ false → m ≤ n
above_of n m is = grind (arith, nat_tests)

module _ (replay : Meaning) (saved : List ℕ → Keys → Type 0) (r : Run) (b : Backlog)
    (run_is : b.run ≡ r.number) (n : ℕ) where
  picked : (u : NumberedEffects) (other : Option NumberedEffects) (t : Bool)
      → nat_lt n u.to ≡ t → IsStretch r u.from u.to u.effects → u.from ≤ n
      → (u.to ≤ n → StandsFor replay saved r (frame_from b n other))
      → StandsFor replay saved r (frame_from b n (cond t (Some u) other))
  picked u other true is s le more =
      (run_is, stretch_later r u.from n u.to u.effects s le (below_of n u.to is))
  picked u other false is s le more = more (above_of n u.to is)

  -- what is found stands for the run
  found_stands : (first : ℕ) (units : List NumberedEffects) (q : ℕ)
      → AreKept first units b.end → AreStretches r units → first ≤ n → n < b.end
      → drop (last_to first units) r.events ≡ replicate q none
      → b.end ≡ last_to first units + q → b.end ≡ length r.events
      → StandsFor replay saved r (frame_from b n (find (λ u. nat_lt n u.to) units))
  found_stands first [] q kept each le below after end_is all =
      (run_is, quiet_stretch r first n q b.end after end_is all le below)
  found_stands first (u ∷ units) q kept each le below after end_is all =
      picked u (find (λ v. nat_lt n v.to) units) (nat_lt n u.to) refl each.0
      (omega (arith, kept.0, le))
      (λ past. found_stands u.to units q kept.4 each.1 past below after end_is all)

record IsFrameSince (b : Backlog) (n : ℕ) (f : Frame) : Type 0 where
  begun : b.first ≤ n
  below : n < b.end
  frame_is : f ≡ frame_from b n (find (λ u. nat_lt n u.to) b.units)

frame_since : (b : Backlog) (n : ℕ) (f : Frame) → since_in b n ≡ since.Frame f
    → IsFrameSince b n f
frame_since b n f is = record {
  begun = grind (arith, nat_tests);
  below = grind (arith, nat_tests);
  frame_is = grind (arith, nat_tests);
}

pub since_stands : (replay : Meaning) (saved : List ℕ → Keys → Type 0) (r : Run) (b : Backlog)
    (n : ℕ) (f : Frame) → IsBacklogOf r b → AreKept b.first b.units b.end
    → since_in b n ≡ since.Frame f → StandsFor replay saved r f
since_stands replay saved r b n f is kept frame =
    let s = frame_since b n f frame in
    rw s.frame_is
    (found_stands replay saved r b is.run n b.first b.units is.quiet kept is.units s.begun s.below
    is.after is.end_is is.end)
