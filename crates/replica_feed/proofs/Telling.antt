-- What a reader of frames tells of a request. Serves the clauses of FrameReader::next.
use Rattle.std.proofs.Common.{◌≡◌, ℕ, List, refl, subst, None, Some, Option}
use Rattle.resp_codec.specs.Stream.{Stream}
use Rattle.replica_feed.specs.declared.fault.FrameFault.{FrameFault}
use Rattle.replica_feed.specs.declared.fault.FrameFault.TheVariants as fault
use Rattle.replica_feed.specs.declared.frame.Frame.{Frame}
use Rattle.replica_feed.specs.Words.{AreFrame}
use Rattle.replica_feed.specs.Reading.{Feed, TakesFrame, ComesNext, IsFaultOf, EndsAt}

abbrev pub feed_of : Stream → Option (ℕ × List (List ℕ)) → Option (ℕ × FrameFault) → Feed
feed_of stream held bad = record { stream = stream; held = held; bad = bad }

-- a request comes next: it was held, or is taken of the stream
module _ (held : Option (ℕ × List (List ℕ))) (old new : Stream) (begin : ℕ) (words : List (List ℕ)) (comes : ComesNext held old new begin words) where
  pub is_taken : (f : Frame) → AreFrame words f → TakesFrame (feed_of old held None) (feed_of new None None) begin f
  is_taken f is = record { words = words; comes = comes; is_frame = is; told = refl; before = refl; goes_on = refl }

  pub is_bad : (why : FrameFault) → IsFaultOf words why → EndsAt None (feed_of old held None) (feed_of new None (Some (begin, why))) begin why
  is_bad (fault.Request kind) is = absurd is
  is_bad (fault.Text why) is = (record { words = words; comes = comes; fault = is }, refl)
  is_bad fault.Shape is = (record { words = words; comes = comes; fault = is }, refl)

  -- and so it is seen from outside
  pub taken_seen : (a b : Feed) (offset : ℕ) (f : Frame) → feed_of old held None ≡ a → feed_of new None None ≡ b → begin ≡ offset → AreFrame words f → TakesFrame a b offset f
  taken_seen a b offset f from to at is =
      subst (λ (x : Feed). TakesFrame x b offset f) from
      (subst (λ (y : Feed). TakesFrame (feed_of old held None) y offset f) to
      (subst (λ (n : ℕ). TakesFrame (feed_of old held None) (feed_of new None None) n f) at (is_taken f is)))

  pub bad_seen : (a b : Feed) (offset : ℕ) (why : FrameFault) → feed_of old held None ≡ a → feed_of new None (Some (begin, why)) ≡ b → begin ≡ offset → IsFaultOf words why → EndsAt a.bad a b offset why
  bad_seen a b offset why from to at is =
      subst (λ (x : Feed). EndsAt x.bad x b offset why) from
      (subst (λ (y : Feed). EndsAt None (feed_of old held None) y offset why) to
      (subst (λ (n : ℕ). EndsAt None (feed_of old held None) (feed_of new None (Some (begin, why))) n why) at (is_bad why is)))
