-- What applying frames makes of a replica.
use Rattle.std.specs.Prelude.{◌≡◌, ◌==◌, nat_lt, nat_le, not, ℕ, List, [], ◌∷◌, Option, None, Some, MatchOption, if◌then◌else◌, Ok, take, slice_get, Bool, true, ⊤}
use Rattle.core_types.specs.Keys.{Keys, no_keys}
use Rattle.core_types.specs.declared.effect.Effect.{Effect}
use Rattle.effect_log.specs.Replay.{Meaning, Refuses, replayed}
use Rattle.effect_log.specs.declared.reason.Reason.{Reason}
use Rattle.replica_feed.specs.declared.frame.Frame.{Frame}
use Rattle.replica_feed.specs.declared.frame.Frame.TheVariants as frame
use Rattle.replica_feed.specs.declared.replica.Applied.{Applied}
use Rattle.replica_feed.specs.declared.replica.Applied.TheVariants as applied
use Rattle.replica_feed.specs.Runs.{Run, HasKeys}

-- a run, and how many of its events were applied
pub record Place : Type 0 where
  pub run : ℕ
  pub number : ℕ

-- a replica: where it stands, none before its first frame, and what has its keys
pub record Following (R : Type 0) : Type 0 where
  pub at : Option Place
  pub replayer : R

abbrev pub run_of : Frame → ℕ
run_of (frame.Full run number file) = run
run_of (frame.Unit run from to effects) = run

-- What is answered to a frame, in this order.
abbrev pub answer_to_full : Place → ℕ → ℕ → Applied
answer_to_full p run number =
    if not (run == p.run) then applied.OtherRun run
    else if nat_le number p.number then applied.Old
    else applied.NeedsFresh number

abbrev pub answer_to_unit : Place → ℕ → ℕ → ℕ → Applied
answer_to_unit p run from to =
    if not (run == p.run) then applied.OtherRun run
    else if nat_le to p.number then applied.Old
    else if nat_lt p.number from then applied.Gap from
    else applied.To to

abbrev pub answer_to : Option Place → Frame → Applied
answer_to None (frame.Full run number file) = applied.To number
answer_to None (frame.Unit run from to effects) = applied.Gap from
answer_to (Some p) (frame.Full run number file) = answer_to_full p run number
answer_to (Some p) (frame.Unit run from to effects) = answer_to_unit p run from to

-- it has all keys
abbrev pub IsFull : Frame → Type 0
IsFull (frame.Full run number file) = ⊤
IsFull (frame.Unit run from to effects) = ⊥

-- it is to be applied
abbrev pub IsTaken : Applied → Type 0
IsTaken (applied.To n) = ⊤
IsTaken applied.Old = ⊥
IsTaken (applied.Gap from) = ⊥
IsTaken (applied.OtherRun run) = ⊥
IsTaken (applied.NeedsFresh number) = ⊥

-- What a frame makes of the keys: those of its file, or what its effects make of them.
abbrev pub Makes : Meaning → (List ℕ → Keys → Type 0) → Frame → Keys → Keys → Type 0
Makes replay saved (frame.Full run number file) keys after = saved file after
Makes replay saved (frame.Unit run from to effects) keys after = replayed replay keys effects ≡ Ok after

-- an effect makes nothing of what those before it made of the keys
pub record RefusesOne (replay : Meaning) (keys : Keys) (effects : List Effect) (why : Reason)
    : Type 0 where
  pub count : ℕ
  pub effect : Effect
  pub after : Keys
  pub there : slice_get effects count ≡ Some effect
  pub before : replayed replay keys (take count effects) ≡ Ok after
  pub refused : Refuses replay after effect why

-- A frame makes nothing of the keys: the place in its file, or 0, and why.
abbrev pub MakesNothing : Meaning → (List ℕ → Bool → ℕ → Reason → Type 0) → Frame → Keys → ℕ
    → Reason → Type 0
MakesNothing replay refuses (frame.Full run number file) keys place why =
    refuses file true place why
MakesNothing replay refuses (frame.Unit run from to effects) keys place why =
    (place ≡ 0) × RefusesOne replay keys effects why

module _ {R : Type 0} (keys : R → Keys) where
  -- before its first frame it has no keys
  abbrev pub IsReady : Following R → Type 0
  IsReady old = old.at ≡ None → keys old.replayer ≡ no_keys

  module _ (replay : Meaning) (saved : List ℕ → Keys → Type 0) where
    -- a frame was applied, and the replica stands at this number
    pub record Took (old : Following R) (f : Frame) (new : Following R) (n : ℕ) : Type 0 where
      pub at : new.at ≡ Some (record { run = run_of f; number = n })
      pub makes : Makes replay saved f (keys old.replayer) (keys new.replayer)

    -- what becomes of the replica, by the answer
    abbrev pub Becomes : Applied → Following R → Frame → Following R → Type 0
    Becomes (applied.To n) old f new = Took old f new n
    Becomes applied.Old old f new = new ≡ old
    Becomes (applied.Gap from) old f new = new ≡ old
    Becomes (applied.OtherRun run) old f new = new ≡ old
    Becomes (applied.NeedsFresh number) old f new = new ≡ old

    -- A frame was answered so.
    pub record Applies (old : Following R) (f : Frame) (new : Following R) (answer : Applied)
        : Type 0 where
      pub answer_is : answer ≡ answer_to old.at f
      pub becomes : Becomes answer old f new
      pub ready : IsReady new

    -- Frames were answered one after the other, and none was refused.
    abbrev pub AppliesAll : Following R → List Frame → Following R → Type 0
    AppliesAll old [] new = new ≡ old
    AppliesAll old (f ∷ frames) new =
        (mid : Following R) × (answer : Applied) × Applies old f mid answer
        × AppliesAll mid frames new

    -- The replica has no keys yet, or those after as many events of the run as its number says.
    abbrev pub Follows : Run → Following R → Type 0
    Follows r s =
        MatchOption s.at (keys s.replayer ≡ no_keys)
        (λ p. (p.run ≡ r.number) × HasKeys replay r p.number (keys s.replayer))
