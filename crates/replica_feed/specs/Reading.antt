-- What a stream of frames says, in whatever pieces it comes.
use Rattle.std.specs.Prelude.{◌≡◌, ◌<◌, ◌+◌, ◌^◌, ◌++◌, ℕ, List, [], ◌∷◌, length, Option, None, Some}
use Rattle.std.specs.Fmt.{decimal}
use Rattle.std.specs.List.{concat}
use Rattle.core_types.specs.declared.bad_request.BadRequest.{BadRequest}
use Rattle.resp_codec.specs.Spelling.{Spells, SkipsAll}
use Rattle.resp_codec.specs.Stream.{Stream, Passes, Waits, Refuses, SkipsOnly}
use Rattle.effect_log.specs.Log.{Unit, BreaksAt}
use Rattle.effect_log.specs.declared.reason.Reason.{Reason}
use Rattle.replica_feed.specs.declared.frame.Frame.{Frame}
use Rattle.replica_feed.specs.declared.fault.FrameFault.{FrameFault}
use Rattle.replica_feed.specs.declared.fault.FrameFault.TheVariants as fault
use Rattle.replica_feed.specs.declared.words.Judged.{Judged}
use Rattle.replica_feed.specs.declared.words.Judged.TheVariants as judged
use Rattle.replica_feed.specs.Frames.{unit_word}
use Rattle.replica_feed.specs.Words.{AreFrame}

-- `UNIT`, three numbers, and a text that has a fault of form, as a log would have it
pub record HasBadText (words : List (List ℕ)) (why : Reason) : Type 0 where
  pub run : ℕ
  pub from : ℕ
  pub to : ℕ
  pub text : List ℕ
  pub units : List Unit
  pub at : ℕ
  pub words_are : words ≡ unit_word ∷ decimal run ∷ decimal from ∷ decimal to ∷ text ∷ []
  pub fits : (run < 2 ^ 64) × (from < 2 ^ 64) × (to < 2 ^ 64)
  pub breaks : BreaksAt text units why at

-- Why words are no frame: their text, or anything else.
abbrev pub IsFaultOf : List (List ℕ) → FrameFault → Type 0
IsFaultOf words (fault.Request kind) = ⊥
IsFaultOf words (fault.Text why) = HasBadText words why
IsFaultOf words fault.Shape = ((f : Frame) → ¬ AreFrame words f)
    × ((why : Reason) → ¬ HasBadText words why)

-- what words were found to be is so
abbrev pub IsJudged : List (List ℕ) → Judged → Type 0
IsJudged words (judged.Frame f) = AreFrame words f
IsJudged words (judged.Bad why) = IsFaultOf words why

-- a stream that is read: what was passed and what is left; the words of a request that was passed
-- and not told yet, with the offset of its first byte, where memory ran out; and the bad place that
-- ends it, if one was found
pub record Feed : Type 0 where
  pub stream : Stream
  pub held : Option (ℕ × List (List ℕ))
  pub bad : Option (ℕ × FrameFault)

-- behind empty requests one of these words was passed, and this is the offset of its first byte
pub record TakesAt (old new : Stream) (offset : ℕ) (words : List (List ℕ)) : Type 0 where
  pub skipped : List (List ℕ)
  pub bytes : List ℕ
  pub skips : SkipsAll skipped
  pub spells : Spells bytes words
  pub passes : Passes old new (concat skipped ++ bytes)
  pub place : offset ≡ old.passed + length (concat skipped)

-- The next request, which begins at this offset: what is held, or the next of the stream.
abbrev pub ComesNext : Option (ℕ × List (List ℕ)) → Stream → Stream → ℕ → List (List ℕ) → Type 0
ComesNext (Some held) old new offset words = (new ≡ old) × (held ≡ (offset, words))
ComesNext None old new offset words = TakesAt old new offset words

-- the next request is this frame, and begins at this offset
pub record TakesFrame (old new : Feed) (offset : ℕ) (f : Frame) : Type 0 where
  pub words : List (List ℕ)
  pub comes : ComesNext old.held old.stream new.stream offset words
  pub is_frame : AreFrame words f
  pub told : new.held ≡ None
  pub before : old.bad ≡ None
  pub goes_on : new.bad ≡ None

-- no whole request, nothing that is skipped, and no bad place
pub record WaitsFor (old new : Feed) : Type 0 where
  pub waits : Waits old.stream new.stream
  pub none : old.held ≡ None
  pub told : new.held ≡ None
  pub before : old.bad ≡ None
  pub goes_on : new.bad ≡ None

-- the next request is no frame, and begins at this offset
pub record IsBadFrame (old new : Feed) (offset : ℕ) (why : FrameFault) : Type 0 where
  pub words : List (List ℕ)
  pub comes : ComesNext old.held old.stream new.stream offset words
  pub fault : IsFaultOf words why

-- what comes next is no request, and its first byte stands at this offset
pub record BreaksFrom (old new : Stream) (offset : ℕ) (kind : BadRequest) : Type 0 where
  pub place : ℕ
  pub refuses : Refuses old new kind place
  pub offset_is : offset ≡ new.passed

-- nothing is held, and what comes next is no request
pub record IsBadRequest (old new : Feed) (offset : ℕ) (kind : BadRequest) : Type 0 where
  pub none : old.held ≡ None
  pub breaks : BreaksFrom old.stream new.stream offset kind

abbrev pub BreaksOff : Feed → Feed → ℕ → FrameFault → Type 0
BreaksOff old new offset (fault.Request kind) = IsBadRequest old new offset kind
BreaksOff old new offset (fault.Text why) = IsBadFrame old new offset (fault.Text why)
BreaksOff old new offset fault.Shape = IsBadFrame old new offset fault.Shape

-- the first bad place, or the same again
abbrev pub EndsAt : Option (ℕ × FrameFault) → Feed → Feed → ℕ → FrameFault → Type 0
EndsAt (Some bad) old new offset why = (new ≡ old) × (bad ≡ (offset, why))
EndsAt None old new offset why = BreaksOff old new offset why × (new.bad ≡ Some (offset, why))

-- What is held stays; where nothing was held, empty requests were passed and nothing else, or a
-- request that is held now.
abbrev pub KeepsPlace : Option (ℕ × List (List ℕ)) → Option (ℕ × List (List ℕ))
    → Stream → Stream → Type 0
KeepsPlace (Some was) now old new = (now ≡ Some was) × (new ≡ old)
KeepsPlace None None old new = SkipsOnly old new
KeepsPlace None (Some held) old new = TakesAt old new held.0 held.1

-- memory ran out: no request is lost, and there is no bad place that was not there
pub record LeavesOff (old new : Feed) : Type 0 where
  pub place : KeepsPlace old.held new.held old.stream new.stream
  pub bad : new.bad ≡ old.bad
