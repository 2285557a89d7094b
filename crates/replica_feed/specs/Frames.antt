-- What a host sends to a replica, and its text.
use Rattle.std.specs.Prelude.{⊤, ◌<◌, ℕ, List, [], ◌∷◌, codes}
use Rattle.std.specs.List.{AllByRecursion}
use Rattle.std.specs.Fmt.{decimal}
use Rattle.resp_codec.specs.Spelling.{multibulk}
use Rattle.effect_log.specs.Unit.{unit, IsLoggable}
use Rattle.replica_feed.specs.declared.frame.Frame.{Frame}
use Rattle.replica_feed.specs.declared.frame.Frame.TheVariants as frame

-- the words that frames begin with
abbrev pub full_word : List ℕ
full_word = codes "FULL"

abbrev pub unit_word : List ℕ
unit_word = codes "UNIT"

-- what a frame carries: the file, or the unit text of its effects
abbrev pub content : Frame → List ℕ
content (frame.Full run number file) = file
content (frame.Unit run from to effects) = unit effects

-- the words of a frame
abbrev pub frame_words : Frame → List (List ℕ)
frame_words (frame.Full run number file) =
    full_word ∷ decimal run ∷ decimal number ∷ file ∷ []
frame_words (frame.Unit run from to effects) =
    unit_word ∷ decimal run ∷ decimal from ∷ decimal to ∷ unit effects ∷ []

-- the text of a frame: its words as one request
abbrev pub frame_text : Frame → List ℕ
frame_text f = multibulk (frame_words f)

-- the effects that it carries can be logged
abbrev pub IsLoggableFrame : Frame → Type 0
IsLoggableFrame (frame.Full run number file) = ⊤
IsLoggableFrame (frame.Unit run from to effects) = AllByRecursion IsLoggable effects

-- it goes on from a number to a later one
abbrev pub IsForward : Frame → Type 0
IsForward (frame.Full run number file) = ⊤
IsForward (frame.Unit run from to effects) = from < to
