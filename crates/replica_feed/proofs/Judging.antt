-- Words that are no frame. Serves the clauses of judge.
use Rattle.std.proofs.Common.{◌≡◌, ◌≢◌, ℕ, ◌<◌, ◌^◌, List, [], ◌∷◌, length, refl, ap, ◌∙◌, arith, Some}
use Rattle.std.specs.Fmt.{decimal}
use Rattle.sequences.specs.Words.{word}
use Rattle.byte_text.specs.Number.{u64_of}
use Rattle.byte_text.proofs.Decimals.{u64_of-only}
use Rattle.core_types.specs.declared.effect.Effect.{Effect}
use Rattle.effect_log.specs.declared.reason.Reason.{Reason}
use Rattle.replica_feed.specs.declared.fault.FrameFault.TheVariants as fault
use Rattle.replica_feed.specs.declared.frame.Frame.{Frame}
use Rattle.replica_feed.specs.declared.frame.Frame.TheVariants as frame
use Rattle.replica_feed.specs.Frames.{full_word, unit_word}
use Rattle.replica_feed.specs.Words.{AreFull, AreUnit, AreFrame}
use Rattle.replica_feed.specs.Reading.{HasBadText, IsFaultOf}

-- as many words, of which the first is this one
abbrev pub Begin : ℕ → List ℕ → List (List ℕ) → Type 0
Begin count name words = (length words ≡ count) × (word 0 words ≡ name)

full_begins : (words : List (List ℕ)) (run number : ℕ) (file : List ℕ) → AreFull words run number file → Begin 4 full_word words
unfolding word
full_begins words run number file are = (ap (λ (w : List (List ℕ)). length w) are.words_are, ap (word 0) are.words_are)

unit_begins : (words : List (List ℕ)) (run from to : ℕ) (effects : List Effect) → AreUnit words run from to effects → Begin 5 unit_word words
unfolding word
unit_begins words run from to effects are = (ap (λ (w : List (List ℕ)). length w) are.words_are, ap (word 0) are.words_are)

text_begins : (words : List (List ℕ)) (why : Reason) → HasBadText words why → Begin 5 unit_word words
unfolding word
text_begins words why has = (ap (λ (w : List (List ℕ)). length w) has.words_are, ap (word 0) has.words_are)

-- words that begin in neither way are no frame
pub neither : (words : List (List ℕ)) → ¬ Begin 4 full_word words → ¬ Begin 5 unit_word words → IsFaultOf words fault.Shape
neither words no_full no_unit = (no_frame, λ why has. no_unit (text_begins words why has))
  where
    no_frame : (f : Frame) → ¬ AreFrame words f
    no_frame (frame.Full run number file) are = no_full (full_begins words run number file are)
    no_frame (frame.Unit run from to effects) are = no_unit (unit_begins words run from to effects are)

-- the four words, and the five, one by one
four : (words : List (List ℕ)) → length words ≡ 4 → words ≡ word 0 words ∷ word 1 words ∷ word 2 words ∷ word 3 words ∷ []
unfolding word
four (a ∷ b ∷ c ∷ d ∷ []) count = refl
four [] count = absurd (omega (arith, count))
four (a ∷ []) count = absurd (omega (arith, count))
four (a ∷ b ∷ []) count = absurd (omega (arith, count))
four (a ∷ b ∷ c ∷ []) count = absurd (omega (arith, count))
four (a ∷ b ∷ c ∷ d ∷ e ∷ more) count = absurd (omega (arith, count))

five : (words : List (List ℕ)) → length words ≡ 5 → words ≡ word 0 words ∷ word 1 words ∷ word 2 words ∷ word 3 words ∷ word 4 words ∷ []
unfolding word
five (a ∷ b ∷ c ∷ d ∷ e ∷ []) count = refl
five [] count = absurd (omega (arith, count))
five (a ∷ []) count = absurd (omega (arith, count))
five (a ∷ b ∷ []) count = absurd (omega (arith, count))
five (a ∷ b ∷ c ∷ []) count = absurd (omega (arith, count))
five (a ∷ b ∷ c ∷ d ∷ []) count = absurd (omega (arith, count))
five (a ∷ b ∷ c ∷ d ∷ e ∷ f ∷ more) count = absurd (omega (arith, count))

pub are_full : (words : List (List ℕ)) (run number : ℕ) → Begin 4 full_word words → word 1 words ≡ decimal run → word 2 words ≡ decimal number → run < 2 ^ 64 → number < 2 ^ 64 → AreFull words run number (word 3 words)
are_full words run number begin first second run_fits number_fits = record {
  words_are = four words begin.0 ∙ (λ i. begin.1 i ∷ first i ∷ second i ∷ word 3 words ∷ []);
  run_fits = run_fits;
  number_fits = number_fits;
}

pub unit_words : (words : List (List ℕ)) (run from to : ℕ) → Begin 5 unit_word words → word 1 words ≡ decimal run → word 2 words ≡ decimal from → word 3 words ≡ decimal to → words ≡ unit_word ∷ decimal run ∷ decimal from ∷ decimal to ∷ word 4 words ∷ []
unit_words words run from to begin first second third =
    five words begin.0 ∙ (λ i. begin.1 i ∷ first i ∷ second i ∷ third i ∷ word 4 words ∷ [])

-- a word that is no decimal of 64 bits
abbrev pub IsNone : List ℕ → Type 0
IsNone text = (n : ℕ) → n < 2 ^ 64 → text ≢ decimal n

-- FULL without its two numbers is no frame
pub full_without : (words : List (List ℕ)) → Begin 4 full_word words → ((run number : ℕ) → run < 2 ^ 64 → number < 2 ^ 64 → word 1 words ≡ decimal run → ¬ (word 2 words ≡ decimal number)) → IsFaultOf words fault.Shape
unfolding word
full_without words begin none = (no_frame, λ why has. other (text_begins words why has))
  where
    other : ¬ Begin 5 unit_word words
    other is = omega (arith, begin.0, is.0)

    no_frame : (f : Frame) → ¬ AreFrame words f
    no_frame (frame.Full run number file) are = none run number are.run_fits are.number_fits (ap (word 1) are.words_are) (ap (word 2) are.words_are)
    no_frame (frame.Unit run from to effects) are = other (unit_begins words run from to effects are)

-- UNIT with its text is a frame only where its numbers rise, and the text is a unit or nothing
pub unit_without : (words : List (List ℕ)) → Begin 5 unit_word words
    → ((run from to : ℕ) → run < 2 ^ 64 → from < 2 ^ 64 → to < 2 ^ 64 → word 1 words ≡ decimal run → word 2 words ≡ decimal from → word 3 words ≡ decimal to → ⊥)
    → IsFaultOf words fault.Shape
unfolding word
unit_without words begin none = (no_frame, no_text)
  where
    other : ¬ Begin 4 full_word words
    other is = omega (arith, begin.0, is.0)

    no_frame : (f : Frame) → ¬ AreFrame words f
    no_frame (frame.Full run number file) are = other (full_begins words run number file are)
    no_frame (frame.Unit run from to effects) are = none run from to are.run_fits (omega (arith, are.forward, are.to_fits)) are.to_fits (ap (word 1) are.words_are) (ap (word 2) are.words_are) (ap (word 3) are.words_are)

    no_text : (why : Reason) → ¬ HasBadText words why
    no_text why has = none has.run has.from has.to has.fits.0 has.fits.1 has.fits.2 (ap (word 1) has.words_are) (ap (word 2) has.words_are) (ap (word 3) has.words_are)

-- what is read as a number has 64 bits
pub small : (text : List ℕ) (n : ℕ) → u64_of text ≡ Some n → n < 2 ^ 64
small text n read = (u64_of-only text n read).0
