-- The words of frames. It serves the law on reading back what was written.
use Rattle.std.proofs.Common.{◌≡◌, ◌≢◌, ℕ, ◌<◌, ◌≤◌, ◌^◌, List, [], ◌∷◌, ◌++◌, length, get_or, refl, sym, ap, subst, ◌∙◌, arith, append-nil}
use Rattle.std.specs.List.{AllByRecursion}
use Rattle.std.specs.Fmt.{decimal}
use Rattle.std.proofs.lemmas.Fmt.{decimal_injective}
use Rattle.core_types.specs.Keyspace.{longest}
use Rattle.core_types.specs.declared.effect.Effect.{Effect}
use Rattle.byte_text.proofs.Decimals.{decimal-short}
use Rattle.resp_codec.specs.Spelling.{IsRequest, IsWord}
use Rattle.effect_log.specs.Unit.{unit, IsLoggable}
use Rattle.effect_log.specs.Log.{HoldsUnits}
use Rattle.effect_log.specs.Replay.{effects_of}
use Rattle.effect_log.specs.Written.{written}
use Rattle.effect_log.proofs.OneLog.{holds_one}
use Rattle.effect_log.proofs.ReadBack.{whole_read}
use Rattle.replica_feed.specs.declared.frame.Frame.{Frame}
use Rattle.replica_feed.specs.declared.frame.Frame.TheVariants as frame
use Rattle.replica_feed.specs.Frames.{content, frame_words, full_word, unit_word, IsForward, IsLoggableFrame}
use Rattle.replica_feed.specs.Words.{IsUnitText, AreFrame, HasNumbers}

number_word : (n : ℕ) → n < 2 ^ 64 → IsWord (decimal n)
number_word n small = omega (arith, (decimal-short n small).few)

pub request_of : (f : Frame) → IsForward f → HasNumbers f → length (content f) ≤ longest
    → IsRequest (frame_words f)
request_of (frame.Full run number file) forward numbers fits = record {
  some = omega arith;
  few = omega arith;
  each =
      (omega arith, (number_word run numbers.0, (number_word number numbers.1, (fits, tt))));
}
request_of (frame.Unit run from to effects) forward numbers fits = record {
  some = omega arith;
  few = omega arith;
  each = (
    omega arith,
    (
      number_word run numbers.0,
      (
        number_word from (omega (arith, forward, numbers.1)),
        (number_word to numbers.1, (fits, tt)),
      ),
    ),
  );
}

effects_written : (effects : List Effect) → effects ≡ effects_of (written effects ++ [])
effects_written [] = refl
effects_written (e ∷ []) = refl
effects_written (e ∷ f ∷ more) = sym (append-nil (e ∷ f ∷ more))

few_written : (effects : List Effect) → length (written effects ++ []) ≤ 1
few_written [] = omega arith
few_written (e ∷ []) = omega arith
few_written (e ∷ f ∷ more) = omega arith

-- the text of effects is one unit of them, or nothing
unit_is_text : (effects : List Effect) → AllByRecursion IsLoggable effects
    → IsUnitText (unit effects) effects
unit_is_text effects each = record {
  units = written effects ++ [];
  holds =
      subst (λ (bytes : List ℕ). HoldsUnits bytes (written effects ++ []) (length bytes))
      (append-nil (unit effects)) (whole_read (effects ∷ []) (each, tt));
  few = few_written effects;
  effects_are = effects_written effects;
}

pub frame_of : (f : Frame) → IsForward f → IsLoggableFrame f → HasNumbers f
    → AreFrame (frame_words f) f
frame_of (frame.Full run number file) forward each numbers = record {
  words_are = refl;
  run_fits = numbers.0;
  number_fits = numbers.1;
}
frame_of (frame.Unit run from to effects) forward each numbers = record {
  text = unit effects;
  words_are = refl;
  run_fits = numbers.0;
  forward = forward;
  to_fits = numbers.1;
  is_text = unit_is_text effects each;
}

-- a text is that of one list of effects
pub text_one : (text other : List ℕ) (es fs : List Effect) → text ≡ other → IsUnitText text es
    → IsUnitText other fs → es ≡ fs
text_one text other es fs same a b =
    let c : IsUnitText text fs = rw same b in
    a.effects_are
    ∙ ap effects_of (holds_one text a.units c.units (length text) (length text) a.holds c.holds).0
    ∙ sym c.effects_are

words_apart : full_word ≢ unit_word
words_apart is =
    let first : 70 ≡ 85 = ap (λ (word : List ℕ). get_or word 0 0) is in absurd (omega (arith, first))

first_of : (a b : List ℕ) (xs ys : List (List ℕ)) → a ∷ xs ≡ b ∷ ys → a ≡ b
first_of a b xs ys is = cc

same_full : (run run' number number' : ℕ) (file file' : List ℕ) → run ≡ run' → number ≡ number'
    → file ≡ file' → frame.Full run number file ≡ frame.Full run' number' file'
same_full run run' number number' file file' a b c = cc

same_unit : (run run' from from' to to' : ℕ) (es es' : List Effect) → run ≡ run' → from ≡ from'
    → to ≡ to' → es ≡ es' → frame.Unit run from to es ≡ frame.Unit run' from' to' es'
same_unit run run' from from' to to' es es' a b c d = cc

-- words are one frame
pub frame_one : (words : List (List ℕ)) (f g : Frame) → AreFrame words f → AreFrame words g
    → f ≡ g
frame_one words (frame.Full run number file) (frame.Full run' number' file') a b =
    let same : full_word ∷ decimal run ∷ decimal number ∷ file ∷ []
    ≡ full_word ∷ decimal run' ∷ decimal number' ∷ file' ∷ [] =
    sym a.words_are ∙ b.words_are in
    same_full run run' number number' file file'
    (decimal_injective run run' a.run_fits b.run_fits cc)
    (decimal_injective number number' a.number_fits b.number_fits cc)
    cc
frame_one words (frame.Full run number file) (frame.Unit run' from' to' es') a b =
    absurd (words_apart (first_of _ _ _ _ (sym a.words_are ∙ b.words_are)))
frame_one words (frame.Unit run from to es) (frame.Full run' number' file') a b =
    absurd (words_apart (sym (first_of _ _ _ _ (sym a.words_are ∙ b.words_are))))
frame_one words (frame.Unit run from to es) (frame.Unit run' from' to' es') a b =
    let same : unit_word ∷ decimal run ∷ decimal from ∷ decimal to ∷ a.text ∷ []
    ≡ unit_word ∷ decimal run' ∷ decimal from' ∷ decimal to' ∷ b.text ∷ [] =
    sym a.words_are ∙ b.words_are in
    same_unit run run' from from' to to' es es'
    (decimal_injective run run' a.run_fits b.run_fits cc)
    (decimal_injective from from' (omega (arith, a.forward, a.to_fits))
    (omega (arith, b.forward, b.to_fits)) cc)
    (decimal_injective to to' a.to_fits b.to_fits cc)
    (text_one a.text b.text es es' (cc) a.is_text b.is_text)
