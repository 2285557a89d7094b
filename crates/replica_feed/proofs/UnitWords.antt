-- What the words of a Unit are, by what their text is. Serves the clause of judge_unit.
use Rattle.std.proofs.Common.{◌≡◌, ℕ, ◌<◌, ◌^◌, Bool, true, false, nat_lt, List, ◌∷◌, refl, sym, ap, subst, ◌∙◌, arith, length, [], if◌then◌else◌}
use Rattle.std.specs.Fmt.{decimal}
use Rattle.std.proofs.lemmas.Bool.{false≢true}
use Rattle.std.proofs.lemmas.Bool.Decides.{nat_tests}
use Rattle.std.proofs.lemmas.Fmt.{decimal_injective}
use Rattle.sequences.specs.Words.{word}
use Rattle.core_types.specs.declared.effect.Effect.{Effect}
use Rattle.effect_log.specs.Log.{BreaksAt}
use Rattle.effect_log.specs.declared.reason.Reason.{Reason}
use Rattle.effect_log.proofs.OneLog.{holds_unbroken}
use Rattle.replica_feed.specs.declared.fault.FrameFault.TheVariants as fault
use Rattle.replica_feed.specs.declared.frame.Frame.{Frame}
use Rattle.replica_feed.specs.declared.frame.Frame.TheVariants as frame
use Rattle.replica_feed.specs.declared.words.Text.{Text}
use Rattle.replica_feed.specs.declared.words.Text.TheVariants as is
use Rattle.replica_feed.specs.declared.words.Judged.TheVariants as judged
use Rattle.replica_feed.specs.Frames.{unit_word}
use Rattle.replica_feed.specs.Words.{AreFrame, IsUnitText}
use Rattle.replica_feed.specs.Reading.{HasBadText, IsFaultOf, IsJudged}
use Rattle.replica_feed.specs.inner.Texts.{Breaks, IsText, unit_of}
use Rattle.replica_feed.proofs.Judging.{Begin, unit_words}

-- the words of a Unit with these numbers
pub record AreNumbered (words : List (List ℕ)) (run from to : ℕ) : Type 0 where
  pub begin : Begin 5 unit_word words
  pub first : word 1 words ≡ decimal run
  pub second : word 2 words ≡ decimal from
  pub third : word 3 words ≡ decimal to
  pub run_fits : run < 2 ^ 64
  pub from_fits : from < 2 ^ 64
  pub to_fits : to < 2 ^ 64

all_words : (words : List (List ℕ)) (run from to : ℕ) → AreNumbered words run from to → words ≡ unit_word ∷ decimal run ∷ decimal from ∷ decimal to ∷ word 4 words ∷ []
all_words words run from to are = unit_words words run from to are.begin are.first are.second are.third

unit_shape : (words : List (List ℕ)) (run from to : ℕ) → AreNumbered words run from to → ((effects : List Effect) → from < to → ¬ IsUnitText (word 4 words) effects) → ((why : Reason) → ¬ Breaks (word 4 words) why) → IsFaultOf words fault.Shape
unfolding word
unit_shape words run from to are no_unit no_fault = (no_frame, no_text)
  where
    no_frame : (f : Frame) → ¬ AreFrame words f
    no_frame (frame.Full r n file) full = omega (arith, are.begin.0, ap (λ (w : List (List ℕ)). length w) full.words_are)
    no_frame (frame.Unit r f t effects) unit =
        let from_is : from ≡ f = decimal_injective from f are.from_fits (omega (arith, unit.forward, unit.to_fits)) (sym are.second ∙ ap (word 2) unit.words_are) in
        let to_is : to ≡ t = decimal_injective to t are.to_fits unit.to_fits (sym are.third ∙ ap (word 3) unit.words_are) in
        no_unit effects (omega (arith, unit.forward, from_is, to_is)) (subst (λ (b : List ℕ). IsUnitText b effects) (sym (ap (word 4) unit.words_are)) unit.is_text)

    no_text : (why : Reason) → ¬ HasBadText words why
    no_text why has = no_fault why (record { units = has.units; at = has.at; breaks = subst (λ (b : List ℕ). BreaksAt b has.units why has.at) (sym (ap (word 4) has.words_are)) has.breaks })

pub unit_judged : (words : List (List ℕ)) (run from to : ℕ) → AreNumbered words run from to → (text : Text) → IsText (word 4 words) text → IsJudged words (unit_of run from to text)
unit_judged words run from to are (is.Unit effects) unit = by (nat_lt from to) refl
  where
    by : (b : Bool) → nat_lt from to ≡ b → IsJudged words (if b then judged.Frame (frame.Unit run from to effects) else judged.Bad fault.Shape)
    by true less = record {
      text = word 4 words;
      words_are = all_words words run from to are;
      run_fits = are.run_fits;
      forward = grind (arith, nat_tests, less);
      to_fits = are.to_fits;
      is_text = unit;
    }
    by false more = unit_shape words run from to are
        (λ others less isnt. let same : nat_lt from to ≡ true = grind (arith, nat_tests, less) in absurd (false≢true (sym more ∙ same)))
        (λ why breaks. holds_unbroken (word 4 words) unit.units breaks.units (length (word 4 words)) breaks.at why unit.holds breaks.breaks)
unit_judged words run from to are is.Other other = unit_shape words run from to are (λ effects less. other.no_unit effects) other.no_fault
unit_judged words run from to are (is.Bad why) breaks = record {
  run = run;
  from = from;
  to = to;
  text = word 4 words;
  units = breaks.units;
  at = breaks.at;
  words_are = all_words words run from to are;
  fits = (are.run_fits, are.from_fits, are.to_fits);
  breaks = breaks.breaks;
}
