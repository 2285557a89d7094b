-- What the next unit of a log says of the log. Serves the clauses of `LogReader::next`.
use Rattle.std.proofs.Common.{◌≡◌, ℕ, ◌+◌, ◌≤◌, List, [], ◌∷◌, ◌++◌, length, drop, ap, ◌∙◌, arith}
use Rattle.std.specs.List.{slice_get}
use Rattle.std.proofs.lemmas.List.{drop-drop, length-append, length-drop}
use Rattle.core_types.specs.declared.effect.Effect.{Effect}
use Rattle.effect_log.specs.Log.{unit_bytes, FaultAt}
use Rattle.effect_log.specs.Unit.{effect_text}
use Rattle.effect_log.specs.Entry.{IsEffectFront}
use Rattle.effect_log.specs.Front.{IsUnitFront}
use Rattle.effect_log.proofs.OpenedUnits.{IsUnitFront-lone}
use Rattle.effect_log.specs.Reading.{Log, ahead, TakesUnit, IsFaulty}
use Rattle.effect_log.specs.declared.reason.Reason.{Reason}

pub takes_unit : (old new : Log) (effects : List Effect) (starts : List ℕ) (size : ℕ) → IsUnitFront (ahead old) old.place effects starts size → new.bytes ≡ old.bytes → new.place ≡ old.place + size → new.starts ≡ starts → TakesUnit old new effects
takes_unit old new effects starts size front bytes place starts_are = record {
  unit = front.unit;
  is_unit = front.is_unit;
  effects_are = front.effects_are;
  bytes = bytes;
  taken = rw (bytes, place) (front.whole ∙ ap (λ (bs : List ℕ). unit_bytes front.unit ++ bs) (drop-drop size old.place old.bytes));
  place = place ∙ ap (λ (k : ℕ). old.place + k) front.size_is;
  count = ap (λ (s : List ℕ). length s) starts_are ∙ front.count;
  starts = λ n below. ap (λ (s : List ℕ). slice_get s n) starts_are ∙ front.starts_are n below;
}

-- of a unit of one effect too
pub takes_lone : (old new : Log) (effect : Effect) (size : ℕ) → IsEffectFront (ahead old) effect size → new ≡ record old { place = old.place + size; starts = old.place ∷ [] } → TakesUnit old new (effect ∷ [])
takes_lone old new effect size front passed =
    takes_unit old new (effect ∷ []) (old.place ∷ []) size (IsUnitFront-lone (ahead old) old.place effect size front) (ap (λ (l : Log). l.bytes) passed) (ap (λ (l : Log). l.place) passed) (ap (λ (l : Log). l.starts) passed)

pub effect_within : (bytes : List ℕ) (place size : ℕ) (effect : Effect) → place ≤ length bytes → IsEffectFront (drop place bytes) effect size → place + size ≤ length bytes
effect_within bytes place size effect within front =
    omega (arith, front.size_is, ap (λ (bs : List ℕ). length bs) front.whole, length-append (effect_text effect) (drop size (drop place bytes)), length-drop place bytes)

pub is_faulty : (log : Log) (offset place : ℕ) (why : Reason) → FaultAt (ahead log) why place → offset ≡ log.place + place → IsFaulty log offset why
is_faulty log offset place why fault offset_is = record { place = place; fault = fault; offset_is = offset_is }
