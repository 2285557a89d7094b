-- A unit that was opened, as far as it was read.
use Rattle.std.proofs.Common.{◌≡◌, ◌⊎◌, ℕ, ◌+◌, ◌<◌, ◌≤◌, List, [], ◌∷◌, ◌++◌, length, take, drop, refl, sym, ap, ◌∙◌, append_assoc, append-nil, arith, inl, inr, Some, below_more}
use Rattle.std.specs.List.{AllByRecursion, slice_get}
use Rattle.std.proofs.lemmas.List.{length-append, length-drop, drop-drop, take-append-le, take_at, flat_map_more, length_push, get_or_push, get_or_append_left}
use Rattle.std.proofs.lemmas.Option.{slice_get-get_or}
use Rattle.core_types.specs.declared.effect.Effect.{Effect}
use Rattle.resp_codec.specs.Spelling.{multibulk}
use Rattle.resp_codec.specs.Array.{IsUnfinishedArray}
use Rattle.effect_log.specs.Unit.{multi, exec, effect_text, IsLoggable}
use Rattle.effect_log.specs.Log.{effects_text, IsRequestNamed, IsOpened, IsTorn, IsNested, FaultAt}
use Rattle.effect_log.specs.Entry.{IsNamedFront, IsEffectFront, IsBadFront}
use Rattle.effect_log.specs.Front.{IsUnitFront}
use Rattle.effect_log.specs.declared.reason.Reason.{Reason}
use Rattle.effect_log.specs.declared.reason.Reason.TheVariants as reason

-- A request opens the unit, and these effects follow, up to a place. They begin at these places of
-- the log, where the unit stands at an offset.
pub record IsSoFar (bytes : List ℕ) (offset : ℕ) (effects : List Effect) (starts : List ℕ) (place : ℕ) : Type 0 where
  pub opening : List ℕ
  pub opens : IsRequestNamed multi opening
  pub each : AllByRecursion IsLoggable effects
  pub whole : bytes ≡ opening ++ effects_text effects ++ drop place bytes
  pub place_is : place ≡ length (opening ++ effects_text effects)
  pub within : place ≤ length bytes
  pub count : length starts ≡ length effects
  pub starts_are : (n : ℕ) → n < length effects → slice_get starts n ≡ Some (offset + (length opening + length (effects_text (take n effects))))

-- two lists, one behind the other
pub AllByRecursion-append : {X : Type 0} (P : X → Type 0) (xs ys : List X) → AllByRecursion P xs → AllByRecursion P ys → AllByRecursion P (xs ++ ys)
AllByRecursion-append P [] ys of_xs of_ys = of_ys
AllByRecursion-append P (x ∷ xs) ys of_xs of_ys = (of_xs.0, AllByRecursion-append P xs ys of_xs.1 of_ys)

pub named_request : (name bytes : List ℕ) (size : ℕ) → (front : IsNamedFront name bytes size) → IsRequestNamed name (multibulk front.words)
named_request name bytes size front = record {
  words = front.words;
  request = front.request;
  named = front.named;
  whole = refl;
}

pub IsSoFar-opened : (bytes : List ℕ) (offset opening : ℕ) → IsNamedFront multi bytes opening → IsSoFar bytes offset [] [] opening
IsSoFar-opened bytes offset opening front = record {
  opening = multibulk front.words;
  opens = named_request multi bytes opening front;
  each = tt;
  whole = front.whole ∙ ap (λ (bs : List ℕ). bs ++ drop opening bytes) (sym (append-nil (multibulk front.words)));
  place_is = front.size_is ∙ ap (λ (bs : List ℕ). length bs) (sym (append-nil (multibulk front.words)));
  within = omega (arith, ap (λ (bs : List ℕ). length bs) front.whole, length-append (multibulk front.words) (drop opening bytes), front.size_is);
  count = refl;
  starts_are = λ n below. absurd (omega arith);
}

starts_push : (f : ℕ → ℕ) (starts : List ℕ) (count last : ℕ) → length starts ≡ count → f count ≡ last → ((n : ℕ) → n < count → slice_get starts n ≡ Some (f n)) → (n : ℕ) → n < count + 1 → slice_get (starts ++ last ∷ []) n ≡ Some (f n)
starts_push f starts count last size is before n below =
    let more = starts ++ last ∷ [] in
    let longer : length more ≡ count + 1 = omega (arith, length_push starts last) in
    let here : slice_get more count ≡ Some (f count) = slice_get-get_or more count 0 (omega arith) ∙ ap (λ (k : ℕ). Some k) (get_or_push starts last 0 count size ∙ sym is) in
    below_more (λ k. slice_get more k ≡ Some (f k)) count
    (λ k h. slice_get-get_or more k 0 (omega arith) ∙ ap (λ (k : ℕ). Some k) (get_or_append_left starts (last ∷ []) 0 k (omega arith)) ∙ sym (slice_get-get_or starts k 0 (omega arith)) ∙ before k h)
    here n below

-- what stands at a place ends within the bytes
front_fits : (bytes text more : List ℕ) (place size : ℕ) → place ≤ length bytes → drop place bytes ≡ text ++ more → size ≡ length text → place + size ≤ length bytes
front_fits bytes text more place size within e is =
    omega (arith, length-drop place bytes, ap (λ (bs : List ℕ). length bs) e, length-append text more)

pub IsSoFar-more : (bytes : List ℕ) (offset : ℕ) (effects : List Effect) (starts : List ℕ) (place : ℕ) (effect : Effect) (size : ℕ) → IsSoFar bytes offset effects starts place → IsEffectFront (drop place bytes) effect size →
    IsSoFar bytes offset (effects ++ effect ∷ []) (starts ++ (offset + place) ∷ []) (place + size)
IsSoFar-more bytes offset effects starts place effect size so_far front =
    let texts : effects_text (effects ++ effect ∷ []) ≡ effects_text effects ++ effect_text effect = sym (flat_map_more effect_text [] effects effect) in
    let longer : so_far.opening ++ effects_text (effects ++ effect ∷ []) ≡ so_far.opening ++ effects_text effects ++ effect_text effect = ap (λ (bs : List ℕ). so_far.opening ++ bs) texts ∙ sym (append_assoc so_far.opening (effects_text effects) (effect_text effect)) in
    let next : drop place bytes ≡ effect_text effect ++ drop (place + size) bytes = front.whole ∙ ap (λ (bs : List ℕ). effect_text effect ++ bs) (drop-drop size place bytes) in
    record {
      opening = so_far.opening;
      opens = so_far.opens;
      each = AllByRecursion-append IsLoggable effects (effect ∷ []) so_far.each (front.loggable, tt);
      whole = so_far.whole ∙ ap (λ (bs : List ℕ). so_far.opening ++ effects_text effects ++ bs) next ∙ sym (append_assoc (so_far.opening ++ effects_text effects) (effect_text effect) (drop (place + size) bytes)) ∙ ap (λ (bs : List ℕ). bs ++ drop (place + size) bytes) (sym longer);
      place_is = omega (arith, so_far.place_is, front.size_is, ap (λ (bs : List ℕ). length bs) longer, length-append (so_far.opening ++ effects_text effects) (effect_text effect));
      within = front_fits bytes (effect_text effect) (drop size (drop place bytes)) place size so_far.within front.whole front.size_is;
      count = omega (arith, so_far.count, length-append starts ((offset + place) ∷ []), length-append effects (effect ∷ []));
      starts_are = λ n below. starts_push (λ k. offset + (length so_far.opening + length (effects_text (take k (effects ++ effect ∷ []))))) starts (length effects) (offset + place) so_far.count
          (rw (take_at effects (effect ∷ []) (length effects) refl) (omega (arith, so_far.place_is, length-append so_far.opening (effects_text effects))))
          (λ k h. so_far.starts_are k h ∙ ap (λ (es : List Effect). Some (offset + (length so_far.opening + length (effects_text es)))) (sym (take-append-le k effects (effect ∷ []) (omega arith))))
          n (omega (arith, length_push effects effect));
    }

pub IsSoFar-closed : (bytes : List ℕ) (offset : ℕ) (effects : List Effect) (starts : List ℕ) (place size : ℕ) → IsSoFar bytes offset effects starts place → IsNamedFront exec (drop place bytes) size → IsUnitFront bytes offset effects starts (place + size)
IsSoFar-closed bytes offset effects starts place size so_far front =
    let closing = multibulk front.words in
    let next : drop place bytes ≡ closing ++ drop (place + size) bytes = front.whole ∙ ap (λ (bs : List ℕ). closing ++ bs) (drop-drop size place bytes) in
    record {
      unit = record { opening = so_far.opening; effects = effects; closing = closing };
      is_unit = record { each = so_far.each; form = inr record { opening = so_far.opens; closing = named_request exec (drop place bytes) size front } };
      effects_are = refl;
      whole = so_far.whole ∙ ap (λ (bs : List ℕ). so_far.opening ++ effects_text effects ++ bs) next ∙ sym (append_assoc (so_far.opening ++ effects_text effects) closing (drop (place + size) bytes));
      size_is = omega (arith, so_far.place_is, front.size_is, length-append (so_far.opening ++ effects_text effects) closing);
      count = so_far.count;
      starts_are = so_far.starts_are;
    }

pub IsSoFar-is_opened : (bytes : List ℕ) (offset : ℕ) (effects : List Effect) (starts : List ℕ) (place : ℕ) → (so_far : IsSoFar bytes offset effects starts place) → IsOpened (so_far.opening ++ effects_text effects)
IsSoFar-is_opened bytes offset effects starts place so_far = record {
  opening = so_far.opening;
  effects = effects;
  opens = so_far.opens;
  each = so_far.each;
  whole = refl;
}

pub IsTorn-so_far : (bytes : List ℕ) (offset : ℕ) (effects : List Effect) (starts : List ℕ) (place : ℕ) → IsSoFar bytes offset effects starts place → ((drop place bytes ≡ []) ⊎ IsUnfinishedArray (drop place bytes)) → IsTorn bytes
IsTorn-so_far bytes offset effects starts place so_far begun = inr record {
  front = so_far.opening ++ effects_text effects;
  rest = drop place bytes;
  opened = IsSoFar-is_opened bytes offset effects starts place so_far;
  begun = begun;
  whole = so_far.whole;
}

pub IsNested-so_far : (bytes : List ℕ) (offset : ℕ) (effects : List Effect) (starts : List ℕ) (place size : ℕ) → IsSoFar bytes offset effects starts place → IsNamedFront multi (drop place bytes) size → IsNested bytes place × (place < length bytes)
IsNested-so_far bytes offset effects starts place size so_far front = (
  record {
    before = so_far.opening ++ effects_text effects;
    rest = drop place bytes;
    opened = IsSoFar-is_opened bytes offset effects starts place so_far;
    again = record { words = front.words; begins = record { request = front.request; more = drop size (drop place bytes); whole = front.whole }; named = front.named };
    whole = so_far.whole;
    place_is = so_far.place_is;
  },
  omega (arith, front_fits bytes (multibulk front.words) (drop size (drop place bytes)) place size so_far.within front.whole front.size_is, front.size_is),
)

pub FaultAt-so_far : (bytes : List ℕ) (offset : ℕ) (effects : List Effect) (starts : List ℕ) (place : ℕ) (why : Reason) (at : ℕ) → IsSoFar bytes offset effects starts place → IsBadFront (drop place bytes) why at → FaultAt bytes why (place + at) × (place + at < length bytes)
FaultAt-so_far bytes offset effects starts place (reason.Request kind) at so_far bad = (
  record {
    before = so_far.opening ++ effects_text effects;
    rest = drop place bytes;
    place = at;
    due = inr (IsSoFar-is_opened bytes offset effects starts place so_far);
    bad = bad.0;
    whole = so_far.whole;
    place_is = omega (arith, so_far.place_is);
  },
  omega (arith, length-drop place bytes, bad.1),
)
FaultAt-so_far bytes offset effects starts place reason.NotMultibulk at so_far bad = (
  record {
    before = so_far.opening ++ effects_text effects;
    rest = drop place bytes;
    due = inr (IsSoFar-is_opened bytes offset effects starts place so_far);
    none = bad.0;
    whole = so_far.whole;
    place_is = omega (arith, so_far.place_is, bad.1);
  },
  omega (arith, length-drop place bytes, bad.1, bad.2),
)
FaultAt-so_far bytes offset effects starts place reason.NotAnEffect at so_far bad = absurd bad
FaultAt-so_far bytes offset effects starts place reason.EffectRefused at so_far bad = absurd bad
FaultAt-so_far bytes offset effects starts place (reason.Rdb cause) at so_far bad = absurd bad
FaultAt-so_far bytes offset effects starts place reason.NestedMulti at so_far bad = absurd bad
FaultAt-so_far bytes offset effects starts place reason.LoneExec at so_far bad = absurd bad

-- one effect is a unit
pub lone_bytes : (text : List ℕ) → (text ++ []) ++ [] ≡ text
lone_bytes text = append-nil (text ++ []) ∙ append-nil text

pub IsUnitFront-lone : (bytes : List ℕ) (offset : ℕ) (effect : Effect) (size : ℕ) → IsEffectFront bytes effect size → IsUnitFront bytes offset (effect ∷ []) (offset ∷ []) size
IsUnitFront-lone bytes offset effect size front = record {
  unit = record { opening = []; effects = effect ∷ []; closing = [] };
  is_unit = record { each = (front.loggable, tt); form = inl record { opening = refl; one = refl; closing = refl } };
  effects_are = refl;
  whole = front.whole ∙ ap (λ (bs : List ℕ). bs ++ drop size bytes) (sym (lone_bytes (effect_text effect)));
  size_is = front.size_is ∙ ap (λ (bs : List ℕ). length bs) (sym (lone_bytes (effect_text effect)));
  count = refl;
  starts_are = starts_push (λ k. offset + (0 + length (effects_text (take k (effect ∷ []))))) [] 0 offset refl (omega arith) (λ k h. absurd (omega arith));
}

pub FaultAt-first : (bytes : List ℕ) (why : Reason) (at : ℕ) → IsBadFront bytes why at → FaultAt bytes why at × (at < length bytes)
FaultAt-first bytes (reason.Request kind) at bad =
    (record { before = []; rest = bytes; place = at; due = inl refl; bad = bad.0; whole = refl; place_is = omega arith }, bad.1)
FaultAt-first bytes reason.NotMultibulk at bad =
    (record { before = []; rest = bytes; due = inl refl; none = bad.0; whole = refl; place_is = bad.1 }, omega (arith, bad.1, bad.2))
FaultAt-first bytes reason.NotAnEffect at bad = absurd bad
FaultAt-first bytes reason.EffectRefused at bad = absurd bad
FaultAt-first bytes (reason.Rdb cause) at bad = absurd bad
FaultAt-first bytes reason.NestedMulti at bad = absurd bad
FaultAt-first bytes reason.LoneExec at bad = absurd bad
