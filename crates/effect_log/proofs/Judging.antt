-- One thing stands where a unit is due.
use Rattle.std.proofs.Common.{◌≡◌, ◌⊎◌, ℕ, zero, suc, ◌+◌, ◌<◌, Bool, true, false, List, [], ◌∷◌, ◌++◌, length, take, drop, refl, sym, ap, ◌∙◌, append_assoc, append-nil, arith, inl, inr}
use Rattle.std.specs.List.{AllByRecursion}
use Rattle.std.proofs.lemmas.Bool.{false≢true}
use Rattle.std.proofs.lemmas.List.{length-append, take_at, append_cancel_left}
use Rattle.core_types.specs.declared.effect.Effect.{Effect}
use Rattle.resp_codec.specs.Array.{IsUnfinishedArray}
use Rattle.effect_log.specs.Unit.{multi, exec, effect_text, IsLoggable}
use Rattle.effect_log.specs.Log.{Unit, effects_text, unit_bytes, IsRequestNamed, IsUnit, IsOpened, IsTorn, IsNoArray, FaultAt}
use Rattle.effect_log.specs.Entry.{IsEntry}
use Rattle.effect_log.specs.declared.entry.Entry.{Entry}
use Rattle.effect_log.specs.declared.entry.Entry.TheVariants as entry
use Rattle.effect_log.specs.declared.reason.Reason.{Reason}
use Rattle.effect_log.specs.declared.reason.Reason.TheVariants as reason
use Rattle.effect_log.proofs.Entries.{IsEntry-one, IsEntry-some, IsBadArray-entry, effect_entry, named_entry, begins_entry, is_effect, same_effects, multibulk_some}
use Rattle.effect_log.proofs.OpenedUnits.{IsSoFar, IsSoFar-opened, IsSoFar-more, IsSoFar-closed, IsUnitFront-lone, IsTorn-so_far, IsNested-so_far, FaultAt-so_far, FaultAt-first}

pub data Judged : Type 0 where
  Nothing : Judged
  Whole : (unit : Unit) → Judged
  Torn : Judged
  Broken : (why : Reason) (at : ℕ) → Judged

-- the bytes begin with what was judged
abbrev pub IsJudged : List ℕ → Judged → Type 0
IsJudged bytes Nothing = bytes ≡ []
IsJudged bytes (Whole unit) = IsUnit unit × ((rest : List ℕ) × (bytes ≡ unit_bytes unit ++ rest))
IsJudged bytes Torn = IsTorn bytes
IsJudged bytes (Broken why at) = FaultAt bytes why at

-- what a unit is by the first thing in it, and that is no MULTI
abbrev by_first : List ℕ → Entry → Judged
by_first bytes (entry.Multi size) = Torn
by_first bytes (entry.Exec size) = Broken reason.LoneExec 0
by_first bytes (entry.Effect effect size) = Whole record { opening = []; effects = effect ∷ []; closing = [] }
by_first [] entry.Unfinished = Nothing
by_first (byte ∷ bytes) entry.Unfinished = Torn
by_first bytes (entry.Bad place why) = Broken why place

abbrev is_multi : Entry → Bool
is_multi (entry.Multi size) = true
is_multi (entry.Exec size) = false
is_multi (entry.Effect effect size) = false
is_multi entry.Unfinished = false
is_multi (entry.Bad place why) = false

-- what an opened unit is by the first thing in it that is no effect
abbrev by_stop : List ℕ → List Effect → List ℕ → Entry → Judged
by_stop opening effects rest (entry.Multi size) = Broken reason.NestedMulti (length (opening ++ effects_text effects))
by_stop opening effects rest (entry.Exec size) = Whole record { opening = opening; effects = effects; closing = take size rest }
by_stop opening effects rest (entry.Effect effect size) = Torn
by_stop opening effects rest entry.Unfinished = Torn
by_stop opening effects rest (entry.Bad place why) = Broken why (length (opening ++ effects_text effects) + place)

record IsReadFirst (bytes : List ℕ) (judged : Judged) : Type 0 where
  first : Entry
  is : IsEntry bytes first
  other : is_multi first ≡ false
  gives : judged ≡ by_first bytes first

record IsReadOn (bytes : List ℕ) (judged : Judged) : Type 0 where
  opening : List ℕ
  effects : List Effect
  rest : List ℕ
  stop : Entry
  opens : IsRequestNamed multi opening
  each : AllByRecursion IsLoggable effects
  is : IsEntry rest stop
  other : is_effect stop ≡ false
  whole : bytes ≡ opening ++ effects_text effects ++ rest
  gives : judged ≡ by_stop opening effects rest stop

abbrev IsRead : List ℕ → Judged → Type 0
IsRead bytes judged = IsReadFirst bytes judged ⊎ IsReadOn bytes judged

same_front : (a b x y : List ℕ) → a ++ x ≡ b ++ y → length a ≡ length b → a ≡ b
same_front a b x y e size =
    sym (take_at a x (length a) refl) ∙ ap (λ (bytes : List ℕ). take (length a) bytes) e ∙ take_at b y (length a) (sym size)

not_both : (bytes : List ℕ) (a b : Judged) → IsReadFirst bytes a → ¬ IsReadOn bytes b
not_both bytes a b first on =
    let parts : bytes ≡ on.opening ++ (effects_text on.effects ++ on.rest) = on.whole ∙ append_assoc on.opening (effects_text on.effects) on.rest in
    let same = IsEntry-one (on.opening ++ (effects_text on.effects ++ on.rest)) first.first (entry.Multi (length on.opening)) (rw parts at first.is) (named_entry multi on.opening (effects_text on.effects ++ on.rest) on.opens) in
    false≢true (sym first.other ∙ ap is_multi same)

on_one : (bytes : List ℕ) (a b : Judged) → IsReadOn bytes a → IsReadOn bytes b → a ≡ b
on_one bytes a b x y =
    let behind_x = effects_text x.effects ++ x.rest in
    let behind_y = effects_text y.effects ++ y.rest in
    let parts_x : bytes ≡ x.opening ++ behind_x = x.whole ∙ append_assoc x.opening (effects_text x.effects) x.rest in
    let parts_y : bytes ≡ y.opening ++ behind_y = y.whole ∙ append_assoc y.opening (effects_text y.effects) y.rest in
    let parts : x.opening ++ behind_x ≡ y.opening ++ behind_y = sym parts_x ∙ parts_y in
    let entries = IsEntry-one (y.opening ++ behind_y) (entry.Multi (length x.opening)) (entry.Multi (length y.opening)) (rw parts at (named_entry multi x.opening behind_x x.opens)) (named_entry multi y.opening behind_y y.opens) in
    let size : length x.opening ≡ length y.opening = cc in
    let opening : x.opening ≡ y.opening = same_front x.opening y.opening behind_x behind_y parts size in
    let behind : behind_x ≡ behind_y = append_cancel_left y.opening behind_x behind_y (ap (λ (bs : List ℕ). bs ++ behind_x) (sym opening) ∙ parts) in
    let same = same_effects x.effects y.effects x.rest y.rest x.stop y.stop x.each y.each x.other y.other x.is y.is behind in
    x.gives ∙ ap (λ (bs : List ℕ). by_stop bs x.effects x.rest x.stop) opening ∙ ap (λ (es : List Effect). by_stop y.opening es x.rest x.stop) same.0
    ∙ ap (λ (bs : List ℕ). by_stop y.opening y.effects bs x.stop) same.1 ∙ ap (λ (e : Entry). by_stop y.opening y.effects y.rest e) same.2 ∙ sym y.gives

read_one : (bytes : List ℕ) (a b : Judged) → IsRead bytes a → IsRead bytes b → a ≡ b
read_one bytes a b (inl x) (inl y) = x.gives ∙ ap (λ (e : Entry). by_first bytes e) (IsEntry-one bytes x.first y.first x.is y.is) ∙ sym y.gives
read_one bytes a b (inl x) (inr y) = absurd (not_both bytes a b x y)
read_one bytes a b (inr x) (inl y) = absurd (not_both bytes b a y x)
read_one bytes a b (inr x) (inr y) = on_one bytes a b x y

lone_read : (bytes opening closing rest : List ℕ) (effects : List Effect) → opening ≡ [] → length effects ≡ 1 → closing ≡ [] → AllByRecursion IsLoggable effects → bytes ≡ opening ++ effects_text effects ++ closing ++ rest →
    IsReadFirst bytes (Whole record { opening = opening; effects = effects; closing = closing })
lone_read bytes opening closing rest [] no_opening one no_closing each whole = absurd (omega arith)
lone_read bytes opening closing rest (effect ∷ []) no_opening one no_closing each whole =
    let alone : opening ++ (effect_text effect ++ []) ++ closing ≡ effect_text effect = rw (no_opening, no_closing) (append-nil (effect_text effect ++ []) ∙ append-nil (effect_text effect)) in
    let parts : bytes ≡ effect_text effect ++ rest = whole ∙ ap (λ (bs : List ℕ). bs ++ rest) alone in
    record {
      first = entry.Effect effect (length (effect_text effect));
      is = rw parts (effect_entry effect rest each.0);
      other = refl;
      gives = ap (λ (bs : List ℕ). Whole record { opening = bs; effects = effect ∷ []; closing = closing }) no_opening ∙ ap (λ (bs : List ℕ). Whole record { opening = []; effects = effect ∷ []; closing = bs }) no_closing;
    }
lone_read bytes opening closing rest (effect ∷ other ∷ more) no_opening one no_closing each whole = absurd (omega arith)

unit_read : (bytes : List ℕ) (unit : Unit) (rest : List ℕ) → IsUnit unit → bytes ≡ unit_bytes unit ++ rest → IsRead bytes (Whole unit)
unit_read bytes unit rest is_unit whole =
    elim is_unit.form [
      | inl lone ↦ inl (lone_read bytes unit.opening unit.closing rest unit.effects lone.opening lone.one lone.closing is_unit.each whole)
      | inr enclosed ↦ inr record {
        opening = unit.opening;
        effects = unit.effects;
        rest = unit.closing ++ rest;
        stop = entry.Exec (length unit.closing);
        opens = enclosed.opening;
        each = is_unit.each;
        is = named_entry exec unit.closing rest enclosed.closing;
        other = refl;
        whole = whole ∙ append_assoc (unit.opening ++ effects_text unit.effects) unit.closing rest;
        gives = ap (λ (bs : List ℕ). Whole record { opening = unit.opening; effects = unit.effects; closing = bs }) (sym (take_at unit.closing rest (length unit.closing) refl));
      }
    ]

unfinished_read : (bytes : List ℕ) → IsUnfinishedArray bytes → Torn ≡ by_first bytes entry.Unfinished
unfinished_read [] unfinished = absurd (false≢true unfinished.array)
unfinished_read (byte ∷ bytes) unfinished = refl

-- what an opened unit is by what stands behind its effects
opened_read : (bytes front rest : List ℕ) (stop : Entry) (judged : Judged) → (opened : IsOpened front) → IsEntry rest stop → is_effect stop ≡ false → bytes ≡ front ++ rest → judged ≡ by_stop opened.opening opened.effects rest stop → IsRead bytes judged
opened_read bytes front rest stop judged opened is other whole gives = inr record {
  opening = opened.opening;
  effects = opened.effects;
  rest = rest;
  stop = stop;
  opens = opened.opens;
  each = opened.each;
  is = is;
  other = other;
  whole = whole ∙ ap (λ (bs : List ℕ). bs ++ rest) opened.whole;
  gives = gives;
}

torn_read : (bytes : List ℕ) → IsTorn bytes → IsRead bytes Torn
torn_read bytes (inl unfinished) = inl record { first = entry.Unfinished; is = inr unfinished; other = refl; gives = unfinished_read bytes unfinished }
torn_read bytes (inr inside) = opened_read bytes inside.front inside.rest entry.Unfinished Torn inside.opened inside.begun refl inside.whole refl

bad_read : (bytes before rest : List ℕ) (why : Reason) (place at : ℕ) → ((before ≡ []) ⊎ IsOpened before) → IsEntry rest (entry.Bad place why) → bytes ≡ before ++ rest → at ≡ length before + place → IsRead bytes (Broken why at)
bad_read bytes before rest why place at (inl none) is whole place_is =
    let all : bytes ≡ rest = whole ∙ ap (λ (bs : List ℕ). bs ++ rest) none in
    let there : at ≡ place = omega (arith, place_is, ap (λ (bs : List ℕ). length bs) none) in
    inl record { first = entry.Bad place why; is = rw all is; other = refl; gives = ap (λ (k : ℕ). Broken why k) there }
bad_read bytes before rest why place at (inr opened) is whole place_is =
    opened_read bytes before rest (entry.Bad place why) (Broken why at) opened is refl whole (ap (λ (k : ℕ). Broken why k) (place_is ∙ ap (λ (bs : List ℕ). length bs + place) opened.whole))

none_entry : (bytes : List ℕ) → IsNoArray bytes → IsEntry bytes (entry.Bad 0 reason.NotMultibulk)
none_entry bytes (inl other) = (inl other, refl, other.0)
none_entry bytes (inr empty) = (inr empty, refl, omega (arith, ap (λ (bs : List ℕ). length bs) empty.whole, length-append empty.front empty.more, ap (λ (bs : List ℕ). length bs) empty.empty.whole))

fault_read : (bytes : List ℕ) (why : Reason) (at : ℕ) → FaultAt bytes why at → IsRead bytes (Broken why at)
fault_read bytes (reason.Request kind) at fault =
    bad_read bytes fault.before fault.rest (reason.Request kind) fault.place at fault.due (IsBadArray-entry fault.rest kind fault.place fault.bad) fault.whole fault.place_is
fault_read bytes reason.NotMultibulk at fault =
    bad_read bytes fault.before fault.rest reason.NotMultibulk 0 at fault.due (none_entry fault.rest fault.none) fault.whole (omega (arith, fault.place_is))
fault_read bytes reason.NestedMulti at fault =
    let again = begins_entry multi fault.rest fault.again in
    opened_read bytes fault.before fault.rest (entry.Multi again.0) (Broken reason.NestedMulti at) fault.opened again.1 refl fault.whole (ap (λ (k : ℕ). Broken reason.NestedMulti k) (fault.place_is ∙ ap (λ (bs : List ℕ). length bs) fault.opened.whole))
fault_read bytes reason.LoneExec at fault =
    let closes = begins_entry exec bytes fault.closes in
    inl record { first = entry.Exec closes.0; is = closes.1; other = refl; gives = ap (λ (k : ℕ). Broken reason.LoneExec k) fault.place_is }
fault_read bytes reason.NotAnEffect at fault = absurd fault
fault_read bytes reason.EffectRefused at fault = absurd fault
fault_read bytes (reason.Rdb cause) at fault = absurd fault

judged_read : (bytes : List ℕ) (judged : Judged) → IsJudged bytes judged → IsRead bytes judged
judged_read bytes Nothing none = inl record { first = entry.Unfinished; is = inl none; other = refl; gives = rw none refl }
judged_read bytes (Whole unit) whole = unit_read bytes unit whole.1.0 whole.0 whole.1.1
judged_read bytes Torn torn = torn_read bytes torn
judged_read bytes (Broken why at) fault = fault_read bytes why at fault

pub IsJudged-one : (bytes : List ℕ) (a b : Judged) → IsJudged bytes a → IsJudged bytes b → a ≡ b
IsJudged-one bytes a b of_a of_b = read_one bytes a b (judged_read bytes a of_a) (judged_read bytes b of_b)

-- what an opened unit is, where what follows is known behind one more effect
judged_entry : (bytes : List ℕ) (effects : List Effect) (starts : List ℕ) (place : ℕ) (e : Entry) → IsSoFar bytes 0 effects starts place → IsEntry (drop place bytes) e →
    ((effect : Effect) (size : ℕ) → 0 < size → IsSoFar bytes 0 (effects ++ effect ∷ []) (starts ++ (0 + place) ∷ []) (place + size) → (judged : Judged) × IsJudged bytes judged) → (judged : Judged) × IsJudged bytes judged
judged_entry bytes effects starts place (entry.Multi size) so_far front go_on =
    (Broken reason.NestedMulti place, (IsNested-so_far bytes 0 effects starts place size so_far front).0)
judged_entry bytes effects starts place (entry.Exec size) so_far front go_on =
    let closed = IsSoFar-closed bytes 0 effects starts place size so_far front in
    (Whole closed.unit, (closed.is_unit, (drop (place + size) bytes, closed.whole)))
judged_entry bytes effects starts place (entry.Effect effect size) so_far front go_on =
    go_on effect size (omega (arith, front.size_is, multibulk_some effect.words)) (IsSoFar-more bytes 0 effects starts place effect size so_far front)
judged_entry bytes effects starts place entry.Unfinished so_far begun go_on =
    (Torn, IsTorn-so_far bytes 0 effects starts place so_far begun)
judged_entry bytes effects starts place (entry.Bad at why) so_far bad go_on =
    (Broken why (place + at), (FaultAt-so_far bytes 0 effects starts place why at so_far bad).0)

-- an opened unit is read on, with more steps than there are bytes
judged_on : (steps : ℕ) (bytes : List ℕ) (effects : List Effect) (starts : List ℕ) (place : ℕ) → length bytes < place + steps → IsSoFar bytes 0 effects starts place → (judged : Judged) × IsJudged bytes judged
judged_on zero bytes effects starts place few so_far = absurd (omega (arith, so_far.within))
judged_on (suc n) bytes effects starts place few so_far =
    let found = IsEntry-some (drop place bytes) in
    judged_entry bytes effects starts place found.0 so_far found.1 (λ effect size some more. judged_on n bytes (effects ++ effect ∷ []) (starts ++ (0 + place) ∷ []) (place + size) (omega arith) more)

judged_first : (bytes : List ℕ) (e : Entry) → IsEntry bytes e → (judged : Judged) × IsJudged bytes judged
judged_first bytes (entry.Multi size) front = judged_on (suc (length bytes)) bytes [] [] size (omega arith) (IsSoFar-opened bytes 0 size front)
judged_first bytes (entry.Exec size) front =
    (Broken reason.LoneExec 0, record { closes = record { words = front.words; begins = record { request = front.request; more = drop size bytes; whole = front.whole }; named = front.named }; place_is = refl })
judged_first bytes (entry.Effect effect size) front =
    let lone = IsUnitFront-lone bytes 0 effect size front in
    (Whole lone.unit, (lone.is_unit, (drop size bytes, lone.whole)))
judged_first bytes entry.Unfinished (inl none) = (Nothing, none)
judged_first bytes entry.Unfinished (inr unfinished) = (Torn, inl unfinished)
judged_first bytes (entry.Bad at why) bad = (Broken why at, (FaultAt-first bytes why at bad).0)

pub IsJudged-some : (bytes : List ℕ) → (judged : Judged) × IsJudged bytes judged
IsJudged-some bytes =
    let found = IsEntry-some bytes in
    judged_first bytes found.0 found.1
