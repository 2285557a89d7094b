-- Serves clauses kept and crash of `DurableHost::step`: what the log of a history stands for.
use Rattle.std.proofs.Common.{◌≡◌, ◌≤◌, ◌<◌, refl, sym, ap, subst, ◌∙◌, ℕ, zero, suc, ◌+◌, ◌-◌, List, [], ◌∷◌, ◌++◌, length, take, append-nil, arith, ◌⊎◌, inl, inr}
use Rattle.std.specs.List.{AllByRecursion}
use Rattle.std.proofs.lemmas.Bool.{cases_lt}
use Rattle.std.proofs.lemmas.List.{append_assoc, take-append-le}
use Rattle.std.proofs.lemmas.List.Concat.{flat_map-append}
use Rattle.std.proofs.Math.Seq.{take-append-add, take-nil}
use Rattle.core_types.specs.declared.event.Event.{Event}
use Rattle.effect_log.specs.Replay.{Holds, replayed}
use Rattle.effect_log.specs.Unit.{IsLoggable, unit}
use Rattle.effect_log.specs.Written.{AreLoggable, effects_in, log_text}
use Rattle.effect_log.proofs.GoesOn.{Holds-more, Holds-torn}
use Rattle.host_core.specs.Events.{step}
use Rattle.host_core.specs.Fold as fold
use Rattle.host_core.specs.Replay.{replay}
use Rattle.host_core.specs.State.{State}
use Rattle.host_core.proofs.Folds.{goes_on}
use Rattle.host_core.proofs.Remaking.{step_remade}
use Rattle.durable_host.specs.inner.Running.{text_from}

-- ---- what events write

pub text_join : (state : State) (first second : List Event) → text_from state (first ++ second) ≡ text_from state first ++ text_from (fold.after step state first) second
unfolding text_from
text_join state first second = ap log_text (goes_on step state first second).changes ∙ flat_map-append unit (fold.effects step state first) (fold.effects step (fold.after step state first) second)

pub text_none : (state : State) → text_from state [] ≡ []
unfolding text_from
text_none state = refl

pub text_first : (state : State) (happens : Event) (more : List Event) → text_from state (happens ∷ more) ≡ unit (step state happens).effects ++ text_from (step state happens).state more
unfolding text_from
text_first state happens more = refl

pub text_one : (state : State) (happens : Event) → text_from state (happens ∷ []) ≡ unit (step state happens).effects
text_one state happens = text_first state happens [] ∙ ap (λ rest. unit (step state happens).effects ++ rest) (text_none (step state happens).state) ∙ append-nil (unit (step state happens).effects)

-- ---- what a log stands for that events were written to

-- one event more
after_event : (state : State) (happens : Event) (base : List ℕ) → Holds replay base state.keys (length base) → AllByRecursion IsLoggable (step state happens).effects
    → Holds replay (base ++ unit (step state happens).effects) (step state happens).state.keys (length (base ++ unit (step state happens).effects))
after_event state happens base holds loggable =
    let effects = (step state happens).effects in
    let once : effects_in (effects ∷ []) ≡ effects = append-nil effects in
    let text : log_text (effects ∷ []) ≡ unit effects = append-nil (unit effects) in
    subst (λ bytes. Holds replay (base ++ bytes) (step state happens).state.keys (length (base ++ bytes))) text
    (Holds-more replay base state.keys (step state happens).state.keys (effects ∷ []) holds (loggable, tt)
    (ap (λ es. replayed replay state.keys es) once ∙ step_remade state happens))

-- all of them
pub after_all : (state : State) (events : List Event) (base : List ℕ) → Holds replay base state.keys (length base) → AreLoggable (fold.effects step state events)
    → Holds replay (base ++ text_from state events) (fold.after step state events).keys (length (base ++ text_from state events))
after_all state [] base holds loggable =
    subst (λ bytes. Holds replay bytes state.keys (length bytes)) (sym (ap (λ rest. base ++ rest) (text_none state) ∙ append-nil base)) holds
after_all state (happens ∷ more) base holds loggable =
    let on = after_all (step state happens).state more (base ++ unit (step state happens).effects) (after_event state happens base holds loggable.0) loggable.1 in
    let joined : (base ++ unit (step state happens).effects) ++ text_from (step state happens).state more ≡ base ++ text_from state (happens ∷ more) =
    append_assoc base (unit (step state happens).effects) (text_from (step state happens).state more) ∙ ap (λ rest. base ++ rest) (sym (text_first state happens more)) in
    subst (λ bytes. Holds replay bytes (fold.after step state (happens ∷ more)).keys (length bytes)) joined on

-- a log of which a crash left this much stands for the keys after some of the events
pub record StandsAfter (state : State) (events : List Event) (bytes : List ℕ) : Type 0 where
  pub count : ℕ
  pub within : count ≤ length events
  pub kept : ℕ
  pub holds : Holds replay bytes (fold.after step state (take count events)).keys kept

none_of : (state : State) (events : List Event) (bytes : List ℕ) (kept : ℕ) → Holds replay bytes state.keys kept → StandsAfter state events bytes
none_of state events bytes kept holds = record { count = 0; within = omega arith; kept = kept; holds = holds }

one_more_event : (state : State) (happens : Event) (more : List Event) (bytes : List ℕ) → StandsAfter (step state happens).state more bytes → StandsAfter state (happens ∷ more) bytes
one_more_event state happens more bytes on = record { count = suc on.count; within = omega (arith, on.within); kept = on.kept; holds = on.holds }

-- Of what an event wrote a part is there: none of it, some, or all and more.
cut_inside : (state : State) (happens : Event) (more : List Event) (base : List ℕ) (count : ℕ) → Holds replay base state.keys (length base) → AllByRecursion IsLoggable (step state happens).effects
    → count < length (unit (step state happens).effects) → (n : ℕ) → count ≡ n
    → StandsAfter state (happens ∷ more) (base ++ take count (unit (step state happens).effects ++ text_from (step state happens).state more))
cut_inside state happens more base count holds loggable short zero none =
    none_of state (happens ∷ more) (base ++ take count (unit (step state happens).effects ++ text_from (step state happens).state more)) (length base)
    (subst (λ n. Holds replay (base ++ take n (unit (step state happens).effects ++ text_from (step state happens).state more)) state.keys (length base)) (sym none)
    (subst (λ bytes. Holds replay bytes state.keys (length base)) (sym (append-nil base)) holds))
cut_inside state happens more base count holds loggable short (suc n) some =
    none_of state (happens ∷ more) (base ++ take count (unit (step state happens).effects ++ text_from (step state happens).state more)) (length base)
    (subst (λ bytes. Holds replay (base ++ bytes) state.keys (length base)) (sym (take-append-le count (unit (step state happens).effects) (text_from (step state happens).state more) (omega (arith, short))))
    (Holds-torn replay base state.keys (step state happens).effects count holds loggable (omega (arith, some)) short))

cut_event : (state : State) (happens : Event) (more : List Event) (base : List ℕ) (count : ℕ) → Holds replay base state.keys (length base) → AllByRecursion IsLoggable (step state happens).effects
    → ((later : List ℕ) (over : ℕ) → Holds replay later (step state happens).state.keys (length later) → StandsAfter (step state happens).state more (later ++ take over (text_from (step state happens).state more)))
    → (count < length (unit (step state happens).effects)) ⊎ (length (unit (step state happens).effects) ≤ count)
    → StandsAfter state (happens ∷ more) (base ++ take count (unit (step state happens).effects ++ text_from (step state happens).state more))
cut_event state happens more base count holds loggable on (inl short) = cut_inside state happens more base count holds loggable short count refl
cut_event state happens more base count holds loggable on (inr whole) =
    let bytes = unit (step state happens).effects in
    let rest = text_from (step state happens).state more in
    let over = count - length bytes in
    let split : count ≡ length bytes + over = omega (arith, whole) in
    let is : take count (bytes ++ rest) ≡ bytes ++ take over rest = ap (λ n. take n (bytes ++ rest)) split ∙ take-append-add bytes rest over in
    subst (λ text. StandsAfter state (happens ∷ more) text) (append_assoc base bytes (take over rest) ∙ ap (λ text. base ++ text) (sym is))
    (one_more_event state happens more ((base ++ bytes) ++ take over rest) (on (base ++ bytes) over (after_event state happens base holds loggable)))

pub cut_short : (state : State) (events : List Event) (base : List ℕ) (count : ℕ) → Holds replay base state.keys (length base) → AreLoggable (fold.effects step state events)
    → StandsAfter state events (base ++ take count (text_from state events))
cut_short state [] base count holds loggable =
    none_of state [] (base ++ take count (text_from state [])) (length base)
    (subst (λ bytes. Holds replay bytes state.keys (length base)) (sym (ap (λ text. base ++ take count text) (text_none state) ∙ ap (λ rest. base ++ rest) (take-nil count) ∙ append-nil base)) holds)
cut_short state (happens ∷ more) base count holds loggable =
    subst (λ text. StandsAfter state (happens ∷ more) (base ++ take count text)) (sym (text_first state happens more))
    (cut_event state happens more base count holds loggable.0
    (λ later over stands. cut_short (step state happens).state more later over stands loggable.1)
    (cases_lt count (length (unit (step state happens).effects))))
