-- Serves clause steps of `Core::step`: what each event makes.
use Rattle.std.proofs.Common.{◌≡◌, ◌<◌, ◌≤◌, ◌↔◌, refl, sym, ap, subst, ◌∙◌, ℕ, Bool, true, false, if◌then◌else◌, nat_le, List, [], Option, Some, None, Result, Ok, Err, IfOk, OnOk, arith}
use Rattle.std.specs.Option.{option_map}
use Rattle.std.proofs.lemmas.Bool.{true≢false}
use Rattle.std.proofs.lemmas.Bool.Decides.{nat_tests}
use Rattle.core_types.specs.Keys.{Keys}
use Rattle.core_types.specs.declared.bad_request.BadRequest.{BadRequest}
use Rattle.core_types.specs.declared.event.Answer.{Answer}
use Rattle.core_types.specs.declared.event.Answer.TheVariants as answer
use Rattle.core_types.specs.declared.event.Event.{Event}
use Rattle.core_types.specs.declared.event.Event.TheVariants as event
use Rattle.core_types.specs.declared.client_state.ClientState.{ClientState}
use Rattle.core_types.specs.declared.client_state.ClientState.TheVariants as states
use Rattle.sequences.specs.declared.no_memory.NoMemory.{NoMemory}
use Rattle.client_book.specs.Register.{Listed, joins, leaves, listed, roll_of}
use Rattle.client_book.specs.Register.{state_of as state_of_client}
use Rattle.client_book.specs.declared.book.JoinFault.{JoinFault}
use Rattle.client_book.specs.declared.book.JoinFault.TheVariants as fault
use Rattle.client_book.specs.declared.client.Client.{Client}
use Rattle.resp_codec.specs.BadReply.{bad_reply}
use Rattle.resp_codec.specs.ReplyText.{text}
use Rattle.host_core.specs.declared.given.Given.{Given}
use Rattle.host_core.specs.declared.stepped.Stepped.{Stepped}
use Rattle.host_core.specs.Clients.{client_at, is_served}
use Rattle.host_core.specs.Core.{AreJoined, Held, Makes, Steps, state_of}
use Rattle.host_core.specs.Events.{client_goes}
use Rattle.host_core.specs.Serving.{served}
use Rattle.host_core.specs.State.{State, Step, answers, stays}
use Rattle.host_core.specs.inner.Giving.{IsGiven, closed_if, heard, quiet, register_told, state_with}
use Rattle.host_core.proofs.Rolls.{places_joins, places_leaves, places_same, places_told, roll_at, roll_joins, roll_leaves, roll_told}

-- nothing changed
pub makes_nothing : (held : Held) (said : Answer) → Makes held (stays said (state_of held)) (quiet said) held
makes_nothing held said = record { state = refl; out = refl; effects = refl; answer = refl; fresh = refl; save = refl; places = places_same held.register }

either_true : (held : Held) (b : Bool) (x y : Step State) (stepped : Stepped) (after : Held) → b ≡ true → Makes held x stepped after → Makes held (if b then x else y) stepped after
either_true held b x y stepped after is makes = subst (λ b. Makes held (if b then x else y) stepped after) (sym is) makes

either_false : (held : Held) (b : Bool) (x y : Step State) (stepped : Stepped) (after : Held) → b ≡ false → Makes held y stepped after → Makes held (if b then x else y) stepped after
either_false held b x y stepped after is makes = subst (λ b. Makes held (if b then x else y) stepped after) (sym is) makes

-- ---- what a client is told

abbrev pub held_after : ℕ → Given → Keys → Held → Held
held_after client given keys held =
    record { keys = keys; moment = held.moment; register = register_told given.closes (text given.reply) client held.register }

makes_told : (held : Held) (client : ℕ) (given : Given) (keys : Keys)
    → Makes held (answers client (record { state = state_with held.moment keys (closed_if given.closes client (roll_of held.register)); reply = given.reply; effects = given.effects }))
    (heard client given) (held_after client given keys held)
makes_told held client given keys = record {
  state = ap (λ clients. record { keys = keys; moment = held.moment; clients = clients }) (roll_told given.closes (text given.reply) client held.register);
  out = refl;
  effects = refl;
  answer = refl;
  fresh = refl;
  save = refl;
  places = places_told given.closes (text given.reply) client held.register;
}

pub makes_answer : (held : Held) (client : ℕ) (words : List (List ℕ)) (given : Given) (keys : Keys)
    → is_served (client_at (roll_of held.register) client) ≡ true
    → IsGiven (λ c state. served c words state) held.moment held.keys keys given
    → Steps held (event.Arrive client words) (heard client given) (held_after client given keys held)
makes_answer held client words given keys is_there is_given =
    either_true held _ _ _ _ _ is_there
    (subst (λ s. Makes held (answers client s) (heard client given) (held_after client given keys held)) (sym (is_given client (roll_of held.register))) (makes_told held client given keys))

pub makes_refused : (held : Held) (client : ℕ) (kind : BadRequest)
    → is_served (client_at (roll_of held.register) client) ≡ true
    → let given : Given = record { reply = bad_reply kind; effects = []; closes = true } in
    Steps held (event.Malformed client kind) (heard client given) (held_after client given held.keys held)
makes_refused held client kind is_there =
    either_true held _ _ _ _ _ is_there (makes_told held client (record { reply = bad_reply kind; effects = []; closes = true }) held.keys)

pub no_client_arrives : (held : Held) (client : ℕ) (words : List (List ℕ)) → is_served (client_at (roll_of held.register) client) ≡ false
    → Steps held (event.Arrive client words) (quiet answer.NoClient) held
no_client_arrives held client words apart = either_false held _ _ _ _ _ apart (makes_nothing held answer.NoClient)

pub no_client_malformed : (held : Held) (client : ℕ) (kind : BadRequest) → is_served (client_at (roll_of held.register) client) ≡ false
    → Steps held (event.Malformed client kind) (quiet answer.NoClient) held
no_client_malformed held client kind apart = either_false held _ _ _ _ _ apart (makes_nothing held answer.NoClient)

-- ---- who comes and goes

abbrev is_joined : Result (Unit {0}) JoinFault → Bool
is_joined (Ok done) = true
is_joined (Err fault) = false

-- who joined had a number above the last
pub not_late : (client last : ℕ) (result : Result (Unit {0}) JoinFault) (done : Unit {0}) → result ≡ Ok done → ((result ≡ Err fault.Stale) ↔ (client ≤ last)) → last < client
not_late client last result done is stale =
    let apart : client ≤ last → ⊥ = λ early. true≢false (sym (ap is_joined is) ∙ ap is_joined (stale.1 early)) in
    late client last apart
  where
    late : (client last : ℕ) → (client ≤ last → ⊥) → last < client
    late client last apart = grind (arith, apart)

pub makes_joined : (held : Held) (client : ℕ) → AreJoined held.register → held.register.last < client
    → Steps held (event.Join client) (quiet answer.Done) (record held { register = joins client held.register })
makes_joined held client joined new =
    either_false held _ _ _ _ _ (late held.register.last new)
    (record {
      state = ap (λ clients. record { keys = held.keys; moment = held.moment; clients = clients }) (roll_joins client held.register);
      out = refl;
      effects = refl;
      answer = refl;
      fresh = refl;
      save = refl;
      places = places_joins client held.register joined new;
    })
  where
    late : (last : ℕ) → last < client → nat_le client last ≡ false
    late last new = grind (arith, nat_tests, new)

pub makes_stale : (held : Held) (client : ℕ) → client ≤ held.register.last → Steps held (event.Join client) (quiet answer.StaleClient) held
makes_stale held client old = either_true held _ _ _ _ _ (early held.register.last old) (makes_nothing held answer.StaleClient)
  where
    early : (last : ℕ) → client ≤ last → nat_le client last ≡ true
    early last old = grind (arith, nat_tests, old)

goes_of : (held : Held) (client : ℕ) (o : Option Listed) (p : Option Client) → p ≡ option_map (λ (l : Listed). l.client) o → (state_of_client o ≡ states.Absent → ⊥)
    → Makes held (client_goes client p (state_of held)) (quiet answer.Done) (record held { register = leaves client held.register })
goes_of held client None p is there = absurd (there refl)
goes_of held client (Some entry) p is there =
    subst (λ p. Makes held (client_goes client p (state_of held)) (quiet answer.Done) (record held { register = leaves client held.register })) (sym is)
    (record {
      state = ap (λ clients. record { keys = held.keys; moment = held.moment; clients = clients }) (roll_leaves client held.register);
      out = refl;
      effects = refl;
      answer = refl;
      fresh = refl;
      save = refl;
      places = places_leaves client held.register;
    })

pub makes_gone : (held : Held) (client : ℕ) → (state_of_client (listed held.register client) ≡ states.Absent → ⊥)
    → Steps held (event.Gone client) (quiet answer.Done) (record held { register = leaves client held.register })
makes_gone held client there = goes_of held client (listed held.register client) _ (roll_at held.register client) there

abbrev is_there : ClientState → Bool
is_there states.Absent = false
is_there _ = true

there_of : (b : Bool) → is_there (if b then states.Closing else states.Connected) ≡ true
there_of true = refl
there_of false = refl

absent_of : (held : Held) (client : ℕ) (o : Option Listed) (p : Option Client) → p ≡ option_map (λ (l : Listed). l.client) o → state_of_client o ≡ states.Absent
    → Makes held (client_goes client p (state_of held)) (quiet answer.NoClient) held
absent_of held client None p is none =
    subst (λ p. Makes held (client_goes client p (state_of held)) (quiet answer.NoClient) held) (sym is) (makes_nothing held answer.NoClient)
absent_of held client (Some entry) p is none = absurd (true≢false (sym (there_of entry.client.closing) ∙ ap is_there none))

pub makes_absent : (held : Held) (client : ℕ) → state_of_client (listed held.register client) ≡ states.Absent → Steps held (event.Gone client) (quiet answer.NoClient) held
makes_absent held client none = absent_of held client (listed held.register client) _ (roll_at held.register client) none

-- ---- from equal parts

pub steps_by : (happens : Event) {held seen : Held} {stepped made : Stepped} {after left : Held} → held ≡ seen → stepped ≡ made → after ≡ left
    → Steps held happens made left → Steps seen happens stepped after
steps_by happens {held} {seen} {stepped} {made} {after} {left} h s a steps =
    subst (λ x. Steps x happens stepped after) h (subst (λ x. Steps held happens x after) (sym s) (subst (λ x. Steps held happens made x) (sym a) steps))

-- a client was told, where memory did not run out
pub told_by : (happens : Event) (held seen between after : Held) (client : ℕ) (given : Given) (result : Result Stepped NoMemory)
    → held ≡ seen → IfOk result (λ stepped. stepped ≡ heard client given)
    → OnOk result (after ≡ record between { register = register_told given.closes (text given.reply) client between.register })
    → Steps held happens (heard client given) (record between { register = register_told given.closes (text given.reply) client between.register })
    → IfOk result (λ stepped. Steps seen happens stepped after)
told_by happens held seen between after client given (Ok stepped) h s a steps = steps_by happens h s a steps
told_by happens held seen between after client given (Err why) h s a steps = tt
