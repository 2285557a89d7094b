-- Serves clauses happens and kept of `DurableHost::step`: what clients took, a step does not look
-- at.
use Rattle.std.proofs.Common.{◌≡◌, ◌≤◌, refl, sym, ap, subst, ◌∙◌, ℕ, ◌+◌, Bool, true, false, cond, if◌then◌else◌, nat_le, List, [], length, length-append, Option, Some, None, arith}
use Rattle.std.specs.Option.{option_map}
use Rattle.std.specs.Ordering.{nat_cmp, eq_by_cmp}
use Rattle.std.specs.Cmp.{nat_cmp_total}
use Rattle.std.specs.FinMap.{get-insert, get-remove}
use Rattle.std.proofs.lemmas.List.{drop-append-le}
use Rattle.core_types.specs.CommandRow.{takes}
use Rattle.sequences.specs.Words.{word}
use Rattle.core_types.specs.Keys.{Keys}
use Rattle.core_types.specs.declared.event.Answer.{Answer}
use Rattle.core_types.specs.declared.event.Answer.TheVariants as answer
use Rattle.core_types.specs.declared.event.Event.{Event}
use Rattle.core_types.specs.declared.event.Event.TheVariants as event
use Rattle.core_types.specs.declared.reply.Reply.{Reply}
use Rattle.resp_codec.specs.ReplyText.{text}
use Rattle.client_book.specs.Client.{closes, new_client, passes, tells}
use Rattle.client_book.specs.Register.{Roll}
use Rattle.client_book.specs.declared.client.Client.{Client}
use Rattle.host_core.specs.declared.builtin.Builtin.{Builtin}
use Rattle.host_core.specs.declared.builtin.Builtin.TheVariants as builtin
use Rattle.host_core.specs.declared.connection.ConnectionCmd.{ConnectionCmd}
use Rattle.host_core.specs.declared.connection.ConnectionCmd.TheVariants as connection
use Rattle.host_core.specs.Builtins.{builtin_named, builtin_row}
use Rattle.host_core.specs.Clients.{changed, client_at, is_served, with_new, without_client}
use Rattle.host_core.specs.Events.{client_goes, refused_stream, step}
use Rattle.host_core.specs.Serving.{closed_at_quit, served, served_as, served_by}
use Rattle.host_core.specs.State.{Served, State, Step, answers, becomes, stays}
use Rattle.host_core.proofs.Replies.{at_changed, last_changed}
use Rattle.durable_host.specs.Taking.{IsButTaken, SameButTaken}

abbrev is_same : ℕ → ℕ → Bool
is_same = eq_by_cmp nat_cmp

-- the clients of two states, one by one
record Rolls (a b : Roll) : Type 0 where
  last : b.last ≡ a.last
  each : (q : ℕ) → IsButTaken (client_at a q) (client_at b q)

-- ---- changes of one client

-- a change of a record that does not look at what was taken
record Apart (f : Client → Client) : Type 0 where
  commutes : (n : ℕ) (client : Client) → n ≤ length client.told → f (passes n client) ≡ passes n (f client)
  grows : (client : Client) → length client.told ≤ length (f client).told

closes_apart : Apart closes
closes_apart = record { commutes = λ n client enough. refl; grows = λ client. omega arith }

tells_apart : (bytes : List ℕ) → Apart (tells bytes)
tells_apart bytes = record {
  commutes = λ n client enough. ap (λ told. record client { from = client.from + n; told = told }) (sym (drop-append-le n client.told bytes enough));
  grows = λ client. omega (arith, length-append client.told bytes);
}

changed_test : (f : Client → Client) → Apart f → (b : Bool) (o p : Option Client) → IsButTaken o p → IsButTaken (cond b (option_map f o) o) (cond b (option_map f p) p)
changed_test f apart false o p took = took
changed_test f apart true None None took = tt
changed_test f apart true None (Some now) took = took
changed_test f apart true (Some full) None took = took
changed_test f apart true (Some full) (Some now) took = record {
  count = took.count;
  enough = omega (arith, took.enough, apart.grows full);
  rest = ap f took.rest ∙ apart.commutes took.count full took.enough;
}

rolls_changed : (f : Client → Client) → Apart f → (c : ℕ) (a b : Roll) → Rolls a b → Rolls (changed f c a) (changed f c b)
rolls_changed f apart c a b rolls = record {
  last = last_changed f c b ∙ rolls.last ∙ sym (last_changed f c a);
  each = λ q. rw (at_changed f c a q, at_changed f c b q) (changed_test f apart (is_same q c) (client_at a q) (client_at b q) (rolls.each q));
}

new_test : (b : Bool) (o p : Option Client) → IsButTaken o p → IsButTaken (cond b (Some new_client) o) (cond b (Some new_client) p)
new_test true o p took = record { count = 0; enough = omega arith; rest = refl }
new_test false o p took = took

rolls_new : (c : ℕ) (a b : Roll) → Rolls a b → Rolls (with_new c a) (with_new c b)
rolls_new c a b rolls = record {
  last = refl;
  each = λ q. rw (get-insert nat_cmp_total a.clients c new_client q, get-insert nat_cmp_total b.clients c new_client q) (new_test (is_same q c) (client_at a q) (client_at b q) (rolls.each q));
}

gone_test : (b : Bool) (o p : Option Client) → IsButTaken o p → IsButTaken (cond b None o) (cond b None p)
gone_test true o p took = tt
gone_test false o p took = took

rolls_gone : (c : ℕ) (a b : Roll) → Rolls a b → Rolls (without_client c a) (without_client c b)
rolls_gone c a b rolls = record {
  last = rolls.last;
  each = λ q. rw (get-remove nat_cmp_total a.clients c q, get-remove nat_cmp_total b.clients c q) (gone_test (is_same q c) (client_at a q) (client_at b q) (rolls.each q));
}

same_served : (o p : Option Client) → IsButTaken o p → is_served p ≡ is_served o
same_served None None took = refl
same_served None (Some now) took = absurd took
same_served (Some full) None took = absurd took
same_served (Some full) (Some now) took = ap (λ client. is_served (Some client)) took.rest

-- ---- serving

record SameServing (x y : Served) : Type 0 where
  keys : y.state.keys ≡ x.state.keys
  moment : y.state.moment ≡ x.state.moment
  rolls : Rolls x.state.clients y.state.clients
  reply : y.reply ≡ x.reply
  effects : y.effects ≡ x.effects

-- a step of the state as the history has it, and of the one of which some was taken
pub record SameStep (x y : Step State) : Type 0 where
  pub state : SameButTaken x.state y.state
  pub effects : y.effects ≡ x.effects
  pub answer : y.answer ≡ x.answer

same_either : (b : Bool) (x y x' y' : Served) → SameServing x x' → SameServing y y' → SameServing (if b then x else y) (if b then x' else y')
same_either true x y x' y' one other = one
same_either false x y x' y' one other = other

module _ (keys : Keys) (moment : ℕ) (a b : Roll) (rolls : Rolls a b) where
  abbrev state : Roll → State
  state roll = record { keys = keys; moment = moment; clients = roll }

  same_state : SameButTaken (state a) (state b)
  same_state = record { keys = refl; moment = refl; last = rolls.last; each = rolls.each }

  same_quits : (cmd : ConnectionCmd) (c : ℕ) (reply : Reply) → SameServing (record { state = closed_at_quit cmd c (state a); reply = reply; effects = [] }) (record { state = closed_at_quit cmd c (state b); reply = reply; effects = [] })
  same_quits connection.Quit c reply = record { keys = refl; moment = refl; rolls = rolls_changed closes closes_apart c a b rolls; reply = refl; effects = refl }
  same_quits connection.Ping c reply = record { keys = refl; moment = refl; rolls = rolls; reply = refl; effects = refl }
  same_quits connection.Echo c reply = record { keys = refl; moment = refl; rolls = rolls; reply = refl; effects = refl }
  same_quits connection.Select c reply = record { keys = refl; moment = refl; rolls = rolls; reply = refl; effects = refl }
  same_quits connection.Command c reply = record { keys = refl; moment = refl; rolls = rolls; reply = refl; effects = refl }

  same_by : (cmd : Builtin) (c : ℕ) (words : List (List ℕ)) → SameServing (served_by cmd c words (state a)) (served_by cmd c words (state b))
  same_by (builtin.Connection cmd) c words = same_quits cmd c _
  same_by (builtin.Keys cmd) c words = record { keys = refl; moment = refl; rolls = rolls; reply = refl; effects = refl }

  same_as : (cmd : Option Builtin) (c : ℕ) (words : List (List ℕ)) → SameServing (served_as cmd c words (state a)) (served_as cmd c words (state b))
  same_as None c words = record { keys = refl; moment = refl; rolls = rolls; reply = refl; effects = refl }
  same_as (Some cmd) c words =
      same_either (takes (builtin_row cmd).arity (length words)) _ _ _ _ (same_by cmd c words)
      (record { keys = refl; moment = refl; rolls = rolls; reply = refl; effects = refl })

  same_answers : (c : ℕ) (x y : Served) → SameServing x y → SameStep (answers c x) (answers c y)
  same_answers c x y same =
      let told : Rolls (changed (tells (text x.reply)) c x.state.clients) (changed (tells (text y.reply)) c y.state.clients) =
      rw same.reply (rolls_changed (tells (text x.reply)) (tells_apart (text x.reply)) c x.state.clients y.state.clients same.rolls) in
      record { state = record { keys = same.keys; moment = same.moment; last = told.last; each = told.each }; effects = same.effects; answer = refl }

  same_if : (t t' : Bool) (x y x' y' : Step State) → t' ≡ t → SameStep x x' → SameStep y y' → SameStep (if t then x else y) (if t' then x' else y')
  same_if true t' x y x' y' same one other = rw same one
  same_if false t' x y x' y' same one other = rw same other

  same_stays : (said : Answer) → SameStep (stays said (state a)) (stays said (state b))
  same_stays said = record { state = same_state; effects = refl; answer = refl }

  same_clients : (c d : Roll) → Rolls c d → SameStep (becomes (state c)) (becomes (state d))
  same_clients c d other = record { state = record { keys = refl; moment = refl; last = other.last; each = other.each }; effects = refl; answer = refl }

  same_goes : (c : ℕ) (o p : Option Client) → IsButTaken o p → SameStep (client_goes c o (state a)) (client_goes c p (state b))
  same_goes c None None took = same_stays answer.NoClient
  same_goes c None (Some now) took = absurd took
  same_goes c (Some full) None took = absurd took
  same_goes c (Some full) (Some now) took = same_clients _ _ (rolls_gone c a b rolls)

  same_event : (happens : Event) → SameStep (step (state a) happens) (step (state b) happens)
  same_event (event.Join c) = same_if (nat_le c a.last) (nat_le c b.last) _ _ _ _ (ap (nat_le c) rolls.last) (same_stays answer.StaleClient) (same_clients _ _ (rolls_new c a b rolls))
  same_event (event.Arrive c words) =
      same_if (is_served (client_at a c)) (is_served (client_at b c)) _ _ _ _ (same_served (client_at a c) (client_at b c) (rolls.each c))
      (same_answers c (served c words (state a)) (served c words (state b)) (same_as (builtin_named (word 0 words)) c words))
      (same_stays answer.NoClient)
  same_event (event.Malformed c kind) =
      same_if (is_served (client_at a c)) (is_served (client_at b c)) _ _ _ _ (same_served (client_at a c) (client_at b c) (rolls.each c))
      (same_answers c (refused_stream c kind (state a)) (refused_stream c kind (state b))
      (record { keys = refl; moment = refl; rolls = rolls_changed closes closes_apart c a b rolls; reply = refl; effects = refl }))
      (same_stays answer.NoClient)
  same_event (event.Unblock ticket payload) = same_stays _
  same_event event.Pump = same_stays _
  same_event (event.Tick shown) = record { state = record { keys = refl; moment = refl; last = rolls.last; each = rolls.each }; effects = refl; answer = refl }
  same_event (event.Gone c) = same_goes c (client_at a c) (client_at b c) (rolls.each c)
  same_event (event.Section place op) = same_stays _
  same_event event.Flush = same_stays _
  same_event event.RewriteBegin = same_stays _
  same_event event.RewriteStep = same_stays _
  same_event event.RewriteEnd = same_stays _

-- a step of a state, and of the same of which some was taken
pub same_step : (full now : State) (happens : Event) → SameButTaken full now → SameStep (step full happens) (step now happens)
same_step full now happens same =
    let is : now ≡ record { keys = full.keys; moment = full.moment; clients = now.clients } =
    ap (λ keys. record { keys = keys; moment = now.moment; clients = now.clients }) same.keys
    ∙ ap (λ moment. record { keys = full.keys; moment = moment; clients = now.clients }) same.moment in
    subst (λ state. SameStep (step full happens) (step state happens)) (sym is)
    (same_event full.keys full.moment full.clients now.clients (record { last = same.last; each = same.each }) happens)
