-- Serves the clauses of `serve_request`: what client 1 was told is what was replied to it.
use Rattle.std.proofs.Common.{◌≡◌, refl, sym, ap, ap₂, subst, ◌∙◌, ℕ, zero, suc, ◌-◌, ◌==◌, Bool, true, false, if◌then◌else◌, nat_le, List, [], ◌∷◌, ◌++◌, length, take, drop, append-nil, Option, Some, None, IsSome, arith}
use Rattle.std.specs.List.{AllByRecursion}
use Rattle.std.proofs.lemmas.List.{append_assoc}
use Rattle.std.proofs.Math.Seq.{drop-nil, take-nil}
use Rattle.std.proofs.lemmas.Bool.{eqb-true, false≢true}
use Rattle.std.proofs.lemmas.Option.{none-some}
use Rattle.core_types.specs.declared.event.Event.{Event}
use Rattle.core_types.specs.declared.event.Event.TheVariants as event
use Rattle.client_book.specs.Client.{new_client}
use Rattle.client_book.specs.declared.client.Client.{Client}
use Rattle.host_core.specs.Clients.{client_at, with_new}
use Rattle.host_core.specs.Events.{step}
use Rattle.host_core.specs.Fold as fold
use Rattle.host_core.specs.Laws.{AllJoined}
use Rattle.host_core.specs.State.{State}
use Rattle.host_core.proofs.Folds.{goes_on}
use Rattle.host_core.proofs.Steps.{stay_joined, tells}
use Rattle.host_core.specs.Clients.{is_served}
use Rattle.host_core.specs.Events.{client_goes, refused_stream}
use Rattle.host_core.specs.Fold.{bytes_to}
use Rattle.host_core.specs.Serving.{served}
use Rattle.host_core.specs.State.{Served, answers, becomes, stays}
use Rattle.core_types.specs.declared.event.Answer.TheVariants as answer
use Rattle.resp_codec.specs.ReplyText.{text}
use Rattle.durable_host.specs.Taking.{stream_between, stream_end}
use Rattle.durable_host.proofs.Appears.{appears}
use Rattle.server_shell.specs.Making.{tells as said}
use Rattle.server_shell.specs.Stream.{StreamIs, StaysOn}
use Rattle.server_shell.proofs.Presence.{stays_there}

-- ---- nobody is replied to who is not there

nobody_there : (o : Option Client) → is_served o ≡ true → o ≡ None → ⊥
nobody_there None served none = false≢true served
nobody_there (Some client) served none = none-some client (sym none)

bytes_else : (t : Bool) (c q : ℕ) (bytes : List ℕ) → (c == q) ≡ t → (c ≡ q → ⊥) → (if t then bytes else []) ++ [] ≡ []
bytes_else true c q bytes same other = absurd (other (eqb-true c q same))
bytes_else false c q bytes same other = refl

module _ (q : ℕ) where
  quiet_if : (t : Bool) (c : ℕ) (state : State) (served : Served) → is_served (client_at state.clients c) ≡ t → client_at state.clients q ≡ None
      → bytes_to q (if t then answers c served else stays answer.NoClient state).out ≡ []
  quiet_if true c state served serves none =
      bytes_else (c == q) c q (text served.reply) refl (λ same. nobody_there (client_at state.clients c) serves (ap (client_at state.clients) same ∙ none))
  quiet_if false c state served serves none = refl

  join_quiet : (t : Bool) (c : ℕ) (state next : State) → bytes_to q (if t then stays answer.StaleClient state else becomes next).out ≡ []
  join_quiet true c state next = refl
  join_quiet false c state next = refl

  gone_quiet : (c : ℕ) (o : Option Client) (state : State) → bytes_to q (client_goes c o state).out ≡ []
  gone_quiet c None state = refl
  gone_quiet c (Some client) state = refl

  -- a client that comes, or goes, is told nothing
  pub comer_told : (c : ℕ) (state : State) → bytes_to q (step state (event.Join c)).out ≡ []
  comer_told c state = join_quiet (nat_le c state.clients.last) c state (record state { clients = with_new c state.clients })

  pub goer_told : (c : ℕ) (state : State) → bytes_to q (step state (event.Gone c)).out ≡ []
  goer_told c state = gone_quiet c (client_at state.clients c) state

  pub nobody_told : (state : State) (happens : Event) → client_at state.clients q ≡ None → bytes_to q (step state happens).out ≡ []
  nobody_told state (event.Join c) none = comer_told c state
  nobody_told state (event.Arrive c words) none = quiet_if (is_served (client_at state.clients c)) c state (served c words state) refl none
  nobody_told state (event.Malformed c kind) none = quiet_if (is_served (client_at state.clients c)) c state (refused_stream c kind state) refl none
  nobody_told state (event.Unblock ticket payload) none = refl
  nobody_told state event.Pump none = refl
  nobody_told state (event.Tick shown) none = refl
  nobody_told state (event.Gone c) none = goer_told c state
  nobody_told state (event.Section place op) none = refl
  nobody_told state event.Flush none = refl
  nobody_told state event.RewriteBegin none = refl
  nobody_told state event.RewriteStep none = refl
  nobody_told state event.RewriteEnd none = refl

-- ---- the stream

stream_step : (state : State) (happens : Event) (bytes : List ℕ) (o p : Option Client) → AllJoined state → StaysOn happens → client_at state.clients 1 ≡ o → client_at (step state happens).state.clients 1 ≡ p
    → StreamIs o bytes → StreamIs p (bytes ++ bytes_to 1 (step state happens).out)
stream_step state happens bytes None None joined on was is stream = ap₂ (λ front back. front ++ back) stream (nobody_told 1 state happens was)
stream_step state happens bytes None (Some now) joined on was is stream =
    let new : now ≡ new_client = appears 1 state happens was now is in
    (ap (λ (client : Client). client.from) new, ap (λ (client : Client). client.told) new ∙ sym (ap₂ (λ front back. front ++ back) stream (nobody_told 1 state happens was)))
stream_step state happens bytes (Some full) None joined on was is stream =
    absurd (false≢true (subst IsSome is (stays_there 1 state happens on (subst IsSome (sym was) refl))))
stream_step state happens bytes (Some full) (Some now) joined on was is stream =
    let told = tells state happens joined 1 full now was is in
    (told.from ∙ stream.0, told.told ∙ ap (λ front. front ++ bytes_to 1 (step state happens).out) stream.1)

stream_after : (state : State) (bytes : List ℕ) (events : List Event) → AllJoined state → AllByRecursion StaysOn events → StreamIs (client_at state.clients 1) bytes
    → StreamIs (client_at (fold.after step state events).clients 1) (bytes ++ said state events)
stream_after state bytes [] joined on stream = subst (StreamIs (client_at state.clients 1)) (sym (append-nil bytes)) stream
stream_after state bytes (happens ∷ more) joined on stream =
    let next = (step state happens).state in
    let out = bytes_to 1 (step state happens).out in
    subst (StreamIs (client_at (fold.after step next more).clients 1)) (append_assoc bytes out (said next more))
    (stream_after next (bytes ++ out) more (stay_joined state happens joined) on.1
    (stream_step state happens bytes (client_at state.clients 1) (client_at next.clients 1) joined on.0 refl refl stream))

none_stream : (o : Option Client) → o ≡ None → StreamIs o []
none_stream o none = rw none refl

-- in a history of one stream
pub one_stream : (opening : State) (events : List Event) → AllJoined opening → client_at opening.clients 1 ≡ None → AllByRecursion StaysOn events
    → StreamIs (client_at (fold.after step opening events).clients 1) (said opening events)
one_stream opening events joined none on = stream_after opening [] events joined on (none_stream (client_at opening.clients 1) none)

-- the bytes of it between two places, and its end
pub between : (o : Option Client) (bytes : List ℕ) (from to : ℕ) → StreamIs o bytes → stream_between from to o ≡ take (to - from) (drop from bytes)
between None bytes from to stream = sym (ap (λ list. take (to - from) (drop from list)) stream ∙ ap (take (to - from)) (drop-nil from) ∙ take-nil (to - from))
between (Some client) bytes from to stream =
    let start : from - client.from ≡ from = omega (arith, stream.0) in
    ap₂ (λ n list. take (to - from) (drop n list)) start stream.1

pub ends_at : (o : Option Client) (bytes : List ℕ) → StreamIs o bytes → stream_end o ≡ length bytes
ends_at None bytes stream = sym (ap length stream)
ends_at (Some client) bytes stream = omega (arith, stream.0, ap length stream.1)

-- ---- what further events tell

pub said_more : (state : State) (first second : List Event) → said state (first ++ second) ≡ said state first ++ said (fold.after step state first) second
said_more state first second = (goes_on step state first second).bytes 1

split_front : {X : Type 0} (P : X → Type 0) (n : ℕ) (xs : List X) → AllByRecursion P xs → AllByRecursion P (take n xs)
split_front P zero xs all = tt
split_front P (suc n) [] all = tt
split_front P (suc n) (x ∷ xs) all = (all.0, split_front P n xs all.1)

pub prefix_stays : (n : ℕ) (events : List Event) → AllByRecursion StaysOn events → AllByRecursion StaysOn (take n events)
prefix_stays n events on = split_front StaysOn n events on

pub stays_join : (xs ys : List Event) → AllByRecursion StaysOn xs → AllByRecursion StaysOn ys → AllByRecursion StaysOn (xs ++ ys)
stays_join [] ys front back = back
stays_join (x ∷ xs) ys front back = (front.0, stays_join xs ys front.1 back)
