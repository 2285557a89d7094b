-- Serves clause apart of `steps_look_at_no_outbox`: what a client took of its replies, a step does
-- not look at.
use Rattle.std.proofs.Common.{◌≡◌, ◌<◌, ◌≤◌, ◌+◌, refl, sym, ap, subst, ◌∙◌, ℕ, Bool, true, false, cond, if◌then◌else◌, nat_le, List, length, Option, Some, None, arith}
use Rattle.std.specs.Option.{option_map}
use Rattle.std.specs.Ordering.{nat_cmp, eq_by_cmp}
use Rattle.std.specs.Cmp.{nat_cmp_total}
use Rattle.std.proofs.lemmas.Bool.Decides.{nat_tests}
use Rattle.std.proofs.lemmas.List.{drop-append-le}
use Rattle.std.proofs.lemmas.Map.Lookups.{exact_unsigned}
use Rattle.std.proofs.lemmas.Map.Views.{tells_apart}
use Rattle.std.proofs.lemmas.Option.{none-some, same_Some}
use Rattle.std.specs.FinMap.{get-insert, get-remove, same_map, nat_cmp-IsAntisymmetric}
use Rattle.core_types.specs.CommandRow.{takes}
use Rattle.sequences.specs.Words.{word}
use Rattle.core_types.specs.declared.event.Answer.TheVariants as answer
use Rattle.core_types.specs.declared.event.Event.{Event}
use Rattle.core_types.specs.declared.event.Event.TheVariants as event
use Rattle.resp_codec.specs.ReplyText.{text}
use Rattle.client_book.specs.Client.{closes, new_client, passes, tells}
use Rattle.client_book.specs.Register.{Roll}
use Rattle.client_book.specs.declared.client.Client.{Client}
use Rattle.host_core.specs.declared.builtin.Builtin.{Builtin}
use Rattle.host_core.specs.declared.builtin.Builtin.TheVariants as builtin
use Rattle.host_core.specs.declared.connection.ConnectionCmd.{ConnectionCmd}
use Rattle.host_core.specs.declared.connection.ConnectionCmd.TheVariants as connection
use Rattle.host_core.specs.Builtins.{builtin_named, builtin_row}
use Rattle.host_core.specs.Clients.{client_at, changed, is_served, with_new, without_client}
use Rattle.host_core.specs.Events.{step, client_goes, refused_stream}
use Rattle.host_core.specs.Laws.{AllJoined, CanTake, StepsApart, with_taken}
use Rattle.host_core.specs.Serving.{closed_at_quit, served, served_as, served_by}
use Rattle.host_core.specs.State.{State, Served, Step, answers, becomes, stays}
use Rattle.host_core.proofs.Replies.{at_changed, last_changed}
use Rattle.host_core.proofs.Steps.{Leaves, as_leaves, closed_leaves}

abbrev is_same : ℕ → ℕ → Bool
is_same = eq_by_cmp nat_cmp

same_roll : (a b : Roll) → a.last ≡ b.last → ((q : ℕ) → client_at a q ≡ client_at b q) → a ≡ b
same_roll a b last each = subst (λ n. a ≡ record { clients = b.clients; last = n }) last
    (ap (λ clients. record { clients = clients; last = a.last }) (same_map nat_cmp_total nat_cmp-IsAntisymmetric a.clients b.clients each))

-- ---- changes of two clients, one after the other

abbrev Commute : (Client → Client) → (Client → Client) → ℕ → Roll → Type 0
Commute f g k roll = (client : Client) → client_at roll k ≡ Some client → f (g client) ≡ g (f client)

both_of : (f g : Client → Client) (o : Option Client) → ((client : Client) → o ≡ Some client → f (g client) ≡ g (f client)) → option_map g (option_map f o) ≡ option_map f (option_map g o)
both_of f g None commute = refl
both_of f g (Some client) commute = ap Some (sym (commute client refl))

swap_of_tests : (f g : Client → Client) (k q : ℕ) (roll : Roll) → Commute f g k roll → (b d : Bool) → is_same q k ≡ d
    → cond b (option_map g (cond d (option_map f (client_at roll q)) (client_at roll q))) (cond d (option_map f (client_at roll q)) (client_at roll q))
    ≡ cond d (option_map f (cond b (option_map g (client_at roll q)) (client_at roll q))) (cond b (option_map g (client_at roll q)) (client_at roll q))
swap_of_tests f g k q roll commute true true same =
    both_of f g (client_at roll q) (λ client there. commute client (ap (client_at roll) (sym (tells_apart exact_unsigned q k same)) ∙ there))
swap_of_tests f g k q roll commute true false apart = refl
swap_of_tests f g k q roll commute false true same = refl
swap_of_tests f g k q roll commute false false apart = refl

swap : (f g : Client → Client) (k c : ℕ) (roll : Roll) → Commute f g k roll → changed g c (changed f k roll) ≡ changed f k (changed g c roll)
swap f g k c roll commute =
    same_roll _ _ (last_changed g c (changed f k roll) ∙ last_changed f k roll ∙ sym (last_changed f k (changed g c roll) ∙ last_changed g c roll)) (λ q.
    at_changed g c (changed f k roll) q
    ∙ ap (λ o. cond (is_same q c) (option_map g o) o) (at_changed f k roll q)
    ∙ swap_of_tests f g k q roll commute (is_same q c) (is_same q k) refl
    ∙ ap (λ o. cond (is_same q k) (option_map f o) o) (sym (at_changed g c roll q))
    ∙ sym (at_changed f k (changed g c roll) q))

new_of_tests : (f : Client → Client) (o : Option Client) (b d : Bool) → (b ≡ true → d ≡ true → ⊥)
    → cond b (Some new_client) (cond d (option_map f o) o) ≡ cond d (option_map f (cond b (Some new_client) o)) (cond b (Some new_client) o)
new_of_tests f o true true differ = absurd (differ refl refl)
new_of_tests f o true false differ = refl
new_of_tests f o false true differ = refl
new_of_tests f o false false differ = refl

swap_new : (f : Client → Client) (k c : ℕ) (roll : Roll) → (c ≡ k → ⊥) → with_new c (changed f k roll) ≡ changed f k (with_new c roll)
swap_new f k c roll differ =
    same_roll _ _ (sym (last_changed f k (with_new c roll))) (λ q.
    get-insert nat_cmp_total (changed f k roll).clients c new_client q
    ∙ ap (cond (is_same q c) (Some new_client)) (at_changed f k roll q)
    ∙ new_of_tests f (client_at roll q) (is_same q c) (is_same q k) (λ one other. differ (sym (tells_apart exact_unsigned q c one) ∙ tells_apart exact_unsigned q k other))
    ∙ ap (λ o. cond (is_same q k) (option_map f o) o) (sym (get-insert nat_cmp_total roll.clients c new_client q))
    ∙ sym (at_changed f k (with_new c roll) q))

gone_of_tests : (f : Client → Client) (o : Option Client) (b d : Bool)
    → cond b None (cond d (option_map f o) o) ≡ cond d (option_map f (cond b None o)) (cond b None o)
gone_of_tests f o true true = refl
gone_of_tests f o true false = refl
gone_of_tests f o false true = refl
gone_of_tests f o false false = refl

swap_gone : (f : Client → Client) (k c : ℕ) (roll : Roll) → without_client c (changed f k roll) ≡ changed f k (without_client c roll)
swap_gone f k c roll =
    same_roll _ _ (last_changed f k roll ∙ sym (last_changed f k (without_client c roll))) (λ q.
    get-remove nat_cmp_total (changed f k roll).clients c q
    ∙ ap (cond (is_same q c) None) (at_changed f k roll q)
    ∙ gone_of_tests f (client_at roll q) (is_same q c) (is_same q k)
    ∙ ap (λ o. cond (is_same q k) (option_map f o) o) (sym (get-remove nat_cmp_total roll.clients c q))
    ∙ sym (at_changed f k (without_client c roll) q))

-- ---- what taking leaves as it is

module _ (k n : ℕ) where
  served_of_test : (b : Bool) (o : Option Client) → is_served (cond b (option_map (passes n) o) o) ≡ is_served o
  served_of_test true None = refl
  served_of_test true (Some client) = refl
  served_of_test false o = refl

  same_served : (roll : Roll) (c : ℕ) → is_served (client_at (changed (passes n) k roll) c) ≡ is_served (client_at roll c)
  same_served roll c = ap is_served (at_changed (passes n) k roll c) ∙ served_of_test (is_same c k) (client_at roll c)

  -- the client that takes has at least this much
  abbrev Has : Roll → Type 0
  Has roll = (client : Client) → client_at roll k ≡ Some client → n ≤ length client.told

  passes_tells : (bytes : List ℕ) (it : Client) → n ≤ length it.told → passes n (tells bytes it) ≡ tells bytes (passes n it)
  passes_tells bytes it enough = ap (λ told. record it { from = it.from + n; told = told }) (drop-append-le n it.told bytes enough)

  has_of_test : (change : Client → Client) → ((it : Client) → (change it).told ≡ it.told) → (roll : Roll) → Has roll → (b : Bool) (it : Client)
      → cond b (option_map change (client_at roll k)) (client_at roll k) ≡ Some it → n ≤ length it.told
  has_of_test change keeps roll has true it there = has_of (client_at roll k) refl there
    where
      has_of : (o : Option Client) → client_at roll k ≡ o → option_map change o ≡ Some it → n ≤ length it.told
      has_of None none put = absurd (none-some it put)
      has_of (Some was) here put = subst (λ c. n ≤ length c.told) (same_Some (change was) it put) (subst (λ told. n ≤ length told) (sym (keeps was)) (has was here))
  has_of_test change keeps roll has false it there = has it there

  has_after : (c : ℕ) (before after : Roll) → Leaves c before after → Has before → Has after
  has_after c before after leaves has it there =
      has_of_test leaves.change leaves.leaves.told before has (is_same k c) it (sym (leaves.at k) ∙ there)

  -- ---- serving

  abbrev taken : Served → Served
  taken served = record served { state = with_taken k n served.state }

  abbrev step_taken : Step State → Step State
  step_taken next = record next { state = with_taken k n next.state }

  quits_apart : (cmd : ConnectionCmd) (c : ℕ) (state : State) → closed_at_quit cmd c (with_taken k n state) ≡ with_taken k n (closed_at_quit cmd c state)
  quits_apart connection.Quit c state = ap (λ clients. record state { clients = clients }) (swap (passes n) closes k c state.clients (λ it there. refl))
  quits_apart connection.Ping c state = refl
  quits_apart connection.Echo c state = refl
  quits_apart connection.Select c state = refl
  quits_apart connection.Command c state = refl

  by_apart : (cmd : Builtin) (c : ℕ) (words : List (List ℕ)) (state : State) → served_by cmd c words (with_taken k n state) ≡ taken (served_by cmd c words state)
  by_apart (builtin.Connection cmd) c words state =
      ap (λ then_. record (served_by (builtin.Connection cmd) c words state) { state = then_ }) (quits_apart cmd c state)
  by_apart (builtin.Keys cmd) c words state = refl

  either_apart : (b : Bool) (x y x' y' : Served) → x' ≡ taken x → y' ≡ taken y → (if b then x' else y') ≡ taken (if b then x else y)
  either_apart true x y x' y' one other = one
  either_apart false x y x' y' one other = other

  as_apart : (cmd : Option Builtin) (c : ℕ) (words : List (List ℕ)) (state : State) → served_as cmd c words (with_taken k n state) ≡ taken (served_as cmd c words state)
  as_apart None c words state = refl
  as_apart (Some cmd) c words state =
      either_apart (takes (builtin_row cmd).arity (length words)) _ _ _ _ (by_apart cmd c words state) refl

  answers_apart : (c : ℕ) (served : Served) → Has served.state.clients → answers c (taken served) ≡ step_taken (answers c served)
  answers_apart c served has =
      ap (λ clients. record (answers c served) { state = record served.state { clients = clients } })
      (swap (passes n) (tells (text served.reply)) k c served.state.clients (λ it there. passes_tells (text served.reply) it (has it there)))

  -- ---- the events

  steps_either : (b b' : Bool) (x y x' y' : Step State) → b' ≡ b → x' ≡ step_taken x → y' ≡ step_taken y → (if b' then x' else y') ≡ step_taken (if b then x else y)
  steps_either true b' x y x' y' same one other = rw same one
  steps_either false b' x y x' y' same one other = rw same other

  join_of : (state : State) (c : ℕ) → (state.clients.last < c → c ≡ k → ⊥) → (b : Bool) → nat_le c state.clients.last ≡ b
      → (if b then stays answer.StaleClient (with_taken k n state) else becomes (record state { clients = with_new c (with_taken k n state).clients }))
      ≡ step_taken (if b then stays answer.StaleClient state else becomes (record state { clients = with_new c state.clients }))
  join_of state c differ true test = refl
  join_of state c differ false test =
      ap (λ clients. becomes (record state { clients = clients })) (swap_new (passes n) k c state.clients (differ (grind (arith, nat_tests, test))))

  goes_of : (state : State) (c : ℕ) (t : Bool) (o : Option Client) → client_goes c (cond t (option_map (passes n) o) o) (with_taken k n state) ≡ step_taken (client_goes c o state)
  goes_of state c true None = refl
  goes_of state c false None = refl
  goes_of state c true (Some it) = ap (λ clients. becomes (record state { clients = clients })) (swap_gone (passes n) k c state.clients)
  goes_of state c false (Some it) = ap (λ clients. becomes (record state { clients = clients })) (swap_gone (passes n) k c state.clients)

  same_step : (state : State) (happens : Event) → AllJoined state → Has state.clients → (client_at state.clients k ≡ None → ⊥)
      → step (with_taken k n state) happens ≡ step_taken (step state happens)
  same_step state (event.Join c) joined has there =
      ap (λ last. if nat_le c last then stays answer.StaleClient (with_taken k n state) else becomes (record state { clients = with_new c (with_taken k n state).clients }))
      (last_changed (passes n) k state.clients)
      ∙ join_of state c (λ above same. there (ap (client_at state.clients) (sym same) ∙ joined c above)) _ refl
  same_step state (event.Arrive c words) joined has there =
      steps_either (is_served (client_at state.clients c)) _ _ _ _ _ (same_served state.clients c)
      (ap (answers c) (as_apart (builtin_named (word 0 words)) c words state)
      ∙ answers_apart c (served c words state) (has_after c state.clients _ (as_leaves (builtin_named (word 0 words)) c words state) has))
      refl
  same_step state (event.Malformed c kind) joined has there =
      steps_either (is_served (client_at state.clients c)) _ _ _ _ _ (same_served state.clients c)
      (ap (answers c) (refused_apart c kind state)
      ∙ answers_apart c (refused_stream c kind state) (has_after c state.clients _ (closed_leaves c state.clients) has))
      refl
    where
      refused_apart : (c : ℕ) (kind : _) (state : State) → refused_stream c kind (with_taken k n state) ≡ taken (refused_stream c kind state)
      refused_apart c kind state = ap (λ clients. record (refused_stream c kind state) { state = record state { clients = clients } }) (swap (passes n) closes k c state.clients (λ it there. refl))
  same_step state (event.Unblock ticket payload) joined has there = refl
  same_step state event.Pump joined has there = refl
  same_step state (event.Tick shown) joined has there = refl
  same_step state (event.Gone c) joined has there =
      ap (λ o. client_goes c o (with_taken k n state)) (at_changed (passes n) k state.clients c)
      ∙ goes_of state c (is_same c k) (client_at state.clients c)
  same_step state (event.Section place op) joined has there = refl
  same_step state event.Flush joined has there = refl
  same_step state event.RewriteBegin joined has there = refl
  same_step state event.RewriteStep joined has there = refl
  same_step state event.RewriteEnd joined has there = refl

  of_same : (next other : Step State) → next ≡ step_taken other
      → (next.state ≡ with_taken k n other.state) × ((next.out ≡ other.out) × ((next.effects ≡ other.effects) × (next.answer ≡ other.answer)))
  of_same next other same = rw same (refl, (refl, (refl, refl)))

  pub apart : (state : State) (happens : Event) → AllJoined state → CanTake k n state → StepsApart k n state happens
  apart state happens joined can =
      let has : Has state.clients = λ it there. subst (λ c. n ≤ length c.told) (same_Some can.record_there it (sym can.there ∙ there)) can.enough in
      let facts = of_same _ _ (same_step state happens joined has (λ none. none-some can.record_there (sym none ∙ can.there))) in
      record { state_after = facts.0; out = facts.1.0; effects = facts.1.1.0; answer = facts.1.1.1 }
