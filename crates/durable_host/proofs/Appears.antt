-- Serves clauses happens and kept of `DurableHost::step`: a client that a step makes is new.
use Rattle.std.proofs.Common.{◌≡◌, refl, sym, ap, ◌∙◌, ℕ, Bool, true, false, cond, if◌then◌else◌, nat_le, Option, Some, None}
use Rattle.std.specs.Option.{option_map}
use Rattle.std.specs.Ordering.{nat_cmp, eq_by_cmp}
use Rattle.std.specs.Cmp.{nat_cmp_total}
use Rattle.std.specs.FinMap.{get-insert, get-remove}
use Rattle.std.proofs.lemmas.Option.{none-some, same_Some}
use Rattle.sequences.specs.Words.{word}
use Rattle.core_types.specs.declared.event.Answer.TheVariants as answer
use Rattle.core_types.specs.declared.event.Event.{Event}
use Rattle.core_types.specs.declared.event.Event.TheVariants as event
use Rattle.resp_codec.specs.ReplyText.{text}
use Rattle.client_book.specs.Client.{new_client, tells}
use Rattle.client_book.specs.Register.{Roll}
use Rattle.client_book.specs.declared.client.Client.{Client}
use Rattle.host_core.specs.Builtins.{builtin_named}
use Rattle.host_core.specs.Clients.{client_at, is_served, with_new, without_client}
use Rattle.host_core.specs.Events.{client_goes, refused_stream, step}
use Rattle.host_core.specs.Serving.{served}
use Rattle.host_core.specs.State.{Served, State, Step, answers, becomes, stays}
use Rattle.host_core.proofs.Replies.{BecomesAt, at_changed}
use Rattle.host_core.proofs.Steps.{Leaves, as_leaves, closed_leaves}

abbrev is_same : ℕ → ℕ → Bool
is_same = eq_by_cmp nat_cmp

-- a client that is there is new
abbrev pub IsNewAt : ℕ → Roll → Type 0
IsNewAt q roll = (client : Client) → client_at roll q ≡ Some client → client ≡ new_client

nobody_at : (q : ℕ) (roll : Roll) → client_at roll q ≡ None → IsNewAt q roll
nobody_at q roll none client there = absurd (none-some client (sym none ∙ there))

none_test : (f : Client → Client) (b : Bool) → cond b (option_map f None) None ≡ None
none_test f true = refl
none_test f false = refl

still_none : (f : Client → Client) (c q : ℕ) (before after : Roll) → BecomesAt f c before after → client_at before q ≡ None → client_at after q ≡ None
still_none f c q before after becomes none = becomes q ∙ ap (λ o. cond (is_same q c) (option_map f o) o) none ∙ none_test f (is_same q c)

new_test : (b : Bool) (o : Option Client) → o ≡ None → (client : Client) → cond b (Some new_client) o ≡ Some client → client ≡ new_client
new_test true o none client there = sym (same_Some new_client client there)
new_test false o none client there = absurd (none-some client (sym none ∙ there))

gone_test : (b : Bool) (o : Option Client) → o ≡ None → cond b None o ≡ None
gone_test true o none = refl
gone_test false o none = none

module _ (q : ℕ) where
  either : (t : Bool) (x y : Step State) → IsNewAt q x.state.clients → IsNewAt q y.state.clients → IsNewAt q (if t then x else y).state.clients
  either true x y one other = one
  either false x y one other = other

  answered : (c : ℕ) (state : State) (served : Served) → Leaves c state.clients served.state.clients → client_at state.clients q ≡ None → IsNewAt q (answers c served).state.clients
  answered c state served leaves none =
      nobody_at q (answers c served).state.clients
      (still_none (tells (text served.reply)) c q served.state.clients (answers c served).state.clients (at_changed (tells (text served.reply)) c served.state.clients)
      (still_none leaves.change c q state.clients served.state.clients leaves.at none))

  joins_new : (c : ℕ) (state : State) → client_at state.clients q ≡ None → IsNewAt q (with_new c state.clients)
  joins_new c state none client there = new_test (is_same q c) (client_at state.clients q) none client (sym (get-insert nat_cmp_total state.clients.clients c new_client q) ∙ there)

  goes_none : (c : ℕ) (state : State) (o : Option Client) → client_at state.clients q ≡ None → IsNewAt q (client_goes c o state).state.clients
  goes_none c state None none = nobody_at q state.clients none
  goes_none c state (Some it) none =
      nobody_at q (without_client c state.clients) (get-remove nat_cmp_total state.clients.clients c q ∙ gone_test (is_same q c) (client_at state.clients q) none)

  pub appears : (state : State) (happens : Event) → client_at state.clients q ≡ None → IsNewAt q (step state happens).state.clients
  appears state (event.Join c) none =
      either (nat_le c state.clients.last) (stays answer.StaleClient state) (becomes (record state { clients = with_new c state.clients }))
      (nobody_at q state.clients none) (joins_new c state none)
  appears state (event.Arrive c words) none =
      either (is_served (client_at state.clients c)) (answers c (served c words state)) (stays answer.NoClient state)
      (answered c state (served c words state) (as_leaves (builtin_named (word 0 words)) c words state) none) (nobody_at q state.clients none)
  appears state (event.Malformed c kind) none =
      either (is_served (client_at state.clients c)) (answers c (refused_stream c kind state)) (stays answer.NoClient state)
      (answered c state (refused_stream c kind state) (closed_leaves c state.clients) none) (nobody_at q state.clients none)
  appears state (event.Unblock ticket payload) none = nobody_at q state.clients none
  appears state event.Pump none = nobody_at q state.clients none
  appears state (event.Tick shown) none = nobody_at q state.clients none
  appears state (event.Gone c) none = goes_none c state (client_at state.clients c) none
  appears state (event.Section place op) none = nobody_at q state.clients none
  appears state event.Flush none = nobody_at q state.clients none
  appears state event.RewriteBegin none = nobody_at q state.clients none
  appears state event.RewriteStep none = nobody_at q state.clients none
  appears state event.RewriteEnd none = nobody_at q state.clients none
