-- Serves clause made of `serve_event`: a client stays until it goes.
use Rattle.std.proofs.Common.{◌≡◌, refl, sym, ap, subst, ℕ, Bool, true, false, cond, if◌then◌else◌, nat_le, Option, Some, None, IsSome}
use Rattle.std.specs.Option.{option_map}
use Rattle.std.specs.Ordering.{nat_cmp, eq_by_cmp}
use Rattle.std.specs.Cmp.{nat_cmp_total}
use Rattle.std.specs.FinMap.{get-insert, get-remove}
use Rattle.std.proofs.lemmas.Bool.{false≢true}
use Rattle.std.proofs.lemmas.Map.Lookups.{exact_unsigned}
use Rattle.std.proofs.lemmas.Map.Views.{tells_apart}
use Rattle.sequences.specs.Words.{word}
use Rattle.core_types.specs.declared.event.Answer.TheVariants as answer
use Rattle.core_types.specs.declared.event.Event.{Event}
use Rattle.core_types.specs.declared.event.Event.TheVariants as event
use Rattle.resp_codec.specs.ReplyText.{text}
use Rattle.client_book.specs.Client.{new_client, tells}
use Rattle.client_book.specs.Register.{Roll}
use Rattle.client_book.specs.declared.client.Client.{Client}
use Rattle.host_core.specs.Builtins.{builtin_named}
use Rattle.host_core.specs.Clients.{client_at, is_served, with_new}
use Rattle.host_core.specs.Events.{client_goes, refused_stream, step}
use Rattle.host_core.specs.Serving.{served}
use Rattle.host_core.specs.State.{Served, State, Step, answers, becomes, stays}
use Rattle.host_core.proofs.Replies.{BecomesAt, at_changed}
use Rattle.host_core.proofs.Steps.{Leaves, as_leaves, closed_leaves}

abbrev is_same : ℕ → ℕ → Bool
is_same = eq_by_cmp nat_cmp

abbrev pub IsAt : ℕ → Roll → Type 0
IsAt q roll = IsSome (client_at roll q)

mapped : (f : Client → Client) (b : Bool) (o : Option Client) → IsSome o → IsSome (cond b (option_map f o) o)
mapped f true (Some client) some = refl
mapped f false (Some client) some = refl
mapped f b None some = absurd (false≢true some)

still_some : (f : Client → Client) (c q : ℕ) (before after : Roll) → BecomesAt f c before after → IsAt q before → IsAt q after
still_some f c q before after becomes some = subst IsSome (sym (becomes q)) (mapped f (is_same q c) (client_at before q) some)

inserted : (b : Bool) (o : Option Client) → IsSome o → IsSome (cond b (Some new_client) o)
inserted true o some = refl
inserted false o some = some

removed : (b : Bool) (o : Option Client) → (b ≡ true → ⊥) → IsSome o → IsSome (cond b None o)
removed true o other some = absurd (other refl)
removed false o other some = some

module _ (q : ℕ) where
  either : (t : Bool) (x y : Step State) → IsAt q x.state.clients → IsAt q y.state.clients → IsAt q (if t then x else y).state.clients
  either true x y one other = one
  either false x y one other = other

  answered : (c : ℕ) (state : State) (served : Served) → Leaves c state.clients served.state.clients → IsAt q state.clients → IsAt q (answers c served).state.clients
  answered c state served leaves some =
      still_some (tells (text served.reply)) c q served.state.clients (answers c served).state.clients (at_changed (tells (text served.reply)) c served.state.clients)
      (still_some leaves.change c q state.clients served.state.clients leaves.at some)

  goes : (c : ℕ) (state : State) (o : Option Client) → (c ≡ q → ⊥) → IsAt q state.clients → IsAt q (client_goes c o state).state.clients
  goes c state None other some = some
  goes c state (Some it) other some =
      subst IsSome (sym (get-remove nat_cmp_total state.clients.clients c q))
      (removed (is_same q c) (client_at state.clients q) (λ same. other (sym (tells_apart exact_unsigned q c same))) some)

  -- a client that is there stays until it goes
  pub stays_there : (state : State) (happens : Event) → (happens ≡ event.Gone q → ⊥) → IsAt q state.clients → IsAt q (step state happens).state.clients
  stays_there state (event.Join c) stays_on some =
      either (nat_le c state.clients.last) (stays answer.StaleClient state) (becomes (record state { clients = with_new c state.clients }))
      some (subst IsSome (sym (get-insert nat_cmp_total state.clients.clients c new_client q)) (inserted (is_same q c) (client_at state.clients q) some))
  stays_there state (event.Arrive c words) stays_on some =
      either (is_served (client_at state.clients c)) (answers c (served c words state)) (stays answer.NoClient state)
      (answered c state (served c words state) (as_leaves (builtin_named (word 0 words)) c words state) some) some
  stays_there state (event.Malformed c kind) stays_on some =
      either (is_served (client_at state.clients c)) (answers c (refused_stream c kind state)) (stays answer.NoClient state)
      (answered c state (refused_stream c kind state) (closed_leaves c state.clients) some) some
  stays_there state (event.Unblock ticket payload) stays_on some = some
  stays_there state event.Pump stays_on some = some
  stays_there state (event.Tick shown) stays_on some = some
  stays_there state (event.Gone c) stays_on some = goes c state (client_at state.clients c) (λ same. stays_on (ap event.Gone same)) some
  stays_there state (event.Section place op) stays_on some = some
  stays_there state event.Flush stays_on some = some
  stays_there state event.RewriteBegin stays_on some = some
  stays_there state event.RewriteStep stays_on some = some
  stays_there state event.RewriteEnd stays_on some = some
