-- Serves clauses open and safe of `flush`: what client 1 may take after it.
use Rattle.std.proofs.Common.{◌≡◌, refl, sym, ap, subst, ◌∙◌, ◌+◌, ◌-◌, [], ◌∷◌, length, length-drop, Option, Some, None, arith}
use Rattle.std.specs.Option.{option_map}
use Rattle.core_types.specs.declared.event.Answer.{Answer}
use Rattle.core_types.specs.declared.event.Event.TheVariants as event
use Rattle.disk_model.specs.Told.{Told}
use Rattle.client_book.specs.Register.{Listed, freed, listed}
use Rattle.client_book.specs.declared.client.Client.{Client}
use Rattle.host_core.specs.Clients.{client_at}
use Rattle.host_core.specs.Core.{Held, may_of, state_of}
use Rattle.host_core.proofs.Rolls.{roll_at}
use Rattle.durable_host.specs.Host.{Host, KeepsHistory}
use Rattle.durable_host.specs.Kept.{state_now}
use Rattle.durable_host.specs.Steps.{Happens}
use Rattle.durable_host.specs.Taking.{IsButTaken, stream_end}
use Rattle.durable_host.proofs.Streams.{flush_rolls, listed_freed}
use Rattle.server_shell.specs.Making.{open_to, tells}
use Rattle.server_shell.specs.Stream.{IsOneStream}
use Rattle.server_shell.proofs.ClientStream.{ends_at, one_stream, stays_join}

all_open : (full : Option Client) (o : Option Listed) → IsButTaken full (option_map (λ (entry : Listed). entry.client) o) → may_of (option_map freed o) ≡ stream_end full
all_open None None took = refl
all_open (Some client) None took = absurd took
all_open None (Some entry) took = absurd took
all_open (Some client) (Some entry) took =
    let from : entry.client.from ≡ client.from + took.count = ap (λ (it : Client). it.from) took.rest in
    let size : length entry.client.told ≡ length client.told - took.count = ap (λ (it : Client). length it.told) took.rest ∙ length-drop took.count client.told in
    omega (arith, from, size, took.enough)

pub no_goer : event.Flush ≡ event.Gone 1 → ⊥
no_goer is = absurd cc

module _ {D : Type 0} (told : D → Told) (before after : Host D) (answer : Answer) (had : KeepsHistory told before) (one : IsOneStream before.kept) (happened : Happens told event.Flush answer before after) where
  flushed_stays : IsOneStream after.kept
  flushed_stays = subst IsOneStream (sym happened.kept) (record {
    from_first = one.from_first;
    none = one.none;
    stays = stays_join before.kept.events (event.Flush ∷ []) one.stays (no_goer, tt);
  })

  pub opened : KeepsHistory told after → open_to after ≡ length (tells after.kept.opening after.kept.events)
  opened keeps =
      let full = client_at (state_now after.kept).clients 1 in
      let core : client_at (state_of after.held).clients 1 ≡ option_map (λ (entry : Listed). entry.client) (listed before.held.register 1) =
      ap (λ (held : Held). client_at (state_of held).clients 1) happened.frees ∙ flush_rolls before.held.register 1 ∙ roll_at before.held.register 1 in
      ap (λ (held : Held). may_of (listed held.register 1)) happened.frees
      ∙ ap may_of (listed_freed before.held.register 1)
      ∙ all_open full (listed before.held.register 1) (subst (IsButTaken full) core ((keeps.runs happened.runs).each 1))
      ∙ ends_at full (tells after.kept.opening after.kept.events) (one_stream after.kept.opening after.kept.events keeps.joined flushed_stays.none flushed_stays.stays)
