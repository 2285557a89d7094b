-- Serves the clause on what is told on a channel.
use Rattle.std.proofs.Common.{ap, sym, subst, map, List, ℕ, ◌∙◌}
use Rattle.std.specs.List.{flat_map}
use Rattle.std.specs.FinMap as finite
use Rattle.std.proofs.lemmas.Result.{on_ok_weaker}
use Rattle.key_events.specs.Rolls.{RollMap, has_name, names_at}
use Rattle.key_events.specs.Messages.{to, message, by_channel, by_patterns}
use Rattle.key_events.specs.inner.Listing.{Lists, FindsIn}
use Rattle.key_events.proofs.Told.{listeners_told, matching_told, joined}
use Rattle.key_events.proofs.telling.tell.Goals as goal

pub returns : goal.returns
returns c =
    let channel = c.args.channel.now in
    let payload = c.args.payload.now in
    let channels = c.of.result.now in
    let patterns = c.of-patterns.result.now in
    record {
      told = on_ok_weaker c.tell_matching.result
          (λ is. joined c.args.outs.now c.tell_listeners.new.outs c.tell_matching.new.outs
          (map (λ q. to q (message channel payload)) c.deref.result.now)
          (flat_map (by_channel channel payload) (finite.entries c.args.rolls.now.channels))
          (flat_map (λ q. by_patterns channel payload (q, names_at patterns q)) c.deref-2.result.now)
          (flat_map (by_patterns channel payload) (finite.entries c.args.rolls.now.patterns))
          c.in_ok-tell_listeners.ensures.told is
          (listeners_told channels channel payload c.deref.result.now
          (subst (λ (cs : List ℕ). Lists cs (λ q. has_name channel (names_at channels q)))
          (sym c.deref.ensures.value) c.in_ok-listeners.ensures.lists)
          ∙ ap (λ (m : RollMap). flat_map (by_channel channel payload) (finite.entries m))
          c.of.ensures.roll)
          (matching_told patterns channel payload c.deref-2.result.now
          (subst (λ (cs : List ℕ). FindsIn cs patterns channel)
          (sym c.deref-2.ensures.value) c.in_ok-matching.ensures.finds)
          ∙ ap (λ (m : RollMap). flat_map (by_patterns channel payload) (finite.entries m))
          c.of-patterns.ensures.roll))
          c.tell_matching.ensures.told;
    }
