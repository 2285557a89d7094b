-- Serves the clause on what subscribers are told of an event.
use Rattle.std.proofs.Common.{◌++◌, [], ap, sym, List, refl, ◌∙◌}
use Rattle.core_types.specs.declared.outs.Out.{Out}
use Rattle.key_events.specs.Subscribers.{Subscribers}
use Rattle.key_events.specs.inner.Bounds.{have_none}
use Rattle.key_events.specs.Messages.{keyspace_channel, keyevent_channel, told}
use Rattle.key_events.proofs.Told.{in_all, joined, to_nobody}
use Rattle.key_events.proofs.channels.Channels.messages.Goals as goal

pub returns-then-is_empty : goal.returns-then-is_empty
returns-then-is_empty c = record {
  messages = c.new-outs.ensures.empty ∙ to_nobody c.args.self.now c.args.note.now
      (ap (λ (s : Subscribers). have_none s) (sym c.self.view_is) ∙ sym c.is_empty.ensures.empty
      ∙ c.if-is_empty.true);
}

pub returns : goal.returns
returns c =
    let rolls = c.self.inside.rolls in
    let space = c.as_slice-3.result.now in
    let event = c.as_slice-4.result.now in
    let name = c.as_slice-name.result.now in
    let key = c.as_slice-key.result.now in
    record {
      messages = joined [] c.tell.new.outs c.tell-2.new.outs (told rolls space name)
          (told rolls space name) (told rolls event key) (told rolls event key)
          (c.in_ok-tell.ensures.told
          ∙ ap (λ (os : List Out). os ++ told rolls space name) c.new-outs.ensures.empty)
          c.in_ok-tell-2.ensures.told refl refl
          ∙ in_all rolls c.args.self.now space name event key c.args.note.now c.self.view_is
          (c.as_slice-3.ensures.bytes ∙ c.in_ok-space.ensures.channel
          ∙ ap keyspace_channel c.as_slice.ensures.bytes)
          c.as_slice-name.ensures.bytes
          (c.as_slice-4.ensures.bytes ∙ c.in_ok-event.ensures.channel
          ∙ ap keyevent_channel c.as_slice-2.ensures.bytes)
          c.as_slice-key.ensures.bytes;
    }
