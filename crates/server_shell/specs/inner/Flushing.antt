-- What a Flush makes.
use Rattle.std.specs.Prelude.{◌≡◌, length, [], ◌∷◌}
use Rattle.core_types.specs.declared.event.Event.TheVariants as event
use Rattle.disk_model.specs.Told.{Told}
use Rattle.durable_host.specs.Host.{Host}
use Rattle.durable_host.specs.Kept.{event_count}
use Rattle.server_shell.specs.Making.{MakesAll, open_to, taken_by, tells}

-- all events are safe, and client 1 may take all that it was told
pub record Flushes {D : Type 0} (told : D → Told) (before after : Host D) : Type 0 where
  pub made : MakesAll told (event.Flush ∷ []) before after
  pub taken : taken_by after ≡ taken_by before
  pub opened : open_to after ≡ length (tells after.kept.opening after.kept.events)
  pub safe : after.safe ≡ event_count after.kept
