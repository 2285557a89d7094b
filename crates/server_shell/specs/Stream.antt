-- The stream of client 1.
use Rattle.std.specs.Prelude.{◌≡◌, ◌≤◌, ℕ, List, [], length, take, Option, Some, None}
use Rattle.std.specs.List.{AllByRecursion}
use Rattle.core_types.specs.declared.event.Event.{Event}
use Rattle.core_types.specs.declared.event.Event.TheVariants as event
use Rattle.disk_model.specs.Told.{Told}
use Rattle.client_book.specs.declared.client.Client.{Client}
use Rattle.host_core.specs.Clients.{client_at}
use Rattle.durable_host.specs.Host.{Host, KeepsHistory}
use Rattle.durable_host.specs.Kept.{Kept}
use Rattle.server_shell.specs.Making.{taken_by, tells}

-- its record has all that it was told, from the first byte
abbrev pub StreamIs : Option Client → List ℕ → Type 0
StreamIs None bytes = bytes ≡ []
StreamIs (Some client) bytes = (client.from ≡ 0) × (client.told ≡ bytes)

-- client 1 does not go
abbrev pub StaysOn : Event → Type 0
StaysOn happens = ¬ (happens ≡ event.Gone 1)

-- In a history from a state without it client 1 did not go.
pub record IsOneStream (kept : Kept) : Type 0 where
  pub from_first : kept.first ≡ 0
  pub none : client_at kept.opening.clients 1 ≡ None
  pub stays : AllByRecursion StaysOn kept.events

-- All that client 1 was told was told it by the safe events, and was taken.
pub record IsCaughtUp {D : Type 0} (told : D → Told) (host : Host D) : Type 0 where
  pub runs : host.stopped ≡ None
  pub keeps : KeepsHistory told host
  pub one : IsOneStream host.kept
  pub taken : taken_by host ≡ length (tells host.kept.opening host.kept.events)
  pub safely : length (tells host.kept.opening host.kept.events)
      ≤ length (tells host.kept.opening (take host.safe host.kept.events))
