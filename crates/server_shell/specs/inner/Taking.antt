-- What the parts of serving a source see.
use Rattle.std.specs.Prelude.{◌≡◌, ◌^◌, ℕ, List, [], length, Option}
use Rattle.std.specs.Io.KnownBytes.{Consumes, Keeps}
use Rattle.core_types.specs.Causes.{one_more}
use Rattle.io_edges.specs.Told.{SourceTold}
use Rattle.core_types.specs.declared.bad_request.BadRequest.{BadRequest}
use Rattle.disk_model.specs.Told.{Told}
use Rattle.resp_codec.specs.Requests.{End}
use Rattle.durable_host.specs.Host.{Host}
use Rattle.server_shell.specs.Faults.{IsServeStop}
use Rattle.server_shell.specs.Requests.{Serves, ServesPart}
use Rattle.server_shell.specs.Runs.{end_events}
use Rattle.server_shell.specs.declared.status.Status.{Status}
use Rattle.server_shell.specs.declared.status.Status.TheVariants as status

-- Why the next piece of an input was not taken, of which this many bytes were.
abbrev pub TakeStops : Status → ℕ → SourceTold → SourceTold → Type 0
TakeStops status.ReadFault taken old new =
    (new.faults ≡ one_more old.faults) × Keeps old.left new.left
TakeStops status.TooLong taken old new =
    (new.faults ≡ old.faults) × (taken ≡ 2 ^ 40)
    × ((more : List ℕ) × Consumes old.left new.left more × (length more ≡ 1))
TakeStops other taken old new = ⊥

-- How a bad place ends a run: it was told, or its events were made in part.
abbrev pub RefuseEnds : {D : Type 0} → Status → BadRequest → ℕ → (D → Told) → Host D → Host D
    → Option (List ℕ) → Option (List ℕ) → Type 0
RefuseEnds (status.Protocol kind' offset') kind offset told before after got got' =
    (kind' ≡ kind) × (offset' ≡ offset)
    × Serves told (end_events (End.Bad kind offset)) before after got got'
RefuseEnds end kind offset told before after got got' =
    IsServeStop end × ServesPart told [] (end_events (End.Bad kind offset)) before after got got'
