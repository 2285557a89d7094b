-- What a crash leaves of a host's directory.
use Rattle.std.specs.Prelude.{◌≤◌, ℕ}
use Rattle.disk_model.specs.Files.{Files}
use Rattle.host_core.specs.Replay.{replay}
use Rattle.restart.specs.Restart.{Restarts}
use Rattle.durable_host.specs.Kept.{Kept, event_count, state_after}

-- The image restarts to the keys after some of the events, in order from the first, and at least
-- this many.
pub record HoldsFrom (kept : Kept) (safe : ℕ) (image : Files) : Type 0 where
  pub count : ℕ
  pub at_least : safe ≤ count
  pub at_most : count ≤ event_count kept
  pub restarts : Restarts replay image (state_after count kept).keys
