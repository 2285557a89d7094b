use Rattle.std.proofs.Common.{◌≡◌, ◌++◌, map}
use Rattle.key_store.specs.Listing.{listed}
use Rattle.host_core.specs.inner.Saving.{saved_entry}
use Rattle.host_core.proofs.Copied.{entry_of}
use Rattle.host_core.proofs.opening.copy_keys.Given as goal

-- the copies so far, and the keys that are left
abbrev pub invariant-loop-key : goal.invariant-loop-key
invariant-loop-key l = map saved_entry l.saved.items ++ map (entry_of l.keys) l.key-iterator ≡ map (entry_of l.keys) (listed l.keys)
