-- Serves the invariant of a store without keys.
use Rattle.std.specs.FinSet as set
use Rattle.core_types.specs.Keys.{no_keys}
use Rattle.key_store.proofs.Indexes.{indexed_as, indexed_new}
use Rattle.key_store.proofs.store.KeyStore.new.Goals as goal

pub invariant_of-result : goal.invariant_of-result
invariant_of-result g c = indexed_as set.empty c.new-2.result no_keys c.new.result c.new-2.ensures.empty c.new.ensures.empty (indexed_new g.row.N.Denot)
