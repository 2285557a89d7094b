-- Serves clause listed of KeyStore::iter.
use Rattle.std.proofs.Common.{◌∙◌}
use Rattle.key_store.specs.Listing.{listed}
use Rattle.key_store.proofs.Listings.{all_passed}
use Rattle.key_store.proofs.store.KeyStore.iter.Goals as goal

pub returns : goal.returns
returns g c = record { listed = c.iter_from.ensures.listed ∙ all_passed (listed c.args.self.now) }
