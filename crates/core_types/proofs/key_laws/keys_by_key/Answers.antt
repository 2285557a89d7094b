use Rattle.core_types.proofs.KeyLemmas.{entry_at-with_entry, entry_at-without, key_count-with_entry, key_count-without, same_keys}
use Rattle.core_types.proofs.key_laws.keys_by_key.Goals as goal

pub returns : goal.returns
returns g c = record {
  set = entry_at-with_entry;
  removed = entry_at-without;
  set_count = key_count-with_entry;
  removed_count = key_count-without;
  same = same_keys;
}
