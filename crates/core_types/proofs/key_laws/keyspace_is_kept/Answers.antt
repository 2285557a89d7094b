use Rattle.core_types.proofs.KeyLemmas.{none_kept, set_kept, removed_kept, changed_kept, due_kept, moved_kept}
use Rattle.core_types.proofs.key_laws.keyspace_is_kept.Goals as goal

pub returns-clause-none : goal.returns-clause-none
returns-clause-none g c allowed = none_kept allowed

pub returns-clause-kept : goal.returns-clause-kept
returns-clause-kept g c allowed keys is = record {
  set = set_kept allowed keys is;
  valued = λ key value is_key is_value. set_kept allowed keys is key _ is_key (is_value, tt);
  changed = changed_kept allowed keys is;
  due = due_kept allowed keys is;
  removed = removed_kept allowed keys is;
  moved = moved_kept allowed keys is;
}
