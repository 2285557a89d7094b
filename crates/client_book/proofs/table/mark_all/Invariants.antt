use Rattle.std.proofs.Common.{◌≡◌, ℕ, false}
use Rattle.std.specs.Option.{option_map}
use Rattle.std.specs.List.{list_any}
use Rattle.std.specs.Ordering.{nat_cmp}
use Rattle.std.specs.BTreeMap.{get, is_at}
use Rattle.client_book.specs.inner.Entry.{marked}
use Rattle.client_book.proofs.table.mark_all.Given as goal

-- No client but those that are left wants a mark yet.
abbrev pub invariant-loop-client : goal.invariant-loop-client
invariant-loop-client l = record {
  same : (q : ℕ) → option_map (marked l.key) (get nat_cmp l.clients q) ≡ option_map (marked l.key) (get nat_cmp l.fn.clients q);
  rest : (q : ℕ) → list_any (is_at (nat_cmp q)) l.client-iterator ≡ false → option_map (marked l.key) (get nat_cmp l.clients q) ≡ get nat_cmp l.clients q;
}
