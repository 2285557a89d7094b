use Rattle.std.proofs.Common.{◌≡◌, ℕ, true, false, List}
use Rattle.std.specs.List.{list_any}
use Rattle.client_book.specs.inner.Watching.{is_listed, Keeps, KeepsAllBut}
use Rattle.client_book.proofs.Listing.{is_same}
use Rattle.client_book.proofs.watchers.Watchers.forget.Given as goal

-- the client is listed for none of the keys that were gone through, nobody came, and the others are
-- listed as they were
abbrev pub invariant-loop-key : goal.invariant-loop-key
invariant-loop-key l = record {
  gone : (q : List ℕ) → list_any (λ key. is_same q key.items) l.yielded ≡ true
      → is_listed l.self q l.client ≡ false;
  no_other : Keeps l.self l.fn.self;
  kept : KeepsAllBut l.client l.fn.self l.self;
}
