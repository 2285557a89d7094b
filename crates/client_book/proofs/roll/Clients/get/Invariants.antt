use Rattle.std.proofs.Common.{◌≡◌, drop}
use Rattle.std.specs.Ordering.{nat_cmp}
use Rattle.std.specs.FinMap.{find, get}
use Rattle.client_book.proofs.roll.Clients.get.Given as goal

-- what is looked for is among the records that are left, if anywhere
abbrev pub invariant-loop-number : goal.invariant-loop-number
invariant-loop-number l = get l.self.clients l.client ≡ find nat_cmp l.client (drop l.number-index l.number-items)
