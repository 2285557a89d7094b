-- What a refused item is handed back in.
use Rattle.client_book.specs.declared.pending.Pending.{Pending}
use Rattle.client_book.specs.declared.pending.PendFault.{PendFault}
use Rattle.client_book.specs.declared.pending.PendFault.TheVariants as faults

abbrev pub given_back : PendFault → Pending
given_back (faults.TooMany item) = item
given_back (faults.Memory item) = item
