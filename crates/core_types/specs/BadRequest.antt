-- The kinds of bad requests, as numbers.
use Rattle.std.specs.Prelude.{ℕ}
use Rattle.core_types.specs.declared.bad_request.BadRequest.{BadRequest}
use Rattle.core_types.specs.declared.bad_request.BadRequest.TheVariants.{MultibulkLength, BulkLength, ExpectedDollar, LineTooLong, NoLineEnd, Quote}

abbrev pub number_of : BadRequest → ℕ
number_of MultibulkLength = 1
number_of BulkLength = 2
number_of (ExpectedDollar byte) = 3
number_of LineTooLong = 4
number_of NoLineEnd = 5
number_of Quote = 6
