-- What a client is told of a bad request.
use Rattle.std.specs.Prelude.{ℕ, List, ◌∷◌, ◌++◌, map, codes}
use Rattle.core_types.specs.Printable.{printable}
use Rattle.core_types.specs.declared.bad_request.BadRequest.{BadRequest}
use Rattle.core_types.specs.declared.bad_request.BadRequest.TheVariants.{MultibulkLength, BulkLength, ExpectedDollar, LineTooLong, NoLineEnd, Quote}
use Rattle.core_types.specs.declared.reply.Reply.{Reply}
use Rattle.core_types.specs.declared.reply.Reply.TheVariants.{Error}

abbrev pub bad_text : BadRequest → List ℕ
bad_text MultibulkLength = codes "invalid multibulk length"
bad_text BulkLength = codes "invalid bulk length"
bad_text (ExpectedDollar byte) = codes "expected '$', got '" ++ byte ∷ codes "'"
bad_text LineTooLong = codes "line too long"
bad_text NoLineEnd = codes "line end expected"
bad_text Quote = codes "quoted inline words are not served"

-- the error of a bad request, with `?` for a byte that is not printable
abbrev pub bad_reply : BadRequest → Reply
bad_reply kind = Error (map printable (codes "ERR Protocol error: " ++ bad_text kind))
