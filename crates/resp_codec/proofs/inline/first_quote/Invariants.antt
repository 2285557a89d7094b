use Rattle.std.proofs.Common.{◌≡◌, take, false}
use Rattle.std.specs.List.{list_any}
use Rattle.resp_codec.specs.Inline.{is_quote}
use Rattle.resp_codec.proofs.inline.first_quote.Given as goal

abbrev pub invariant-loop-place : goal.invariant-loop-place
invariant-loop-place l = list_any is_quote (take l.place l.line) ≡ false
