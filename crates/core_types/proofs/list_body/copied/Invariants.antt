-- serves clause `same` of ListBody::copy
use Rattle.std.proofs.Common.{◌≡◌, take}
use Rattle.core_types.proofs.list_body.copied.Given as goal

abbrev pub invariant-loop-place : goal.invariant-loop-place
invariant-loop-place l = l.copies.items ≡ take l.place l.items.items
