use Rattle.std.proofs.Common.{◌≡◌, drop, length}
use Rattle.type_ids.proofs.Ids.{letters_before, nine_letters}
use Rattle.type_ids.proofs.id.letters_of.Given as goal

abbrev pub invariant-loop-place : goal.invariant-loop-place
invariant-loop-place l = record {
  nine : length l.text ≡ 9;
  letters : letters_before l.place l.rest (drop l.place l.text) ≡ nine_letters l.number;
}
