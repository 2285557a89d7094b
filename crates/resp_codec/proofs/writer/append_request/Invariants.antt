use Rattle.std.proofs.Common.{◌≡◌, ◌++◌, length, take}
use Rattle.std.specs.List.{flat_map}
use Rattle.resp_codec.specs.Marks.{star, header}
use Rattle.resp_codec.specs.Spelling.{bulk}
use Rattle.resp_codec.proofs.writer.append_request.Given as goal

-- only added to was the buffer, and with the words that are left it holds the whole request
abbrev pub invariant-loop-word : goal.invariant-loop-word
invariant-loop-word l = (take (length l.fn.out) l.out ≡ l.fn.out)
    × (l.out ++ flat_map bulk l.word-iterator ≡ l.fn.out ++ (header star (length l.words) ++ flat_map bulk l.words))
