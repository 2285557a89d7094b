use Rattle.std.proofs.Common.{◌≡◌, map}
use Rattle.resp_codec.proofs.inline.words_of.Given as goal

-- the words so far are what the parts have given
abbrev pub invariant-loop-word : goal.invariant-loop-word
invariant-loop-word l = l.words ≡ map (λ x. x.now) l.yielded
