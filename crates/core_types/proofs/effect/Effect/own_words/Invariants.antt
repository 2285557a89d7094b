-- Serves clause words of Effect::own_words.
use Rattle.std.proofs.Common.{◌≡◌, ◌∷◌, ◌++◌, drop}
use Rattle.core_types.proofs.effect.Effect.own_words.Given as goal

-- the words so far, and then those that are left
abbrev pub invariant-loop-word : goal.invariant-loop-word
invariant-loop-word l = l.copied ++ l.word-iterator ≡ l.name ∷ drop 1 l.words
