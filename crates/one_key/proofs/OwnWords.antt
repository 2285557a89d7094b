-- The words of a command, its name in upper case. Serves the clause of own::own.
use Rattle.std.proofs.Common.{◌≡◌, [], ◌∷◌, length, map, drop, ◌<◌, IfOk, Result, Ok, Err, ap, ◌∙◌, arith}
use Rattle.std.specs.Char.{to_ascii_uppercase}
use Rattle.std.proofs.lemmas.List.{length-map}
use Rattle.core_types.specs.Done.{own_words}
use Rattle.sequences.specs.Words.{word}
use Rattle.core_types.specs.declared.effect.Effect.{Effect}
use Rattle.sequences.specs.declared.no_memory.NoMemory.{NoMemory}
use Rattle.core_types.specs.Keyspace.{IsString}
use Rattle.core_types.specs.Limits.{IsWithinLimits}
use Rattle.module_laws.specs.Named.{command_name}
use Rattle.module_laws.specs.Words.{Bytes, Words}
use Rattle.one_key.specs.OwnWords.{own}

pub named : (words : Words) (name : Bytes) → 0 < length words
    → name ≡ map to_ascii_uppercase (word 0 words) → name ≡ command_name words
unfolding word
named [] name some is = absurd (omega (arith, some))
named (w ∷ words) name some is = is

-- the words with this name are those with the name in upper case
pub own_is : (words : Words) (name : Bytes) (result : Result Effect NoMemory) → 0 < length words
    → name ≡ map to_ascii_uppercase (word 0 words)
    → IfOk result (λ effect. effect ≡ own_words name words)
    → IfOk result (λ effect. effect.words ≡ own words)
own_is words name (Ok effect) some is made =
    ap (λ e. e.words) made ∙ ap (λ w. w ∷ drop 1 words) (named words name some is)
own_is words name (Err why) some is made = tt

-- the words with the name in upper case are within the limits
pub own_limits : (words : Words) → IsWithinLimits words → IsWithinLimits (own words)
own_limits [] limits = absurd (omega (arith, limits.some))
own_limits (name ∷ words) limits = record {
  some = omega arith;
  few = limits.few;
  each = (omega (arith, length-map name to_ascii_uppercase, limits.each.0), limits.each.1);
}

-- the second word is within the limits
pub key_short : (words : Words) → IsWithinLimits words → IsString (word 1 words)
unfolding word
key_short [] limits = absurd (omega (arith, limits.some))
key_short (name ∷ []) limits = omega arith
key_short (name ∷ key ∷ words) limits = limits.each.1.0
