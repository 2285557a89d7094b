-- The text of a unit of several effects.
use Rattle.std.proofs.Common.{◌≡◌, ◌≤◌, List, [], ◌∷◌, ◌++◌, length, codes, arith, refl, lit<}
use Rattle.std.proofs.lemmas.Fmt.{decimal_digit}
use Rattle.std.specs.List.{flat_map}
use Rattle.core_types.specs.declared.effect.Effect.{Effect}
use Rattle.resp_codec.specs.Spelling.{multibulk}
use Rattle.effect_log.specs.Unit.{unit, effect_text, multi, exec}

-- the requests that open and close a unit, byte by byte
pub multi_sent : multibulk (multi ∷ []) ≡ codes "*1\r\n$5\r\nMULTI\r\n"
multi_sent = rw (decimal_digit 1 (lit< tt), decimal_digit 5 (lit< tt))

pub exec_sent : multibulk (exec ∷ []) ≡ codes "*1\r\n$4\r\nEXEC\r\n"
exec_sent = rw (decimal_digit 1 (lit< tt), decimal_digit 4 (lit< tt))

-- two effects or more stand between them
pub unit_several : (effects : List Effect) → 2 ≤ length effects → unit effects ≡ multibulk (multi ∷ []) ++ flat_map effect_text effects ++ multibulk (exec ∷ [])
unit_several [] h = absurd (omega arith)
unit_several (e ∷ []) h = absurd (omega arith)
unit_several (e ∷ f ∷ more) h = refl
