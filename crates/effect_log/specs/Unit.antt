-- What one event writes to the append-only log.
use Rattle.std.specs.Prelude.{◌≡◌, ℕ, List, [], ◌∷◌, ◌++◌, Bool, false, codes}
use Rattle.std.specs.List.{flat_map}
use Rattle.std.specs.Str.{str_eq_ignore_ascii_case}
use Rattle.core_types.specs.declared.effect.Effect.{Effect}
use Rattle.resp_codec.specs.Spelling.{multibulk, IsRequest}

-- the words that open and close a unit of several effects
abbrev pub multi : List ℕ
multi = codes "MULTI"

abbrev pub exec : List ℕ
exec = codes "EXEC"

-- an effect as the request that makes it again
abbrev pub effect_text : Effect → List ℕ
effect_text effect = multibulk effect.words

-- nothing for no effect, the effect alone for one, and several between MULTI and EXEC
abbrev pub unit : List Effect → List ℕ
unit [] = []
unit (e ∷ []) = effect_text e
unit (e ∷ f ∷ more) =
    multibulk (multi ∷ []) ++ flat_map effect_text (e ∷ f ∷ more) ++ multibulk (exec ∷ [])

-- the words begin with this name, in any case of letters
abbrev pub is_named : List ℕ → List (List ℕ) → Bool
is_named name [] = false
is_named name (word ∷ words) = str_eq_ignore_ascii_case word name

-- an effect that can be replayed: its words are those of a request
abbrev pub IsReplayable : Effect → Type 0
IsReplayable effect = IsRequest effect.words

-- an effect that a log can hold: a request that neither opens nor closes a unit
pub record IsLoggable (effect : Effect) : Type 0 where
  pub request : IsRequest effect.words
  pub opens_none : is_named multi effect.words ≡ false
  pub closes_none : is_named exec effect.words ≡ false
