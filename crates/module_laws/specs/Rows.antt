-- Rows of commands that are found by name, and effects of built-in commands beside those of a module.
-- Serves the laws effects_make_the_keys and builtin_effects_stay; a module's proofs may cite it.
use Rattle.std.proofs.Common.{◌≡◌, List, [], ◌∷◌, Bool, true, false, Option, Some, None, refl, sym, ap, subst, ◌∙◌, if◌then◌else◌}
use Rattle.std.specs.Option.{option_and_then}
use Rattle.std.specs.List.{AllByRecursion}
use Rattle.std.specs.Str.{bytes_eq}
use Rattle.std.specs.Cmp.Lexicographic.{bytes_decides}
use Rattle.std.proofs.lemmas.Option.{none-some, same_Some}
use Rattle.core_types.specs.CommandRow.{CommandRow}
use Rattle.core_types.specs.Keys.{Keys}
use Rattle.core_types.specs.declared.effect.Effect.{Effect}
use Rattle.module_laws.specs.Laws.{IsCommand}
use Rattle.module_laws.specs.Meaning.{Meaning}
use Rattle.module_laws.specs.Named.{command_name, has_dot, row_named}
use Rattle.module_laws.specs.Replay.{AreFaithful, owned_by, replayed, replayed_all, replayed_by}
use Rattle.module_laws.specs.Told.{Builtins}
use Rattle.module_laws.specs.Words.{Bytes}

named_case : (b : Bool) (r row : CommandRow) (rows : List CommandRow) (name : Bytes)
    → bytes_eq r.name name ≡ b → (row_named name rows ≡ Some row → row.name ≡ name)
    → (if b then Some r else row_named name rows) ≡ Some row → row.name ≡ name
named_case true r row rows name same rest found =
    ap (λ x. x.name) (sym (same_Some r row found)) ∙ (bytes_decides r.name name).0 same
named_case false r row rows name same rest found = rest found

-- a row that is found has the name that was looked for
pub found_named : (rows : List CommandRow) (name : Bytes) (row : CommandRow)
    → row_named name rows ≡ Some row → row.name ≡ name
found_named [] name row found = absurd (none-some row found)
found_named (r ∷ rows) name row found =
    named_case (bytes_eq r.name name) r row rows name refl (found_named rows name row) found

module _ (P : CommandRow → Type 0) where
  holds_case : (b : Bool) (r row : CommandRow) (rows : List CommandRow) (name : Bytes) → P r
      → (row_named name rows ≡ Some row → P row)
      → (if b then Some r else row_named name rows) ≡ Some row → P row
  holds_case true r row rows name first rest found = subst P (same_Some r row found) first
  holds_case false r row rows name first rest found = rest found

  -- what holds of each row holds of one that is found
  pub found_row : (rows : List CommandRow) (name : Bytes) (row : CommandRow)
      → AllByRecursion P rows → row_named name rows ≡ Some row → P row
  found_row [] name row each found = absurd (none-some row found)
  found_row (r ∷ rows) name row each found =
      holds_case (bytes_eq r.name name) r row rows name each.0
      (found_row rows name row each.1) found

-- a command that replays as a built-in one is none of a module's
pub not_own : (builtins : Builtins) → AreFaithful builtins → (rows : List CommandRow)
    → AllByRecursion IsCommand rows → (keys made : Keys) (effect : Effect)
    → builtins.replays keys effect ≡ Some made → (found : Option CommandRow)
    → row_named (command_name effect.words) rows ≡ found → found ≡ None
not_own builtins faithful rows each keys made effect replays None is = refl
not_own builtins faithful rows each keys made effect replays (Some row) is =
    let name = command_name effect.words in
    let dotted : has_dot name ≡ true = ap has_dot (sym (found_named rows name row is))
    ∙ (found_row IsCommand rows name row each is).dotted in
    absurd (none-some made (sym (faithful.dotless keys effect dotted) ∙ replays))

module _ (builtins : Builtins) (faithful : AreFaithful builtins) (meaning : Meaning)
    (each : AllByRecursion IsCommand meaning.rows) where
  one_case : (keys : Keys) (effect : Effect) (replays : Option Keys)
      → builtins.replays keys effect ≡ replays → (made : Keys) → replays ≡ Some made
      → replayed builtins (meaning ∷ []) keys effect ≡ Some made
  one_case keys effect replays is made makes =
      let name = command_name effect.words in
      let none = not_own builtins faithful meaning.rows each keys made effect (is ∙ makes)
      (row_named name meaning.rows) refl in
      ap (λ o. replayed_by builtins keys effect (owned_by meaning o None)) none ∙ is ∙ makes

  step_case : (keys : Keys) (effect : Effect) (effects : List Effect) (replays : Option Keys)
      → builtins.replays keys effect ≡ replays → (made : Keys)
      → option_and_then (λ next. replayed_all builtins [] next effects) replays ≡ Some made
      → ((next : Keys) → replayed_all builtins [] next effects ≡ Some made
      → replayed_all builtins (meaning ∷ []) next effects ≡ Some made)
      → replayed_all builtins (meaning ∷ []) keys (effect ∷ effects) ≡ Some made
  step_case keys effect effects None is made makes rest = absurd (none-some made makes)
  step_case keys effect effects (Some next) is made makes rest =
      ap (option_and_then (λ then_. replayed_all builtins (meaning ∷ []) then_ effects))
      (one_case keys effect (Some next) is next refl) ∙ rest next makes

  -- what a built-in command did is replayed the same where a module is known
  pub replayed_beside : (effects : List Effect) (keys made : Keys)
      → replayed_all builtins [] keys effects ≡ Some made
      → replayed_all builtins (meaning ∷ []) keys effects ≡ Some made
  replayed_beside [] keys made makes = makes
  replayed_beside (effect ∷ effects) keys made makes =
      step_case keys effect effects (builtins.replays keys effect) refl made makes
      (λ next more. replayed_beside effects next made more)
