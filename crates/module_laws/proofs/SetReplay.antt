-- What replaying makes where all modules of a set are known. Serves the law effects_make_the_keys.
use Rattle.std.proofs.Common.{◌≡◌, ℕ, suc, zero, ◌<◌, List, [], ◌∷◌, Bool, true, false, Option, Some, None, refl, sym, ap, ◌∙◌, true≢false, arith, if◌then◌else◌}
use Rattle.std.specs.Prelude.{◌||◌}
use Rattle.std.specs.Option.{option_and_then}
use Rattle.std.specs.List.{list_any}
use Rattle.std.specs.Str.{bytes_eq}
use Rattle.std.proofs.lemmas.Option.{none-some, same_Some}
use Rattle.core_types.specs.CommandRow.{CommandRow}
use Rattle.core_types.specs.Keys.{Keys, Native}
use Rattle.core_types.specs.declared.effect.Effect.{Effect}
use Rattle.module_laws.specs.Laws.{IsDone, EffectsMakeTheKeys}
use Rattle.module_laws.specs.Meaning.{Did, Meaning}
use Rattle.module_laws.specs.Named.{command_name, row_named}
use Rattle.module_laws.specs.Replay.{AreFaithful, owned_by, owner_of, replayed, replayed_all, replayed_by}
use Rattle.module_laws.specs.Sets.{Modules, listed, has_row, AreApart, AreLawful}
use Rattle.module_laws.specs.Told.{Builtins, Seen}
use Rattle.module_laws.specs.Words.{Bytes}
use Rattle.module_laws.specs.Rows.{found_named, not_own}

or_false : (a b : Bool) → (a || b) ≡ false → (a ≡ false) × (b ≡ false)
or_false true b e = absurd (true≢false e)
or_false false b e = (refl, e)

has_case : (b : Bool) (r row : CommandRow) (rows : List CommandRow) (name : Bytes) → (row_named name rows ≡ Some row → has_row rows name ≡ true) → (if b then Some r else row_named name rows) ≡ Some row → (b || has_row rows name) ≡ true
has_case true r row rows name rest found = refl
has_case false r row rows name rest found = rest found

found_there : (rows : List CommandRow) (name : Bytes) (row : CommandRow) → row_named name rows ≡ Some row → has_row rows name ≡ true
found_there [] name row found = absurd (none-some row found)
found_there (r ∷ rows) name row found =
    has_case (bytes_eq r.name name) r row rows name (found_there rows name row) found

fails_case : (b : Bool) (t : CommandRow → Bool) (r row : CommandRow) (rows : List CommandRow) (name : Bytes) → t r ≡ false → (row_named name rows ≡ Some row → t row ≡ false) → (if b then Some r else row_named name rows) ≡ Some row → t row ≡ false
fails_case true t r row rows name first rest found = ap t (sym (same_Some r row found)) ∙ first
fails_case false t r row rows name first rest found = rest found

-- a test that none passes fails at the row that is found
found_fails : (t : CommandRow → Bool) (rows : List CommandRow) (name : Bytes) (row : CommandRow) → list_any t rows ≡ false → row_named name rows ≡ Some row → t row ≡ false
found_fails t [] name row none found = absurd (none-some row found)
found_fails t (r ∷ rows) name row none found =
    let both = or_false (t r) (list_any t rows) none in
    fails_case (bytes_eq r.name name) t r row rows name both.0 (found_fails t rows name row both.1) found

none_case : (o : Option CommandRow) (first second : Meaning) (name : Bytes) (row : CommandRow) → AreApart first second → row_named name second.rows ≡ Some row → row_named name first.rows ≡ o → o ≡ None
none_case None first second name row apart found is = refl
none_case (Some r) first second name row apart found is =
    let fails = found_fails (λ x. has_row second.rows x.name) first.rows name r apart.commands is in
    absurd (true≢false (sym (found_there second.rows name row found) ∙ ap (has_row second.rows) (sym (found_named first.rows name r is)) ∙ fails))

-- a command of the second of two modules that are apart is none of the first
not_first : (first second : Meaning) (name : Bytes) (row : CommandRow) → AreApart first second → row_named name second.rows ≡ Some row → row_named name first.rows ≡ None
not_first first second name row apart found =
    none_case (row_named name first.rows) first second name row apart found refl

none_below : (p : ℕ) → p < 0 → ⊥
none_below p below = omega arith

owned_at : (n : ℕ) (f : ℕ → Meaning) (p : ℕ) (name : Bytes) (row : CommandRow) → p < n → row_named name (f p).rows ≡ Some row → ((q : ℕ) → q < p → row_named name (f q).rows ≡ None) → owner_of (listed n f) name ≡ Some (record { meaning = f p; row = row })
owned_at zero f p name row within found before = absurd (none_below p within)
owned_at (suc n) f zero name row within found before =
    ap (λ o. owned_by (f 0) o (owner_of (listed n (λ q. f (suc q))) name)) found
owned_at (suc n) f (suc p) name row within found before =
    ap (λ o. owned_by (f 0) o (owner_of (listed n (λ q. f (suc q))) name)) (before 0 (omega arith))
    ∙ owned_at n (λ q. f (suc q)) p name row (omega (arith, within)) found (λ q below. before (suc q) (omega (arith, below)))

owned_by_none : (n : ℕ) (f : ℕ → Meaning) (name : Bytes) → ((q : ℕ) → q < n → row_named name (f q).rows ≡ None) → owner_of (listed n f) name ≡ None
owned_by_none zero f name none = refl
owned_by_none (suc n) f name none =
    ap (λ o. owned_by (f 0) o (owner_of (listed n (λ q. f (suc q))) name)) (none 0 (omega arith))
    ∙ owned_by_none n (λ q. f (suc q)) name (λ q below. none (suc q) (omega (arith, below)))

module _ (builtins : Builtins) (faithful : AreFaithful builtins) (modules : Modules) (lawful : AreLawful modules) (place : ℕ) (within : place < modules.size) where
  replayed_case : (o : Option CommandRow) (keys made : Keys) (effect : Effect) → row_named (command_name effect.words) (modules.meaning_at place).rows ≡ o
      → replayed_by builtins keys effect (owned_by (modules.meaning_at place) o None) ≡ Some made → replayed builtins (listed modules.size modules.meaning_at) keys effect ≡ Some made
  replayed_case (Some row) keys made effect is replays =
      ap (replayed_by builtins keys effect) (owned_at modules.size modules.meaning_at place (command_name effect.words) row within is (λ q below. not_first (modules.meaning_at q) (modules.meaning_at place) (command_name effect.words) row (lawful.apart q place below within) is)) ∙ replays
  replayed_case None keys made effect is replays =
      ap (replayed_by builtins keys effect) (owned_by_none modules.size modules.meaning_at (command_name effect.words) (λ q there. not_own builtins faithful (modules.meaning_at q).rows (lawful.each q there).commands.each keys made effect replays (row_named (command_name effect.words) (modules.meaning_at q).rows) refl)) ∙ replays

  -- an effect that makes something where one module is known makes the same where all are
  replayed_in : (keys made : Keys) (effect : Effect) → replayed builtins (modules.meaning_at place ∷ []) keys effect ≡ Some made → replayed builtins (listed modules.size modules.meaning_at) keys effect ≡ Some made
  replayed_in keys made effect replays =
      replayed_case (row_named (command_name effect.words) (modules.meaning_at place).rows) keys made effect refl replays

  next_case : (o : Option Keys) (keys made : Keys) (effect : Effect) (effects : List Effect) → replayed builtins (modules.meaning_at place ∷ []) keys effect ≡ o
      → option_and_then (λ then_. replayed_all builtins (modules.meaning_at place ∷ []) then_ effects) o ≡ Some made
      → ((then_ : Keys) → replayed_all builtins (modules.meaning_at place ∷ []) then_ effects ≡ Some made → replayed_all builtins (listed modules.size modules.meaning_at) then_ effects ≡ Some made)
      → option_and_then (λ then_. replayed_all builtins (listed modules.size modules.meaning_at) then_ effects) (replayed builtins (listed modules.size modules.meaning_at) keys effect) ≡ Some made
  next_case None keys made effect effects is makes rest = absurd (none-some made makes)
  next_case (Some then_) keys made effect effects is makes rest =
      ap (option_and_then (λ k. replayed_all builtins (listed modules.size modules.meaning_at) k effects)) (replayed_in keys then_ effect is) ∙ rest then_ makes

  all_in : (effects : List Effect) (keys made : Keys) → replayed_all builtins (modules.meaning_at place ∷ []) keys effects ≡ Some made → replayed_all builtins (listed modules.size modules.meaning_at) keys effects ≡ Some made
  all_in [] keys made makes = makes
  all_in (effect ∷ effects) keys made makes =
      next_case (replayed builtins (modules.meaning_at place ∷ []) keys effect) keys made effect effects refl makes (λ then_ more. all_in effects then_ made more)

done_in : {A : Type 0} (modules : Modules) (place : ℕ) (allowed : Native → Bool) (seen : Seen) (did : Did A) → AreLawful modules → place < modules.size → AreFaithful seen.builtins
    → IsDone (modules.meaning_at place ∷ []) allowed seen did → IsDone (listed modules.size modules.meaning_at) allowed seen did
done_in modules place allowed seen did lawful within faithful done = record {
  replayed = all_in seen.builtins faithful modules lawful place within did.effects seen.keys did.keys done.replayed;
  small = done.small;
  kept = done.kept;
}

pub set_effects : (modules : Modules) (place : ℕ) → AreLawful modules → place < modules.size → EffectsMakeTheKeys (listed modules.size modules.meaning_at) (modules.meaning_at place)
set_effects modules place lawful within =
    let own = (lawful.each place within).effects in
    record {
      says = λ allowed private seen words sound call. done_in modules place allowed seen _ lawful within sound.builtins (own.says allowed private seen words sound call);
      replies = λ allowed private seen payload sound. done_in modules place allowed seen _ lawful within sound.builtins (own.replies allowed private seen payload sound);
      times_out = λ allowed private seen job sound. done_in modules place allowed seen _ lawful within sound.builtins (own.times_out allowed private seen job sound);
      goes = λ allowed private seen job sound. done_in modules place allowed seen _ lawful within sound.builtins (own.goes allowed private seen job sound);
      tells = λ allowed private seen op sound short. done_in modules place allowed seen _ lawful within sound.builtins (own.tells allowed private seen op sound short);
    }
