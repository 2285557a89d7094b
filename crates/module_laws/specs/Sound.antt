-- What holds of one module of a set. Serves the law modules_are_sound; a host's proofs may cite it.
use Rattle.std.proofs.Common.{◌≡◌, ℕ, suc, zero, ◌<◌, List, [], ◌∷◌, Bool, true, false, refl, sym, ap, ◌∙◌, arith, if◌then◌else◌}
use Rattle.std.specs.Prelude.{◌||◌}
use Rattle.std.specs.Cmp.Lexicographic.{bytes_decides}
use Rattle.std.specs.Str.{bytes_eq}
use Rattle.core_types.specs.Keys.{Native}
use Rattle.module_laws.specs.Laws.{Allows, IsSound}
use Rattle.module_laws.specs.Meaning.{type_of}
use Rattle.module_laws.specs.Sets.{AreLawful, Modules, listed, types_of}
use Rattle.module_laws.specs.Told.{Seen}
use Rattle.module_laws.specs.Types.{NativeType, has_type, is_full, is_kept}

or_right : (a b : Bool) → b ≡ true → (a || b) ≡ true
or_right true b is = refl
or_right false b is = is

or_none : (b : Bool) → (b || false) ≡ true → b ≡ true
or_none true is = refl
or_none false is = is

-- a value of the type at this place is of one of the types
type_at : (n : ℕ) (f : ℕ → NativeType) (place : ℕ) (name : List ℕ) → place < n
    → bytes_eq name (f place).name ≡ true → has_type (listed n f) name ≡ true
type_at zero f place name within same = absurd (none place within)
  where
    none : (place : ℕ) → place < 0 → ⊥
    none place within = omega arith
type_at (suc n) f zero name within same =
    ap (λ b. b || has_type (listed n (λ q. f (suc q))) name) same
type_at (suc n) f (suc place) name within same =
    or_right _ _ (type_at n (λ q. f (suc q)) place name (omega (arith, within)) same)

-- and a key may have it where that type says so, since none of the types before has its name
kept_at : (n : ℕ) (f : ℕ → NativeType) (place : ℕ) (native : Native) → place < n
    → bytes_eq native.name (f place).name ≡ true
    → ((other : ℕ) → other < place → bytes_eq native.name (f other).name ≡ false)
    → is_kept (listed n f) native ≡ is_full (f place) native.items
kept_at zero f place native within same apart = absurd (none place within)
  where
    none : (place : ℕ) → place < 0 → ⊥
    none place within = omega arith
kept_at (suc n) f zero native within same apart =
    ap (λ b. if b then is_full (f 0) native.items else is_kept (listed n (λ q. f (suc q))) native)
    same
kept_at (suc n) f (suc place) native within same apart =
    ap (λ b. if b then is_full (f 0) native.items else is_kept (listed n (λ q. f (suc q))) native)
    (apart 0 (omega arith))
    ∙ kept_at n (λ q. f (suc q)) place native (omega (arith, within)) same
    (λ other before. apart (suc other) (omega (arith, before)))

apart_case : (b : Bool) (name first second : List ℕ) → bytes_eq name second ≡ true
    → bytes_eq first second ≡ false → bytes_eq name first ≡ b → b ≡ false
apart_case false name first second same apart is = refl
apart_case true name first second same apart is =
    sym same ∙ ap (λ n. bytes_eq n second) ((bytes_decides name first).0 is) ∙ apart

module _ (modules : Modules) (place : ℕ) (lawful : AreLawful modules)
    (within : place < modules.size) where
  -- a test that allows what the set's types do allows what the type of each module does
  pub allows_at : (allowed : Native → Bool) → Allows (types_of modules) allowed
      → Allows (type_of (modules.meaning_at place) ∷ []) allowed
  allows_at allowed allows native typed =
      let same : bytes_eq native.name (modules.meaning_at place).name ≡ true = or_none _ typed in
      let f : ℕ → NativeType = λ p. type_of (modules.meaning_at p) in
      allows native (type_at modules.size f place native.name within same)
      ∙ kept_at modules.size f place native within same
      (λ other before. apart_case _ native.name (modules.meaning_at other).name
      (modules.meaning_at place).name same (lawful.apart other place before within).names refl)
      ∙ sym (ap (λ b. if b then is_full (f place) native.items else false) same)

  -- where a set is sound, the module at each place is
  pub sound_at : (allowed : Native → Bool) (seen : Seen) → IsSound (types_of modules) allowed seen
      → IsSound (type_of (modules.meaning_at place) ∷ []) allowed seen
  sound_at allowed seen sound = record {
    builtins = sound.builtins;
    allows = allows_at allowed sound.allows;
    keys = sound.keys;
  }
