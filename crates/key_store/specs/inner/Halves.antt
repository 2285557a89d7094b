-- The keys as the two tables have them: those with short names, and the others.
use Rattle.std.specs.Prelude.{◌≡◌, ◌+◌, ◌<◌, ◌^◌, ℕ, Bool, true, false, cond, List, [], ◌∷◌, ◌++◌, Option, None, Some}
use Rattle.std.specs.Ordering.{nat_cmp, is_lt}
use Rattle.std.specs.Cmp.Lexicographic.{slice_cmp}
use Rattle.std.specs.FinMap as finite
use Rattle.core_types.specs.Keys.{KeysOf, entry_at, key_count}
use Rattle.key_store.specs.inner.Short.{is_short}

module _ {N : Type 0} where
  -- the keys of both
  abbrev pub both : KeysOf N → KeysOf N → KeysOf N
  both short long = finite.from_entries (finite.entries short ++ finite.entries long)

  -- no key has a long name
  abbrev pub AllShort : KeysOf N → Type 0
  AllShort keys = (name : List ℕ) → is_short name ≡ false → entry_at keys name ≡ None

  -- no key has a short name
  abbrev pub AllLong : KeysOf N → Type 0
  AllLong keys = (name : List ℕ) → is_short name ≡ true → entry_at keys name ≡ None

  -- each of the two tables has its own, and a number of 63 bits counts them
  pub record AreHalves (short long : KeysOf N) : Type 0 where
    pub shorts : AllShort short
    pub longs : AllLong long
    pub few : key_count short + key_count long < 2 ^ 63

-- whether the first of these comes before the first of those, where there are such
abbrev pub comes_first : Option (List ℕ) → Option (List ℕ) → Bool
comes_first None other = false
comes_first (Some name) None = true
comes_first (Some name) (Some other) = is_lt (slice_cmp nat_cmp name other)

module _ {X : Type 0} where
  -- an entry put before the first of the others that comes after it, where `rest` does so with the
  -- entries behind it
  abbrev pub onto : List ℕ × X → (List (List ℕ × X) → List (List ℕ × X)) → List (List ℕ × X) → List (List ℕ × X)
  onto e rest [] = e ∷ rest []
  onto e rest (f ∷ fs) = cond (is_lt (slice_cmp nat_cmp e.0 f.0)) (e ∷ rest (f ∷ fs)) (f ∷ onto e rest fs)

  -- two lists of entries in order as one
  abbrev pub merged : List (List ℕ × X) → List (List ℕ × X) → List (List ℕ × X)
  merged [] fs = fs
  merged (e ∷ es) fs = onto e (merged es) fs
