-- How MSET sets all of its keys or none: what stands between its two passes over the pairs.
use Rattle.std.specs.Prelude.{◌≡◌, ◌+◌, ◌≤◌, ℕ, List, [], ◌∷◌, ◌++◌, length, Option, Some, None, IsSome}
use Rattle.std.specs.List.{AllByRecursion}
use Rattle.core_types.specs.Keys.{KeysOf, value_at, with_value}
use Rattle.core_types.specs.declared.value.Value.{Value}
use Rattle.core_types.specs.declared.value.Value.TheVariants as value
use Rattle.key_cmds.specs.Run.{native_in}
use Rattle.key_cmds.specs.SeveralKeys.{Pair, left_by_pairs, with_pairs}

-- what the first pass has gathered: the keys that were not there and were put, the pairs of keys
-- that are there, and how many modules' values these may have
pub record Begun : Type 0 where
  pub put : List (List ℕ)
  pub settings : List Pair
  pub natives : ℕ

abbrev pub none_begun : Begun
none_begun = record { put = []; settings = []; natives = 0 }

module _ {N : Type 0} where
  abbrev pub with_pair : KeysOf N → Pair → KeysOf N
  with_pair keys pair = with_value keys pair.key (value.Str pair.value)

  -- one pair is looked at, whose key has this: a key that is not there is put at once
  abbrev pub keys_looked_at : Pair → Option (Value N) → KeysOf N → KeysOf N
  keys_looked_at pair None keys = with_pair keys pair
  keys_looked_at pair (Some held) keys = keys

  -- and the pair of one that is there is kept for the second pass
  abbrev pub looked_at : Pair → Option (Value N) → Begun → Begun
  looked_at pair None begun = record begun { put = begun.put ++ pair.key ∷ [] }
  looked_at pair (Some held) begun =
      record begun {
        settings = begun.settings ++ pair ∷ [];
        natives = begun.natives + length (native_in (Some held));
      }

  -- keys that were not there were put, the one after the other, each with a string
  abbrev pub ArePut : List (List ℕ) → KeysOf N → KeysOf N → Type 0
  ArePut [] before now = now ≡ before
  ArePut (key ∷ more) before now =
      (value_at before key ≡ None)
      × ((text : List ℕ) × ArePut more (with_value before key (value.Str text)) now)

  -- so it was of some keys
  pub record WerePut (put : List (List ℕ)) (now : KeysOf N) : Type 0 where
    pub before : KeysOf N
    pub are : ArePut put before now

  -- the keys of these pairs are there
  abbrev pub AreThere : List Pair → KeysOf N → Type 0
  AreThere pairs keys = AllByRecursion (λ pair. IsSome (value_at keys pair.key)) pairs

  -- the keys of some pairs are there, and setting them now does what setting all the pairs would
  -- have done before
  pub record IsBegun (pairs settings : List Pair) (before now : KeysOf N) : Type 0 where
    pub there : AreThere settings now
    pub sets : with_pairs settings now ≡ with_pairs pairs before
    pub leaves : left_by_pairs settings now ≡ left_by_pairs pairs before
