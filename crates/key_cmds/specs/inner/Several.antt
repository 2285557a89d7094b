-- What the inner functions of the commands on several keys do.
use Rattle.std.specs.Prelude.{ℕ, List, [], ◌∷◌, ◌++◌, map, flat_map, codes, Option, Some, None}
use Rattle.std.specs.Borrow.{Bor}
use Rattle.core_types.specs.Keys.{KeysOf, value_at, without}
use Rattle.core_types.specs.declared.note.Note.{Note}
use Rattle.core_types.specs.declared.value.Value.{Value}
use Rattle.key_cmds.specs.Run.{native_in}
use Rattle.key_cmds.specs.SeveralKeys.{Pair, generic_note}

-- a pair that stands among words
abbrev pub pair_in_place : Bor (List ℕ) × Bor (List ℕ) → Pair
pair_in_place p = record { key = p.0.now; value = p.1.now }

abbrev pub del_note : List ℕ → Note
del_note key = generic_note (codes "del") key

abbrev pub note_keys : List Note → List (List ℕ)
note_keys notes = map (λ note. note.key) notes

module _ {N : Type 0} where
  -- a note, where its key has this
  abbrev pub where_there : Note → Option (Value N) → List Note
  where_there note None = []
  where_there note (Some held) = note ∷ []

  -- of the removal of each key that is there, a note
  abbrev pub notes_named : KeysOf N → List (List ℕ) → List Note
  notes_named keys names = flat_map (λ name. where_there (del_note name) (value_at keys name)) names

  -- the modules' values that the keys of these names have
  abbrev pub natives_named : KeysOf N → List (List ℕ) → List N
  natives_named keys names = flat_map (λ name. native_in (value_at keys name)) names

  -- of these notes those whose key is there, where the key of each is removed before the next
  abbrev pub notes_left : List Note → KeysOf N → List Note
  notes_left [] keys = []
  notes_left (note ∷ more) keys =
      where_there note (value_at keys note.key) ++ notes_left more (without keys note.key)
