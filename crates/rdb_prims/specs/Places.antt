-- What stands at a place of some bytes, and why nothing that is wanted does.
use Rattle.std.specs.Prelude.{◌≡◌, ◌+◌, ◌<◌, ℕ, List, ◌++◌, length, slice_index}
use Rattle.rdb_prims.specs.Length.{SpellsLength}
use Rattle.rdb_prims.specs.Text.{SpellsString}

-- each number is that of a byte
abbrev pub AreBytes : List ℕ → Type 0
AreBytes bytes = (i : ℕ) → slice_index bytes i < 256

-- Before the place stands a front, from it on this piece, up to the next place, and then more.
pub record StandsAt (bytes : List ℕ) (at : ℕ) (piece : List ℕ) (next : ℕ) : Type 0 where
  pub front : List ℕ
  pub more : List ℕ
  pub whole : bytes ≡ front ++ (piece ++ more)
  pub place : at ≡ length front
  pub behind : next ≡ at + length piece

-- At the place stands a length n, and it ends before the next place.
pub record HasLength (bytes : List ℕ) (at n next : ℕ) : Type 0 where
  pub piece : List ℕ
  pub stands : StandsAt bytes at piece next
  pub spells : SpellsLength piece n

-- At the place stands a string, and it ends before the next place.
pub record HasString (bytes : List ℕ) (at : ℕ) (text : List ℕ) (next : ℕ) : Type 0 where
  pub piece : List ℕ
  pub stands : StandsAt bytes at piece next
  pub spells : SpellsString piece text
