-- The table by which a byte is taken at once.
use Rattle.std.specs.Prelude.{◌≡◌, ◌<◌, ℕ, List, length, slice_index}
use Rattle.rdb_prims.specs.Checksum.{steps}

-- an entry for each byte: eight bits taken from it alone
pub record IsTable (table : List ℕ) : Type 0 where
  pub size : length table ≡ 256
  pub entries : (byte : ℕ) → byte < 256 → slice_index table byte ≡ steps 8 byte
