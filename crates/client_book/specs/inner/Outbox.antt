-- What an outbox is seen as.
use Rattle.std.specs.Prelude.{ℕ, ◌+◌, ◌-◌, ◌^◌, ◌==◌, ◌≤◌, ◌<◌, List, [], ◌++◌, length, drop, if◌then◌else◌}

-- `told` begins at `from`. Its first `free` bytes may be taken; all of it, once more was flushed
-- than `flushes`.
pub record Outgoing : Type 0 where
  pub from : ℕ
  pub told : List ℕ
  pub free : ℕ
  pub flushes : ℕ

abbrev pub new_outgoing : Outgoing
new_outgoing = record { from = 0; told = []; free = 0; flushes = 0 }

-- how many bytes may be taken after this number of flushes
abbrev pub free_at : ℕ → Outgoing → ℕ
free_at flushes box = if box.flushes == flushes then box.free else length box.told

abbrev pub holds : List ℕ → ℕ → Outgoing → Outgoing
holds text flushes box =
    record box { told = box.told ++ text; free = free_at flushes box; flushes = flushes }

-- the first n bytes are let go
abbrev pub lets_go : ℕ → ℕ → Outgoing → Outgoing
lets_go n flushes box =
    record box { from = box.from + n; told = drop n box.told; free = free_at flushes box - n }

-- of the bytes that are kept the first `start` were taken: fewer than 4,096, or at most half of
-- them; and of the others no more than all may be
pub record IsWhole (bytes : List ℕ) (start from free : ℕ) : Type 0 where
  pub taken : start ≤ length bytes
  pub few : 4096 ≤ start → start + start ≤ length bytes
  pub within : start + free ≤ length bytes
  pub fits : from + (length bytes - start) < 2 ^ 64
