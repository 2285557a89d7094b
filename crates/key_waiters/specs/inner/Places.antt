-- The first of the tickets that stand in a place.
use Rattle.std.specs.Prelude.{◌≡◌, ℕ, ◌<◌, ◌≤◌, Bool, true, Option, None, Some}

-- it stands there and is above the number, and no other such is lower; or there is none
abbrev pub IsFirstOf : (ℕ → Bool) → ℕ → Option ℕ → Type 0
IsFirstOf stands above None = (n : ℕ) → stands n ≡ true → n ≤ above
IsFirstOf stands above (Some first) = (stands first ≡ true) × (above < first)
    × ((n : ℕ) → stands n ≡ true → above < n → first ≤ n)
