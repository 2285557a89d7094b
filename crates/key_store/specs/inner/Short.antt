-- Which names are short.
use Rattle.std.specs.Prelude.{ℕ, Bool, nat_le, List, length}

-- the most bytes of a short name
abbrev pub most : ℕ
most = 23

abbrev pub is_short : List ℕ → Bool
is_short name = nat_le (length name) most
