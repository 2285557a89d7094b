-- Serves the law `one_outcome`, and `bad` of `judge_header`: what the header alone shows.
use Rattle.std.proofs.Common.{◌≡◌, ◌≢◌, ℕ, ◌<◌, ◌≤◌, List, length, refl, inl, arith}
use Rattle.zip_lists.specs.Ziplist.{header_size, total_of}
use Rattle.zip_lists.specs.BadPlace.{IsBad, IsFirstBad}

pub header_total : (bytes : List ℕ) → 4 ≤ length bytes → total_of bytes ≢ length bytes →
    IsFirstBad bytes 0
header_total bytes there other = record {
  bad = IsBad.Total record { there = there; other = other; place_is = refl };
  least = λ place is. omega arith;
}

pub header_missing : (bytes : List ℕ) → length bytes < header_size →
    (4 ≤ length bytes → total_of bytes ≡ length bytes) → IsFirstBad bytes (length bytes)
header_missing bytes short total = record {
  bad = IsBad.Missing record { short = inl short; place_is = refl };
  least = λ place is. least place is;
} where
  least : (place : ℕ) → IsBad bytes place → length bytes ≤ place
  least place (IsBad.Total w) = absurd (w.other (total w.there))
  least place (IsBad.Last w) = absurd (omega (arith, w.ends.header))
  least place (IsBad.Count w) = absurd (omega (arith, w.ends.header))
  least place (IsBad.Told w) = absurd (omega (arith, w.stands.header))
  least place (IsBad.Encoding w) = absurd (omega (arith, w.stands.header))
  least place (IsBad.Trailing w) = absurd (omega (arith, w.ends.header))
  least place (IsBad.Missing w) = omega (arith, w.place_is)
