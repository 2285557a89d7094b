-- What a source, a sink and a clock tell.
use Rattle.std.specs.Prelude.{◌≡◌, ◌⊎◌, ℕ, ◌-◌, ◌^◌, List, ◌++◌, length, take, Option}
use Rattle.std.specs.Option.{option_map}
use Rattle.sequences.specs.Causes.{one_more}

-- of a source: the bytes that are left, where it tells them, and how often it has failed
pub record SourceTold : Type 0 where
  pub left : Option (List ℕ)
  pub faults : ℕ

-- of a sink: the bytes that it has got, where it tells them, and how often it has failed
pub record SinkTold : Type 0 where
  pub got : Option (List ℕ)
  pub faults : ℕ

-- of a clock: the readings that it has given, in order, where it tells them, and how often it has
-- failed
pub record ClockTold : Type 0 where
  pub given : Option (List ℕ)
  pub faults : ℕ

-- what a clock tells of these readings and of further ones: no more than 2^64 - 1 in all
abbrev pub with_readings : List ℕ → List ℕ → List ℕ
with_readings more given = given ++ take (2 ^ 64 - 1 - length given) more

-- These readings were given, in order. A clock that tells its readings goes on telling them, and
-- one that doesn't goes on telling nothing.
abbrev pub Gave : List ℕ → ClockTold → ClockTold → Type 0
Gave more old new = new.given ≡ option_map (with_readings more) old.given

-- one fault was counted, or none
abbrev pub CountsAtMostOne : ℕ → ℕ → Type 0
CountsAtMostOne before now = (now ≡ before) ⊎ (now ≡ one_more before)
