-- When an object of the outside may be said to have failed: exactly where it counted a fault.
use Rattle.std.specs.Prelude.{◌≡◌, ◌≢◌, ℕ, ◌+◌, ◌-◌, ◌^◌, ◌≤◌, min, Result, Err, OnOk, OnErr}

-- a count after one more fault; it stands still at the end of 64 bits
abbrev pub one_more : ℕ → ℕ
one_more count = min (count + 1) (2 ^ 64 - 1)

-- an `Ok` counted no fault, and an `Err` one
pub record HasCause {T E : Type 0} (before now : ℕ) (result : Result T E) : Type 0 where
  pub later : before ≤ now
  pub kept : OnOk result (now ≡ before)
  pub failed : OnErr result (now ≡ one_more before)

-- the same, where this one error alone speaks of a fault
pub record HasCauseFor {T E : Type 0} (fault : E) (before now : ℕ) (result : Result T E)
    : Type 0 where
  pub later : before ≤ now
  pub kept : result ≢ Err fault → now ≡ before
  pub failed : result ≡ Err fault → now ≡ one_more before
