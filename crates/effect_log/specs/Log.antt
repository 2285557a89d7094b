-- The grammar of the append-only log: units one after the other, and then nothing or a torn unit.
use Rattle.std.specs.Prelude.{◌≡◌, ◌⊎◌, ◌+◌, ◌<◌, ℕ, List, [], ◌++◌, length, take, true, false}
use Rattle.std.specs.List.{AllByRecursion, flat_map}
use Rattle.core_types.specs.declared.effect.Effect.{Effect}
use Rattle.core_types.specs.declared.bad_request.BadRequest.{BadRequest}
use Rattle.resp_codec.specs.Inline.{begins_array}
use Rattle.resp_codec.specs.Spelling.{multibulk, IsRequest}
use Rattle.resp_codec.specs.Array.{BeginsRequest, BeginsEmpty, IsUnfinishedArray, IsBadArray}
use Rattle.effect_log.specs.Unit.{multi, exec, effect_text, is_named, IsLoggable}
use Rattle.effect_log.specs.declared.reason.Reason.{Reason}
use Rattle.effect_log.specs.declared.reason.Reason.TheVariants as reason

-- a unit as it stands in a log: the request that opens it, its effects, and the request that closes
-- it
pub record Unit : Type 0 where
  pub opening : List ℕ
  pub effects : List Effect
  pub closing : List ℕ

-- the bytes of effects, one after the other
abbrev pub effects_text : List Effect → List ℕ
effects_text effects = flat_map effect_text effects

abbrev pub unit_bytes : Unit → List ℕ
unit_bytes u = u.opening ++ effects_text u.effects ++ u.closing

-- where an effect of a unit begins, counted from the unit's first byte
abbrev pub effect_start : Unit → ℕ → ℕ
effect_start u n = length u.opening + length (effects_text (take n u.effects))

-- the bytes are one request whose first word is this name, in any case of letters
pub record IsRequestNamed (name bytes : List ℕ) : Type 0 where
  pub words : List (List ℕ)
  pub request : IsRequest words
  pub named : is_named name words ≡ true
  pub whole : bytes ≡ multibulk words

-- one effect by itself
pub record IsLone (u : Unit) : Type 0 where
  pub opening : u.opening ≡ []
  pub one : length u.effects ≡ 1
  pub closing : u.closing ≡ []

-- effects between MULTI and EXEC
pub record IsEnclosed (u : Unit) : Type 0 where
  pub opening : IsRequestNamed multi u.opening
  pub closing : IsRequestNamed exec u.closing

-- A unit: one effect, or MULTI, effects and EXEC. No effect is named MULTI or EXEC.
pub record IsUnit (u : Unit) : Type 0 where
  pub each : AllByRecursion IsLoggable u.effects
  pub form : IsLone u ⊎ IsEnclosed u

-- a unit was opened, and these effects followed
pub record IsOpened (bytes : List ℕ) : Type 0 where
  pub opening : List ℕ
  pub effects : List Effect
  pub opens : IsRequestNamed multi opening
  pub each : AllByRecursion IsLoggable effects
  pub whole : bytes ≡ opening ++ effects_text effects

-- A unit that was not written to its end: a part of a request, or MULTI and whole effects, and
-- behind them nothing or a part of a request.
pub record IsTornInside (bytes : List ℕ) : Type 0 where
  pub front : List ℕ
  pub rest : List ℕ
  pub opened : IsOpened front
  pub begun : (rest ≡ []) ⊎ IsUnfinishedArray rest
  pub whole : bytes ≡ front ++ rest

abbrev pub IsTorn : List ℕ → Type 0
IsTorn bytes = IsUnfinishedArray bytes ⊎ IsTornInside bytes

-- A request is due behind these bytes of a unit: none yet, or an opened unit.
abbrev pub IsDue : List ℕ → Type 0
IsDue before = (before ≡ []) ⊎ IsOpened before

-- no request stands here: another first byte than `*`, or a count of 0 or less
abbrev pub IsNoArray : List ℕ → Type 0
IsNoArray bytes = ((0 < length bytes) × (begins_array bytes ≡ false)) ⊎ BeginsEmpty bytes

-- the bytes begin with a request of this name
pub record BeginsNamed (name bytes : List ℕ) : Type 0 where
  pub words : List (List ℕ)
  pub begins : BeginsRequest bytes words
  pub named : is_named name words ≡ true

-- a fault of a request that is due
pub record IsBadRequest (bytes : List ℕ) (kind : BadRequest) (at : ℕ) : Type 0 where
  pub before : List ℕ
  pub rest : List ℕ
  pub place : ℕ
  pub due : IsDue before
  pub bad : IsBadArray rest kind place
  pub whole : bytes ≡ before ++ rest
  pub place_is : at ≡ length before + place

-- no request where one is due
pub record IsNoRequest (bytes : List ℕ) (at : ℕ) : Type 0 where
  pub before : List ℕ
  pub rest : List ℕ
  pub due : IsDue before
  pub none : IsNoArray rest
  pub whole : bytes ≡ before ++ rest
  pub place_is : at ≡ length before

-- MULTI in a unit that was opened
pub record IsNested (bytes : List ℕ) (at : ℕ) : Type 0 where
  pub before : List ℕ
  pub rest : List ℕ
  pub opened : IsOpened before
  pub again : BeginsNamed multi rest
  pub whole : bytes ≡ before ++ rest
  pub place_is : at ≡ length before

-- EXEC where no unit was opened
pub record IsLoneExec (bytes : List ℕ) (at : ℕ) : Type 0 where
  pub closes : BeginsNamed exec bytes
  pub place_is : at ≡ 0

-- The first fault of form of what begins a unit here: its reason, and where it stands. The last
-- three reasons are no faults of form.
abbrev pub FaultAt : List ℕ → Reason → ℕ → Type 0
FaultAt bytes (reason.Request kind) at = IsBadRequest bytes kind at
FaultAt bytes reason.NotMultibulk at = IsNoRequest bytes at
FaultAt bytes reason.NestedMulti at = IsNested bytes at
FaultAt bytes reason.LoneExec at = IsLoneExec bytes at
FaultAt bytes reason.NotAnEffect at = ⊥
FaultAt bytes reason.EffectRefused at = ⊥
FaultAt bytes (reason.Rdb cause) at = ⊥

-- the bytes of units, one after the other
abbrev pub units_bytes : List Unit → List ℕ
units_bytes units = flat_map unit_bytes units

-- The bytes are these units up to a place, and then nothing or a torn unit.
pub record HoldsUnits (bytes : List ℕ) (units : List Unit) (kept : ℕ) : Type 0 where
  pub each : AllByRecursion IsUnit units
  pub rest : List ℕ
  pub whole : bytes ≡ units_bytes units ++ rest
  pub place : kept ≡ length (units_bytes units)
  pub torn : (rest ≡ []) ⊎ IsTorn rest

-- Behind whole units the bytes have a fault of form, the first, at a place.
pub record BreaksAt (bytes : List ℕ) (units : List Unit) (why : Reason) (at : ℕ) : Type 0 where
  pub each : AllByRecursion IsUnit units
  pub rest : List ℕ
  pub place : ℕ
  pub whole : bytes ≡ units_bytes units ++ rest
  pub fault : FaultAt rest why place
  pub place_is : at ≡ length (units_bytes units) + place
