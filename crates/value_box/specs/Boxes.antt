-- Boxes that are issued and taken back.
use Rattle.std.specs.Prelude.{ℕ, ◌+◌, ◌-◌, ◌≤◌, ⊤, List, [], ◌∷◌}

-- a value, with a serial
pub record Labelled (V : Type 0) : Type 0 where
  pub serial : ℕ
  pub value : V

-- how many boxes were issued, and how many of them were taken back
pub record Boxes : Type 0 where
  pub issued : ℕ
  pub retired : ℕ

abbrev pub no_boxes : Boxes
no_boxes = record { issued = 0; retired = 0 }

abbrev pub one_issued : Boxes → Boxes
one_issued boxes = record boxes { issued = boxes.issued + 1 }

abbrev pub one_retired : Boxes → Boxes
one_retired boxes = record boxes { retired = boxes.retired + 1 }

-- those that were issued, less those that were taken back
abbrev pub live : Boxes → ℕ
live boxes = boxes.issued - boxes.retired

-- what is done with a vault that changes it
pub data Call : Type 0 where
  Issue : Call
  Retire : Call

-- the serials that calls give, one after the other: each is the number of boxes issued before it
abbrev pub serials : Boxes → List Call → List ℕ
serials boxes [] = []
serials boxes (Call.Issue ∷ calls) = boxes.issued ∷ serials (one_issued boxes) calls
serials boxes (Call.Retire ∷ calls) = serials (one_retired boxes) calls

-- each number is above those before it, and none is below this one
abbrev pub Rise : ℕ → List ℕ → Type 0
Rise least [] = ⊤
Rise least (n ∷ ns) = (least ≤ n) × Rise (n + 1) ns
