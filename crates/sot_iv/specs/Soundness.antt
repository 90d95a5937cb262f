-- That interval evaluations hold what evaluations at points give.
use Rattle.std.specs.Prelude.{ℤ, ◌≡◌, List, [], ◌∷◌, Option, Some, None, Ok}
use Rattle.sot_box.specs.Sides.{Side, IsIn}
use Rattle.sot_box.specs.Boxes.{IsWithin}
use Rattle.sot_lang.specs.declared.act.Act.{Act}
use Rattle.sot_lang.specs.declared.term.Term.{Term}
use Rattle.sot_lang.specs.declared.tables.PlantInfo.{PlantInfo}
use Rattle.sot_lang.specs.Ranges.{bounds}
use Rattle.sot_lang.specs.Values.{value_of}
use Rattle.sot_lang.specs.Bodies.{Fired, execution}
use Rattle.sot_lang.specs.Ticks.{next_state}
use Rattle.sot_iv.specs.TermIntervals.{IsTermInterval}
use Rattle.sot_iv.specs.declared.drafted.Drafted.{Drafted}
use Rattle.sot_iv.specs.declared.drafted.Drafted.TheVariants.{Absent, Maybe, Sure}
use Rattle.sot_iv.specs.BodyIntervals.{Intervals, IsExecutionIntervals}
use Rattle.sot_iv.specs.PlantIntervals.{IsNextBox}

-- a drafted number lies in its interval; it is there where it is sure, and not there where it is
-- absent
abbrev pub IsDrafted : Drafted → Option ℤ → Type 0
IsDrafted Absent None = Unit {0}
IsDrafted Absent (Some z) = ⊥
IsDrafted (Maybe r) None = Unit {0}
IsDrafted (Maybe r) (Some z) = IsIn r z
IsDrafted (Sure r) None = ⊥
IsDrafted (Sure r) (Some z) = IsIn r z

-- the drafted numbers of all written scalars lie in their intervals, place by place
abbrev pub AreDrafted : List Drafted → List (Option ℤ) → Type 0
AreDrafted [] [] = Unit {0}
AreDrafted (d ∷ ds) (o ∷ os) = IsDrafted d o × AreDrafted ds os
AreDrafted [] (o ∷ os) = ⊥
AreDrafted (d ∷ ds) [] = ⊥

-- what a firing leaves lies in what its interval evaluation leaves
pub record Lies (f : Intervals) (g : Fired) : Type 0 where
  pub locals : IsWithin f.locals g.locals
  pub draft : AreDrafted f.draft g.draft

-- where an expression has an interval over some ranges, at each point in them it has a value, which
-- lies in the interval
abbrev pub TermsAreSound : Type 0
TermsAreSound = (t : Term) (ranges : List Side) (point : List ℤ) (r : Side)
    → IsWithin ranges point → IsTermInterval t ranges (Ok r)
    → (z : ℤ) × (value_of t point ≡ Ok z) × IsIn r z

-- where the interval evaluation of a body succeeds, no execution from numbers in the intervals
-- traps, and what it leaves lies in what the evaluation leaves
abbrev pub BodiesAreSound : Type 0
BodiesAreSound =
    (acts : List Act) (locals writes seen at_start : List Side) (numbers start : List ℤ)
    (f : Intervals)
    → IsWithin seen numbers → IsWithin at_start start
    → IsExecutionIntervals acts locals writes seen at_start (Ok f)
    → (g : Fired) × (execution acts locals writes numbers start ≡ Ok g) × Lies f g

-- where a plant has a next box, no tick from a point of the box, with commands, seen states and
-- disturbances in their intervals, traps, and the next point is in the next box
abbrev pub PlantsAreSound : Type 0
PlantsAreSound = (plant : PlantInfo) (box commands seen next : List Side) (s c v w : List ℤ)
    → IsWithin box s → IsWithin commands c → IsWithin seen v → IsWithin (bounds plant) w
    → IsNextBox plant box commands seen (Ok next)
    → (t : List ℤ) × (next_state plant s c v w ≡ Ok t) × IsWithin next t
