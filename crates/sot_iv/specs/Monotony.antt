-- That narrower ranges give narrower intervals, and no new trap.
use Rattle.std.specs.Prelude.{◌≡◌, ℤ, ◌≤ℤ◌, List, [], ◌∷◌, Ok}
use Rattle.sot_box.specs.Sides.{Side}
use Rattle.sot_lang.specs.declared.act.Act.{Act}
use Rattle.sot_lang.specs.declared.term.Term.{Term}
use Rattle.sot_lang.specs.declared.tables.PlantInfo.{PlantInfo}
use Rattle.sot_box.specs.Boxes.{IsWithin}
use Rattle.sot_lang.specs.Ranges.{bounds}
use Rattle.sot_iv.specs.TermIntervals.{OrMayTrap, IsTermInterval}
use Rattle.sot_iv.specs.declared.drafted.Drafted.{Drafted}
use Rattle.sot_iv.specs.declared.drafted.Drafted.TheVariants.{Absent, Maybe, Sure}
use Rattle.sot_iv.specs.BodyIntervals.{Intervals, IsExecutionIntervals}
use Rattle.sot_iv.specs.PlantIntervals.{IsNextBox}

-- an interval holds some number, and is inside another
abbrev pub IsNarrower : Side → Side → Type 0
IsNarrower r s = (s.lo ≤ℤ r.lo) × (r.lo ≤ℤ r.hi) × (r.hi ≤ℤ s.hi)

-- as many intervals, each inside the other's at its place
abbrev pub AreNarrower : List Side → List Side → Type 0
AreNarrower [] [] = Unit {0}
AreNarrower (r ∷ rs) (s ∷ ss) = IsNarrower r s × AreNarrower rs ss
AreNarrower [] (s ∷ ss) = ⊥
AreNarrower (r ∷ rs) [] = ⊥

-- what one says of a draft the other allows: its interval is inside, what the other is sure of is
-- sure, and what the other has absent is absent
abbrev pub IsNarrowerDraft : Drafted → Drafted → Type 0
IsNarrowerDraft Absent Absent = Unit {0}
IsNarrowerDraft Absent (Maybe s) = Unit {0}
IsNarrowerDraft (Maybe r) (Maybe s) = IsNarrower r s
IsNarrowerDraft (Sure r) (Maybe s) = IsNarrower r s
IsNarrowerDraft (Sure r) (Sure s) = IsNarrower r s
IsNarrowerDraft Absent (Sure s) = ⊥
IsNarrowerDraft (Maybe r) Absent = ⊥
IsNarrowerDraft (Maybe r) (Sure s) = ⊥
IsNarrowerDraft (Sure r) Absent = ⊥

-- of all written scalars the one drafts are narrower than the other ones, place by place
abbrev pub AreNarrowerDrafts : List Drafted → List Drafted → Type 0
AreNarrowerDrafts [] [] = Unit {0}
AreNarrowerDrafts (d ∷ ds) (e ∷ es) = IsNarrowerDraft d e × AreNarrowerDrafts ds es
AreNarrowerDrafts [] (e ∷ es) = ⊥
AreNarrowerDrafts (d ∷ ds) [] = ⊥

-- what one evaluation of a body leaves, another's allows
pub record IsNarrowerEnd (f g : Intervals) : Type 0 where
  pub locals : AreNarrower f.locals g.locals
  pub draft : AreNarrowerDrafts f.draft g.draft

-- an expression that has an interval over some ranges has no trap over narrower ones, and its
-- interval there is narrower
abbrev pub TermsNarrow : Type 0
TermsNarrow = (t : Term) (narrow wide : List Side) (s : Side) (o : OrMayTrap Side)
    → AreNarrower narrow wide → IsTermInterval t wide (Ok s) → IsTermInterval t narrow o
    → (r : Side) × (o ≡ Ok r) × IsNarrower r s

-- a body whose evaluation succeeds from some intervals has no trap from narrower ones, and leaves
-- what is narrower
abbrev pub BodiesNarrow : Type 0
BodiesNarrow =
    (acts : List Act) (locals writes seen at_start seen_wide start_wide : List Side) (g : Intervals)
    (o : OrMayTrap Intervals)
    → AreNarrower seen seen_wide → AreNarrower at_start start_wide
    → IsExecutionIntervals acts locals writes seen_wide start_wide (Ok g)
    → IsExecutionIntervals acts locals writes seen at_start o
    → (f : Intervals) × (o ≡ Ok f) × IsNarrowerEnd f g

-- a plant that has a next box, and some disturbances w in their bounds, has no trap from a narrower
-- box with narrower commands and seen states, and its next box is narrower
abbrev pub PlantsNarrow : Type 0
PlantsNarrow =
    (plant : PlantInfo) (box commands seen box_wide commands_wide seen_wide next : List Side)
    (w : List ℤ) (o : OrMayTrap (List Side))
    → AreNarrower box box_wide → AreNarrower commands commands_wide → AreNarrower seen seen_wide
    → IsWithin (bounds plant) w
    → IsNextBox plant box_wide commands_wide seen_wide (Ok next)
    → IsNextBox plant box commands seen o
    → (b : List Side) × (o ≡ Ok b) × AreNarrower b next
