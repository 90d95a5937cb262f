-- Holds: what a plant can do from one firing of its module's safe node to the next, and what
-- recovery is.
use Rattle.std.specs.Prelude.{ℕ, zero, suc, ℤ, List, [], ◌∷◌, Ok, ◌≡◌, ◌≢◌, ◌≤◌, ◌+◌, length}
use Rattle.std.specs.Prelude.{slice_index_or}
use Rattle.sot_lists.specs.Places.{At, Has}
use Rattle.sot_box.specs.Boxes.{IsWithin}
use Rattle.sot_box.specs.Regions.{IsInRegion}
use Rattle.sot_lang.specs.declared.act.Act.{Act}
use Rattle.sot_lang.specs.declared.cert.Cells.{Cells}
use Rattle.sot_lang.specs.declared.cert.Cert.{Cert}
use Rattle.sot_lang.specs.declared.tables.Slot.TheVariants.{State}
use Rattle.sot_lang.specs.declared.tables.PlantInfo.{PlantInfo}
use Rattle.sot_lang.specs.declared.tables.NodeInfo.{NodeInfo}
use Rattle.sot_lang.specs.declared.tables.ModuleInfo.{ModuleInfo}
use Rattle.sot_lang.specs.Tables.{Tables}
use Rattle.sot_lang.specs.TableRules.{IsCoded}
use Rattle.sot_lang.specs.Bodies.{Fired}
use Rattle.sot_lang.specs.Ranges.{input_ranges, scalar_ranges, local_ranges}
use Rattle.sot_lang.specs.SafeRegions.{safe_of}
use Rattle.sot_lang.specs.Reach.{TicksTo}
use Rattle.sot_tube.specs.Certified.{HasCells}
use Rattle.sot_tube.specs.WellFormed.{FiresTo, Agrees}

-- module m with the parts of its recovery: its plant, its safe node with the node's body, and its
-- closed cells
pub record Guarded (p : Tables) (cert : Cert) (m : ℕ) : Type 0 where
  pub info : ModuleInfo
  pub info_is : At p.modules m info
  pub plant : PlantInfo
  pub plant_is : At p.plants info.plant plant
  pub sc : NodeInfo
  pub sc_is : At p.nodes info.sc sc
  pub acts : List Act
  pub coded : IsCoded sc acts
  pub cells : Cells
  pub cells_are : HasCells cert m cells

module _ {p : Tables} {cert : Cert} {m : ℕ} (g : Guarded p cert m) where
  -- what the safe node may read with its plant at s: every scalar and local anywhere in its range,
  -- and each other plant that it reads anywhere in its safe region
  pub record MayRead (s : List ℤ) (scalars : List ℤ) (points : List (List ℤ)) (locals : List ℤ) :
      Type 0 where
    pub here : slice_index_or points g.info.plant [] ≡ s
    pub scalars_in : IsWithin (scalar_ranges p) scalars
    pub others_in : (k v : ℕ) → Has g.sc.reads.items (State k v) → k ≢ g.info.plant
        → IsInRegion (safe_of p.modules k) (slice_index_or points k [])
    pub locals_in : IsWithin (local_ranges g.sc) locals

  -- each point is one tick from the one before, the first one from s, with these commands: seen
  -- plants anywhere in their safe regions, disturbances anywhere in their bounds
  abbrev pub IsHeldPath : List ℤ → List ℤ → List (List ℤ) → Type 0
  IsHeldPath c s [] = Unit {0}
  IsHeldPath c s (t ∷ path) = TicksTo p g.plant (λ d. d ≡ c) s (Ok t) × IsHeldPath c t path

  -- a hold from s, and the points after each of its ticks: the safe node reads s, and commands in
  -- their types that agree with what it drafts are held for its period, less or more by the jitter
  -- at most
  pub record IsHold (s : List ℤ) (path : List (List ℤ)) : Type 0 where
    pub scalars : List ℤ
    pub points : List (List ℤ)
    pub locals : List ℤ
    pub fired : Fired
    pub c : List ℤ
    pub reads : MayRead s scalars points locals
    pub fires : FiresTo p g.sc g.acts scalars points locals fired
    pub types : IsWithin (input_ranges p g.plant) c
    pub agrees : Agrees g.plant g.sc fired.draft c
    pub ticks : IsHeldPath c s path
    pub least : g.sc.period ≤ length path + cert.jitter
    pub most : length path ≤ g.sc.period + cert.jitter

  -- the last point of a path from s
  abbrev pub last_of : List ℤ → List (List ℤ) → List ℤ
  last_of s [] = s
  last_of s (t ∷ path) = last_of t path

  -- holds one after another, the first from s and each next one from the last point of the one
  -- before
  abbrev pub AreHolds : List ℤ → List (List (List ℤ)) → Type 0
  AreHolds s [] = Unit {0}
  AreHolds s (path ∷ paths) = IsHold s path × AreHolds (last_of s path) paths

  -- where the hold at place i of such a row starts
  abbrev pub start_at : List ℤ → List (List (List ℤ)) → ℕ → List ℤ
  start_at s paths zero = s
  start_at s [] (suc i) = s
  start_at s (path ∷ paths) (suc i) = start_at (last_of s path) paths i

  -- recovered within n holds: in every row of holds from a point of the safe region, every point of
  -- each hold after the first n is in the safer region
  abbrev pub IsRecovered : ℕ → Type 0
  IsRecovered n =
      (s : List ℤ) (paths : List (List (List ℤ))) (i j : ℕ) (path : List (List ℤ)) (t : List ℤ) →
      IsInRegion g.info.safe.boxes s → AreHolds s paths → n ≤ i → At paths i path
      → At (start_at s paths i ∷ path) j t → IsInRegion g.info.safer.boxes t
