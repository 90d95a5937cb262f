-- Between the crate's own functions: a search in a grid of the plant's state variables.
use Rattle.std.specs.Prelude.{◌≡◌, ℕ, ◌⊎◌, true, IfSome}
use Rattle.sot_regions.specs.declared.search.Search.{Search}
use Rattle.sot_regions.specs.declared.asked.Best.{Best}
use Rattle.sot_regions.specs.declared.closing.Points.{Points}
use Rattle.sot_regions.specs.declared.walks.Outside.{Outside}
use Rattle.sot_regions.specs.Shapes.{HasShape}
use Rattle.sot_invariant_atoms.specs.Asking.{asked_width}

-- the grid is one of as many sides as the plant that is asked about has state variables
abbrev pub IsSearch : Search → Type 0
IsSearch s = s.grid.now.width ≡ asked_width s.ask.now

-- so many sides have the plant that is asked about, the grid and both regions
pub record IsOutside (o : Outside) : Type 0 where
  pub grid : o.grid.now.width ≡ asked_width o.ask.now
  pub safe : o.safe.now.width ≡ o.grid.now.width
  pub safer : o.safer.now.width ≡ o.grid.now.width

-- what is the best so far has its shape, where there is something
abbrev pub IsBest : ℕ → Best → Type 0
IsBest width best = IfSome best.found (HasShape width)

-- all grains were gone through, or coarser ones would find nothing better
abbrev pub AreGoneThrough : Best → Type 0
AreGoneThrough best = (best.done ≡ true) ⊎ (best.grains ≡ 64)

-- the points before and now are those of boxes of so many sides
abbrev pub AreWidePoints : ℕ → Points → Type 0
AreWidePoints width points = (points.before.width ≡ width) × (points.now.width ≡ width)
