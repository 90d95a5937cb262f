-- The first gap of some boxes lies in one of them.
use Rattle.std.proofs.Common.{inl, inr, ⊎_elim, ℤ, List, [], ◌∷◌}
use Rattle.sot_box.specs.Sides.{Side}
use Rattle.sot_box.specs.Regions.{IsInRegion, IsFirstGap}

pub first_gap_in : (bs region : List (List Side)) (s : List ℤ) → IsFirstGap bs region s → IsInRegion bs s × (IsInRegion region s → ⊥)
first_gap_in [] region s g = absurd g
first_gap_in (b ∷ bs) region s g =
    ⊎_elim
    (λ here. (inl here.inside, here.outside))
    (λ later. let rest = first_gap_in bs region s later.1 in (inr rest.0, rest.1))
    g
