use Rattle.sot_law_invariant_regions.proofs.Alone.{region_alike}
use Rattle.sot_law_invariant_regions.proofs.laws.held_regions_stay_held.Goals as goal

pub returns : goal.returns
returns c p u jitter m k a b region rules rules_u boxes at at_u alike alone held =
    region_alike p u rules rules_u boxes jitter m k a b at at_u alike alone region held
