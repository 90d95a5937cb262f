use Rattle.sot_law_invariant_regions.proofs.HeldRegions.{certified_is_held}
use Rattle.sot_law_invariant_regions.proofs.Alone.{region_alike}
use Rattle.sot_law_invariant_regions.proofs.laws.none_is_certified.Goals as goal

pub returns : goal.returns
returns c t u jitter cert m k a b s rules rules_u boxes at at_u alike alone none inside here certified =
    none b.safe.boxes s
    (region_alike u t rules_u rules boxes jitter k m b a at_u at alike alone b.safe.boxes (certified_is_held u jitter cert k b rules_u certified at_u))
    inside here
