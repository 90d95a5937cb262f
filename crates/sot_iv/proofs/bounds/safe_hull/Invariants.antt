use Rattle.std.proofs.Common.{◌≡◌, drop}
use Rattle.sot_lang.specs.SafeRegions.{safe_of}
use Rattle.sot_iv.proofs.bounds.safe_hull.Given as goal

abbrev pub invariant-loop-info : goal.invariant-loop-info
invariant-loop-info l = (l.info-items ≡ l.p.modules) × (safe_of (drop l.info-index l.p.modules) l.plant ≡ safe_of l.p.modules l.plant)
