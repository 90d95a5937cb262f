use Rattle.std.proofs.Common.{◌≡◌, take, length}
use Rattle.sot_lang.specs.OwnerNames.{seen_width}
use Rattle.sot_iv.specs.SeenHulls.{AreSeenHulls}
use Rattle.sot_iv.proofs.bounds.seen_hulls.Given as goal

abbrev pub invariant-loop-i : goal.invariant-loop-i
invariant-loop-i l = AreSeenHulls l.p.modules (take l.i l.sees) l.sides × (length l.sides ≡ seen_width l.p.plants (take l.i l.sees))
