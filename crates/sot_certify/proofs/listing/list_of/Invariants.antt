use Rattle.std.proofs.Common.{◌≡◌}
use Rattle.std.specs.Prelude.{reverse}
use Rattle.sot_lang.specs.OwnerNames.{width_of}
use Rattle.sot_certify.proofs.Effort.{effort}
use Rattle.sot_certify.specs.Made.{IsGood, region_of}
use Rattle.sot_certify.proofs.Taking.{Stands}
use Rattle.sot_certify.proofs.listing.list_of.Given as goal

abbrev pub invariant-loop-cell : goal.invariant-loop-cell
invariant-loop-cell l = record {
  width : l.cells.width ≡ width_of l.p.plants l.info.plant;
  stands : Stands (IsGood l.p l.info l.reach) (region_of l.info l.reach).boxes (width_of l.p.plants l.info.plant) l.cells.boxes l.pending.items;
}

abbrev pub decreases-loop-cell : goal.decreases-loop-cell
decreases-loop-cell l = effort (reverse l.pending.items)
