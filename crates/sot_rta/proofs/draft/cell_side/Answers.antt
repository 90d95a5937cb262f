use Rattle.std.proofs.Common.{rules, sym, subst}
use Rattle.sot_traps.specs.Readings.{CanBeRead}
use Rattle.sot_rta.specs.Drafts.{IsCellReading}
use Rattle.sot_rta.proofs.CellReadings.{other_side}
use Rattle.sot_rta.proofs.draft.cell_side.Goals as goal

pub returns-else-other-plant : goal.returns-else-other-plant
returns-else-other-plant c =
    subst (λ s. IsCellReading c.args.p.now c.args.plant c.args.cell.now s c.slot_side-else-other-plant.result) (sym c.in-State.is)
    (other_side c.args.p.now c.args.plant c.args.cell.now c.in-State.other c.in-State.var c.slot_side-else-other-plant.result (search rules)
    (subst (CanBeRead c.args.p.now) c.in-State.is c.requires.readable) c.slot_side-else-other-plant.ensures)
