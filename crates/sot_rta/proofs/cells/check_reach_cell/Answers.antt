use Rattle.sot_rta.proofs.cells.check_reach_cell.Goals as goal

pub returns-in-Err : goal.returns-in-Err
returns-in-Err c plant plant_at =
    (c.in-Err.leave, c.in-Err.ensures c.args.info.now plant c.requires.is plant_at, c.reach_refusal.ensures)
