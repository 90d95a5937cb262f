use Rattle.std.proofs.Common.{inl, inr, refl}
use Rattle.sot_rta.proofs.CellChecks.{covers_points, cells_answer}
use Rattle.sot_rta.proofs.cells.cells_of.Goals as goal

pub returns-in-Err : goal.returns-in-Err
returns-in-Err g c plant sc acts plant_at sc_at coded =
    inr (covers_points c.args.info.now.safe.boxes c.args.cells.now.closed.boxes c.in_default.ensures, inl (c.in-Err.ensures plant sc acts plant_at sc_at coded))

pub returns-in-Some-uncovered : goal.returns-in-Some-uncovered
returns-in-Some-uncovered g c plant sc acts plant_at sc_at coded =
    inr (
      covers_points c.args.info.now.safe.boxes c.args.cells.now.closed.boxes c.in_default.ensures,
      inr (c.in_default-closed_cells.ensures plant sc acts plant_at sc_at coded, inl (c.in-Some-uncovered.point, c.in-Some-uncovered.ensures, refl)),
    )

pub returns : goal.returns
returns g c plant sc acts plant_at sc_at coded =
    cells_answer c.args.p.now c.args.jitter c.args.«module» c.args.info.now plant sc acts c.args.cells.now
    (covers_points c.args.info.now.safe.boxes c.args.cells.now.closed.boxes c.in_default.ensures)
    (c.in_default-closed_cells.ensures plant sc acts plant_at sc_at coded)
    (covers_points c.args.info.now.safer.boxes c.args.cells.now.reach.boxes c.in_default-uncovered.ensures) c.reach_cells.result
    (c.reach_cells.ensures plant plant_at)
