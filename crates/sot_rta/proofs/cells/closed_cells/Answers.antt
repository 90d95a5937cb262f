use Rattle.std.proofs.Common.{arith}
use Rattle.sot_tube.specs.Verdict.{closed_cell}
use Rattle.sot_rta.specs.Cells.{AnswersClosedPlace}
use Rattle.sot_rta.proofs.EachPlace.{each_answers}
use Rattle.sot_rta.proofs.cells.closed_cells.Goals as goal

pub first_refused-requires-clause-each : goal.first_refused-requires-clause-each
first_refused-requires-clause-each g c κs within i lt = (
  record { below = c.requires.jitter; there = c.requires.is; rules = c.requires.rules; may = c.requires.may; fit = c.requires.cells },
  omega (arith, c.len.ensures, lt),
)

pub returns : goal.returns
returns g c plant sc acts plant_at sc_at coded =
    each_answers c.args.closed.now.boxes (closed_cell c.args.p.now c.args.jitter c.args.«module» c.args.info.now plant sc acts)
    (AnswersClosedPlace c.args.p.now c.args.jitter c.args.«module» c.args.info.now c.args.closed.now.boxes)
    (λ i cell at r h. h cell at plant sc acts plant_at sc_at coded) c.len.result c.len.ensures c.first_refused.result c.first_refused.ensures
