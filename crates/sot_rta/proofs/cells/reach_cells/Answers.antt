use Rattle.std.proofs.Common.{arith}
use Rattle.sot_tube.specs.Verdict.{reach_cell}
use Rattle.sot_rta.specs.Cells.{AnswersReachPlace}
use Rattle.sot_rta.proofs.EachPlace.{each_answers}
use Rattle.sot_rta.proofs.cells.reach_cells.Goals as goal

pub first_refused-requires-clause-each : goal.first_refused-requires-clause-each
first_refused-requires-clause-each g c κs within i lt = (
  record { below = c.requires.jitter; there = c.requires.is; rules = c.requires.rules; may = c.requires.may; fit = c.requires.cells },
  omega (arith, c.len.ensures, lt),
)

pub returns : goal.returns
returns g c plant plant_at =
    each_answers c.args.reach.now.boxes (reach_cell c.args.p.now c.args.jitter c.args.«module» c.args.info.now plant)
    (AnswersReachPlace c.args.p.now c.args.jitter c.args.«module» c.args.info.now c.args.reach.now.boxes)
    (λ i cell at r h. h cell at plant plant_at) c.len.result c.len.ensures c.first_refused.result c.first_refused.ensures
