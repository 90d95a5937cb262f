use Rattle.std.proofs.Common.{inl, inr, refl}
use Rattle.sot_tube.specs.declared.leave.Leave.TheVariants.{Out}
use Rattle.sot_rta.proofs.cells.check_closed_cell.Goals as goal

pub returns-in-Some : goal.returns-in-Some
returns-in-Some c plant sc acts plant_at sc_at coded = (Out 0 c.args.cell.now c.in-Some.point, inl (c.in-Some.point, c.in-Some.ensures, refl), refl)

pub returns-in-Ok : goal.returns-in-Ok
returns-in-Ok c plant sc acts plant_at sc_at coded =
    let h = c.in-Ok.ensures plant sc acts plant_at sc_at coded in
    record { covered = c.in_default.ensures; fired = h.0; drafts = h.1; stays = h.2 }

pub returns-in-Err : goal.returns-in-Err
returns-in-Err c plant sc acts plant_at sc_at coded =
    let h = c.in-Err.ensures plant sc acts plant_at sc_at coded in
    (c.in-Err.leave, inr (c.in_default.ensures, h.0, h.1, h.2), c.closed_refusal.ensures)
