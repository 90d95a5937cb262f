use Rattle.sot_compose.proofs.check.checked.Goals as goal

pub check_codes-requires-clause-boxes : goal.check_codes-requires-clause-boxes
check_codes-requires-clause-boxes g c m a at = (c.in_default-shapes.ensures m a at).1.1.1.0

pub check_all_cells-requires-clause-may : goal.check_all_cells-requires-clause-may
check_all_cells-requires-clause-may g c κs within = record {
  own_plant = c.in_default.ensures.1.1.0;
  boxes = λ m a at. (c.in_default-shapes.ensures m a at).1.1.1.0;
  free = λ n node acts at coded. c.in_default-check_codes.ensures n node at acts coded;
}
