use Rattle.sot_regions_program.proofs.before.check_some.Goals as goal

pub check_all_cells-requires-clause-may : goal.check_all_cells-requires-clause-may
check_all_cells-requires-clause-may g c κs within = record {
  own_plant = c.in_default.ensures.1.1.0;
  boxes = c.requires.boxes;
  free = λ n node acts at coded. c.in_default-check_codes.ensures n node at acts coded;
}
