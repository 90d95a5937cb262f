use Rattle.sot_compose.proofs.frames.check_without_cells.Goals as goal

pub check_codes-requires-clause-boxes : goal.check_codes-requires-clause-boxes
check_codes-requires-clause-boxes c m a at = (c.in_default-check_frames.ensures m a at).1.0
