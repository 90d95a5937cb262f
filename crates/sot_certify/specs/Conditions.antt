-- The conditions that speak of no cells.
use Rattle.std.specs.Prelude.{ℕ}
use Rattle.sot_lang.specs.declared.tables.ModuleInfo.{ModuleInfo}
use Rattle.sot_lang.specs.Tables.{Tables}
use Rattle.sot_tube.specs.Checks.{Check}
use Rattle.sot_compose.specs.Frames.{frame as frame_seen, without_cells as without_cells_seen}
use Rattle.sot_compose.specs.declared.looked.LookedAt.TheVariants.{BothRegions}

-- of one module: short periods, outputs in common, and both regions with a box
abbrev pub frame : Tables → ℕ → ModuleInfo → Check
frame p m a = frame_seen BothRegions p m a

-- of a program
abbrev pub without_cells : Tables → Check
without_cells p = without_cells_seen BothRegions p
