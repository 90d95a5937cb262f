use Rattle.std.proofs.Common.{◌-◌, ◌≤◌, length}
use Rattle.sot_sections.specs.Dividing.{NoneBegins}
use Rattle.sot_sections.proofs.mission.section_start.Given as goal

abbrev pub invariant-marks : goal.invariant-marks
invariant-marks l = record {
  within : l.at ≤ length l.fn.bytes;
  none : NoneBegins l.fn.bytes l.at;
}

abbrev pub decreases-marks : goal.decreases-marks
decreases-marks l = length l.fn.bytes - l.at
