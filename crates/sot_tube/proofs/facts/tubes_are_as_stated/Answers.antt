use Rattle.sot_tube.proofs.LineTubes.{tubes_of_the_line, kept_at_12, jitter_is_twice, commands_are_sure_or_whole, seen_plants_are_in_hulls}
use Rattle.sot_tube.proofs.LineTubes.{out_comes_before_trap}
use Rattle.sot_tube.proofs.LineRefused.{whole_cell_leaves, wide_cell_leaves}
use Rattle.sot_tube.proofs.facts.tubes_are_as_stated.Goals as goal

pub returns-clause-line : goal.returns-clause-line
returns-clause-line c = tubes_of_the_line

pub returns-clause-keeps : goal.returns-clause-keeps
returns-clause-keeps c = kept_at_12

pub returns-clause-jitter : goal.returns-clause-jitter
returns-clause-jitter c = jitter_is_twice

pub returns-clause-commands : goal.returns-clause-commands
returns-clause-commands c = commands_are_sure_or_whole

pub returns-clause-whole_cell : goal.returns-clause-whole_cell
returns-clause-whole_cell c = whole_cell_leaves

pub returns-clause-wide_cell : goal.returns-clause-wide_cell
returns-clause-wide_cell c = wide_cell_leaves

pub returns-clause-seen : goal.returns-clause-seen
returns-clause-seen c = seen_plants_are_in_hulls

pub returns-clause-order : goal.returns-clause-order
returns-clause-order c = out_comes_before_trap
