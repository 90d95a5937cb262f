use Rattle.sot_tube.proofs.LineRefused.{wide_reach, one_closed_cell, gaps, long_periods, other_outputs, empty_regions, shared_nodes, shared_outputs}
use Rattle.sot_tube.proofs.LineRefused.{foreign_inputs, traps, crossed_nodes, rivals_in_order, no_inputs, in_order, traps_of_cells}
use Rattle.sot_tube.proofs.facts.refusals_are_as_stated.Goals as goal

pub returns-clause-reach : goal.returns-clause-reach
returns-clause-reach c = wide_reach

pub returns-clause-closed : goal.returns-clause-closed
returns-clause-closed c = one_closed_cell

pub returns-clause-gaps : goal.returns-clause-gaps
returns-clause-gaps c = gaps

pub returns-clause-periods : goal.returns-clause-periods
returns-clause-periods c = long_periods

pub returns-clause-outputs : goal.returns-clause-outputs
returns-clause-outputs c = other_outputs

pub returns-clause-empty : goal.returns-clause-empty
returns-clause-empty c = empty_regions

pub returns-clause-nodes : goal.returns-clause-nodes
returns-clause-nodes c = shared_nodes

pub returns-clause-topics : goal.returns-clause-topics
returns-clause-topics c = shared_outputs

pub returns-clause-inputs : goal.returns-clause-inputs
returns-clause-inputs c = foreign_inputs

pub returns-clause-traps : goal.returns-clause-traps
returns-clause-traps c = traps

pub returns-clause-crossed : goal.returns-clause-crossed
returns-clause-crossed c = crossed_nodes

pub returns-clause-rivals : goal.returns-clause-rivals
returns-clause-rivals c = rivals_in_order

pub returns-clause-own : goal.returns-clause-own
returns-clause-own c = no_inputs

pub returns-clause-order : goal.returns-clause-order
returns-clause-order c = in_order

pub returns-clause-cells : goal.returns-clause-cells
returns-clause-cells c = traps_of_cells
