use Rattle.sot_law_runs.proofs.FreeNodes.{opens, left_first, due, left_again, fires, not_due}
use Rattle.sot_law_runs.proofs.facts.free_nodes_fire_again.Goals as goal

pub returns : goal.returns
returns c = record { opening = opens; left_first = left_first; due = due; left_again = left_again; fires = fires; not_due = not_due }
