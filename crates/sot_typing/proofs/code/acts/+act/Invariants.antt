-- The loops of the cycle `act`: what is made, and then what is left.
use Rattle.std.proofs.Common.{◌≡◌, [], drop}
use Rattle.sot_syntax_tree.specs.TreeViews.{block_view}
use Rattle.sot_rules.specs.Faults.{block_faults}
use Rattle.sot_typing.specs.Terms.{deeds_of}
use Rattle.sot_typing.specs.Bodies.{scope_in}
use Rattle.sot_typing.proofs.Prefixes.{deeds_then}
use Rattle.sot_typing.proofs.code.acts.+act.Given as goal

abbrev pub invariant-acts-loop-stmt : goal.invariant-acts-loop-stmt
invariant-acts-loop-stmt l = record {
  faultless : block_faults (scope_in l.names) (block_view (drop l.stmt-index l.stmts)) ≡ [];
  form : deeds_then l.made.items (deeds_of (scope_in l.names) (block_view (drop l.stmt-index l.stmts))) ≡ deeds_of (scope_in l.names) (block_view l.stmts);
}
