-- The loops of the cycle `expression`: what is kept and noted, and then what is left.
use Rattle.std.proofs.Common.{◌≡◌, drop, fold}
use Rattle.sot_syntax_tree.specs.TreeViews.{parts_view}
use Rattle.sot_rules.specs.TreeSorts.{sorts}
use Rattle.sot_rules.specs.Faults.{least, parts_faults}
use Rattle.sot_rules.specs.Scopes.{names_in}
use Rattle.sot_rules.specs.Operands.{no_operand, with_operand}
use Rattle.sot_rules.proofs.expressions.expression.+expression.Given as goal

abbrev pub invariant-operands-loop-part : goal.invariant-operands-loop-part
invariant-operands-loop-part l = record {
  sorts : fold with_operand l.o (sorts (names_in l.names) (parts_view (drop l.part-index l.parts)))
      ≡ fold with_operand no_operand (sorts (names_in l.names) (parts_view l.parts));
  noted : least l.first (parts_faults (names_in l.names) (parts_view (drop l.part-index l.parts)))
      ≡ least l.fn.first (parts_faults (names_in l.names) (parts_view l.parts));
}
