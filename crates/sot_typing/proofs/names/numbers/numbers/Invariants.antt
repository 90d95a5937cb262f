-- The loop of `numbers`: the numbers so far, and then those that are left, for which there is room.
use Rattle.std.proofs.Common.{◌≡◌, ◌++◌, map, drop}
use Rattle.sot_syntax_tree.specs.TreeViews.{declaration_view}
use Rattle.sot_typing.specs.Numbers.{FitLimits, numbers_from, numbers_of}
use Rattle.sot_typing.proofs.names.numbers.numbers.Given as goal

abbrev pub invariant-loop-d : goal.invariant-loop-d
invariant-loop-d l = record {
  few : FitLimits l.counts (map declaration_view (drop l.d-index l.decls));
  numbers : l.numbers.items ++ numbers_from l.counts (map declaration_view (drop l.d-index l.decls)) ≡ numbers_of (map declaration_view l.decls);
}
