-- The loops of the cycle `term`: what is made, and then what is left.
use Rattle.std.proofs.Common.{◌≡◌, ◌≤◌, [], drop, fold}
use Rattle.sot_syntax_tree.specs.TreeViews.{parts_view}
use Rattle.sot_rules.specs.Sorts.{given, call_sort}
use Rattle.sot_rules.specs.TreeSorts.{sorts}
use Rattle.sot_rules.specs.Faults.{parts_faults}
use Rattle.sot_typing.specs.Terms.{formulas_of, sort_scale}
use Rattle.sot_typing.specs.Things.{things_in}
use Rattle.sot_typing.proofs.Prefixes.{parts_then}
use Rattle.sot_typing.proofs.code.terms.+term.Given as goal

abbrev pub invariant-terms-loop-part : goal.invariant-terms-loop-part
invariant-terms-loop-part l = record {
  faultless : parts_faults (things_in l.things) (parts_view (drop l.part-index l.parts)) ≡ [];
  form : parts_then l.made.terms.items (formulas_of (things_in l.things) (parts_view (drop l.part-index l.parts)))
      ≡ formulas_of (things_in l.things) (parts_view l.parts);
  sort : fold given l.made.sort (sorts (things_in l.things) (parts_view (drop l.part-index l.parts)))
      ≡ call_sort (sorts (things_in l.things) (parts_view l.parts));
  decimals : sort_scale l.made.sort ≤ 255;
}
