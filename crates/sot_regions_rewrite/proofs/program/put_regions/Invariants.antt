use Rattle.std.proofs.Common.{◌≡◌, ◌≤◌, ◌++◌, length, map, take, drop}
use Rattle.sot_syntax_tree.specs.TreeViews.{declaration_view}
use Rattle.sot_regions_rewrite.specs.OtherRegions.{declarations_with}
use Rattle.sot_regions_rewrite.proofs.program.put_regions.Given as goal

abbrev pub invariant-loop-k : goal.invariant-loop-k
invariant-loop-k l = record {
  long : length l.decls.items ≡ length l.fn.decls.items;
  within : l.next ≤ length l.regions;
  done :
      take l.k (map declaration_view l.decls.items) ++ declarations_with (drop l.next l.regions) (drop l.k (map declaration_view l.decls.items))
      ≡ declarations_with l.regions (map declaration_view l.fn.decls.items);
}
