-- The loop of `take_all`: the tables hold the declarations so far.
use Rattle.std.proofs.Common.{◌≡◌, map, take}
use Rattle.sot_syntax_tree.specs.TreeViews.{declaration_view}
use Rattle.sot_rules.specs.Indexes.{Indexes}
use Rattle.sot_rules.proofs.names.index.Index.take_all.Given as goal

abbrev pub invariant-loop-d : goal.invariant-loop-d
invariant-loop-d l = record {
  held : Indexes (map declaration_view (take l.d-index l.decls)) l.self;
  decls : l.self.decls.now ≡ l.fn.self.decls.now;
}
