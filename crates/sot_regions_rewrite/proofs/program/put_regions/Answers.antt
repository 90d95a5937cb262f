use Rattle.std.proofs.Common.{List, ◌++◌, take, drop, map, refl, ◌∙◌, arith}
use Rattle.std.proofs.Math.Numerals.{add-one}
use Rattle.std.proofs.lemmas.List.{map-set, length-set}
use Rattle.sot_lists.specs.Places.{At}
use Rattle.sot_lists.proofs.Places.{at_map, read_at}
use Rattle.sot_syntax_tree.specs.TreeViews.{declaration_view}
use Rattle.sot_syntax_tree.specs.Trees.{Declaration}
use Rattle.sot_regions_rewrite.specs.OtherRegions.{declarations_with}
use Rattle.sot_regions_rewrite.proofs.Steps.{one_declaration}
use Rattle.sot_regions_rewrite.proofs.program.put_regions.Goals as goal

pub loop-k-preserved : goal.loop-k-preserved
loop-k-preserved c =
    let now : List Declaration = map declaration_view c.loop-k.decls.items in
    let k = c.loop-k.k in
    let later = drop c.in_ok-next.next c.args.regions.now in
    let at : At now k (declaration_view c.index_mut.result.now) =
    at_map declaration_view c.loop-k.decls.items k c.index_mut.result.now
    (read_at c.loop-k.decls.items c.loop-k.decls.items k c.index_mut.result.now refl
    (omega (arith, c.loop-k.invariant.long, c.len-k-end.ensures)) c.index_mut.ensures.value)
    in
    record {
      long = length-set c.loop-k.decls.items k c.put_next.new.decl ∙ c.loop-k.invariant.long;
      within = c.in_ok-next.ensures.within;
      done =
          (λ i. take (add-one k i) (map-set declaration_view c.loop-k.decls.items k c.put_next.new.decl i)
          ++ declarations_with later (drop (add-one k i) (map-set declaration_view c.loop-k.decls.items k c.put_next.new.decl i)))
          ∙ one_declaration now k (declaration_view c.index_mut.result.now) (declaration_view c.put_next.new.decl) (drop c.loop-k.next c.args.regions.now) later
          at c.in_ok-next.ensures.changed c.in_ok-next.ensures.left
          ∙ c.loop-k.invariant.done;
    }
