use Rattle.std.proofs.Common.{subst, rules, sym, List, length, ◌<◌}
use Rattle.std.specs.List.{All}
use Rattle.std.specs.List.Sorted.{IsPermutation}
use Rattle.std.proofs.lemmas.List.Sorted.{answers_always}
use Rattle.sot_box.specs.Index.{AreReaches}
use Rattle.sot_box.specs.declared.index.Entry.{Entry}
use Rattle.sot_box.proofs.Indexes.{places_below, order_from_sort}
use Rattle.sot_box.proofs.index.Index.of.Goals as goal

pub reaches_of-requires : goal.reaches_of-requires
reaches_of-requires c =
    let names = subst (λ (ds : List Entry). IsPermutation ds c.sort_by_key.new.self.items) c.in_ok-entries.ensures c.sort_by_key.ensures.permutation in
    subst (λ (ds : List Entry). All (λ e. e.place < length c.args.boxes.now) ds) (sym c.deref.ensures.value)
    (places_below c.args.boxes.now c.sort_by_key.new.self.items names)

pub returns : goal.returns
returns c = record {
  names = subst (λ (ds : List Entry). IsPermutation ds c.sort_by_key.new.self.items) c.in_ok-entries.ensures c.sort_by_key.ensures.permutation;
  order = order_from_sort c.sort_by_key.new.self.items (c.in_ok-sort_by_key.ensures.sorted (λ e. e.low) (answers_always _ _ _ (λ f a r g h. search rules)));
  reach = subst (λ (ds : List Entry). AreReaches c.args.boxes.now ds c.in_ok-reaches.reaches.items) c.deref.ensures.value c.in_ok-reaches.ensures;
}
