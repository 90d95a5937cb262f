use Rattle.std.proofs.Common.{rules, w64, SFits, ◌<◌, [], length, slice_index_or, sym, ap, ◌∙◌, subst, arith}
use Rattle.std.proofs.lemmas.Int.{to_z-of_z}
use Rattle.std.proofs.lemmas.Option.{slice_get_within}
use Rattle.sot_lists.proofs.Places.{at_same, at_below, read_or}
use Rattle.sot_lang.specs.TableRules.{MeetsTableRules}
use Rattle.sot_guard.specs.Outside.{IsFirstAxis}
use Rattle.sot_guard.proofs.Boxes.{box_wide}
use Rattle.sot_guard.proofs.outside.first_outside.Goals as goal

pub first_axis-requires : goal.first_axis-requires
first_axis-requires c =
    let rules = subst MeetsTableRules c.p.view_is c.p.invariant in
    let below : c.loop-k.k < length c.args.p.now.plants =
    omega (arith, c.loop-k-test.true, c.len-k-end.ensures, c.p.inside.plants.ok.0, ap (λ t. length t.plants) c.p.view_is) in
    let at = at_below c.args.p.now.plants c.loop-k.k below in
    let there : c.loop-k.k < length c.args.next.now = omega (arith, below, c.requires.next.each) in
    ap length (read_or c.args.next.now c.loop-k.k _ [] there c.index-next-k.is) ∙ c.requires.next.widths c.loop-k.k at.0 at.1
    ∙ sym (box_wide c.args.p.now rules c.args.scalars.now c.args.points.now c.requires.scalars c.requires.points c.loop-k.k at.0 at.1 c.next_box-allowed.result
    (c.next_box-allowed.ensures at.0 at.1))

pub overflow_cast-result : goal.overflow_cast-result
overflow_cast-result c =
    let rules = subst MeetsTableRules c.p.view_is c.p.invariant in
    let below : c.loop-k.k < length c.args.p.now.plants =
    omega (arith, c.loop-k-test.true, c.len-k-end.ensures, c.p.inside.plants.ok.0, ap (λ t. length t.plants) c.p.view_is) in
    let at = at_below c.args.p.now.plants c.loop-k.k below in
    let wide = box_wide c.args.p.now rules c.args.scalars.now c.args.points.now c.requires.scalars c.requires.points c.loop-k.k at.0 at.1
    c.next_box-allowed.result (c.next_box-allowed.ensures at.0 at.1) in
    let few = (rules.plants c.loop-k.k at.0 at.1).states in
    let inside = slice_get_within c.next_box-allowed.result c.in-Some.axis c.in-Some.ensures.0 c.in-Some.ensures.2.bounds_are in
    omega (arith, inside, wide, few)

pub side-requires : goal.side-requires
side-requires c = slice_get_within _ _ _ c.in-Some.ensures.2.bounds_are

pub at-requires : goal.at-requires
at-requires c = slice_get_within _ _ _ c.in-Some.ensures.2.value_is

pub returns-in-Some : goal.returns-in-Some
returns-in-Some c =
    let below : c.loop-k.k < length c.args.p.now.plants =
    omega (arith, c.loop-k-test.true, c.len-k-end.ensures, c.p.inside.plants.ok.0, ap (λ t. length t.plants) c.p.view_is) in
    let at = at_below c.args.p.now.plants c.loop-k.k below in
    let there : c.loop-k.k < length c.args.next.now = omega (arith, below, c.requires.next.each) in
    let allowed = c.next_box-allowed.result in
    let axis = c.in-Some.axis in
    let first = c.in-Some.ensures in
    let point = read_or c.args.next.now c.loop-k.k c.index-next-k.result [] there c.index-next-k.is in
    let fits : SFits w64 c.at.result = search rules in
    let bounds = at_same allowed axis first.0 c.side.result first.2.bounds_are c.side.ensures in
    let value = at_same c.index-next-k.result axis first.1 c.at.result first.2.value_is c.at.ensures ∙ sym (to_z-of_z w64 c.at.result fits) in
    record {
      plant = at.0;
      is = at.1;
      box = allowed;
      box_is = c.next_box-allowed.ensures at.0 at.1;
      first = subst (IsFirstAxis allowed (slice_index_or c.args.next.now c.loop-k.k []) axis c.side.result) value
          (subst (λ r. IsFirstAxis allowed (slice_index_or c.args.next.now c.loop-k.k []) axis r first.1) bounds
          (subst (λ s. IsFirstAxis allowed s axis first.0 first.1) point first.2));
      before = c.loop-k.invariant;
    }
