use Rattle.std.proofs.Common.{◌≡◌, ◌+◌, ◌<◌, ◌≤◌, ◌&&◌, false, length, refl, sym, ap, ap₂, ◌∙◌, subst, arith}
use Rattle.std.specs.Prelude.{nat_lt}
use Rattle.std.specs.Option.{option_map_or}
use Rattle.std.proofs.lemmas.Option.{slice_get_read}
use Rattle.sot_lists.specs.Places.{At}
use Rattle.sot_workers.specs.Threads.{has_long_body, is_long, AreNoted}
use Rattle.sot_workers.proofs.Weights.{bump, long_more}
use Rattle.sot_workers.proofs.Noted.{noted_more}
use Rattle.sot_workers.proofs.rule.long_each.Goals.{then-is_one, else-is_one}
use Rattle.sot_workers.proofs.rule.long_each.Goals as goal

pub loop-node-preserved : goal.loop-node-preserved
loop-node-preserved c =
    let k = c.loop-node.node in
    let p = c.args.p.now in
    let node = c.index.result.now in
    let inv = c.loop-node.invariant in
    let pushed = c.push_reserved.ensures in
    let below : k < length c.p.inside.nodes.items = omega (arith, c.loop-node-test.true, c.len-node-end.ensures, c.p.inside.nodes.ok.0) in
    let at = subst (λ t. At t.nodes k node) c.p.view_is (slice_get_read c.p.inside.nodes.items _ k node refl below c.index.ensures) in
    let more = long_more p.nodes k node at in
    let is = c.has_long_body-is_one.ensures in
    let one = c.has_long_body-is_one.result in
    let same : bump one ≡ bump (has_long_body node) = ap bump is in
    let step : c.if-is_one.count ≡ c.loop-node.count + bump one = elim c.if-is_one.branch [
      | then-is_one w ↦ (let yes : bump one ≡ 1 = ap bump w.if-is_one.true in omega (arith, w.count-is, yes))
      | else-is_one w ↦ (let no : bump one ≡ 0 = ap bump w.if-is_one.false in omega (arith, w.count-is, no))
    ] in
    let small : c.if-is_one.count ≤ c.loop-node.count + 1 = elim c.if-is_one.branch [
      | then-is_one w ↦ omega (arith, w.count-is)
      | else-is_one w ↦ omega (arith, w.count-is)
    ] in
    record {
      count = omega (arith, pushed.len, inv.count);
      room = omega (arith, pushed.capacity, inv.room);
      counted = omega (arith, step, same, more, inv.counted);
      small = omega (arith, small, inv.small);
      noted = subst (AreNoted (k + 1) (is_long p)) (sym pushed.items)
          (noted_more k (is_long p) c.loop-node.long.items c.is_first.result inv.noted
          (c.is_first.ensures
          ∙ ap₂ (λ a n. a && nat_lt n 16) (is ∙ sym (ap (λ o. option_map_or has_long_body o false) at)) inv.counted));
    }
