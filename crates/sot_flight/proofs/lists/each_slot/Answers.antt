use Rattle.std.proofs.Common.{◌≡◌, ◌+◌, ℤ, List, [], length, drop, Option, decimal, sym, subst, arith, rules}
use Rattle.serde_json.specs.View.{items_view}
use Rattle.sot_json.specs.Json.{each_after}
use Rattle.sot_json.specs.Answers.{IsUnder}
use Rattle.sot_flight.specs.ListForms.{slot}
use Rattle.sot_json.proofs.Lists.{goes_on, ends, is_done}
use Rattle.sot_flight.proofs.lists.each_slot.Goals as goal

pub returns-in-Err : goal.returns-in-Err
returns-in-Err c =
    let l = c.loop-item in
    let n : c.len.result ≡ length l.found.items = search rules in
    ends (λ done. slot) l.found.items c.deref-item-items.result.now l.item-index c.item-item.result c.in-Err.fail c.fault_under_index.result _ (omega arith)
    c.item-item.is (subst (λ n. IsUnder (decimal n) c.in-Err.fail c.fault_under_index.result) n c.fault_under_index.ensures) c.in-Err.ensures l.invariant

pub returns : goal.returns
returns c =
    let l = c.loop-item in
    is_done (λ done. slot) l.found.items c.deref-item-items.result.now l.item-index _ (omega (arith, c.loop-item-test.false)) l.invariant

pub loop-item-preserved : goal.loop-item-preserved
loop-item-preserved c =
    let l = c.loop-item in
    let f = λ (done : List (Option ℤ)). slot in
    let items = c.deref-item-items.result.now in
    let on = goes_on f l.found.items items l.item-index c.item-item.result c.in-Ok.slot _ (omega arith) c.item-item.is c.in-Ok.ensures l.invariant in
    subst (λ (found : List (Option ℤ)). each_after f found (items_view (drop (c.loop-item.item-index + 1) items))
    ≡ each_after f [] (items_view c.args.list.now.items)) (sym c.in_ok-push-in-Ok.ensures.items) on
