use Rattle.std.proofs.Common.{◌≡◌, ◌+◌, ℤ, List, length, map, drop, Option, decimal, ap, ◌∙◌, subst, arith, rules}
use Rattle.serde_json.specs.View.{items_view}
use Rattle.sot_json.specs.Json.{each_after}
use Rattle.sot_json.specs.Answers.{IsUnder}
use Rattle.sot_flight.specs.ListForms.{draft}
use Rattle.sot_flight.proofs.RowLists.{rows_go_on, rows_end, rows_done}
use Rattle.sot_flight.proofs.lists.each_draft.Goals as goal

pub returns-in-Err : goal.returns-in-Err
returns-in-Err c =
    let l = c.loop-item in
    let n : c.len.result ≡ length l.found.items = search rules in
    rows_end (λ row. row.items) (λ done. draft c.args.size) l.found.items c.deref-item-items.result.now l.item-index c.item-item.result c.in-Err.fail
    c.fault_under_index.result _ (omega arith) c.item-item.is
    (subst (λ n. IsUnder (decimal n) c.in-Err.fail c.fault_under_index.result) n c.fault_under_index.ensures) c.in-Err.ensures l.invariant

pub loop-item-preserved : goal.loop-item-preserved
loop-item-preserved c =
    let l = c.loop-item in
    let f = λ (done : List (List (Option ℤ))). draft c.args.size in
    let items = c.deref-item-items.result.now in
    let on = rows_go_on (λ row. row.items) f l.found.items items l.item-index c.item-item.result c.in-Ok.row _ (omega arith) c.item-item.is c.in-Ok.ensures
    l.invariant in
    ap (λ rows. each_after f (map (λ row. row.items) rows) (items_view (drop (c.loop-item.item-index + 1) items))) c.in_ok-push-in-Ok.ensures.items ∙ on

pub returns : goal.returns
returns c =
    let l = c.loop-item in
    rows_done (λ row. row.items) (λ done. draft c.args.size) l.found.items c.deref-item-items.result.now l.item-index _ (omega (arith, c.loop-item-test.false))
    l.invariant
