use Rattle.std.proofs.Common.{◌≡◌, ◌+◌, List, [], length, map, drop, decimal, sym, subst, arith, rules}
use Rattle.serde_json.specs.View.{items_view}
use Rattle.sot_json.specs.Answers.{IsUnder}
use Rattle.sot_json.specs.Json.{each_after}
use Rattle.sot_flight.specs.declared.input.Input.{Input}
use Rattle.sot_flight.specs.FlightView.{input_of}
use Rattle.sot_flight.specs.FlightFormat.{input}
use Rattle.sot_flight.proofs.RowLists.{rows_go_on, rows_end, rows_done}
use Rattle.sot_flight.proofs.inputs.each_input.Goals as goal

pub returns-in-Err : goal.returns-in-Err
returns-in-Err c =
    let l = c.loop-item in
    let n : c.len.result ≡ length l.found.items = search rules in
    rows_end input_of (input c.args.p.now c.args.horizon) l.found.items c.deref-item-items.result.now l.item-index c.item-item.result c.in-Err.fail
    c.fault_under_index.result _ (omega arith) c.item-item.is
    (subst (λ n. IsUnder (decimal n) c.in-Err.fail c.fault_under_index.result) n c.fault_under_index.ensures) c.in-Err.ensures l.invariant

pub loop-item-preserved : goal.loop-item-preserved
loop-item-preserved c =
    let l = c.loop-item in
    let f = input c.args.p.now c.args.horizon in
    let items = c.deref-item-items.result.now in
    let on = rows_go_on input_of f l.found.items items l.item-index c.item-item.result c.in-Ok.input _ (omega arith) c.item-item.is c.in-Ok.ensures l.invariant
    in
    subst (λ (inputs : List Input). each_after f (map input_of inputs) (items_view (drop (c.loop-item.item-index + 1) items))
    ≡ each_after f [] (items_view c.args.list.now.items)) (sym c.in_ok-push-in-Ok.ensures.items) on

pub returns : goal.returns
returns c =
    let l = c.loop-item in
    rows_done input_of (input c.args.p.now c.args.horizon) l.found.items c.deref-item-items.result.now l.item-index _ (omega (arith, c.loop-item-test.false))
    l.invariant
