use Rattle.std.proofs.Common.{◌≡◌, ◌<◌, ◌+◌, List, [], get_or, length, map, drop, sym, ap, subst, ◌∙◌, arith}
use Rattle.serde_json.specs.View.{members_view}
use Rattle.sot_lang.specs.Tables.{Tables}
use Rattle.sot_flight.specs.declared.crew.Crew.{Crew}
use Rattle.sot_flight.specs.ListForms.{for_each_after}
use Rattle.sot_flight.specs.FlightView.{crew_of}
use Rattle.sot_flight.specs.FlightFormat.{crew_at}
use Rattle.sot_flight.proofs.ForEach.{kept_on, found_end, found_all}
use Rattle.sot_flight.proofs.crews.each_crew.Goals as goal

pub loop-node-preserved : goal.loop-node-preserved
loop-node-preserved c =
    let l = c.loop-node in
    let f = crew_at c.args.guests (members_view c.args.object.now.entries) in
    let nodes = c.args.p.now.nodes in
    let e : c.deref-node-items.result.now ≡ nodes = c.deref-node-items.ensures.value ∙ ap (λ (t : Tables). t.nodes) c.p.view_is in
    let lt : c.loop-node.node-index < length nodes = omega (arith, c.loop-node-test.true, ap length e) in
    let on = kept_on crew_of f l.found.items nodes l.node-index c.node-item.result c.in-Ok.crew _ lt
    (c.node-item.is ∙ ap (λ xs. get_or xs c.loop-node.node-index c.node-item.result) e) c.in-Ok.ensures l.invariant in
    subst (λ (crews : List Crew). for_each_after f (map crew_of crews) (drop (c.loop-node.node-index + 1) nodes) ≡ for_each_after f [] nodes)
    (sym c.in_ok-push-in-Ok.ensures.items) on

pub returns-in-Err : goal.returns-in-Err
returns-in-Err c =
    let l = c.loop-node in
    let e : c.deref-node-items.result.now ≡ c.args.p.now.nodes = c.deref-node-items.ensures.value ∙ ap (λ (t : Tables). t.nodes) c.p.view_is in
    let lt : c.loop-node.node-index < length c.args.p.now.nodes = omega (arith, c.loop-node-test.true, ap length e) in
    found_end (crew_at c.args.guests (members_view c.args.object.now.entries)) (map crew_of l.found.items) c.args.p.now.nodes l.node-index c.node-item.result
    c.in-Err.fail _ lt (c.node-item.is ∙ ap (λ xs. get_or xs c.loop-node.node-index c.node-item.result) e) c.in-Err.ensures l.invariant

pub returns : goal.returns
returns c =
    let l = c.loop-node in
    let e : c.deref-node-items.result.now ≡ c.args.p.now.nodes = c.deref-node-items.ensures.value ∙ ap (λ (t : Tables). t.nodes) c.p.view_is in
    found_all (crew_at c.args.guests (members_view c.args.object.now.entries)) (map crew_of l.found.items) c.args.p.now.nodes l.node-index _
    (omega (arith, c.loop-node-test.false, ap length e)) l.invariant
