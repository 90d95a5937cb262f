use Rattle.std.proofs.Common.{◌+◌, ◌<◌, ◌≤◌, List, length, refl, sym, subst, vec_capacity, rules, arith}
use Rattle.std.proofs.lemmas.Option.{slice_get_read}
use Rattle.sot_lists.specs.Places.{At}
use Rattle.sot_flight.specs.Counts.{due_count}
use Rattle.sot_workers.specs.declared.lists.NodeList.{NodeList}
use Rattle.sot_workers.specs.Lists.{AreEmpty, HaveRoom}
use Rattle.sot_workers.proofs.ListFacts.{empty_more}
use Rattle.sot_workers.proofs.Rooms.{room_more}
use Rattle.sot_workers.proofs.lists.lists_for.Goals as goal

pub loop-node-preserved : goal.loop-node-preserved
loop-node-preserved c =
    let k = c.loop-node.node in
    let nodes = c.args.nodes.now in
    let inv = c.loop-node.invariant in
    let pushed = c.push_reserved.ensures in
    let one : NodeList = record { node = k; drafts = c.in_ok-drafts.drafts } in
    let info = c.index-nodes-node.result in
    let there : k < length nodes = search rules in
    let at : At nodes k info = slice_get_read nodes (length nodes) k info refl there c.index-nodes-node.is in
    let here : At nodes (length c.loop-node.lists.items) info = subst (λ i. At nodes i info) (sym inv.lists.nodes.each) at in
    let few : due_count info.period info.offset c.args.horizon ≤ vec_capacity c.in_ok-drafts.drafts =
    omega (arith, c.in_ok-drafts.ensures.capacity, c.due_times-room.ensures) in
    record {
      lists =
          subst (λ (ls : List NodeList). AreEmpty (k + 1) ls) (sym pushed.items)
          (empty_more k c.loop-node.lists.items one inv.lists refl c.in_ok-drafts.ensures.items);
      drafts =
          subst (λ (ls : List NodeList). HaveRoom nodes c.args.horizon (λ n. Unit {0}) ls) (sym pushed.items)
          (room_more nodes c.args.horizon c.loop-node.lists.items one info here few inv.drafts);
      count = omega (arith, pushed.len, inv.count);
      room = omega (arith, pushed.capacity, inv.room);
    }
