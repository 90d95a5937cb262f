use Rattle.std.proofs.Common.{◌≡◌, [], length, refl, sym, subst, rules}
use Rattle.std.specs.Vec.Iter.{into_iter_items}
use Rattle.sot_turn.specs.Passes.{lock_of, pass_seen}
use Rattle.sot_workers.specs.Sent.{IsPlaced, IsDone}
use Rattle.sot_workers.specs.Pairs.{EachFrom}
use Rattle.sot_workers.proofs.Histories.{goes_here, goes_further}
use Rattle.sot_workers.proofs.Coming.{AreComing, each_map, coming_begins, coming_next, coming_more, coming_ends}
use Rattle.sot_fly_worker.proofs.Firing.{nil_of}
use Rattle.sot_workers.proofs.Placing.{IsDoneIn, seen_later}
use Rattle.sot_workers.proofs.join.join_each.Goals as goal

pub loop-place-init : goal.loop-place-init
loop-place-init g c = record {
  lock = refl;
  ground = refl;
  seen = goes_here (pass_seen c.args.pass);
  room = search rules;
  placed = λ a f guests each.
      let P = IsPlaced g.C.Controller.asked (lock_of c.args.turn.now) a f in
      let Q = IsDoneIn g.C.Controller.asked a f (pass_seen c.args.pass) in
      let rest = into_iter_items c.into_iter-place-iterator.result in
      subst (λ l. AreComing P Q guests l rest) (sym c.requires.room.0) (coming_begins P Q guests rest each);
}

pub join_one-back-requires-clause-placed : goal.join_one-back-requires-clause-placed
join_one-back-requires-clause-placed g c =
    let p = c.requires.placed in
    let P = IsPlaced g.C.Controller.asked (lock_of c.args.turn.now) p.0 p.1 in
    let Q = IsDoneIn g.C.Controller.asked p.0 p.1 (pass_seen c.args.pass) in
    let each = subst (λ l. EachFrom P 0 p.2 l) (sym c.into_iter-place-iterator.ensures.into_iter_gives.0) p.3 in
    let coming = subst (λ l. AreComing P Q p.2 c.loop-place.dones.items l) c.in-Some.ensures.steps.0 (c.loop-place.invariant.placed p.0 p.1 p.2 each) in
    let next = coming_next P Q p.2 c.loop-place.dones.items c.in-Some.place (into_iter_items c.next.new.self) coming in
    (p.0, p.1, length c.loop-place.dones.items, next.0, next.1)

pub loop-place-preserved : goal.loop-place-preserved
loop-place-preserved g c =
    let inv = c.loop-place.invariant in
    let joined = c.join_one-back.ensures in
    record {
      lock = search rules;
      ground = search rules;
      seen = goes_further (pass_seen c.args.pass) (pass_seen c.loop-place.pass) (pass_seen c.join_one-back.result.0) inv.seen joined.seen;
      room = search rules;
      placed = λ a f guests each.
          let P = IsPlaced g.C.Controller.asked (lock_of c.args.turn.now) a f in
          let Q = IsDoneIn g.C.Controller.asked a f (pass_seen c.args.pass) in
          let dones = c.loop-place.dones.items in
          let rest = into_iter_items c.next.new.self in
          let coming = subst (λ l. AreComing P Q guests dones l) c.in-Some.ensures.steps.0 (inv.placed a f guests each) in
          let done : (guest : g.row.C.Denot) → P (length dones) guest c.in-Some.place → Q (length dones) guest c.join_one-back.result.1 =
          λ guest placed whole seen. joined.done a f whole (length dones) guest
          (seen_later a f whole (pass_seen c.args.pass) (pass_seen c.loop-place.pass) inv.seen seen) placed in
          subst (λ l. AreComing P Q guests l rest) (sym c.push_reserved.ensures.items)
          (coming_more P Q guests dones c.in-Some.place rest c.join_one-back.result.1 done coming);
    }

pub returns-clause-done : goal.returns-clause-done
returns-clause-done g c = λ a f whole guests seen each.
    let P = IsPlaced g.C.Controller.asked (lock_of c.args.turn.now) a f in
    let Q = IsDoneIn g.C.Controller.asked a f (pass_seen c.args.pass) in
    let dones = c.loop-place.dones.items in
    let none : into_iter_items c.loop-place.place-iterator ≡ [] = nil_of _ (search rules) in
    let there = subst (λ l. EachFrom P 0 guests l) (sym c.into_iter-place-iterator.ensures.into_iter_gives.0) each in
    let coming = subst (λ l. AreComing P Q guests dones l) none (c.loop-place.invariant.placed a f guests there) in
    each_map Q (IsDone g.C.Controller.asked a f whole) 0 guests dones (λ n guest done in_each. in_each whole seen) (coming_ends P Q guests dones coming)
