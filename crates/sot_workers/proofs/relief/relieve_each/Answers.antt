use Rattle.std.proofs.Common.{◌≡◌, Bool, [], length, refl, sym, subst, rules}
use Rattle.std.specs.Vec.Iter.{into_iter_items}
use Rattle.sot_turn.specs.Passes.{lock_of, pass_seen}
use Rattle.sot_workers.specs.Stations.{IsStationed, IsRelieved}
use Rattle.sot_workers.specs.Pairs.{EachFrom}
use Rattle.sot_workers.proofs.Histories.{goes_here, goes_further}
use Rattle.sot_workers.proofs.Coming.{AreComing, each_map, coming_begins, coming_next, coming_more, coming_ends}
use Rattle.sot_fly_worker.proofs.Firing.{nil_of}
use Rattle.sot_workers.proofs.Placing.{seen_later}
use Rattle.sot_workers.proofs.Stations.{IsRelievedIn}
use Rattle.sot_workers.proofs.relief.relieve_each.Goals as goal

pub loop-station-init : goal.loop-station-init
loop-station-init g c = record {
  lock = refl;
  ground = refl;
  seen = goes_here (pass_seen c.args.pass);
  room = search rules;
  stationed = λ a f guests each.
      let P = IsStationed (lock_of c.args.turn.now) a f in
      let Q = IsRelievedIn a f (pass_seen c.args.pass) in
      let rest = into_iter_items c.into_iter-station-iterator.result in
      subst (λ l. AreComing P Q guests l rest) (sym c.requires.room.0) (coming_begins P Q guests rest each);
}

pub relieve-back-requires-clause-stationed : goal.relieve-back-requires-clause-stationed
relieve-back-requires-clause-stationed g c =
    let p = c.requires.stationed in
    let P = IsStationed (lock_of c.args.turn.now) p.0 p.1 in
    let Q = IsRelievedIn p.0 p.1 (pass_seen c.args.pass) in
    let each = subst (λ l. EachFrom P 0 p.2 l) (sym c.into_iter-station-iterator.ensures.into_iter_gives.0) p.3 in
    let coming = subst (λ l. AreComing P Q p.2 c.loop-station.relieved.items l) c.in-Some.ensures.steps.0
    (c.loop-station.invariant.stationed p.0 p.1 p.2 each) in
    let next = coming_next P Q p.2 c.loop-station.relieved.items c.in-Some.station (into_iter_items c.next.new.self) coming in
    (p.0, p.1, length c.loop-station.relieved.items, next.0, next.1)

pub loop-station-preserved : goal.loop-station-preserved
loop-station-preserved g c =
    let inv = c.loop-station.invariant in
    let joined = c.relieve-back.ensures in
    record {
      lock = search rules;
      ground = search rules;
      seen = goes_further (pass_seen c.args.pass) (pass_seen c.loop-station.pass) (pass_seen c.relieve-back.result.0) inv.seen joined.seen;
      room = search rules;
      stationed = λ a f guests each.
          let P = IsStationed (lock_of c.args.turn.now) a f in
          let Q = IsRelievedIn a f (pass_seen c.args.pass) in
          let dones = c.loop-station.relieved.items in
          let rest = into_iter_items c.next.new.self in
          let coming = subst (λ l. AreComing P Q guests dones l) c.in-Some.ensures.steps.0 (inv.stationed a f guests each) in
          let done : (guest : Bool) → P (length dones) guest c.in-Some.station → Q (length dones) guest c.relieve-back.result.1 =
          λ guest placed whole seen. joined.list a f whole (length dones) guest
          (seen_later a f whole (pass_seen c.args.pass) (pass_seen c.loop-station.pass) inv.seen seen) placed in
          subst (λ l. AreComing P Q guests l rest) (sym c.push_reserved.ensures.items)
          (coming_more P Q guests dones c.in-Some.station rest c.relieve-back.result.1 done coming);
    }

pub returns-clause-relieved : goal.returns-clause-relieved
returns-clause-relieved g c = λ a f whole guests seen each.
    let P = IsStationed (lock_of c.args.turn.now) a f in
    let Q = IsRelievedIn a f (pass_seen c.args.pass) in
    let dones = c.loop-station.relieved.items in
    let none : into_iter_items c.loop-station.station-iterator ≡ [] = nil_of _ (search rules) in
    let there = subst (λ l. EachFrom P 0 guests l) (sym c.into_iter-station-iterator.ensures.into_iter_gives.0) each in
    let coming = subst (λ l. AreComing P Q guests dones l) none (c.loop-station.invariant.stationed a f guests there) in
    each_map Q (IsRelieved whole) 0 guests dones (λ n guest done in_each. in_each whole seen) (coming_ends P Q guests dones coming)
