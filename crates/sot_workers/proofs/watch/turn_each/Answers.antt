use Rattle.std.proofs.Common.{◌+◌, refl, rules}
use Rattle.sot_turn.specs.Passes.{lock_of}
use Rattle.sot_lists.specs.Places.{At}
use Rattle.sot_lists.proofs.Places.{read_at}
use Rattle.sot_workers.specs.Sent.{IsPlaced}
use Rattle.sot_workers.proofs.PairFacts.{each_there, each_set}
use Rattle.sot_workers.proofs.watch.turn_each.Goals as goal

pub turn_here-requires : goal.turn_here-requires
turn_here-requires g c =
    let p = c.requires in
    let P = IsPlaced g.C.Controller.asked (lock_of c.args.turn.now) p.0 p.1 in
    let places = c.loop-i.places.items in
    let at : At places c.loop-i.i c.index_mut.result.now = read_at places places c.loop-i.i c.index_mut.result.now refl (search rules)
    (search (rules, c.index_mut.ensures.value)) in
    let here = each_there P 0 p.2 places c.loop-i.i c.index_mut.result.now (c.loop-i.invariant p.0 p.1 p.2 p.3) at in
    (p.0, p.1, 0 + c.loop-i.i, here.0, here.1)

pub loop-i-preserved : goal.loop-i-preserved
loop-i-preserved g c = λ a f guests each.
    let P = IsPlaced g.C.Controller.asked (lock_of c.args.turn.now) a f in
    let places = c.loop-i.places.items in
    let at : At places c.loop-i.i c.index_mut.result.now = read_at places places c.loop-i.i c.index_mut.result.now refl (search rules)
    (search (rules, c.index_mut.ensures.value)) in
    each_set P 0 guests places c.loop-i.i c.index_mut.result.now c.turn_here.new.place (c.loop-i.invariant a f guests each) at
    (λ n x. c.turn_here.ensures a f n x)
