use Rattle.std.proofs.Common.{subst}
use Rattle.sot_turn.specs.Passes.{lock_of}
use Rattle.sot_workers.specs.declared.place.Place.TheVariants.{Here}
use Rattle.sot_workers.specs.Sent.{IsPlaced}
use Rattle.sot_workers.proofs.join.join_one.Goals as goal

pub end-requires-clause-placed : goal.end-requires-clause-placed
end-requires-clause-placed g c =
    let p = c.requires.placed in
    let of = subst (IsPlaced g.C.Controller.asked (lock_of c.args.turn.now) p.0 p.1 p.2 p.3) c.in-Out.is p.4 in
    (p.0, p.1, p.2, p.3, c.in-Out.child.promise.0.value, of, c.join.ensures.on_shift)

pub end-requires-in-Here-Some-clause-placed : goal.end-requires-in-Here-Some-clause-placed
end-requires-in-Here-Some-clause-placed g c =
    let p = c.requires.placed in
    let P = IsPlaced g.C.Controller.asked (lock_of c.args.turn.now) p.0 p.1 p.2 p.3 in
    let of = subst (λ o. P (Here o)) c.in-Here-Some.field-0-is (subst P c.in-Here-Some.is p.4) in
    (p.0, p.1, p.2, p.3, of.0, of.1, of.2)

pub returns-in-Out-clause-done : goal.returns-in-Out-clause-done
returns-in-Out-clause-done g c = λ a f whole number guest seen placed.
    let of = subst (IsPlaced g.C.Controller.asked (lock_of c.args.turn.now) a f number guest) c.in-Out.is placed in
    c.end.ensures.done a f whole number guest c.in-Out.child.promise.0.value seen of c.join.ensures.on_shift

pub returns-in-Here-Some-clause-done : goal.returns-in-Here-Some-clause-done
returns-in-Here-Some-clause-done g c = λ a f whole number guest seen placed.
    let P = IsPlaced g.C.Controller.asked (lock_of c.args.turn.now) a f number guest in
    let of = subst (λ o. P (Here o)) c.in-Here-Some.field-0-is (subst P c.in-Here-Some.is placed) in
    c.end-in-Here-Some.ensures.done a f whole number guest of.0 seen of.1 of.2
