use Rattle.std.proofs.Common.{◌≡◌, ◌∙◌, Some, sym, subst}
use Rattle.sot_turn.specs.Passes.{lock_of}
use Rattle.sot_workers.specs.declared.place.Place.TheVariants.{Here}
use Rattle.sot_workers.specs.Sent.{IsPlaced}
use Rattle.sot_workers.proofs.watch.turn_here.Goals as goal

pub returns-in-Some : goal.returns-in-Some
returns-in-Some g c = λ a f number guest placed.
    let P = IsPlaced g.C.Controller.asked (lock_of c.args.turn.now) a f number guest in
    let is : c.in-Here.shift ≡ Some c.in-Some.now = sym c.take.ensures.value ∙ c.in-Some.is in
    let of = subst (λ o. P (Here o)) is (subst P c.in-Here.is placed) in
    (of.0, of.1, c.take_turn-later.ensures.on_shift of.0 of.2)
