use Rattle.std.proofs.Common.{◌∙◌, sym, subst, arith}
use Rattle.sot_lists.specs.Places.{At}
use Rattle.sot_turn.specs.Passes.{lock_of}
use Rattle.sot_workers.specs.declared.place.Place.TheVariants.{Here}
use Rattle.sot_workers.specs.Sent.{IsStarted}
use Rattle.sot_workers.proofs.station.send.Goals as goal

pub keep-requires-clause-worked : goal.keep-requires-clause-worked
keep-requires-clause-worked g c =
    let P = IsStarted g.C.Controller.asked c.args.shift in
    let worked = subst (λ o. P (Here o)) c.in-Here-Some.field-0-is (subst P c.in-Here-Some.is c.start.ensures) in
    (c.args.shift, worked, c.requires.ready.no_drafts)

pub keep-requires-clause-there : goal.keep-requires-clause-there
keep-requires-clause-there g c =
    let P = IsStarted g.C.Controller.asked c.args.shift in
    let worked = subst (λ o. P (Here o)) c.in-Here-Some.field-0-is (subst P c.in-Here-Some.is c.start.ensures) in
    omega (arith, worked.on_shift.node, c.requires.there)

pub unreachable-requires : goal.unreachable-requires
unreachable-requires g c =
    let P = IsStarted g.C.Controller.asked c.args.shift in
    subst (λ o. P (Here o)) c.in-Here-None.field-0-is (subst P c.in-Here-None.is c.start.ensures)

pub unreachable-requires-in-Stays : goal.unreachable-requires-in-Stays
unreachable-requires-in-Stays g c = subst (IsStarted g.C.Controller.asked c.args.shift) c.in-Stays.is c.start.ensures

pub returns-in-Out-clause-station : goal.returns-in-Out-clause-station
returns-in-Out-clause-station g c = subst (IsStarted g.C.Controller.asked c.args.shift) c.in-Out.is c.start.ensures

pub returns-in-Here-Some-clause-station : goal.returns-in-Here-Some-clause-station
returns-in-Here-Some-clause-station g c =
    let P = IsStarted g.C.Controller.asked c.args.shift in
    let worked = subst (λ o. P (Here o)) c.in-Here-Some.field-0-is (subst P c.in-Here-Some.is c.start.ensures) in
    c.keep.ensures.station (lock_of c.args.turn.now) c.args.shift c.requires.ready worked

pub returns-in-Out-clause-room : goal.returns-in-Out-clause-room
returns-in-Out-clause-room g c = λ list at none. absurd cc

pub returns-in-Here-Some-clause-others : goal.returns-in-Here-Some-clause-others
returns-in-Here-Some-clause-others g c = λ n list other at.
    let P = IsStarted g.C.Controller.asked c.args.shift in
    let worked = subst (λ o. P (Here o)) c.in-Here-Some.field-0-is (subst P c.in-Here-Some.is c.start.ensures) in
    c.keep.ensures.others n list (λ same. other (same ∙ worked.on_shift.node)) at

pub returns-in-Here-Some-clause-room : goal.returns-in-Here-Some-clause-room
returns-in-Here-Some-clause-room g c = λ list at none.
    let P = IsStarted g.C.Controller.asked c.args.shift in
    let worked = subst (λ o. P (Here o)) c.in-Here-Some.field-0-is (subst P c.in-Here-Some.is c.start.ensures) in
    c.keep.ensures.room c.args.shift list worked (subst (λ n. At c.keep.new.lists.items n list) (sym worked.on_shift.node) at)
