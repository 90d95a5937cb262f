use Rattle.std.proofs.Common.{◌≡◌, ◌≤◌, ◌∙◌, sym, subst, arith}
use Rattle.std.specs.Prelude.{vec_len}
use Rattle.std.specs.Io.KnownBytes.{Keeps}
use Rattle.std.proofs.KnownBytes.{Keeps-refl}
use Rattle.sot_commands.specs.declared.words.Command.TheVariants.{Fly, Watch}
use Rattle.sot_commands.specs.declared.telling.Telling.TheVariants.{Trace}
use Rattle.sot_commands.specs.Guests.{GuestsEnd}
use Rattle.sot_commands.specs.Orders.{FlightEnds, IsVerdict}
use Rattle.sot_commands.proofs.Ordered.{ordered_ends, ordered_guests, untouched}
use Rattle.sot_commands.proofs.top.soter.Goals as goal

pub returns-in-Ended-clause-guests : goal.returns-in-Ended-clause-guests
returns-in-Ended-clause-guests g c =
    untouched g.C.Controller.asked _ _ _ _ _ c.args.guests.now c.in-Ended.status.0
    (λ low asks. (let four : 4 ≤ c.in-Ended.status.0 = c.in-Ended.ensures.leaves (Fly, tt, asks) in absurd (omega (arith, four, low))))
    (λ low (formula, asks). (let four : 4 ≤ c.in-Ended.status.0 = c.in-Ended.ensures.leaves (Watch formula, tt, asks) in
    absurd (omega (arith, four, low))))

pub returns-in-Flight-clause-ends : goal.returns-in-Flight-clause-ends
returns-in-Flight-clause-ends g c =
    let held = g.K.Sink.held in
    let faults = g.K.Sink.faults in
    let end = c.fly_to_the_end in
    let flies = subst (λ k. FlightEnds (vec_len c.args.guests.now) c.in-Flight.order.telling c.in-Flight.order.text.items (held k) (held end.new.sink)
    (faults k) (faults end.new.sink) end.result.0) c.in-Flight.ensures.unsaid end.ensures.ends in
    ordered_ends (vec_len c.args.guests.now) c.args.words.now _ _ c.in-Flight.order end.result.0 c.in-Flight.ensures.flight c.in-Flight.ensures.well flies
    (λ six. subst (λ k. Keeps (held c.args.sink.now) (held k)) (sym (end.ensures.unwritten six ∙ c.in-Flight.ensures.unsaid))
    (Keeps-refl (held c.args.sink.now)))

pub returns-in-Flight-clause-guests : goal.returns-in-Flight-clause-guests
returns-in-Flight-clause-guests g c =
    let told = g.C.Controller.asked in
    let held = g.K.Sink.held in
    let order = c.in-Flight.order in
    let end = c.fly_to_the_end in
    let was = c.args.guests.now in
    let now = end.new.guests in
    let did : GuestsEnd told (order.telling ≡ Trace) (IsVerdict order.telling) (λ bytes. bytes ≡ order.text.items) (held c.args.sink.now) (held end.new.sink)
    was now end.result.0 =
    subst (λ k. GuestsEnd told (order.telling ≡ Trace) (IsVerdict order.telling) (λ bytes. bytes ≡ order.text.items) (held k) (held end.new.sink) was now
    end.result.0)
    c.in-Flight.ensures.unsaid end.ensures.guests in
    ordered_guests told c.args.words.now _ _ order (held c.args.sink.now) (held end.new.sink) was now end.result.0 did c.in-Flight.ensures.flight
