use Rattle.std.proofs.Common.{rules, ◌≡◌, ℕ, List, ◌∙◌}
use Rattle.std.specs.Prelude.{◌≢◌, vec_len}
use Rattle.sot_ports.specs.Outside.{Written}
use Rattle.sot_commands.specs.declared.telling.Telling.TheVariants.{Trace}
use Rattle.sot_commands.specs.Guests.{GuestsEnd}
use Rattle.sot_commands.specs.Orders.{FlightEnds, IsVerdict}
use Rattle.sot_commands.proofs.Spooled.{spool_took, spool_failed}
use Rattle.sot_commands.proofs.Ordered.{FliesAndDid, flight_ends, never_six, flight_guests}
use Rattle.sot_commands.proofs.top.fly_to_the_end.Goals as goal

pub returns-in-Ok-end-clause-ends : goal.returns-in-Ok-end-clause-ends
returns-in-Ok-end-clause-ends g c =
    let told = g.C.Controller.asked in
    let held = g.K.Sink.held in
    let faults = g.K.Sink.faults in
    let sink = c.args.sink.now in
    let answer = c.in-Ok-fly_ordered.answer in
    let order = c.args.order.now in
    let was = c.args.guests.now in
    let now = c.fly_ordered.new.guests in
    let says = c.in-Ok-fly_ordered.ensures.flies in
    let Holds : ℕ → List ℕ → Type 0 = FliesAndDid told order.telling order.text.items was now in
    let after = c.say.new.sink in
    let status : ℕ = c.say.result.0 in
    let name = c.in-Ok-end.ensures.sink ∙ says.1.0 ∙ c.new-spool.ensures.sink in
    let by : (last : g.row.K.Denot) → last ≡ c.end.new.self.sink.now
    → Written (held last) (held after) (faults last) (faults after) answer.status answer.text.items status
    → FlightEnds (vec_len was) order.telling order.text.items (held sink) (held after) (faults sink) (faults after) status =
    λ last same written. flight_ends told order.telling order.text.items (held sink) (held after) (faults sink) (faults after) was now answer.status status
    (spool_took held faults sink c.new-spool.result c.fly_ordered.new.out c.end.new.self answer Holds c.new-spool.ensures.new says
    c.in-Ok-end.ensures.ends last
    after status same written) in
    by _ (search rules) c.say.ensures

pub returns-in-Ok-end-clause-unwritten : goal.returns-in-Ok-end-clause-unwritten
returns-in-Ok-end-clause-unwritten g c =
    let told = g.C.Controller.asked in
    let held = g.K.Sink.held in
    let faults = g.K.Sink.faults in
    let sink = c.args.sink.now in
    let answer = c.in-Ok-fly_ordered.answer in
    let order = c.args.order.now in
    let was = c.args.guests.now in
    let now = c.fly_ordered.new.guests in
    let says = c.in-Ok-fly_ordered.ensures.flies in
    let Holds : ℕ → List ℕ → Type 0 = FliesAndDid told order.telling order.text.items was now in
    let after = c.say.new.sink in
    let status : ℕ = c.say.result.0 in
    let name = c.in-Ok-end.ensures.sink ∙ says.1.0 ∙ c.new-spool.ensures.sink in
    let by : (last : g.row.K.Denot) → last ≡ c.end.new.self.sink.now
    → Written (held last) (held after) (faults last) (faults after) answer.status answer.text.items status
    → status ≢ 6 =
    λ last same written. never_six told order.telling order.text.items (held sink) (held after) (faults sink) (faults after) was now answer.status status
    (spool_took held faults sink c.new-spool.result c.fly_ordered.new.out c.end.new.self answer Holds c.new-spool.ensures.new says
    c.in-Ok-end.ensures.ends last
    after status same written) in
    λ six. absurd (by _ (search rules) c.say.ensures six)

pub returns-in-Ok-end-clause-guests : goal.returns-in-Ok-end-clause-guests
returns-in-Ok-end-clause-guests g c =
    let told = g.C.Controller.asked in
    let held = g.K.Sink.held in
    let faults = g.K.Sink.faults in
    let sink = c.args.sink.now in
    let answer = c.in-Ok-fly_ordered.answer in
    let order = c.args.order.now in
    let was = c.args.guests.now in
    let now = c.fly_ordered.new.guests in
    let says = c.in-Ok-fly_ordered.ensures.flies in
    let Holds : ℕ → List ℕ → Type 0 = FliesAndDid told order.telling order.text.items was now in
    let after = c.say.new.sink in
    let status : ℕ = c.say.result.0 in
    let name = c.in-Ok-end.ensures.sink ∙ says.1.0 ∙ c.new-spool.ensures.sink in
    let by : (last : g.row.K.Denot) → last ≡ c.end.new.self.sink.now
    → Written (held last) (held after) (faults last) (faults after) answer.status answer.text.items status
    → GuestsEnd told (order.telling ≡ Trace) (IsVerdict order.telling) (λ bytes. bytes ≡ order.text.items) (held sink) (held after) was now
    status =
    λ last same written. flight_guests told order.telling order.text.items (held sink) (held after) (faults sink) (faults after) was now answer.status status
    c.in-Ok-fly_ordered.ensures.guests c.in-Ok-fly_ordered.ensures.alone
    (spool_took held faults sink c.new-spool.result c.fly_ordered.new.out c.end.new.self answer Holds c.new-spool.ensures.new says
    c.in-Ok-end.ensures.ends last
    after status same written) in
    by _ (search rules) c.say.ensures

pub returns-in-Ok-fly_ordered-clause-ends : goal.returns-in-Ok-fly_ordered-clause-ends
returns-in-Ok-fly_ordered-clause-ends g c =
    let told = g.C.Controller.asked in
    let held = g.K.Sink.held in
    let faults = g.K.Sink.faults in
    let sink = c.args.sink.now in
    let answer = c.in-Ok-fly_ordered.answer in
    let order = c.args.order.now in
    let was = c.args.guests.now in
    let now = c.fly_ordered.new.guests in
    let says = c.in-Ok-fly_ordered.ensures.flies in
    let Holds : ℕ → List ℕ → Type 0 = FliesAndDid told order.telling order.text.items was now in
    let name = c.in-Err-end.ensures.sink ∙ says.1.0 ∙ c.new-spool.ensures.sink in
    let by : (last : g.row.K.Denot) → last ≡ c.end.new.self.sink.now
    → FlightEnds (vec_len was) order.telling order.text.items (held sink) (held last) (faults sink) (faults last) 5 =
    λ last same. flight_ends told order.telling order.text.items (held sink) (held last) (faults sink) (faults last) was now answer.status 5
    (spool_failed held faults sink c.new-spool.result c.fly_ordered.new.out c.end.new.self answer Holds c.new-spool.ensures.new says
    c.in-Err-end.ensures.ends
    last same) in
    by _ (search rules)

pub returns-in-Ok-fly_ordered-clause-guests : goal.returns-in-Ok-fly_ordered-clause-guests
returns-in-Ok-fly_ordered-clause-guests g c =
    let told = g.C.Controller.asked in
    let held = g.K.Sink.held in
    let faults = g.K.Sink.faults in
    let sink = c.args.sink.now in
    let answer = c.in-Ok-fly_ordered.answer in
    let order = c.args.order.now in
    let was = c.args.guests.now in
    let now = c.fly_ordered.new.guests in
    let says = c.in-Ok-fly_ordered.ensures.flies in
    let Holds : ℕ → List ℕ → Type 0 = FliesAndDid told order.telling order.text.items was now in
    let name = c.in-Err-end.ensures.sink ∙ says.1.0 ∙ c.new-spool.ensures.sink in
    let by : (last : g.row.K.Denot) → last ≡ c.end.new.self.sink.now
    → GuestsEnd told (order.telling ≡ Trace) (IsVerdict order.telling) (λ bytes. bytes ≡ order.text.items) (held sink) (held last) was now
    5 =
    λ last same. flight_guests told order.telling order.text.items (held sink) (held last) (faults sink) (faults last) was now answer.status 5
    c.in-Ok-fly_ordered.ensures.guests c.in-Ok-fly_ordered.ensures.alone
    (spool_failed held faults sink c.new-spool.result c.fly_ordered.new.out c.end.new.self answer Holds c.new-spool.ensures.new says
    c.in-Err-end.ensures.ends
    last same) in
    by _ (search rules)
