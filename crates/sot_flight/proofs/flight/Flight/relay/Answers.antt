use Rattle.std.proofs.Common.{◌≡◌, ◌+◌, length, map, sym, ap, ap₂, ◌∙◌, subst, arith}
use Rattle.sot_flight.specs.Counts.{events_of, numbers_of}
use Rattle.sot_flight.specs.Fits.{FitsFlight}
use Rattle.sot_flight.specs.Relayed.{send_of, send_numbers, with_sends}
use Rattle.sot_flight.proofs.Relayed.{relayed_fits, same_plan}
use Rattle.sot_flight.proofs.flight.Flight.relay.Goals as goal

pub overflow_cast-result : goal.overflow_cast-result
overflow_cast-result c =
    let f = c.args.self.now in
    let sends = map send_of c.args.sends.now in
    let inputs = c.in_ok-inputs.ensures ∙ ap (λ g. with_sends c.args.topic c.args.delay sends g.inputs) c.self.view_is in
    let fits = relayed_fits c.args.p.now c.requires.fits.0 c.args.topic c.args.delay sends f c.requires.fits.1 c.requires.may in
    let is : c.events_in-events.result ≡ f.events + length sends =
    c.events_in-events.ensures.count ∙ ap₂ (λ h xs. events_of c.args.p.now h xs) (ap (λ g. g.horizon) c.self.view_is) inputs ∙ sym fits.events in
    let few = c.requires.may.few_events in
    omega (arith, is, few)

pub overflow_cast-result-2 : goal.overflow_cast-result-2
overflow_cast-result-2 c =
    let f = c.args.self.now in
    let sends = map send_of c.args.sends.now in
    let inputs = c.in_ok-inputs.ensures ∙ ap (λ g. with_sends c.args.topic c.args.delay sends g.inputs) c.self.view_is in
    let fits = relayed_fits c.args.p.now c.requires.fits.0 c.args.topic c.args.delay sends f c.requires.fits.1 c.requires.may in
    let is : c.numbers_in-numbers.result ≡ f.numbers + send_numbers sends =
    c.numbers_in-numbers.ensures ∙ ap₂ (λ h xs. numbers_of c.args.p.now h xs) (ap (λ g. g.horizon) c.self.view_is) inputs ∙ sym fits.numbers in
    let few = c.requires.may.few_numbers in
    omega (arith, is, few)

pub returns-clause-relayed : goal.returns-clause-relayed
returns-clause-relayed c =
    let sends = map send_of c.args.sends.now in
    let inputs = c.in_ok-inputs.ensures ∙ ap (λ g. with_sends c.args.topic c.args.delay sends g.inputs) c.self.view_is in
    let fits = relayed_fits c.args.p.now c.requires.fits.0 c.args.topic c.args.delay sends c.args.self.now c.requires.fits.1 c.requires.may in
    same_plan _ _ (ap (λ g. g.horizon) c.self.view_is) (c.in_ok-from_slice.ensures.items ∙ c.deref.ensures.value ∙ ap (λ g. g.start) c.self.view_is) inputs
    (c.in_ok-copy_sways.ensures ∙ ap (λ g. g.sways) c.self.view_is) (c.in_ok-copy_crews.ensures ∙ ap (λ g. g.crews) c.self.view_is)
    (c.events_in-events.ensures.count ∙ ap₂ (λ h xs. events_of c.args.p.now h xs) (ap (λ g. g.horizon) c.self.view_is) inputs ∙ sym fits.events)
    (c.numbers_in-numbers.ensures ∙ ap₂ (λ h xs. numbers_of c.args.p.now h xs) (ap (λ g. g.horizon) c.self.view_is) inputs ∙ sym fits.numbers)

pub returns-clause-fits : goal.returns-clause-fits
returns-clause-fits c guests fits =
    subst (FitsFlight c.args.p.now guests) (sym (returns-clause-relayed c))
    (relayed_fits c.args.p.now guests c.args.topic c.args.delay (map send_of c.args.sends.now) c.args.self.now fits c.requires.may)
