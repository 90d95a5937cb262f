use Rattle.std.proofs.Common.{◌≡◌, ◌<◌, length, refl, sym, ap, ◌∙◌, subst, option_map, arith}
use Rattle.std.proofs.lemmas.List.{length-map}
use Rattle.std.proofs.lemmas.Option.{slice_get_read, same_Some}
use Rattle.sot_lists.specs.Places.{At}
use Rattle.sot_lists.proofs.Places.{at_map}
use Rattle.sot_code.specs.Recorded.{in_slots}
use Rattle.sot_flight.specs.Plans.{Crew}
use Rattle.sot_flight.specs.Stated.{draft_of}
use Rattle.sot_flight.specs.FlightView.{crew_of}
use Rattle.sot_flight.proofs.flight.Flight.stated.Goals as goal

pub stated_draft-requires-clause-fits : goal.stated_draft-requires-clause-fits
stated_draft-requires-clause-fits c =
    let crews = ap (λ f. f.crews) c.self.view_is in
    let below : c.args.node < length c.self.inside.crews.items =
    omega (arith, c.requires.node, c.requires.fits.1.crews, ap length crews, length-map c.self.inside.crews.items crew_of) in
    let is = subst (λ l. At l c.args.node (crew_of c.index.result.now)) crews
    (at_map crew_of c.self.inside.crews.items c.args.node _ (slice_get_read c.self.inside.crews.items _ c.args.node _ refl below c.index.ensures)) in
    λ info at. c.requires.fits.1.crewed c.args.node info _ at is

pub returns : goal.returns
returns c =
    let crews = ap (λ f. f.crews) c.self.view_is in
    let below : c.args.node < length c.self.inside.crews.items =
    omega (arith, c.requires.node, c.requires.fits.1.crews, ap length crews, length-map c.self.inside.crews.items crew_of) in
    let is = subst (λ l. At l c.args.node (crew_of c.index.result.now)) crews
    (at_map crew_of c.self.inside.crews.items c.args.node _ (slice_get_read c.self.inside.crews.items _ c.args.node _ refl below c.index.ensures)) in
    λ info crew at_info at_crew.
    let same : crew_of c.index.result.now ≡ crew = same_Some _ crew (sym is ∙ at_crew) in
    subst (λ (k : Crew). c.stated_draft.result ≡ option_map in_slots (draft_of c.args.p.now info k c.args.firing)) same (c.stated_draft.ensures info at_info)
