use Rattle.std.proofs.Common.{◌<◌, length, sym, ap, ◌∙◌, subst, arith}
use Rattle.std.proofs.lemmas.Option.{slice_get_within}
use Rattle.sot_lists.specs.Places.{At}
use Rattle.sot_lists.proofs.Places.{read_or}
use Rattle.sot_flight.specs.Fits.{FitsFlight}
use Rattle.sot_board.specs.Flown.{fired_of}
use Rattle.sot_board.specs.Standing.{IsStanding}
use Rattle.sot_board.proofs.Crews.{crew_drafts, stated_is, slots_same, some_answer}
use Rattle.sot_board.proofs.board.Board.commit_stated.Goals as goal

pub stated-requires : goal.stated-requires
stated-requires c =
    let b = c.self.inside in
    let external = c.requires.external in
    let there = slice_get_within c.args.self.now.accepted.program.nodes c.args.node external.0 external.1 in
    let same = c.typed-p.ensures ∙ ap (λ s. s.accepted.program) c.self.view_is in
    record {
      fits = (
        c.self.invariant.has.standing.guests,
        subst (λ t. FitsFlight t c.self.invariant.has.standing.guests b.flight.now) (sym c.typed-p.ensures)
            c.self.invariant.has.standing.fits,
      );
      node = subst (λ t. c.args.node < length t.nodes) (sym same) there;
    }

pub unwrap-draft-requires : goal.unwrap-draft-requires
unwrap-draft-requires c =
    let s = c.args.self.now in
    let b = c.self.inside in
    let is = subst IsStanding c.self.view_is c.self.invariant.has.standing in
    let crew = crew_drafts s is c.args.node c.requires.external c.requires.no_guest in
    let same = c.typed-p.ensures ∙ ap (λ x. x.accepted.program) c.self.view_is in
    let there = slice_get_within s.accepted.program.nodes c.args.node crew.0 crew.2 in
    let lt : c.args.node < length b.fired.items = omega (arith, there, ap (λ x. length x.position.fired) c.self.view_is, is.fired_each) in
    let firing = read_or b.fired.items c.args.node c.index-firing.result.now 0 lt c.index-firing.ensures
    ∙ ap (λ x. fired_of x.position c.args.node) c.self.view_is in
    let told = c.stated.ensures crew.0 crew.1 (subst (λ t. At t.nodes c.args.node crew.0) (sym same) crew.2)
    (subst (λ x. At x.plan.crews c.args.node crew.1) (sym c.self.view_is) crew.3) in
    some_answer c.typed-p.result.now s.accepted.program crew.0 crew.1 c.index-firing.result.now (fired_of s.position c.args.node) c.stated.result crew.5.0 same
    firing told crew.5.1

pub fire_guest-requires-clause-stated : goal.fire_guest-requires-clause-stated
fire_guest-requires-clause-stated c =
    let s = c.args.self.now in
    let b = c.self.inside in
    let is = subst IsStanding c.self.view_is c.self.invariant.has.standing in
    let crew = crew_drafts s is c.args.node c.requires.external c.requires.no_guest in
    let same = c.typed-p.ensures ∙ ap (λ x. x.accepted.program) c.self.view_is in
    let there = slice_get_within s.accepted.program.nodes c.args.node crew.0 crew.2 in
    let lt : c.args.node < length b.fired.items = omega (arith, there, ap (λ x. length x.position.fired) c.self.view_is, is.fired_each) in
    let firing = read_or b.fired.items c.args.node c.index-firing.result.now 0 lt c.index-firing.ensures
    ∙ ap (λ x. fired_of x.position c.args.node) c.self.view_is in
    let told = c.stated.ensures crew.0 crew.1 (subst (λ t. At t.nodes c.args.node crew.0) (sym same) crew.2)
    (subst (λ x. At x.plan.crews c.args.node crew.1) (sym c.self.view_is) crew.3) in
    let slots = slots_same c.typed-p.result.now s.accepted.program crew.0 crew.1 c.index-firing.result.now (fired_of s.position c.args.node) c.stated.result
    crew.5.0 c.unwrap-draft.result same firing told crew.5.1 c.unwrap-draft.ensures in
    stated_is s c.args.node crew.0 crew.1 crew.5.0 c.unwrap-draft.result crew.2 crew.3 crew.4 crew.5.1 slots

pub returns : goal.returns
returns c = (_, c.fire_guest.ensures)
