use Rattle.std.proofs.Common.{◌∙◌, Some, sym, ap}
use Rattle.sot_board.specs.Standing.{Standing}
use Rattle.sot_turn.specs.Passes.{pass_ground, pass_seen}
use Rattle.sot_workers.proofs.Placing.{ground_same}
use Rattle.sot_workers.proofs.Landing.{whole_is}
use Rattle.sot_workers.proofs.crewed.close.Goals as goal

pub returns-clause-whole : goal.returns-clause-whole
returns-clause-whole g c = λ a f whole is seen.
    let b = c.close-ordered.result in
    let same = ground_same (pass_ground c.args.pass) a b.accepted f b.plan is c.close-ordered.ensures.ground in
    ap (λ (s : Standing). s.entries) c.into_board.ensures.same
    ∙ whole_is a b.accepted f b.plan whole (pass_seen c.args.pass) b.entries b.position same seen c.close-ordered.ensures.goes_on
    c.reveal_invariant.ensures.flown

pub returns-clause-ground : goal.returns-clause-ground
returns-clause-ground g c = c.close-ordered.ensures.ground ∙ ap (λ (s : Standing). Some (s.accepted, s.plan)) (sym c.into_board.ensures.same)
