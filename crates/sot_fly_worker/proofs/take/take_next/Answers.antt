use Rattle.std.proofs.Common.{◌∙◌, [], refl, sym, ap, subst}
use Rattle.std.proofs.lemmas.List.{append-nil}
use Rattle.sot_turn.specs.Prefixes.{IsPrefix}
use Rattle.sot_turn.specs.Passes.{pass_seen, pass_added}
use Rattle.sot_board.specs.Versions.{drafts_of}
use Rattle.sot_fly_worker.specs.Holds.{HasNode}
use Rattle.sot_fly_worker.proofs.Arms.{nothing_added}
use Rattle.sot_fly_worker.proofs.Firing.{goes_here, goes_further}
use Rattle.sot_fly_worker.proofs.take.take_next.Goals as goal

pub loop-init : goal.loop-init
loop-init g c = record { lock = refl; ground = refl; seen = goes_here (pass_seen c.args.pass); added = refl; drafts = c.requires.drafts }

pub take_in_step-held-requires-clause-there : goal.take_in_step-held-requires-clause-there
take_in_step-held-requires-clause-there g c = subst (λ k. HasNode k c.args.node) (sym c.loop.invariant.ground) c.requires.there

pub give-pass-requires-clause-goes_on : goal.give-pass-requires-clause-goes_on
give-pass-requires-clause-goes_on g c = ([], ap (λ b. b.entries) c.lend.ensures.value ∙ sym c.take_in_step-held.ensures.seen ∙ sym (append-nil _))

pub loop-preserved : goal.loop-preserved
loop-preserved g c =
    let inv = c.loop.invariant in
    let held = c.take_in_step-held.ensures in
    let value = c.lend.ensures.value in
    let gave = c.give-pass.ensures in
    let b = c.lend.result.now in
    let on : IsPrefix (pass_seen c.loop.pass) b.entries = subst (λ x. IsPrefix (pass_seen c.loop.pass) x.entries) (sym value) held.goes_on in
    let nothing = nothing_added (pass_added c.loop.pass) _ _ _ b.entries gave.added held.added (held.seen ∙ ap (λ x. x.entries) (sym value)) in
    record {
      lock = gave.lock ∙ (held.lock ∙ inv.lock);
      ground = gave.ground ∙ (held.ground ∙ inv.ground);
      seen = subst (λ es. IsPrefix (pass_seen c.args.pass) es) (sym gave.seen)
          (goes_further (pass_seen c.args.pass) (pass_seen c.loop.pass) b.entries inv.seen on);
      added = nothing ∙ inv.added;
      drafts = sym (ap (drafts_of c.args.node) gave.seen ∙ (ap (λ x. drafts_of c.args.node x.entries) value ∙ held.in_step));
    }

pub returns-then-is_next-clause-goes_on : goal.returns-then-is_next-clause-goes_on
returns-then-is_next-clause-goes_on g c =
    let b = c.lend.result.now in
    let on : IsPrefix (pass_seen c.loop.pass) b.entries =
    subst (λ x. IsPrefix (pass_seen c.loop.pass) x.entries) (sym c.lend.ensures.value) c.take_in_step-held.ensures.goes_on in
    goes_further (pass_seen c.args.pass) (pass_seen c.loop.pass) b.entries c.loop.invariant.seen on

pub returns-then-is_next-clause-next : goal.returns-then-is_next-clause-next
returns-then-is_next-clause-next g c = c.is_next.ensures c.if-is_next.true
