use Rattle.std.proofs.Common.{sym, ap, ◌∙◌, subst, refl, ◌<◌, length}
use Rattle.std.proofs.lemmas.Bool.{false≢true}
use Rattle.std.proofs.lemmas.Option.{same_Some}
use Rattle.sot_calendar.specs.Due.{IsDueWithin}
use Rattle.sot_lists.proofs.Places.{read_at}
use Rattle.sot_world.proofs.Reading.{read_false}
use Rattle.sot_world.proofs.world.World.can_decide.Goals as goal

pub due_within-requires-clause-period : goal.due_within-requires-clause-period
due_within-requires-clause-period c =
    let same = ap (λ t. t.modules) (c.p.view_is ∙ c.typed-p.ensures.program) ∙ ap (λ s. s.accepted.program.modules) c.self.view_is in
    let here = read_at _ _ c.args.module _ refl (subst (λ l. c.args.module < length l) (sym same) c.requires) c.index-info.ensures in
    (c.p.invariant.modules c.args.module _ here).period

pub returns-then-due_within : goal.returns-then-due_within
returns-then-due_within c =
    let same = ap (λ t. t.modules) (c.p.view_is ∙ c.typed-p.ensures.program) ∙ ap (λ s. s.accepted.program.modules) c.self.view_is in
    let at = read_at _ _ c.args.module _ same c.requires c.index-info.ensures in
    let late = ap (λ k. k.jitter) c.cert.ensures.cert in (
      (
        c.index-info.result.now,
        at,
        subst (λ s. IsDueWithin s.accepted.cert.jitter c.index-info.result.now.period c.index-info.result.now.offset s.at.time)
            c.self.view_is (subst (λ j. IsDueWithin j c.index-info.result.now.period c.index-info.result.now.offset c.self.inside.time) late
            (c.due_within.ensures.0 c.if-due_within.true)),
      ),
      read_false _ _ c.args.module _ (ap (λ s. s.at.left_dm) c.self.view_is) c.index.ensures
          c.if-index.false,
    )

pub returns-else-due_within : goal.returns-else-due_within
returns-else-due_within c =
    let same = ap (λ t. t.modules) (c.p.view_is ∙ c.typed-p.ensures.program) ∙ ap (λ s. s.accepted.program.modules) c.self.view_is in
    let at = read_at _ _ c.args.module _ same c.requires c.index-info.ensures in
    let late = ap (λ k. k.jitter) c.cert.ensures.cert in
    λ d.
    let info = same_Some d.0 c.index-info.result.now (sym d.1 ∙ at) in
    let here = subst (λ x. IsDueWithin c.args.self.now.accepted.cert.jitter x.period x.offset c.args.self.now.at.time) info d.2 in
    false≢true (sym c.if-due_within.false ∙ c.due_within.ensures.1
    (subst (λ j. IsDueWithin j c.index-info.result.now.period c.index-info.result.now.offset c.self.inside.time) (sym late)
    (subst (λ s. IsDueWithin s.accepted.cert.jitter c.index-info.result.now.period c.index-info.result.now.offset s.at.time) (sym c.self.view_is) here)))
