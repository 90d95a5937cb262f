use Rattle.std.proofs.Common.{sym, ap, subst}
use Rattle.std.proofs.lemmas.Option.{slice_get_within}
use Rattle.sot_lists.proofs.Places.{read_at}
use Rattle.sot_lang.specs.TableRules.{MeetsTableRules}
use Rattle.sot_guard.specs.HeldParts.{AnswersHeld}
use Rattle.sot_guard.proofs.HeldTests.{held_told}
use Rattle.sot_guard.proofs.held.is_held.Goals as goal

pub returns : goal.returns
returns c =
    let p = c.args.p.now in
    let rules = subst MeetsTableRules c.p.view_is c.p.invariant in
    let at = read_at _ _ c.args.«module» _ (ap (λ t. t.modules) c.p.view_is) c.requires.follow.exists' c.index-info.ensures in
    let sc = rules.typed.sc_is c.args.«module» c.index-info.result.now at in
    let at_sc = read_at _ _ c.index-info.result.now.sc _ (ap (λ t. t.nodes) c.p.view_is)
    (slice_get_within p.nodes c.index-info.result.now.sc sc.0 sc.2) c.index-node.ensures in
    subst (AnswersHeld p c.args.jitter c.args.time c.args.held.now c.args.s.now c.args.«module») (sym c.is_ok.ensures.value)
    (held_told p c.args.jitter c.args.time c.args.«module» c.args.held.now c.args.s.now c.box_at.result c.index-info.result.now c.index-node.result.now
    c.ticks_until-ticks.result c.held_inside.result at at_sc c.ticks_until-ticks.ensures c.box_at.ensures c.held_inside.ensures)
