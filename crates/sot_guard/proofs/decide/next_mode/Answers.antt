use Rattle.std.proofs.Common.{sym, ap, ◌∙◌, subst}
use Rattle.std.proofs.lemmas.List.{length-map}
use Rattle.sot_box.specs.Sides.{Side}
use Rattle.sot_box.specs.Regions.{IsInRegion}
use Rattle.sot_lang.specs.TableRules.{MeetsTableRules}
use Rattle.sot_lists.proofs.Places.{at_same, read_at}
use Rattle.sot_world.proofs.Parts.{next_by_keeps, next_by_safer}
use Rattle.sot_guard.proofs.decide.next_mode.Goals as goal

pub has-requires : goal.has-requires
has-requires c =
    let rules = subst MeetsTableRules c.p.view_is c.p.invariant in
    let at = read_at _ _ c.args.module _ (ap (λ t. t.modules) c.p.view_is) c.requires.follow.exists' c.index.ensures in
    sym (length-map c.args.s.now (λ x. let r : Side = record { lo = x; hi = x } in r)) ∙ c.requires.follow.width _ at ∙ sym (rules.modules _ _ at).safer.width

pub returns-in-Ac : goal.returns-in-Ac
returns-in-Ac c =
    λ a at. next_by_keeps c.args.p.now c.args.jitter a c.args.mode c.mode_by.result c.args.s.now c.keeps.result c.in-Ac.is c.mode_by.ensures
    (c.keeps.ensures a at)

pub returns-in-Sc : goal.returns-in-Sc
returns-in-Sc c = λ a at.
    let here = read_at _ _ c.args.module _ (ap (λ t. t.modules) c.p.view_is) c.requires.follow.exists' c.index.ensures in
    let same = at_same c.args.p.now.modules c.args.module _ a here at in
    next_by_safer c.args.p.now c.args.jitter a c.args.mode c.mode_by-in-Sc.result c.args.s.now c.has.result c.in-Sc.is c.mode_by-in-Sc.ensures (
      (λ t. subst (λ x. IsInRegion x.safer.boxes c.args.s.now) same (c.has.ensures.0 t)),
      (λ i. c.has.ensures.1 (subst (λ x. IsInRegion x.safer.boxes c.args.s.now) (sym same) i)),
    )
