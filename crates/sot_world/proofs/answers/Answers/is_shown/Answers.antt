use Rattle.std.proofs.Common.{sym, ap, ◌∙◌, subst}
use Rattle.std.proofs.lemmas.List.{length-map}
use Rattle.sot_box.specs.Sides.{Side}
use Rattle.sot_box.specs.Regions.{IsInRegion}
use Rattle.sot_lang.specs.TableRules.{MeetsTableRules}
use Rattle.sot_tube.specs.Certified.{IsWellCertified}
use Rattle.sot_lists.proofs.Places.{at_same, read_at}
use Rattle.sot_world.proofs.answers.Answers.is_shown.Goals as goal

pub has-requires : goal.has-requires
has-requires c =
    let program = c.p.view_is ∙ c.typed-p.ensures.program ∙ ap (λ x. x.program) c.self.view_is in
    let rules = subst MeetsTableRules program c.p.invariant in
    let at = read_at _ _ c.args.module _ (ap (λ t. t.modules) program) c.requires.exists' c.index.ensures in
    sym (length-map c.args.s.now (λ x. let r : Side = record { lo = x; hi = x } in r)) ∙ c.requires.width _ at ∙ sym (rules.modules _ _ at).safer.width

pub returns : goal.returns
returns c yes_ a at =
    let now = c.args.self.now in
    let program = c.p.view_is ∙ c.typed-p.ensures.program ∙ ap (λ x. x.program) c.self.view_is in
    let rules = subst MeetsTableRules program c.p.invariant in
    let certified = subst (λ x. IsWellCertified x.program x.cert.jitter x.cert) c.self.view_is c.typed-p.ensures.certified in
    let here = read_at _ _ c.args.module _ (ap (λ t. t.modules) program) c.requires.exists' c.index.ensures in
    let same = at_same now.program.modules c.args.module _ a here at in
    c.safer_points_are_kept.ensures now.program now.cert c.args.module a c.args.s.now rules certified at
    (subst (λ x. IsInRegion x.safer.boxes c.args.s.now) same (c.has.ensures.0 yes_))
