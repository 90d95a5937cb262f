use Rattle.std.proofs.Common.{arith, ◌≡◌, ◌+◌, ◌*◌, get_or, sym, ap, ◌∙◌, subst}
use Rattle.std.specs.Prelude.{IsTrue, ◌↔◌}
use Rattle.sot_lang.specs.Tables.{Tables}
use Rattle.sot_lang.specs.TableRules.{MeetsTableRules}
use Rattle.sot_box.specs.Boxes.{point_box}
use Rattle.sot_lists.proofs.Places.{at_same}
use Rattle.sot_tube.specs.Tubes.{Keeps}
use Rattle.sot_tube.specs.Calls.{AnswersAnyTube}
use Rattle.sot_tube.proofs.Follows.{info_at}
use Rattle.sot_tube.proofs.Kept.{keeps_exactly}
use Rattle.sot_tube.proofs.keep.keeps.Goals as goal

pub overflow_add-period : goal.overflow_add-period
overflow_add-period c =
    let p = c.args.p.now in
    let rules' : MeetsTableRules p = subst MeetsTableRules c.p.view_is c.p.invariant in
    let info = c.index.result.now in
    let info_is : info ≡ get_or p.modules c.args.module info = c.index.ensures ∙ ap (λ (t : Tables). get_or t.modules c.args.module info) c.p.view_is in
    let at = info_at p rules' c.args.module (point_box c.args.s.now) c.requires.follow info info_is in
    let short = (rules'.modules c.args.module info at).period in
    omega (arith, short, c.requires.jitter)

pub overflow_mul-period : goal.overflow_mul-period
overflow_mul-period c =
    let p = c.args.p.now in
    let rules' : MeetsTableRules p = subst MeetsTableRules c.p.view_is c.p.invariant in
    let info = c.index.result.now in
    let info_is : info ≡ get_or p.modules c.args.module info = c.index.ensures ∙ ap (λ (t : Tables). get_or t.modules c.args.module info) c.p.view_is in
    let at = info_at p rules' c.args.module (point_box c.args.s.now) c.requires.follow info info_is in
    let short = (rules'.modules c.args.module info at).period in
    omega (arith, short, c.requires.jitter)

pub returns : goal.returns
returns c a at_a =
    let p = c.args.p.now in
    let rules' : MeetsTableRules p = subst MeetsTableRules c.p.view_is c.p.invariant in
    let info = c.index.result.now in
    let info_is : info ≡ get_or p.modules c.args.module info = c.index.ensures ∙ ap (λ (t : Tables). get_or t.modules c.args.module info) c.p.view_is in
    let at = info_at p rules' c.args.module (point_box c.args.s.now) c.requires.follow info info_is in
    let same = ap (λ x. x.period) (at_same p.modules c.args.module info a at at_a) in
    let long : 2 * (info.period + c.args.jitter) ≡ 2 * (a.period + c.args.jitter) = omega (arith, same) in
    let told : AnswersAnyTube p c.args.module (point_box c.args.s.now) (2 * (info.period + c.args.jitter)) c.any_inside.result =
    subst (λ b. AnswersAnyTube p c.args.module b (2 * (info.period + c.args.jitter)) c.any_inside.result) c.box_at.ensures c.any_inside.ensures in
    subst (λ t. IsTrue t ↔ Keeps p c.args.jitter a c.args.s.now) (sym c.is_ok.ensures.value)
    (keeps_exactly p c.args.jitter c.args.module c.args.s.now (2 * (info.period + c.args.jitter)) a c.any_inside.result rules'.typed at_a long told)
