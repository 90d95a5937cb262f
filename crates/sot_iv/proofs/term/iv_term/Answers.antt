use Rattle.std.proofs.Common.{sym, ap, ◌∙◌, subst, length}
use Rattle.std.proofs.lemmas.List.{append-nil}
use Rattle.sot_box.specs.Sides.{AreOrdered}
use Rattle.sot_iv.specs.TermIntervals.{IsTermInterval}
use Rattle.sot_iv.specs.Evaluation.{term_interval}
use Rattle.sot_iv.proofs.Terms.{term_is}
use Rattle.sot_iv.proofs.term.iv_term.Goals as goal

pub returns : goal.returns
returns c =
    let t = c.args.t.now in
    let rs = c.args.ranges.now in
    let e = c.interval_of.ensures ∙ ap (term_interval t) (append-nil c.as_slice.result.now ∙ c.as_slice.ensures.value) in
    subst (IsTermInterval t rs) (sym e) (term_is (length rs) t rs (subst AreOrdered c.as_slice.ensures.value c.as_slice.ensures.ordered) c.requires)
