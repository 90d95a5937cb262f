use Rattle.std.proofs.Common.{◌≡◌, ◌+◌, ◌*◌, ◌-◌, sym, ap, ◌∙◌, subst, arith, length, [], ◌∷◌, length-append}
use Rattle.sot_recover.specs.Blocks.{AreHullsOf}
use Rattle.sot_recover.proofs.Sides.{block_more}
use Rattle.sot_recover.proofs.index.hulls_of.Goals as goal

pub loop-from-preserved : goal.loop-from-preserved
loop-from-preserved c =
    let l = c.loop-from in
    let lt = c.loop-from-test.true in
    let start : l.from ≡ length l.hulls.items * 64 = l.invariant.block lt in
    let to = l.from + c.min.result in
    let is = c.min.ensures in
    let more : length c.push.new.self.items ≡ length l.hulls.items + 1 = ap length c.in_ok-push.ensures.items
    ∙ length-append l.hulls.items (c.hull_of.result ∷ []) in
    record {
      inside = omega (arith, is, lt);
      passed = omega (arith, is, lt, start, more);
      block = λ below. omega (arith, is, lt, start, more, below);
      few = omega (arith, is, lt, start, more);
      around = subst (AreHullsOf c.args.boxes.now) (sym c.in_ok-push.ensures.items)
          (block_more c.args.boxes.now l.hulls.items l.from (to - l.from) c.hull_of.result start (λ i low below in_list. omega (arith, is, low, below, in_list))
          c.hull_of.ensures.around l.invariant.around);
    }

pub returns : goal.returns
returns c =
    let i = c.loop-from.invariant in
    let end = c.loop-from-test.false in
    let a = i.inside in
    let b = i.passed in
    let f = i.few in
    record { widths = c.requires; whole = omega (arith, end, a, b); few = omega (arith, end, a, f); around = i.around }
