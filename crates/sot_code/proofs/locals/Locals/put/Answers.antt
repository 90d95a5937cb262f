use Rattle.std.proofs.Common.{rules, arith, pos, get_or, FitsSigned, w64, length, drop, ◌≡◌, ◌<◌, ◌∙◌, ap, sym}
use Rattle.std.proofs.lemmas.List.{drop-set-lt, length-take-le}
use Rattle.sot_code.proofs.Filling.{taken_more, read_word}
use Rattle.sot_code.proofs.locals.Locals.put.Goals as goal

pub loop-i-preserved : goal.loop-i-preserved
loop-i-preserved c =
    let k = c.loop-i.invariant in
    let lt = c.loop-i-test.true in
    let before = c.self.invariant in
    let count : length c.args.at.now ≡ c.self.inside.count = c.requires ∙ sym (ap length c.self.view_is)
    ∙ length-take-le c.self.inside.count c.self.inside.at (omega (arith, before.0, before.1)) in
    let inside : c.loop-i.i < length c.loop-i.slots = omega (arith, lt, k.sixteen, count, before.0) in
    let fits : FitsSigned w64 (get_or c.args.at.now c.loop-i.i (pos 0)) = search rules in
    record {
      sixteen = search (rules, k.sixteen);
      taken = taken_more c.loop-i.slots c.args.at.now c.loop-i.i (pos 0) _ inside lt k.taken (read_word _ fits);
      rest = drop-set-lt (length c.args.at.now) c.loop-i.slots c.loop-i.i _ lt ∙ k.rest;
    }

pub invariant_of-self : goal.invariant_of-self
invariant_of-self c =
    let k = c.loop-i.invariant in
    let before = c.self.invariant in
    let count : length c.args.at.now ≡ c.self.inside.count = c.requires ∙ sym (ap length c.self.view_is)
    ∙ length-take-le c.self.inside.count c.self.inside.at (omega (arith, before.0, before.1)) in
    (before.0, k.sixteen, ap (λ n. drop n c.loop-i.slots) (sym count) ∙ k.rest ∙ ap (λ n. drop n c.self.inside.at) count ∙ before.2)
