use Rattle.std.proofs.Common.{rules, w64, SFits, get_or, sym, ap, ◌∙◌}
use Rattle.std.proofs.lemmas.Int.{to_z-of_z}
use Rattle.sot_guard.proofs.HeldTests.{first_more, side_at}
use Rattle.sot_guard.proofs.held.put_first_commands.Goals as goal

pub loop-i-preserved : goal.loop-i-preserved
loop-i-preserved c =
    let x = c.index-scalars-inputs.result in
    let y = get_or c.args.scalars.now (get_or c.args.inputs.now c.loop-i.i 0) x in
    let fits : SFits w64 y.init = search rules in
    let told = ap side_at (to_z-of_z w64 y.init fits ∙ ap (λ s. s.init) (sym c.index-scalars-inputs.is)) in
    first_more c.args.scalars.now c.args.inputs.now c.loop-i.i x _ c.args.sides.now c.loop-i.sides c.push.new.self c.loop-i-test.true c.requires.there
    c.index-scalars-inputs.is c.loop-i.invariant told c.push.ensures
