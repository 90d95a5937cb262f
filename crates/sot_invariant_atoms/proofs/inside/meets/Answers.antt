use Rattle.std.proofs.Common.{arith}
use Rattle.std.proofs.lemmas.Option.{slice_get_within}
use Rattle.sot_tube.proofs.Certificate.{in_some_box}
use Rattle.sot_invariant_atoms.proofs.inside.meets.Goals as goal

pub returns : goal.returns
returns c s inside w =
    let b = in_some_box c.args.region.now.boxes s inside in
    absurd (c.loop-i.invariant b.0 b.1 (let l = slice_get_within c.args.region.now.boxes b.0 b.1 b.2 in omega (arith, l, c.loop-i-test.false)) b.2 s b.3 w)
