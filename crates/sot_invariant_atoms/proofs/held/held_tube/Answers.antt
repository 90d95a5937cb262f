use Rattle.sot_invariant_atoms.proofs.held.held_tube.Goals as goal

pub returns-in-Some-clause-apart : goal.returns-in-Some-clause-apart
returns-in-Some-clause-apart c e box within h =
    let k = c.in-Some.ensures in
    c.follow.ensures.apart e k.held k.seen k.info k.goes k.ordered k.is (k.narrower c.args.grid.now c.args.set.now box within h)
