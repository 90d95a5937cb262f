use Rattle.sot_lists.proofs.Places.{at_below}
use Rattle.sot_regions_program.proofs.Forms.{tells_grain, tells_beside}
use Rattle.sot_regions_program.proofs.search.nothing_left.Goals as goal

pub returns-then-is_alone : goal.returns-then-is_alone
returns-then-is_alone c = λ jitter tells.
    tells_grain c.args.p.now jitter c.args.«module» c.args.grain c.requires.there (c.is_alone.ensures.yes c.if-is_alone.true) tells

pub returns-else-is_alone : goal.returns-else-is_alone
returns-else-is_alone c = λ jitter tells.
    let a = at_below c.args.p.now.modules c.args.«module» c.requires.there in
    tells_beside c.args.p.now jitter c.args.«module» c.args.grain c.requires.there
    (λ alone. let yes = c.is_alone.ensures.no a.0 a.1 (alone a.0 a.1) in let no = c.if-is_alone.false in absurd cc)
