use Rattle.std.proofs.Common.{◌∙◌}
use Rattle.sot_recover.proofs.Grounds.{monotone, hanging, first_lands}
use Rattle.sot_recover.proofs.Ranked.{ranked}
use Rattle.sot_recover.proofs.within.rank_cells.Goals as goal

pub shrink-requires-clause-more : goal.shrink-requires-clause-more
shrink-requires-clause-more c = monotone c.args.ground.now.p.now c.args.ground.now.cert.now c.args.ground.now.«module»

pub shrink-requires-clause-hanging : goal.shrink-requires-clause-hanging
shrink-requires-clause-hanging c =
    hanging c.args.ground.now.p.now c.args.ground.now.cert.now c.args.ground.now.«module» c.args.ground.now.cells c.args.ground.now.hulls c.requires.ground

pub shrink-requires-clause-land : goal.shrink-requires-clause-land
shrink-requires-clause-land c =
    first_lands c.args.ground.now.p.now c.args.ground.now.cert.now c.args.ground.now.«module» c.args.ground.now.cells c.args.ground.now.hulls c.requires.ground
    c.args.set.now c.args.leaving.items c.requires.surveyed

pub grow-requires-clause-more : goal.grow-requires-clause-more
grow-requires-clause-more c = monotone c.args.ground.now.p.now c.args.ground.now.cert.now c.args.ground.now.«module»

pub grow-requires-clause-hanging : goal.grow-requires-clause-hanging
grow-requires-clause-hanging c =
    hanging c.args.ground.now.p.now c.args.ground.now.cert.now c.args.ground.now.«module» c.args.ground.now.cells c.args.ground.now.hulls c.requires.ground

pub returns : goal.returns
returns c =
    ranked c.args.ground.now.p.now c.args.ground.now.cert.now c.args.ground.now.«module» c.args.ground.now.cells c.args.ground.now.hulls c.requires.ground
    c.args.set.now c.shrink.new.set c.args.leaving.items c.grow.new.ranks c.requires.surveyed
    c.in_ok-shrink.ensures.fewer c.in_ok-shrink.ensures.keeps c.in_ok-shrink.ensures.greatest
    (c.in_ok-grow.ensures.size ∙ c.in_ok-shrink.ensures.size ∙ c.requires.surveyed.set_count) c.requires.few c.in_ok-grow.ensures.ranks
