use Rattle.std.proofs.Common.{◌∙◌, subst}
use Rattle.sot_box.specs.Boxes.{lows}
use Rattle.sot_box.specs.Regions.{IsInRegion}
use Rattle.sot_box.proofs.Ranges.{lows_within}
use Rattle.sot_atoms.proofs.Points.{fits_length}
use Rattle.sot_atoms.proofs.Boxes.{clip_in, off_hull}
use Rattle.sot_invariant_atoms.proofs.inside.atoms_of.Goals as goal

pub returns-in_default-clip-clause-holds : goal.returns-in_default-clip-clause-holds
returns-in_default-clip-clause-holds c finest s at inside long holds =
    absurd (off_hull c.args.grid.now c.axes-axes.ensures.cut c.in-Some.hull at s c.in_default-clip.ensures.places
    (c.in-Some.ensures.least.holds s inside) holds)

pub returns-clause-holds : goal.returns-clause-holds
returns-clause-holds c finest s at inside long holds =
    let cut = c.axes-axes.ensures.cut in
    c.put_covered.ensures.holds finest s at inside long holds
    (clip_in c.args.grid.now cut c.in-Some.hull c.in-Some-clip.block (c.in-Some.ensures.width ∙ c.requires)
    (fits_length c.args.grid.now.axes c.in-Some-clip.block c.in-Some-clip.ensures.fits ∙ cut.four) at s c.in-Some-clip.ensures.places
    (c.in-Some.ensures.least.holds s inside) holds)

pub returns-in_default-clip-clause-covered : goal.returns-in_default-clip-clause-covered
returns-in_default-clip-clause-covered c at box atom covered =
    let w = lows_within box atom.ordered in
    absurd (off_hull c.args.grid.now c.axes-axes.ensures.cut c.in-Some.hull at (lows box) c.in_default-clip.ensures.places
    (c.in-Some.ensures.least.holds (lows box) (covered (lows box) w)) (atom.points (lows box) w))

pub returns-clause-covered : goal.returns-clause-covered
returns-clause-covered c at box atom covered =
    let cut = c.axes-axes.ensures.cut in
    let w = lows_within box atom.ordered in
    c.put_covered.ensures.covered at box atom covered
    (clip_in c.args.grid.now cut c.in-Some.hull c.in-Some-clip.block (c.in-Some.ensures.width ∙ c.requires)
    (fits_length c.args.grid.now.axes c.in-Some-clip.block c.in-Some-clip.ensures.fits ∙ cut.four) at (lows box) c.in-Some-clip.ensures.places
    (c.in-Some.ensures.least.holds (lows box) (covered (lows box) w)) (atom.points (lows box) w))

pub returns-in_default-clause-covered : goal.returns-in_default-clause-covered
returns-in_default-clause-covered c at box atom covered =
    absurd (subst (λ r. IsInRegion r (lows box)) c.in_default.ensures.least (covered (lows box) (lows_within box atom.ordered)))
