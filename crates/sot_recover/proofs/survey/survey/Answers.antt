use Rattle.std.proofs.Common.{List, subst}
use Rattle.sot_lists.specs.Places.{At}
use Rattle.sot_box.specs.Sides.{Side}
use Rattle.sot_recover.proofs.Surveyed.{surveyed_more}
use Rattle.sot_recover.proofs.survey.survey.Goals as goal

pub find-requires-clause-closed : goal.find-requires-clause-closed
find-requires-clause-closed c g = (c.loop-i.i, subst (λ (cs : List (List Side)). At cs c.loop-i.i c.at.result) (c.requires.cells_are g) c.at.ensures.place)

pub loop-i-preserved : goal.loop-i-preserved
loop-i-preserved c =
    let l = c.loop-i in
    let f = c.in_ok-found.found in
    let n = c.in_ok-note.ensures in
    surveyed_more c.args.p.now c.args.cert.now c.args.«module» l.i c.args.cells.now.boxes l.hulls.items l.set.items l.leaving.items l.invariant c.at.result
    f.hull c.at.ensures.place f.stays
    c.in_ok-found.ensures.hull c.in_ok-found.ensures.stays c.note.new.hulls.items c.note.new.set.items c.note.new.leaving.items n.hulls n.set n.leaving
