use Rattle.std.proofs.Common.{List, subst}
use Rattle.sot_lists.proofs.Places.{at_same}
use Rattle.sot_box.specs.Sides.{Side}
use Rattle.sot_recover.specs.Meeting.{Meet}
use Rattle.sot_recover.proofs.ground.put_meeting_hulls.Goals as goal

pub returns : goal.returns
returns c i h =
    let same = at_same c.args.cells.now c.args.j h.0 c.at.result h.2 c.at.ensures in
    (c.in_ok-put_meeting.ensures.places i).1 (h.1, h.3, subst (λ (q : List Side). Meet h.1 q) same h.4)
