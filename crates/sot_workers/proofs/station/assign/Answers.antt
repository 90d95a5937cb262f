use Rattle.std.proofs.Common.{ap, vec_capacity}
use Rattle.sot_turn.specs.Passes.{lock_of}
use Rattle.sot_workers.proofs.station.assign.Goals as goal

pub stay-requires-clause-none : goal.stay-requires-clause-none
stay-requires-clause-none g c = c.requires.ready.no_drafts

pub returns-else-is_tried-clause-station : goal.returns-else-is_tried-clause-station
returns-else-is_tried-clause-station g c = c.stay.ensures.station (lock_of c.args.turn.now) c.args.shift c.requires.ready.lock_is

pub returns-else-is_tried-clause-room : goal.returns-else-is_tried-clause-room
returns-else-is_tried-clause-room g c = λ list at none. ap vec_capacity (c.stay.ensures.room list at)
