use Rattle.std.proofs.Common.{◌+◌, sym, subst, arith}
use Rattle.sot_recover.specs.Blocks.{RiseBelow}
use Rattle.sot_recover.proofs.Rising.{rise_more, rise_up}
use Rattle.sot_recover.proofs.index.put_one.Goals as goal

pub returns-then-not-meet-clause-once : goal.returns-then-not-meet-clause-once
returns-then-not-meet-clause-once c rise = rise_up c.args.i (c.args.i + 1) c.args.found.now.items (omega arith) rise

pub returns-clause-once : goal.returns-clause-once
returns-clause-once c rise =
    subst (RiseBelow (c.args.i + 1)) (sym c.in_ok-push.ensures.items) (rise_more c.args.found.now.items c.args.i rise)
