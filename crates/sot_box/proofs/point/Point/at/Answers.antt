use Rattle.std.proofs.Common.{pos, get_or, w64, SFits, rules}
use Rattle.std.proofs.lemmas.Int.{to_z-of_z}
use Rattle.sot_box.proofs.Slots.{slot_read}
use Rattle.sot_box.proofs.point.Point.at.Goals as goal

pub returns : goal.returns
returns c =
    let fits : SFits w64 (get_or c.self.inside.at c.args.i (pos 0)) = search rules in
    slot_read _ _ c.self.inside.width c.args.i (pos 0) _ c.self.view_is c.self.told c.self.invariant.1 c.requires (to_z-of_z w64 _ fits)
