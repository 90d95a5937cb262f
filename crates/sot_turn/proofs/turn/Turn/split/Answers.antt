use Rattle.std.proofs.Common.{rules}
use Rattle.sot_turn.proofs.Splitting.{splits_keep}
use Rattle.sot_turn.proofs.turn.Turn.split.Goals as goal

pub split_seat-other-requires : goal.split_seat-other-requires
split_seat-other-requires g c =
    (search rules, search rules, splits_keep g.G.Journal.ground g.G.Journal.entries _ _ c.args.pass.grounded)
