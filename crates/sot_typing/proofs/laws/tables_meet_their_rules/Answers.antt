-- Of `tables_meet_their_rules`: its promises.
use Rattle.sot_typing.proofs.Meets.{tables_meet}
use Rattle.sot_typing.proofs.laws.tables_meet_their_rules.Goals as goal

pub returns : goal.returns
returns c = record { met = tables_meet }
