use Rattle.sot_guard_protocol.proofs.Due.{begins_heard}
use Rattle.sot_guard_protocol.proofs.laws.begins_names_who_is_heard.Goals as goal

pub returns : goal.returns
returns c = begins_heard
