use Rattle.sot_guard_protocol.proofs.Due.{ready_heard}
use Rattle.sot_guard_protocol.proofs.laws.ready_names_who_is_heard.Goals as goal

pub returns : goal.returns
returns c = ready_heard
