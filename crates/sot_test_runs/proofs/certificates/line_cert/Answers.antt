use Rattle.std.proofs.Common.{refl}
use Rattle.sot_test_runs.proofs.Entries.{one_entry}
use Rattle.sot_test_runs.proofs.certificates.line_cert.Goals as goal

pub returns : goal.returns
returns c = one_entry 1 _ _ refl (c.in_ok-closed.ensures, c.in_ok-reach.ensures) c.in_ok-vec.ensures.items
