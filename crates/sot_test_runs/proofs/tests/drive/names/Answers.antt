use Rattle.std.proofs.Common.{sym, subst}
use Rattle.sot_world.specs.Events.{Names}
use Rattle.sot_test_runs.proofs.tests.drive.names.Goals as goal

pub returns-in-Guest : goal.returns-in-Guest
returns-in-Guest c = λ t. subst (Names c.args.p.now) (sym c.in-Guest.is) (c.is_external.ensures t)
