use Rattle.std.proofs.Common.{subst}
use Rattle.sot_board.specs.Standing.{IsStanding}
use Rattle.sot_board.proofs.Committing.{run_now}
use Rattle.sot_board.proofs.board.Board.commit_code.Goals as goal

pub commit_run-requires-clause-run : goal.commit_run-requires-clause-run
commit_run-requires-clause-run c =
    run_now c.args.self.now (subst IsStanding c.self.view_is c.self.invariant.has.standing) c.args.view c.args.fired.now c.requires.taken
    (c.is_current.ensures.0 c.if-not-is_current.false) c.requires.left c.requires.ran
