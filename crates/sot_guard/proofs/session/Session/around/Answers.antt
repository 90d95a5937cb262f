use Rattle.std.proofs.Common.{None, false, replicate}
use Rattle.sot_guard.proofs.AlongSession.{items_are}
use Rattle.sot_guard.proofs.session.Session.around.Goals as goal

pub returns-clause-no_drafts : goal.returns-clause-no_drafts
returns-clause-no_drafts c = record {
  drafts = λ n. items_are _ _ (replicate 8 None) n c.in_ok-drafts.ensures;
  drafted = λ n. items_are _ _ false n c.in_ok-drafted.ensures;
}
