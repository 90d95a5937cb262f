use Rattle.sot_law_guard_fallback.proofs.LineDistrusted.{leaves_sc, stays_sc, only_stays_sc, keeps_command, holds_safe_draft}
use Rattle.sot_law_guard_fallback.proofs.laws.line_is_distrusted.Goals as goal

pub returns : goal.returns
returns c = record {
  leaves_sc = leaves_sc;
  stays_sc = stays_sc;
  only_stays_sc = only_stays_sc;
  keeps_command = keeps_command;
  holds_safe_draft = holds_safe_draft;
}
