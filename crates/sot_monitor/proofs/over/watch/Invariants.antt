use Rattle.std.proofs.Common.{◌≡◌, ◌+◌, List, [], ◌++◌, drop, map}
use Rattle.std.specs.Prelude.{sum_by}
use Rattle.sot_trace.specs.Lines.{ticks_in}
use Rattle.sot_formula.specs.Formulas.{Formula}
use Rattle.sot_history_state.specs.Scenes.{moments, IsSceneOf}
use Rattle.sot_monitor.specs.Holding.{Moment, AlwaysHolds}
use Rattle.sot_monitor.specs.Tracking.{StandsFor}
use Rattle.sot_monitor.specs.Moments.{number_in, moments_told}
use Rattle.sot_monitor.proofs.over.watch.Given as goal

-- the moments so far, at all of which the formula held, and those that the scene and the entries
-- that are left tell
abbrev pub invariant-loop-i : goal.invariant-loop-i
invariant-loop-i l = record {
  seen : List Moment;
  told : moments_told l.p l.start l.history.entries ≡ seen ++ map number_in (moments l.p l.scene (drop l.i l.history.entries));
  stands : (x : Formula) → StandsFor l.initial.monitor x [] → StandsFor l.monitor x seen × AlwaysHolds seen x;
  sized : IsSceneOf l.p l.scene;
  whats : l.monitor.whats ≡ l.initial.monitor.whats;
  added : l.monitor.added + sum_by ticks_in (drop l.i l.history.entries) ≡ sum_by ticks_in l.history.entries;
}
