use Rattle.std.proofs.Common.{◌≡◌, ◌++◌, drop, map}
use Rattle.sot_flight.specs.Relayed.{send_of}
use Rattle.sot_history_state.specs.Scenes.{IsSceneOf}
use Rattle.sot_bridge.specs.SendLaws.{sends_from, sends_of}
use Rattle.sot_bridge.proofs.history.sends.Given as goal

-- what was found and what is still sent from the scene on is what the history sends
abbrev pub invariant-loop-i : goal.invariant-loop-i
invariant-loop-i l = record {
  told : map send_of l.found.items ++ sends_from l.p l.topic l.scene.scalars (drop l.i l.history.entries) ≡ sends_of l.p l.topic l.history.entries;
  sized : IsSceneOf l.p l.scene;
}
