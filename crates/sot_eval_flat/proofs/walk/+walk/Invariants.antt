use Rattle.std.proofs.Common.{◌≡◌, false, take, length}
use Rattle.sot_eval_flat.specs.Flows.{FlowAll, Rounds, state}
use Rattle.sot_eval_flat.proofs.walk.+walk.Given as goal

abbrev pub invariant-walk-loop-one : goal.invariant-walk-loop-one
invariant-walk-loop-one l = record {
  first : l.trapped ≡ false → l.initial.trapped ≡ false;
  goes : l.trapped ≡ false → FlowAll (take l.one-index l.steps) (state l.initial.room l.initial.draft) (state l.room l.draft);
  size : length l.room ≡ 256;
}

abbrev pub invariant-turns-loop-turn : goal.invariant-turns-loop-turn
invariant-turns-loop-turn l = record {
  first : l.trapped ≡ false → l.initial.trapped ≡ false;
  goes : l.trapped ≡ false → Rounds l._turn (FlowAll l.steps) (state l.initial.room l.initial.draft) (state l.room l.draft);
  size : length l.room ≡ 256;
}
