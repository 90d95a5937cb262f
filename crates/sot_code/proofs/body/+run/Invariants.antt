use Rattle.std.proofs.Common.{◌≡◌, take, drop, length, Ok}
use Rattle.sot_code.specs.Firings.{fired_at, run_of, turns_of}
use Rattle.sot_code.proofs.body.+run.Given as goal

abbrev pub invariant-run-loop-one : goal.invariant-run-loop-one
invariant-run-loop-one l = record {
  read : take (length l.node.reads.items) l.numbers ≡ take (length l.node.reads.items) l.initial.numbers;
  size : length l.numbers ≡ length l.initial.numbers;
  slots : length l.draft ≡ length l.initial.draft;
  unused : drop (length l.node.writes.items) l.draft ≡ drop (length l.node.writes.items) l.initial.draft;
  ends : run_of l.p l.node l.initial.numbers (take l.one-index l.acts) (fired_at l.node l.initial.numbers l.initial.draft)
      ≡ Ok (fired_at l.node l.numbers l.draft);
}

abbrev pub invariant-turns-loop-turn : goal.invariant-turns-loop-turn
invariant-turns-loop-turn l = record {
  read : take (length l.node.reads.items) l.numbers ≡ take (length l.node.reads.items) l.initial.numbers;
  size : length l.numbers ≡ length l.initial.numbers;
  slots : length l.draft ≡ length l.initial.draft;
  unused : drop (length l.node.writes.items) l.draft ≡ drop (length l.node.writes.items) l.initial.draft;
  ends : turns_of l.p l.node l.initial.numbers l._turn l.acts (fired_at l.node l.initial.numbers l.initial.draft) ≡ Ok (fired_at l.node l.numbers l.draft);
}
