use Rattle.std.proofs.Common.{◌≡◌, take, Ok, length}
use Rattle.sot_iv.specs.Firings.{state, run_of, turns_of}
use Rattle.sot_iv.proofs.body.+run.Given as goal

abbrev pub invariant-run-loop-one : goal.invariant-run-loop-one
invariant-run-loop-one l = record {
  size : length l.locals ≡ length l.initial.locals;
  slots : length l.draft ≡ length l.initial.draft;
  ends : run_of l.p l.node l.seen (take l.one-index l.acts) (state l.initial.locals l.initial.draft) ≡ Ok (state l.locals l.draft);
}

abbrev pub invariant-turns-loop-turn : goal.invariant-turns-loop-turn
invariant-turns-loop-turn l = record {
  size : length l.locals ≡ length l.initial.locals;
  slots : length l.draft ≡ length l.initial.draft;
  ends : turns_of l.p l.node l.seen l._turn l.acts (state l.initial.locals l.initial.draft) ≡ Ok (state l.locals l.draft);
}
