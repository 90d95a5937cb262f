use Rattle.std.proofs.Common.{ℕ, List, [], false, Option, refl, inr, subst, IfOk}
use Rattle.sot_ports.specs.Faults.{Rose}
use Rattle.sot_ports.specs.Outside.{outside}
use Rattle.sot_cli.specs.Texts.{input_limit}
use Rattle.sot_guard_input.specs.declared.piece.FrontFail.{FrontFail}
use Rattle.sot_guard_input.specs.Reading.{Reads, IfFails}
use Rattle.sot_guard_input.specs.Fronts.{Comes, IsTooLong}
use Rattle.sot_guard_program.specs.Ends.{ears_at}
use Rattle.sot_guard_program.specs.Moments.{ears, mouth, Ended}
use Rattle.sot_guard_program.specs.Says.{SaysMission, SaysAll}
use Rattle.sot_guard_program.specs.Beginning.{SaysUnmarked}
use Rattle.sot_guard_input.proofs.Marks.{marked_within}
use Rattle.sot_guard_program.proofs.Passing.{ended_quiet}
use Rattle.sot_guard_program.proofs.Judged.{answered}
use Rattle.sot_guard_program.proofs.Results.{divided, failed, unmarked_result, long_result}
use Rattle.sot_guard_program.proofs.top.attend.Goals as goal

-- why there is no front
abbrev Fails : Option (List ℕ) → Option (List ℕ) → ℕ → ℕ → List ℕ → FrontFail → Type 0
Fails left left_after faults faults_after waiting why =
    (passed : List ℕ) × Reads left left_after [] waiting passed × IfFails why (Rose faults faults_after) (IsTooLong passed waiting input_limit)

pub accept-requires-clause-horizon : goal.accept-requires-clause-horizon
accept-requires-clause-horizon g c κs lives =
    let left = g.S.Source.left in
    let read = c.read_front.new in
    let comes = subst (Comes (left c.args.source.now) (left read.source) read.ear input_limit) c.in-Ok-Observed.field-0-is c.in-Ok-Observed.ensures.front in
    marked_within comes.0 c.in-Ok-Observed.time comes.2.is

pub returns-in-Ok-Observed : goal.returns-in-Ok-Observed
returns-in-Ok-Observed g c =
    let left = g.S.Source.left in
    let fails = g.S.Source.faults in
    let held = g.K.Sink.held in
    let faults = g.K.Sink.faults in
    let first = c.args.source.now in
    let sink = c.args.sink.now in
    let read = c.read_front.new in
    let last = c.accept.new in
    let front = c.in-Ok-Observed.front.items in
    let e = ears_at (outside (left first) (held sink) (fails first) (faults sink)) [] false in
    let m = ears (left read.source) (fails read.source) read.ear in
    let f = ears (left last.source) (fails last.source) last.ear in
    let x = mouth (held sink) (faults sink) in
    let y = mouth (held last.sink) (faults last.sink) in
    let comes = subst (Comes (left first) (left read.source) read.ear input_limit) c.in-Ok-Observed.field-0-is c.in-Ok-Observed.ensures.front in
    record {
      waiting = last.ear.buffer;
      ended = last.ear.ended;
      is =
          divided c.in-Ok-Observed.time front comes.0 e m f x y c.accept.result.0 comes.1 comes.2 comes.3.short
          (record { reads = comes.3.reads; well = c.in-Ok-Observed.ensures.well (λ other. absurd cc) })
          (subst (λ (l : List ℕ). Ended (SaysMission c.in-Ok-Observed.time l) m f x y c.accept.result.0) c.deref.ensures.value c.accept.ensures);
    }

pub returns-in-Ok-Unobserved : goal.returns-in-Ok-Unobserved
returns-in-Ok-Unobserved g c =
    let left = g.S.Source.left in
    let fails = g.S.Source.faults in
    let held = g.K.Sink.held in
    let faults = g.K.Sink.faults in
    let first = c.args.source.now in
    let sink = c.args.sink.now in
    let read = c.read_front.new in
    let bytes = c.in-Ok-Unobserved.text.items in
    let r = c.unobserved.result in
    let e = ears_at (outside (left first) (held sink) (fails first) (faults sink)) [] false in
    let m = ears (left read.source) (fails read.source) read.ear in
    let comes = subst (Comes (left first) (left read.source) read.ear input_limit) c.in-Ok-Unobserved.field-0-is c.in-Ok-Unobserved.ensures.front in
    let end = comes.2.settled comes.1 in
    let text = subst (λ (l : List ℕ). IfOk r (λ a. SaysUnmarked l a.text.items)) c.deref-in-Ok-Unobserved.ensures.value c.unobserved.ensures.text in
    record {
      waiting = read.ear.buffer;
      ended = read.ear.ended;
      is =
          answered e m (mouth (held sink) (faults sink)) (mouth (held c.tell.new.sink) (faults c.tell.new.sink)) c.tell.result.0 SaysAll bytes r
          (record { reads = comes.2.reads; well = c.in-Ok-Unobserved.ensures.well (λ other. absurd cc) })
          (unmarked_result r bytes m comes.0 (comes.1, end.0, end.1) comes.2.short c.unobserved.ensures.status text)
          (inr (inr (inr (inr (refl, refl))))) c.tell.ensures;
    }

pub returns-in-Err-Fault : goal.returns-in-Err-Fault
returns-in-Err-Fault g c =
    let left = g.S.Source.left in
    let fails = g.S.Source.faults in
    let held = g.K.Sink.held in
    let faults = g.K.Sink.faults in
    let first = c.args.source.now in
    let sink = c.args.sink.now in
    let read = c.read_front.new in
    let e = ears_at (outside (left first) (held sink) (fails first) (faults sink)) [] false in
    let m = ears (left read.source) (fails read.source) read.ear in
    let why = subst (Fails (left first) (left read.source) (fails first) (fails read.source) read.ear.buffer) c.in-Err-Fault.field-0-is
    c.in-Err-Fault.ensures.fails in
    record { waiting = read.ear.buffer; ended = read.ear.ended; is = failed e m (mouth (held sink) (faults sink)) why.0 why.1 why.2 }

pub returns-in-Err-TooLong : goal.returns-in-Err-TooLong
returns-in-Err-TooLong g c =
    let left = g.S.Source.left in
    let fails = g.S.Source.faults in
    let held = g.K.Sink.held in
    let faults = g.K.Sink.faults in
    let first = c.args.source.now in
    let sink = c.args.sink.now in
    let read = c.read_front.new in
    let told = c.tell-in-Err-TooLong in
    let r = c.too_long.result in
    let e = ears_at (outside (left first) (held sink) (fails first) (faults sink)) [] false in
    let m = ears (left read.source) (fails read.source) read.ear in
    let is = c.in-Err-TooLong.field-0-is in
    let why = subst (Fails (left first) (left read.source) (fails first) (fails read.source) read.ear.buffer) is c.in-Err-TooLong.ensures.fails in
    record {
      waiting = read.ear.buffer;
      ended = read.ear.ended;
      is =
          answered e m (mouth (held sink) (faults sink)) (mouth (held told.new.sink) (faults told.new.sink)) told.result.0 SaysAll why.0 r
          (record { reads = why.1; well = c.in-Err-TooLong.ensures.well (λ other. absurd cc) })
          (long_result r why.0 m why.2 c.too_long.ensures.status c.too_long.ensures.text) (inr (inr (inr (inr (refl, refl))))) told.ensures;
    }

pub returns : goal.returns
returns g c =
    let left = g.S.Source.left in
    let fails = g.S.Source.faults in
    let held = g.K.Sink.held in
    let faults = g.K.Sink.faults in
    let first = c.args.source.now in
    let sink = c.args.sink.now in
    let read = c.read_front.new in
    let e = ears_at (outside (left first) (held sink) (fails first) (faults sink)) [] false in
    let m = ears (left read.source) (fails read.source) read.ear in
    let x = mouth (held sink) (faults sink) in
    let is = c.in-Err-Memory.field-0-is in
    let why = subst (Fails (left first) (left read.source) (fails first) (fails read.source) read.ear.buffer) is c.in-Err-Memory.ensures.fails in
    record {
      waiting = read.ear.buffer;
      ended = read.ear.ended;
      is =
          ended_quiet SaysAll e m x x why.0 6 (record { reads = why.1; well = c.in-Err-Memory.ensures.well (λ other. absurd cc) })
          (inr (inr (inr (inr (refl, refl))))) (refl, refl);
    }
