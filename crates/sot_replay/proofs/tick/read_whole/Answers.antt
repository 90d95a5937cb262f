use Rattle.std.proofs.Common.{Bool, Option, subst, sym}
use Rattle.sot_trace_lines.specs.declared.line.Line.{Line}
use Rattle.sot_trace_lines.specs.Shown.{Holds, AnswersLine}
use Rattle.sot_replay.proofs.ReadOn.{tick_read}
use Rattle.sot_replay.proofs.tick.read_whole.Goals as goal

pub is_whole-requires : goal.is_whole-requires
is_whole-requires c =
    let p = c.args.p.now in
    let list = c.read.new.self.numbers.items in
    let answer = subst (λ (l : Option Line). AnswersLine p c.args.line.now list l) c.in-Ok-Some.field-0-is c.in-Ok-Some.ensures in
    let (time, whole, is, t, noise, states, spelled, holds) = tick_read p c.args.line.now list c.in-Ok-Some.read c.requires.ticks answer in
    (time, whole, is)

pub returns-in-Ok-Some : goal.returns-in-Ok-Some
returns-in-Ok-Some c =
    let p = c.args.p.now in
    let list = c.read.new.self.numbers.items in
    let answer = subst (λ (l : Option Line). AnswersLine p c.args.line.now list l) c.in-Ok-Some.field-0-is c.in-Ok-Some.ensures in
    let (time, whole, is, t, noise, states, spelled, holds) = tick_read p c.args.line.now list c.in-Ok-Some.read c.requires.ticks answer in
    (t, noise, states, spelled, subst (λ (w : Bool). Holds w list noise) (sym (c.is_whole.ensures time whole is)) holds)
