use Rattle.std.proofs.Common.{subst}
use Rattle.sot_trace_lines.specs.Kept.{ShowsRead}
use Rattle.sot_trace_lines.specs.Readers.{input_at}
use Rattle.sot_guard_lines.specs.Readers.{said_input}
use Rattle.sot_guard_lines.proofs.ShownSaid.{taken_on, none_taken}
use Rattle.sot_guard_lines.proofs.read.read_value.Goals as goal

pub returns-in-Some-clause-said : goal.returns-in-Some-clause-said
returns-in-Some-clause-said c =
    let list = c.input_within.new.numbers.items in
    let o = input_at c.args.p.now 0 c.args.text.now in
    taken_on said_input list c.in-Some.line c.input_of.result o (subst (λ l. ShowsRead list l o) c.in-Some.is c.input_within.ensures.read)
    (λ s shows. c.input_of.ensures list s shows)

pub returns-in-None-clause-said : goal.returns-in-None-clause-said
returns-in-None-clause-said c =
    let list = c.input_within.new.numbers.items in
    let o = input_at c.args.p.now 0 c.args.text.now in
    none_taken said_input list o (subst (λ l. ShowsRead list l o) c.in-None.is c.input_within.ensures.read)
