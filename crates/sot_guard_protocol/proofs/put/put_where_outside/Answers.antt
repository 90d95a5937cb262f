use Rattle.std.proofs.Common.{sym, ap, rules, w64, SFits}
use Rattle.std.proofs.lemmas.Int.{to_z-of_z}
use Rattle.sot_trace.specs.Traces.{text_of}
use Rattle.sot_trace.proofs.Putting.{put_so}
use Rattle.sot_guard_lines.specs.Lines.{outside_line}
use Rattle.sot_guard_protocol.specs.Answers.{outside_lines}
use Rattle.sot_guard_protocol.proofs.put.put_where_outside.Goals as goal

pub returns-in-Some : goal.returns-in-Some
returns-in-Some g c =
    let p = c.args.p.now in
    let time = c.args.time in
    let o = c.in-Some.o in
    let fits : SFits w64 o.value = search rules in
    let line = put_so g.O.Out.puts _ _ _ (outside_line p time o.plant o.state o.bounds o.value) c.put_outside.ensures
    (ap (outside_line p time o.plant o.state o.bounds) (to_z-of_z w64 o.value fits)) in
    put_so g.O.Out.puts _ _ _ (text_of (outside_lines p time c.args.outside)) (g.met.O.Out.more _ _ _ _ _ line c.put_byte.ensures)
    (ap (λ x. text_of (outside_lines p time x)) (sym c.in-Some.is))
