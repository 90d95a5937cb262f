use Rattle.std.proofs.Common.{sym, subst}
use Rattle.sot_trace_lines.specs.Readers.{counts_at}
use Rattle.sot_trace_lines.specs.Kept.{ShowsFront}
use Rattle.sot_trace_lines.proofs.Fronts.{end_spelled, whole_shows}
use Rattle.sot_trace_lines.proofs.front.front.Goals as goal

pub returns-in-Some : goal.returns-in-Some
returns-in-Some c =
    let p = c.args.p.now in
    let list = c.args.numbers.now.items in
    let rest = c.in-Some.rest.now in
    let shows = whole_shows p list c.read_counts.result (counts_at rest) (c.read_counts.ensures list) in
    subst (ShowsFront p list c.whole.result) (sym (end_spelled p c.args.line.now rest (sym c.in-Some.ensures)))
    (subst (λ f. ShowsFront p list f (counts_at rest)) (sym c.whole.ensures) shows)
