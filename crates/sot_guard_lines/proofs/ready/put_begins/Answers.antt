use Rattle.std.proofs.Common.{◌≡◌, ap, ap₂, ◌∙◌, arith}
use Rattle.sot_lang.specs.Tables.{Tables}
use Rattle.sot_trace.proofs.Putting.{put_so}
use Rattle.sot_guard_lines.specs.Lines.{due_names}
use Rattle.sot_guard_lines.proofs.ready.put_begins.Goals as goal

pub returns : goal.returns
returns g c =
    let more = g.met.O.Out.more in
    let nodes = c.deref.ensures.value ∙ ap (λ (t : Tables). t.nodes) c.p.view_is in
    let time : c.from.result ≡ c.args.time = omega (arith, c.from.ensures) in
    let due = put_so g.O.Out.puts _ _ _ _ c.put_due_names.ensures (ap₂ due_names nodes time) in
    more _ _ _ _ _ c.put_time.ensures (more _ _ _ _ _ c.put.ensures due)
