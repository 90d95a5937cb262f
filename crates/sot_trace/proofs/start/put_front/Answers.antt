use Rattle.std.proofs.Common.{◌∙◌, ap}
use Rattle.sot_trace.specs.Lines.{start_lines}
use Rattle.sot_trace.specs.Traces.{text_of}
use Rattle.sot_trace.proofs.Putting.{put_so}
use Rattle.sot_trace.proofs.start.put_front.Goals as goal

pub returns : goal.returns
returns g c =
    let plants = c.deref.ensures.value ∙ ap (λ t. t.plants) c.p.view_is in
    let starts = put_so g.O.Out.puts _ _ _ _ c.put_starts.ensures (ap (λ ks. text_of (start_lines ks c.args.start.now)) plants) in
    g.met.O.Out.more _ _ _ _ _ c.put.ensures starts
