use Rattle.std.proofs.Common.{◌∷◌, [], ◌++◌, map, sym, ap, ◌∙◌}
use Rattle.sot_trace.specs.Traces.{text_of}
use Rattle.sot_trace.proofs.Putting.{put_so}
use Rattle.sot_guard_lines.specs.Lines.{ready_line}
use Rattle.sot_guard_protocol.specs.Answers.{told_line, hold_lines}
use Rattle.sot_guard_protocol.proofs.Lines.{text_of-append}
use Rattle.sot_guard_protocol.proofs.put.put_instant.Goals as goal

pub returns : goal.returns
returns g c =
    let p = c.args.p.now in
    let told = map (told_line p c.args.time) c.args.told.now in
    let holds = hold_lines p c.args.time c.args.scalars.now 0 p.plants in
    let end = ready_line p c.args.time ∷ [] in
    let more = g.met.O.Out.more in
    put_so g.O.Out.puts _ _ _ _ (more _ _ _ _ _ c.put_all_told.ensures (more _ _ _ _ _ c.put_holds.ensures c.put_end_of_instant.ensures))
    (sym (text_of-append told (holds ++ end) ∙ ap (λ x. text_of told ++ x) (text_of-append holds end)))
