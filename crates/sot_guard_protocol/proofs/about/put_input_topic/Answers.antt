use Rattle.std.proofs.Common.{ℕ, List, [], Option, ap, ◌∙◌}
use Rattle.std.specs.Option.{option_map_or}
use Rattle.sot_trace.proofs.Putting.{put_so}
use Rattle.sot_trace_lines.specs.Readers.{word_at}
use Rattle.sot_guard_protocol.specs.Asides.{topic_text}
use Rattle.sot_guard_protocol.proofs.about.put_input_topic.Goals as goal

pub returns-in-Some : goal.returns-in-Some
returns-in-Some g c =
    let p = c.args.p.now in
    let word = ap (λ (w : List ℕ × List ℕ). w.0) c.word_at.ensures in
    put_so g.O.Out.puts _ _ _ _ c.put_topic.ensures
    (ap (topic_text p) word ∙ ap (λ (o : Option (List ℕ)). option_map_or (λ rest. topic_text p (word_at rest).0) o []) c.in-Some.ensures)
