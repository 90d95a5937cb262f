use Rattle.std.proofs.Common.{drop, sym, ap, ◌∙◌}
use Rattle.std.proofs.lemmas.List.{take_rest}
use Rattle.sot_lang.specs.declared.tables.NodeInfo.{NodeInfo}
use Rattle.sot_lang.specs.Tables.{Tables}
use Rattle.sot_lang.proofs.NamesOnce.{node_same}
use Rattle.sot_trace_lines.specs.Readers.{place_of}
use Rattle.sot_trace_lines.proofs.Places.{found_from}
use Rattle.sot_trace_lines.proofs.name.node_place.Goals as goal

pub returns-in-Some : goal.returns-in-Some
returns-in-Some c =
    let p = c.args.p.now in
    let word = c.args.name.now in
    let all = ap (λ (q : Tables). q.nodes) (sym c.p.view_is) ∙ sym c.deref.ensures.value in
    let rest = ap (drop c.args.from) all ∙ sym (take_rest c.deref.result.now c.args.from) in
    let here = ap (λ xs. place_of (λ (x : NodeInfo). x.name) xs word) rest ∙ sym c.in-Some.ensures in
    sym (found_from (λ (x : NodeInfo). x.name) word p.nodes c.args.from c.in-Some.further (node_same p c.keeps_rules.ensures) here)
