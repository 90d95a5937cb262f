use Rattle.std.proofs.Common.{◌≡◌, ◌∙◌, ◌≤◌, List, sym, ap, subst, length, arith, rules, SFits}
use Rattle.std.specs.Prelude.{sum_by}
use Rattle.std.specs.Int.{w128}
use Rattle.std.proofs.lemmas.Int.{to_z-of_z}
use Rattle.sot_lang.specs.Tables.{Tables}
use Rattle.sot_world.specs.HistoryEntry.{Logged}
use Rattle.sot_trace.specs.Fitting.{FitsHistory}
use Rattle.sot_flight.specs.Plans.{Plan}
use Rattle.sot_trace.specs.Lines.{ticks_in, refused_in}
use Rattle.sot_trace.proofs.Printable.{flown_fits}
use Rattle.sot_summary.specs.Counted.{firings_in, outside_in, states_sum}
use Rattle.sot_summary.proofs.Counting.{same_summary}
use Rattle.sot_summary.proofs.Ticking.{few_ticks}
use Rattle.sot_summary.proofs.flown.board_summary.Goals as goal

pub count_entries-counts-requires-clause-fits : goal.count_entries-counts-requires-clause-fits
count_entries-counts-requires-clause-fits c =
    let b = c.args.board.now in
    let standing = c.reveal_invariant.ensures in
    let fits = flown_fits b.accepted.program standing.kept.rules b.accepted.cert.jitter b.plan b.entries b.position standing.flown in
    subst (λ (es : List Logged). FitsHistory c.typed-p.result.now es) (sym c.history.ensures)
    (subst (λ (p : Tables). FitsHistory p b.entries) (sym c.typed-p.ensures) fits)

pub count_entries-counts-requires-clause-few : goal.count_entries-counts-requires-clause-few
count_entries-counts-requires-clause-few c =
    subst (λ (es : List Logged). sum_by ticks_in es ≤ 100000) (sym c.history.ensures) (few_ticks c.args.board.now c.reveal_invariant.ensures)

pub returns : goal.returns
returns c =
    let es = c.history.ensures in
    let p = c.typed-p.ensures in
    let counts = c.count_entries-counts.ensures in
    let fits : SFits w128 c.count_entries-counts.result.sum = search rules in
    let tables = c.p.view_is ∙ p in
    let modules : c.len.result ≡ length c.args.board.now.accepted.program.modules =
    (let here : c.len.result ≡ length c.p.inside.modules.items = omega (arith, c.len.ensures, c.p.inside.modules.ok.0) in
    here ∙ ap (λ (t : Tables). length t.modules) tables) in
    let nodes : c.len-2.result ≡ length c.args.board.now.accepted.program.nodes =
    (let here : c.len-2.result ≡ length c.p.inside.nodes.items = omega (arith, c.len-2.ensures, c.p.inside.nodes.ok.0) in
    here ∙ ap (λ (t : Tables). length t.nodes) tables) in
    same_summary
    modules
    nodes
    (c.horizon.ensures ∙ ap (λ (f : Plan). f.horizon) c.flight.ensures)
    (counts.firings ∙ ap (sum_by firings_in) es)
    (counts.ticks ∙ ap (sum_by ticks_in) es)
    (counts.refused ∙ ap (λ (t : Tables). sum_by (refused_in t) c.history.result.now.entries) p ∙ ap (sum_by (refused_in c.args.board.now.accepted.program)) es)
    (counts.outside ∙ ap (λ (t : Tables). sum_by (outside_in t) c.history.result.now.entries) p ∙ ap (sum_by (outside_in c.args.board.now.accepted.program)) es)
    (to_z-of_z w128 c.count_entries-counts.result.sum fits ∙ counts.sum ∙ ap states_sum es)
