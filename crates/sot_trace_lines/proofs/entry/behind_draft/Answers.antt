use Rattle.std.proofs.Common.{ℕ, Bor, List, slice_index_or, sym, ap, ◌∙◌}
use Rattle.std.specs.Option.{option_map}
use Rattle.std.proofs.lemmas.Option.{slice_get-get_or}
use Rattle.sot_trace_lines.proofs.Entries.{slot_found, slot_missing}
use Rattle.sot_trace_lines.proofs.entry.behind_draft.Goals as goal

pub returns-in_err-rest : goal.returns-in_err-rest
returns-in_err-rest c =
    let l = c.loop-i in
    let k : ℕ = slice_index_or c.args.writes.now l.i 0 in
    let at = slice_get-get_or c.args.writes.now l.i 0 c.loop-i-test.true in
    ap (option_map (λ (r : Bor (List ℕ)). r.now)) c.from_residual.ensures
    ∙ slot_missing c.args.p.now c.args.writes.now c.args.draft.now l.i k c.get.result at c.get.ensures l.rest.now (sym c.in_err-rest.ensures)
    ∙ l.invariant

pub loop-i-preserved : goal.loop-i-preserved
loop-i-preserved c =
    let l = c.loop-i in
    let k : ℕ = slice_index_or c.args.writes.now l.i 0 in
    let at = slice_get-get_or c.args.writes.now l.i 0 c.loop-i-test.true in
    slot_found c.args.p.now c.args.writes.now c.args.draft.now l.i k c.get.result at c.get.ensures l.rest.now c.in_ok-rest.rest.now (sym c.in_ok-rest.ensures)
    ∙ l.invariant
