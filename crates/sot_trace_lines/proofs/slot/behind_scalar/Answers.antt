use Rattle.std.proofs.Common.{◌++◌, List, ℕ, Bor, length, arith, sym, ap, ◌∙◌}
use Rattle.std.specs.Option.{option_map}
use Rattle.sot_lang.specs.Tables.{Tables}
use Rattle.sot_lang.specs.TypedView.{tables}
use Rattle.sot_trace.specs.Names.{field_part, scalar_name}
use Rattle.sot_trace_lines.proofs.KeptSlots.{scalar_is, scalar_behind}
use Rattle.sot_trace_lines.proofs.slot.behind_scalar.Goals as goal

pub returns-in_err-field : goal.returns-in_err-field
returns-in_err-field c =
    let info = c.index-info.result.now in
    let lt = ap (λ (p : Tables). length p.scalars) c.p.view_is in
    let named = sym (ap (λ (p : Tables). scalar_name p c.args.scalar) c.p.view_is)
    ∙ scalar_is (tables c.p.inside) c.args.scalar info c.index.result.now c.p.invariant (omega (arith, lt, c.requires)) c.index-info.ensures c.index.ensures
    in
    ap (option_map (λ (r : Bor (List ℕ)). r.now)) c.from_residual.ensures
    ∙ scalar_behind c.as_bytes.result.now (field_part info.field) (scalar_name c.args.p.now c.args.scalar) c.args.text.now _
    (named ∙ ap (λ n. n ++ field_part info.field) (sym c.as_bytes.ensures)) c.in_err-field.ensures

pub returns : goal.returns
returns c =
    let info = c.index-info.result.now in
    let lt = ap (λ (p : Tables). length p.scalars) c.p.view_is in
    let named = sym (ap (λ (p : Tables). scalar_name p c.args.scalar) c.p.view_is)
    ∙ scalar_is (tables c.p.inside) c.args.scalar info c.index.result.now c.p.invariant (omega (arith, lt, c.requires)) c.index-info.ensures c.index.ensures
    in
    c.behind_field.ensures
    ∙ scalar_behind c.as_bytes.result.now (field_part info.field) (scalar_name c.args.p.now c.args.scalar) c.args.text.now _
    (named ∙ ap (λ n. n ++ field_part info.field) (sym c.as_bytes.ensures)) c.in_ok-field.ensures
