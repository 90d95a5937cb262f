use Rattle.std.proofs.Common.{length, map, sym, ap, subst, arith}
use Rattle.sot_lists.specs.Places.{At}
use Rattle.sot_lists.proofs.Places.{read_at}
use Rattle.sot_flight.specs.Fits.{FitsCrew}
use Rattle.sot_flight.specs.FlightView.{crew_of}
use Rattle.sot_flight.proofs.Listed.{row_among}
use Rattle.sot_flight.proofs.drafts.stated_draft.Goals as goal

pub row_of-requires : goal.row_of-requires
row_of-requires c =
    let info = c.index-info.result.now in
    let at = read_at _ _ c.args.node info (ap (λ t. t.nodes) c.p.view_is) c.requires.node c.index-info.ensures in
    let fits = subst (λ k. FitsCrew info (crew_of k)) c.in-Script.is (c.requires.fits info at) in
    λ e. fits.1 (ap (λ l. map (λ draft. draft.items) l) e)

pub script_draft-requires : goal.script_draft-requires
script_draft-requires c =
    let info = c.index-info.result.now in
    let at = read_at _ _ c.args.node info (ap (λ t. t.nodes) c.p.view_is) c.requires.node c.index-info.ensures in
    let fits = subst (λ k. FitsCrew info (crew_of k)) c.in-Script.is (c.requires.fits info at) in
    let row = row_among _ c.args.firing fits.1 in
    let size = fits.2 row.0 _ row.1 in
    let few = (c.p.invariant.nodes c.args.node info (subst (λ t. At t.nodes c.args.node info) (sym c.p.view_is) at)).writes in
    omega (arith, ap length c.row_of.ensures, size, few)

pub wild_draft-requires-clause-few : goal.wild_draft-requires-clause-few
wild_draft-requires-clause-few c =
    let info = c.index-info.result.now in
    let at = read_at _ _ c.args.node info (ap (λ t. t.nodes) c.p.view_is) c.requires.node c.index-info.ensures in
    (c.p.invariant.nodes c.args.node info (subst (λ t. At t.nodes c.args.node info) (sym c.p.view_is) at)).writes
