-- Of `module_info`: what its calls ask for.
use Rattle.std.proofs.Common.{ℕ, List, sym, subst}
use Rattle.std.specs.List.{All}
use Rattle.sot_syntax_tree.specs.declared.tree.BoxDecl.{BoxDecl}
use Rattle.sot_syntax_tree.specs.TreeViews.{area_view}
use Rattle.sot_typing.specs.Parts.{AreaFits}
use Rattle.sot_typing.proofs.Gathered.{all_mapped}
use Rattle.sot_typing.proofs.tables.rows.module_info.Goals as goal

abbrev Fit : ℕ → List BoxDecl → Type 0
Fit width boxes = All (λ b. AreaFits width (area_view b)) boxes

pub region-requires-clause-boxes : goal.region-requires-clause-boxes
region-requires-clause-boxes c =
    let m = c.args.m.now in
    subst (Fit c.state_count-width.result) (sym c.deref.ensures.value)
    (subst (λ w. Fit w m.safe.items) (sym c.state_count-width.ensures) (all_mapped (AreaFits _) area_view m.safe.items c.requires.fits.safe))

pub region-requires-2-clause-boxes : goal.region-requires-2-clause-boxes
region-requires-2-clause-boxes c =
    let m = c.args.m.now in
    subst (Fit c.state_count-width.result) (sym c.deref-2.ensures.value)
    (subst (λ w. Fit w m.safer.items) (sym c.state_count-width.ensures) (all_mapped (AreaFits _) area_view m.safer.items c.requires.fits.safer))
