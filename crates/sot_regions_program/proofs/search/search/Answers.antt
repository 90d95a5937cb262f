use Rattle.std.proofs.Common.{◌≡◌, ◌+◌, ℕ, List, [], ◌∷◌, ◌++◌, Option, Some, sym, subst}
use Rattle.sot_lists.specs.Places.{At}
use Rattle.sot_lang.specs.declared.cert.Cells.{Cells}
use Rattle.sot_lang.specs.declared.tables.ModuleInfo.{ModuleInfo}
use Rattle.sot_lang.specs.Tables.{Tables}
use Rattle.sot_regions_rewrite.specs.declared.modules.ModuleRegions.{ModuleRegions}
use Rattle.sot_regions_program.specs.Findings.{IsFinding}
use Rattle.sot_regions_program.specs.Steps.{AreFindings}
use Rattle.sot_regions_program.proofs.Searched.{one_finding}
use Rattle.sot_regions_program.proofs.search.search.Goals as goal

-- lists that got what was found for one module more
one_more : (t : Tables) (regions rs : List ModuleRegions) (cells cs : List (Option Cells)) (k : ℕ) (r : ModuleRegions) (c : Cells)
    → rs ≡ regions ++ r ∷ [] → cs ≡ cells ++ Some c ∷ [] → AreFindings t regions cells k
    → ((a : ModuleInfo) → At t.modules k a → IsFinding a r c) → AreFindings t rs cs (k + 1)
one_more t regions rs cells cs k r c is_regions is_cells found one =
    subst (λ (x : List ModuleRegions). AreFindings t x cs (k + 1)) (sym is_regions)
    (subst (λ (x : List (Option Cells)). AreFindings t (regions ++ r ∷ []) x (k + 1)) (sym is_cells) (one_finding t regions cells k r c found one))

pub loop-module-preserved : goal.loop-module-preserved
loop-module-preserved c =
    one_more c.args.asked.tables.now c.loop-module.findings.regions.items _ c.loop-module.findings.cells.items _ c.loop-module.«module» c.in-Ok.one.regions
    c.in-Ok.one.cells c.in_ok-push-in-Ok.ensures.items c.in_ok-push-in-Ok-2.ensures.items c.loop-module.invariant c.in-Ok.ensures.ok
