-- Which modules have a region, as cells show it.
use Rattle.std.specs.Prelude.{◌≡◌, ℕ, ◌<◌, List}
use Rattle.sot_lists.specs.Places.{At}
use Rattle.sot_syntax_tree.specs.Trees.{Program}
use Rattle.sot_lang.specs.declared.cert.Cert.{Cert}
use Rattle.sot_lang.specs.declared.tables.ModuleInfo.{ModuleInfo}
use Rattle.sot_lang.specs.Tables.{Tables}
use Rattle.sot_tube.specs.Checks.{Check, and_then, for_each}
use Rattle.sot_tube.specs.Verdict.{composition, code, cells_of}
use Rattle.sot_law_invariant_regions.specs.Shown.{IsShown}
use Rattle.sot_report.specs.Missions.{Resolves}
use Rattle.sot_regions_rewrite.specs.declared.modules.ModuleRegions.{ModuleRegions}
use Rattle.sot_regions_rewrite.specs.OtherRegions.{with_regions}
use Rattle.sot_regions_program.specs.Findings.{AreFirstFound}

-- the first m modules of a program have regions, each inside the given one: with these, and the
-- given ones of the modules behind, it is put together well, no coded node may trap, and some
-- certificate shows the regions of the first m
pub record HaveRegions (p : Program) (t : Tables) (jitter m : ℕ) : Type 0 where
  pub regions : List ModuleRegions
  pub found : AreFirstFound t regions m
  pub tables : Tables
  pub resolves : Resolves (with_regions regions p) tables
  pub cert : Cert
  pub jitter_is : cert.jitter ≡ jitter
  pub composed : (composition tables).Passes
  pub free : (for_each tables.nodes (code tables)).Passes
  pub shown : (k : ℕ) (a : ModuleInfo) → k < m → At tables.modules k a
      → IsShown tables jitter cert k a

-- the conditions of a program, in the order of the verdict, where a certificate has cells for some
-- of its modules: but for the shape of modules, and for the cells of those that have none
abbrev pub verdict_of_some : Tables → ℕ → Cert → Check
verdict_of_some p jitter cert =
    and_then (composition p)
    (and_then (for_each p.nodes (code p)) (for_each p.modules (cells_of p jitter cert)))
