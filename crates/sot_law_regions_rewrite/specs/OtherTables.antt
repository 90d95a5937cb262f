-- Tables with other regions.
use Rattle.std.specs.Prelude.{true, List, [], ◌∷◌}
use Rattle.sot_box.specs.BoxList.{BoxList}
use Rattle.sot_lang.specs.declared.tables.ModuleInfo.{ModuleInfo}
use Rattle.sot_typing.specs.Resolved.{ProgramTables}
use Rattle.sot_regions_rewrite.specs.declared.modules.ModuleRegions.{ModuleRegions}

-- a region with the boxes of another, which has its index
abbrev pub region_with : BoxList → BoxList → BoxList
region_with given found =
    record { width = given.width; boxes = found.boxes; settled = true }

abbrev pub info_with : ModuleRegions → ModuleInfo → ModuleInfo
info_with regions m = record {
  name = m.name;
  ac = m.ac;
  sc = m.sc;
  period = m.period;
  offset = m.offset;
  plant = m.plant;
  safe = region_with m.safe regions.safe;
  safer = region_with m.safer regions.safer;
}

-- modules in declared order, of which the last keep their own where the regions are fewer
abbrev pub infos_with : List ModuleRegions → List ModuleInfo → List ModuleInfo
infos_with regions [] = []
infos_with [] (m ∷ ms) = m ∷ ms
infos_with (regions ∷ later) (m ∷ ms) = info_with regions m ∷ infos_with later ms

abbrev pub tables_with : List ModuleRegions → ProgramTables → ProgramTables
tables_with regions t = record {
  topics = t.topics;
  scalars = t.scalars;
  plants = t.plants;
  nodes = t.nodes;
  modules = infos_with regions t.modules;
}
