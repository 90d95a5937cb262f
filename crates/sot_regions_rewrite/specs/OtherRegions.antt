-- A program with other regions: it is the same but for `safe` and `safer` of its modules.
use Rattle.std.specs.Prelude.{ℤ, List, [], ◌∷◌, map, zip}
use Rattle.sot_syntax_tree.specs.declared.tree.Lit.{Lit}
use Rattle.sot_syntax_tree.specs.declared.tree.Bounds.{Bounds}
use Rattle.sot_syntax_tree.specs.Trees.{Area, Module, Declaration, a_topic, a_plant, a_node}
use Rattle.sot_syntax_tree.specs.Trees.{a_module}
use Rattle.sot_syntax_tree.specs.Trees.{Program}
use Rattle.sot_box.specs.Sides.{Side}
use Rattle.sot_regions_rewrite.specs.declared.modules.ModuleRegions.{ModuleRegions}

-- a number, written with the decimals of a given one and at its place
abbrev pub end_like : Lit → ℤ → Lit
end_like given z = record { mantissa = z; scale = given.scale; at = given.at }

abbrev pub bounds_like : Bounds → Side → Bounds
bounds_like given side =
    record { lo = end_like given.lo side.lo; hi = end_like given.hi side.hi }

-- a box, written like a given one, side by side
abbrev pub area_like : Area → List Side → Area
area_like given found =
    record { sides = map (λ x. bounds_like x.0 x.1) (zip given.sides found); at = given.at }

-- boxes, each written like the first of a region's; none, where the region has none
abbrev pub areas_like : List Area → List (List Side) → List Area
areas_like [] found = []
areas_like (given ∷ others) found = map (area_like given) found

-- a module with these regions, written like its own `safe`
abbrev pub module_with : ModuleRegions → Module → Module
module_with regions m = record {
  name = m.name;
  ac = m.ac;
  sc = m.sc;
  period = m.period;
  offset = m.offset;
  plant = m.plant;
  safe = areas_like m.safe regions.safe.boxes;
  safer = areas_like m.safe regions.safer.boxes;
}

-- a module takes the first of the regions that are left, and nothing else takes any
abbrev pub declaration_with : List ModuleRegions → Declaration → Declaration
declaration_with (regions ∷ later) (a_module m) = a_module (module_with regions m)
declaration_with [] d = d
declaration_with (regions ∷ later) (a_topic t) = a_topic t
declaration_with (regions ∷ later) (a_plant q) = a_plant q
declaration_with (regions ∷ later) (a_node n) = a_node n

abbrev pub left_behind : Declaration → List ModuleRegions → List ModuleRegions
left_behind (a_module m) (regions ∷ later) = later
left_behind d [] = []
left_behind (a_topic t) (regions ∷ later) = regions ∷ later
left_behind (a_plant q) (regions ∷ later) = regions ∷ later
left_behind (a_node n) (regions ∷ later) = regions ∷ later

-- the modules take regions in declared order, and those for which none are left keep their own
abbrev pub declarations_with : List ModuleRegions → List Declaration → List Declaration
declarations_with regions [] = []
declarations_with regions (d ∷ ds) =
    declaration_with regions d ∷ declarations_with (left_behind d regions) ds

abbrev pub with_regions : List ModuleRegions → Program → Program
with_regions regions p = record { decls = declarations_with regions p.decls }
