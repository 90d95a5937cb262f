-- Programs without the regions of their modules.
use Rattle.std.specs.Prelude.{◌≡◌, [], map}
use Rattle.sot_syntax_tree.specs.Trees.{Module, Declaration, a_topic, a_plant, a_node, a_module}
use Rattle.sot_syntax_tree.specs.Trees.{Program}

abbrev pub bare_module : Module → Module
bare_module m = record {
  name = m.name;
  ac = m.ac;
  sc = m.sc;
  period = m.period;
  offset = m.offset;
  plant = m.plant;
  safe = [];
  safer = [];
}

abbrev pub bare : Declaration → Declaration
bare (a_topic t) = a_topic t
bare (a_plant q) = a_plant q
bare (a_node n) = a_node n
bare (a_module m) = a_module (bare_module m)

abbrev pub without_regions : Program → Program
without_regions p = record { decls = map bare p.decls }

-- the same program but for `safe` and `safer` of its modules
abbrev pub AreSameButForRegions : Program → Program → Type 0
AreSameButForRegions p q = without_regions p ≡ without_regions q
