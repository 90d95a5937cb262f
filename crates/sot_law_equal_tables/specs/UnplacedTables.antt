-- Tables without where their expressions and statements stand in a text: every place is the same
-- one.
use Rattle.std.specs.Prelude.{◌≡◌, map}
use Rattle.std.specs.Option.{option_map}
use Rattle.sot_lang.specs.Tables.{Tables}
use Rattle.sot_typing.specs.Formulas.{Formula, Formulas, number, place, binary, rest, negated}
use Rattle.sot_typing.specs.Formulas.{denied, called, rescaled, chosen, no_formula, one_more, Deed}
use Rattle.sot_typing.specs.Formulas.{Deeds, assigned, published, branched, repeated, no_deed, deed}
use Rattle.sot_typing.specs.Resolved.{PlantTable, NodeTable, ProgramTables, tables_seen}
use Rattle.sot_law_print_parse.specs.Unplaced.{nowhere}

abbrev mutual
  pub unplaced_formula : Formula → Formula
  unplaced_formula (number z) = number z
  unplaced_formula (place k) = place k
  unplaced_formula (binary op a b at) = binary op (unplaced_formula a) (unplaced_formula b) nowhere
  unplaced_formula (rest a by at) = rest (unplaced_formula a) by nowhere
  unplaced_formula (negated a at) = negated (unplaced_formula a) nowhere
  unplaced_formula (denied a at) = denied (unplaced_formula a) nowhere
  unplaced_formula (called f parts at) = called f (unplaced_formulas parts) nowhere
  unplaced_formula (rescaled a from to at) = rescaled (unplaced_formula a) from to nowhere
  unplaced_formula (chosen c a b at) =
      chosen (unplaced_formula c) (unplaced_formula a) (unplaced_formula b) nowhere

  pub unplaced_formulas : Formulas → Formulas
  unplaced_formulas no_formula = no_formula
  unplaced_formulas (one_more a more) = one_more (unplaced_formula a) (unplaced_formulas more)

abbrev mutual
  pub unplaced_deed : Deed → Deed
  unplaced_deed (assigned k a at) = assigned k (unplaced_formula a) nowhere
  unplaced_deed (published k a at) = published k (unplaced_formula a) nowhere
  unplaced_deed (branched c taken other) =
      branched (unplaced_formula c) (unplaced_deeds taken) (unplaced_deeds other)
  unplaced_deed (repeated n body) = repeated n (unplaced_deeds body)

  pub unplaced_deeds : Deeds → Deeds
  unplaced_deeds no_deed = no_deed
  unplaced_deeds (deed a more) = deed (unplaced_deed a) (unplaced_deeds more)

abbrev pub unplaced_plant_table : PlantTable → PlantTable
unplaced_plant_table q = record {
  name = q.name;
  states = q.states;
  inputs = q.inputs;
  sees = q.sees;
  noise = q.noise;
  next = map unplaced_formula q.next;
}

abbrev pub unplaced_node_table : NodeTable → NodeTable
unplaced_node_table n = record {
  name = n.name;
  period = n.period;
  offset = n.offset;
  reads = n.reads;
  writes = n.writes;
  locals = n.locals;
  body = option_map unplaced_deeds n.body;
}

abbrev pub unplaced_tables : ProgramTables → ProgramTables
unplaced_tables t = record {
  topics = t.topics;
  scalars = t.scalars;
  plants = map unplaced_plant_table t.plants;
  nodes = map unplaced_node_table t.nodes;
  modules = t.modules;
}

-- these tables look the same, but for the places of their expressions and statements
abbrev pub AreAlike : Tables → Tables → Type 0
AreAlike t u = unplaced_tables (tables_seen t) ≡ unplaced_tables (tables_seen u)
