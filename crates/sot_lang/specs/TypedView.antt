-- A program's tables as lists.
use Rattle.sot_lang.specs.Tables.{Tables}
use Rattle.sot_lang.specs.declared.typed.Typed.TheInside.{Inside}

-- the tables as contracts see them
abbrev pub tables : Inside → Tables
tables t =
    record {
      topics = t.topics.items;
      scalars = t.scalars.items;
      plants = t.plants.items;
      nodes = t.nodes.items;
      modules = t.modules.items;
    }
