-- What contracts see of a program's tables.
use Rattle.std.specs.Prelude.{List}
use Rattle.sot_lang.specs.declared.tables.TopicInfo.{TopicInfo}
use Rattle.sot_lang.specs.declared.tables.ScalarInfo.{ScalarInfo}
use Rattle.sot_lang.specs.declared.tables.PlantInfo.{PlantInfo}
use Rattle.sot_lang.specs.declared.tables.NodeInfo.{NodeInfo}
use Rattle.sot_lang.specs.declared.tables.ModuleInfo.{ModuleInfo}

-- the tables of a program; each thing is named by its place in its list
pub record Tables : Type 0 where
  pub topics : List TopicInfo
  pub scalars : List ScalarInfo
  pub plants : List PlantInfo
  pub nodes : List NodeInfo
  pub modules : List ModuleInfo
