-- Names that texts can tell.
use Rattle.std.specs.Prelude.{◌≡◌, ℕ, List, Some}
use Rattle.sot_text.specs.declared.token.Kind.TheVariants.{Name}
use Rattle.sot_text.specs.Lexeme.{IsTokenText}
use Rattle.sot_lang.specs.declared.tables.TopicInfo.{TopicInfo}
use Rattle.sot_lang.specs.declared.tables.ScalarInfo.{ScalarInfo}
use Rattle.sot_lang.specs.declared.tables.PlantInfo.{PlantInfo}
use Rattle.sot_lang.specs.declared.tables.NodeInfo.{NodeInfo}
use Rattle.sot_lang.specs.declared.tables.ModuleInfo.{ModuleInfo}
use Rattle.sot_lang.specs.Tables.{Tables}
use Rattle.sot_lists.specs.Places.{At}

-- a word of the language that is no keyword, as each `Name` is by its type: letters, digits and `_`
-- alone
abbrev pub IsWord : List ℕ → Type 0
IsWord text = IsTokenText Name text

-- all names are words
pub record AreWords (p : Tables) : Type 0 where
  pub topics : (t : ℕ) (topic : TopicInfo) → At p.topics t topic → IsWord topic.name
  pub fields : (k : ℕ) (info : ScalarInfo) (field : List ℕ) → At p.scalars k info
      → info.field ≡ Some field → IsWord field
  pub plants : (k : ℕ) (plant : PlantInfo) → At p.plants k plant → IsWord plant.name
  pub nodes : (n : ℕ) (node : NodeInfo) → At p.nodes n node → IsWord node.name
  pub modules : (m : ℕ) (info : ModuleInfo) → At p.modules m info → IsWord info.name
