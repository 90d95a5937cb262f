-- A body in flat form, and of which body it is.
use Rattle.std.specs.Prelude.{◌≡◌, ℕ, ◌+◌, ◌≤◌, List, Option, Some, length}
use Rattle.sot_lists.specs.Places.{At}
use Rattle.sot_lang.specs.declared.act.Act.{Act}
use Rattle.sot_lang.specs.declared.tables.NodeInfo.{NodeInfo}
use Rattle.sot_lang.specs.Tables.{Tables}
use Rattle.sot_lang.specs.TableRules.{IsCoded}
use Rattle.sot_eval_flat.specs.Carries.{name_count, Carries}
use Rattle.sot_eval_flat.specs.declared.flat.Flat.{Flat}

-- a flat form is that of the coded node at this place of the tables: what its steps do is what the
-- body's statements do
pub record IsFlatOf (p : Tables) (n : ℕ) (flat : Flat) : Type 0 where
  pub node : NodeInfo
  pub acts : List Act
  pub is : At p.nodes n node
  pub coded : IsCoded node acts
  pub locals : length node.locals.items ≤ 16
  pub writes : length node.writes.items ≤ 8
  pub reads : flat.reads ≡ length node.reads.items
  pub names : flat.shape.names ≡ name_count node
  pub few : flat.shape.names + length flat.shape.constants.items ≤ 250
  pub carries : Carries p node flat.shape.constants.items flat.steps.items acts

-- what is kept beside the node at this place: its flat form, or none
abbrev pub IsFormOf : Tables → ℕ → Option Flat → Type 0
IsFormOf p n form = (flat : Flat) → form ≡ Some flat → IsFlatOf p n flat
