-- What declarations are to satisfy so that they have tables. Those of a program of the grammar
-- without faults do.
use Rattle.std.specs.Prelude.{◌≡◌, ℕ, ◌≤◌, ◌<◌, true, [], Some, nat_abs}
use Rattle.std.specs.List.{All}
use Rattle.sot_lists.specs.Places.{At}
use Rattle.sot_syntax_tree.specs.Trees.{Topic, Plant, Node, Module, Declaration, a_topic, a_plant}
use Rattle.sot_syntax_tree.specs.Trees.{a_node}
use Rattle.sot_syntax_tree.specs.Trees.{a_module, Program}
use Rattle.sot_rules.specs.Names.{meaning, is_plant, is_node, plant_scope, node_scope}
use Rattle.sot_rules.specs.Faults.{together, plant_lists, node_lists}
use Rattle.sot_typing.specs.Resolved.{state_count}
use Rattle.sot_typing.specs.Things.{AreFew}
use Rattle.sot_typing.specs.Bodies.{IsSmall}
use Rattle.sot_typing.specs.Parts.{StateFits, FieldFits, LocalFits, AreaFits, TopicFits}

-- a topic that its own name means
pub record TopicIsOwn (p : Program) (t : Topic) : Type 0 where
  pub fits : TopicFits t
  pub own : meaning p t.name ≡ Some (a_topic t)

pub record PlantFits (p : Program) (q : Plant) : Type 0 where
  pub states : All StateFits q.states
  pub sees : All (λ i. is_plant (meaning p i) ≡ true) q.sees
  pub noise : All FieldFits q.noise
  pub few : AreFew (plant_scope p q)
  pub faultless : together (plant_lists p q) ≡ []

pub record NodeFits (p : Program) (n : Node) : Type 0 where
  pub period : nat_abs n.period.mantissa ≤ 1000
  pub offset : nat_abs n.offset.mantissa ≤ 1000
  pub locals : All LocalFits n.locals
  pub few : IsSmall (node_scope p n)
  pub faultless : together (node_lists p n) ≡ []

pub record ModuleFits (p : Program) (m : Module) : Type 0 where
  pub ac : is_node (meaning p m.ac) ≡ true
  pub sc : is_node (meaning p m.sc) ≡ true
  pub period : nat_abs m.period.mantissa ≤ 1000
  pub offset : nat_abs m.offset.mantissa ≤ 1000
  pub plant : is_plant (meaning p m.plant) ≡ true
  pub some : 0 < state_count p m.plant
  pub few : state_count p m.plant ≤ 4
  pub safe : All (AreaFits (state_count p m.plant)) m.safe
  pub safer : All (AreaFits (state_count p m.plant)) m.safer

abbrev pub DeclarationFits : Program → Declaration → Type 0
DeclarationFits p (a_topic t) = TopicIsOwn p t
DeclarationFits p (a_plant q) = PlantFits p q
DeclarationFits p (a_node n) = NodeFits p n
DeclarationFits p (a_module m) = ModuleFits p m

-- all declarations of a program fit
abbrev pub AllFit : Program → Type 0
AllFit p = (k : ℕ) (d : Declaration) → At p.decls k d → DeclarationFits p d
