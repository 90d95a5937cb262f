-- Why a program and its certificate are refused.
use Rattle.std.specs.Prelude.{ℕ, ℤ, Bool, List}
use Rattle.sot_text.specs.declared.token.Span.{Span}
use Rattle.sot_lang.specs.declared.trap.TrapKind.{TrapKind}
use Rattle.sot_box.specs.Sides.{Side}

-- why a program and its certificate are refused; contracts of a checker cite this. Modules, nodes,
-- topics, plants, cells and ticks are numbered from 0
pub data Refusal : Type 0 where
  Periods : (module_no node : ℕ) → Refusal
  Outputs : (module_no topic : ℕ) → Refusal
  EmptyRegion : (module_no : ℕ) (safer : Bool) → Refusal
  ClosedGap : (module_no : ℕ) (point : List ℤ) → Refusal
  ClosedTrap : (module_no cell tick : ℕ) (at : Span) → Refusal
  ClosedLeaves : (module_no cell tick : ℕ) (area : List Side) (point : List ℤ) → Refusal
  ReachGap : (module_no : ℕ) (point : List ℤ) → Refusal
  ReachLeaves : (module_no cell tick : ℕ) (area : List Side) (point : List ℤ) → Refusal
  ReachTrap : (module_no cell tick : ℕ) (at : Span) → Refusal
  SharedNode : (node a b : ℕ) → Refusal
  SharedOutput : (topic a b : ℕ) → Refusal
  SharedPlant : (plant a b : ℕ) → Refusal
  ForeignInput : (module_no topic : ℕ) → Refusal
  CodeMayTrap : (node : ℕ) (at : Span) (kind : TrapKind) (lo hi : ℤ) → Refusal
  NoCells : (module_no : ℕ) → Refusal
