-- What is recorded of each step.
use Rattle.std.specs.Prelude.{ℕ, ℤ, Bool, false, ◌&&◌, not, int_le, List, Ok, ◌≡◌, Some, Option}
use Rattle.std.specs.Prelude.{None}
use Rattle.sot_lang.specs.declared.act.Act.{Act}
use Rattle.sot_lang.specs.declared.tables.NodeInfo.{NodeInfo}
use Rattle.sot_lang.specs.Tables.{Tables}
use Rattle.sot_lists.specs.Places.{At}
use Rattle.sot_lang.specs.Ranges.{range_of, local_ranges, write_ranges}
use Rattle.sot_lang.specs.Bodies.{Fired, execution}
use Rattle.sot_lang.specs.Readings.{reading}
use Rattle.sot_lang.specs.TableRules.{IsCoded}
use Rattle.sot_world.specs.Configurations.{Configuration, mode_of, locals_of, Mode}
use Rattle.sot_world.specs.Steps.{Event, Input, Code, Guest, Decide, Tick, is_enabled}

-- of a firing the draft and whether the node is enabled are recorded, of a decision the mode
-- afterwards, and of an input or a tick nothing more than that it came
pub data Recorded : Type 0 where
  InputTaken : Recorded
  NodeFired : (draft : List (Option ℤ)) (enabled : Bool) → Recorded
  ModuleDecided : (mode : Mode) → Recorded
  PlantsTicked : Recorded

-- the draft of a coded node is what its body gives, whether the node is enabled or not
pub record RecordsCode (p : Tables) (n : ℕ) (C : Configuration) (r : Recorded) : Type 0 where
  pub node : NodeInfo
  pub is : At p.nodes n node
  pub acts : List Act
  pub coded : IsCoded node acts
  pub fired : Fired
  pub runs : execution acts (local_ranges node) (write_ranges p node)
      (reading node C.scalars C.points) (locals_of C n) ≡ Ok fired
  pub recorded : r ≡ NodeFired fired.draft (is_enabled p C n)

-- what is recorded of the step by an event from C to D
abbrev pub Records : Tables → Configuration → Event → Configuration → Recorded → Type 0
Records p C (Input topic value) D r = r ≡ InputTaken
Records p C (Code n) D r = RecordsCode p n C r
Records p C (Guest n draft) D r = r ≡ NodeFired draft (is_enabled p C n)
Records p C (Decide m) D r = r ≡ ModuleDecided (mode_of D m)
Records p C (Tick noise) D r = r ≡ PlantsTicked

-- the number that a draft has for the scalar k is refused: it is outside the scalar's range
abbrev pub is_refused : Tables → ℕ → Option ℤ → Bool
is_refused p k None = false
is_refused p k (Some z) =
    not (int_le (range_of p.scalars k).lo z && int_le z (range_of p.scalars k).hi)
