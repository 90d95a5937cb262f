-- What a firing hands out, and what may be fired and ticked.
use Rattle.std.specs.Prelude.{◌≡◌, ℕ, ◌+◌, ◌-◌, ℤ, List, ◌++◌, Option, None, Result, Ok, Err}
use Rattle.std.specs.Prelude.{length, replicate}
use Rattle.sot_lists.specs.Places.{At}
use Rattle.sot_lang.specs.declared.act.Act.{Act}
use Rattle.sot_lang.specs.declared.trap.Trap.{Trap}
use Rattle.sot_lang.specs.declared.tables.NodeInfo.{NodeInfo}
use Rattle.sot_lang.specs.declared.tables.PlantInfo.{PlantInfo}
use Rattle.sot_lang.specs.Tables.{Tables}
use Rattle.sot_lang.specs.Ranges.{local_ranges, write_ranges}
use Rattle.sot_lang.specs.OwnerNames.{seen_width}
use Rattle.sot_lang.specs.TableRules.{IsCoded}
use Rattle.sot_lang.specs.Values.{Outcome}
use Rattle.sot_lang.specs.Bodies as bodies
use Rattle.sot_lang.specs.Ticks.{values, next_state}
use Rattle.sot_code.specs.declared.fired.Fired.{Fired}

-- a draft in its eight slots, with nothing in those past its own
abbrev pub in_slots : List (Option ℤ) → List (Option ℤ)
in_slots draft = draft ++ replicate (8 - length draft) None

-- an execution's outcome, with its draft in eight slots
abbrev pub recorded : Outcome bodies.Fired → Result Fired Trap
recorded (Ok f) = Ok (record { locals = f.locals; draft = in_slots f.draft })
recorded (Err t) = Err t

-- what is left where there was no trap
abbrev pub left_by : {U : Type 0} → Result U Trap → List ℤ → List (Option ℤ) → Result Fired Trap
left_by (Ok u) locals draft = Ok (record { locals = locals; draft = draft })
left_by (Err t) locals draft = Err t

-- the node is coded, and there is a number for each of its read slots and for each of its locals
pub record MayRun (p : Tables) (n : ℕ) (seen locals : List ℤ) : Type 0 where
  pub node : NodeInfo
  pub acts : List Act
  pub is : At p.nodes n node
  pub coded : IsCoded node acts
  pub reads : length seen ≡ length node.reads.items
  pub locals_are : length locals ≡ length node.locals.items

-- the outcome is the execution of the node's body
abbrev pub IsExecution : Tables → ℕ → List ℤ → List ℤ → Result Fired Trap → Type 0
IsExecution p n seen locals result =
    (node : NodeInfo) (acts : List Act) → At p.nodes n node → IsCoded node acts →
    result ≡ recorded (bodies.execution acts (local_ranges node) (write_ranges p node) seen locals)

-- the plant exists, and there is a number for each of its state variables, inputs, seen states and
-- disturbances
pub record MayTickPlant (p : Tables) (k : ℕ) (state held seen noise : List ℤ) : Type 0 where
  pub plant : PlantInfo
  pub is : At p.plants k plant
  pub states : length state ≡ length plant.states.items
  pub inputs : length held ≡ length plant.inputs.items
  pub seen_are : length seen ≡ seen_width p.plants plant.sees.items
  pub disturbances : length noise ≡ length plant.noise.items

-- the outcome is the plant's next point
abbrev pub IsNextPoint : Tables → ℕ → List ℤ → List ℤ → List ℤ → List ℤ → Outcome (List ℤ) → Type 0
IsNextPoint p k state held seen noise result =
    (plant : PlantInfo) → At p.plants k plant → result ≡ next_state plant state held seen noise

-- the plant exists, and there is a number for each of its names
pub record MayTickOver (p : Tables) (k : ℕ) (numbers : List ℤ) : Type 0 where
  pub plant : PlantInfo
  pub is : At p.plants k plant
  pub names : length numbers ≡ length plant.states.items + length plant.inputs.items
      + seen_width p.plants plant.sees.items + length plant.noise.items

-- the outcome is the values of the plant's expressions on these numbers
abbrev pub IsPointOver : Tables → ℕ → List ℤ → Outcome (List ℤ) → Type 0
IsPointOver p k numbers result =
    (plant : PlantInfo) → At p.plants k plant → result ≡ values plant.next.items numbers
