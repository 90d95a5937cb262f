-- What steps do of statements.
use Rattle.std.specs.Prelude.{◌≡◌, ◌+◌, ◌++◌, ◌∷◌, [], ℕ, ℤ, List, Ok, length, take, drop}
use Rattle.sot_lang.specs.declared.act.Act.{Act}
use Rattle.sot_lang.specs.declared.tables.NodeInfo.{NodeInfo}
use Rattle.sot_lang.specs.Tables.{Tables}
use Rattle.sot_lang.specs.Values.{Outcome}
use Rattle.sot_lang.specs.Bodies.{Fired}
use Rattle.sot_code.specs.Firings.{fired_at, run_of}
use Rattle.sot_eval_flat.specs.declared.instruction.Instruction.{Instruction}
use Rattle.sot_eval_flat.specs.declared.step.Step.{Step}
use Rattle.sot_eval_flat.specs.Instructions.{Runs}
use Rattle.sot_eval_flat.specs.Flows.{State, FlowAll}
use Rattle.sot_eval_flat.specs.Shapes.{IsRoom}

-- the numbers of a node's names, and what stands of its firing
abbrev pub name_count : NodeInfo → ℕ
name_count node = length node.reads.items + length node.locals.items

abbrev pub names_of : NodeInfo → State → List ℤ
names_of node s = take (name_count node) s.room

abbrev pub fired_of : NodeInfo → State → Fired
fired_of node s = fired_at node (names_of node s) s.draft

-- what statements leave from a state
abbrev pub left_from : Tables → NodeInfo → List Act → State → Outcome Fired
left_from p node acts s = run_of p node (names_of node s) acts (fired_of node s)

-- an outcome, reached from the one state, is what stands in the other; what is read stays
pub record Leaves (node : NodeInfo) (stated : List ℤ) (o : Outcome Fired) (s t : State)
    : Type 0 where
  pub room : IsRoom (name_count node) stated t.room
  pub read : take (length node.reads.items) t.room ≡ take (length node.reads.items) s.room
  pub ends : o ≡ Ok (fired_of node t)
  pub unused : drop (length node.writes.items) t.draft ≡ drop (length node.writes.items) s.draft
  pub slots : length t.draft ≡ length s.draft

-- where steps lead without a trap, the statements do
abbrev pub Carries : Tables → NodeInfo → List ℤ → List Step → List Act → Type 0
Carries p node stated steps acts =
    (s t : State) → IsRoom (name_count node) stated s.room → FlowAll steps s t
    → Leaves node stated (left_from p node acts s) s t

-- steps, and then instructions that are in no step yet
abbrev pub FlowOpen : List Step → List Instruction → State → State → Type 0
FlowOpen steps line s t =
    (m : State) × FlowAll steps s m × Runs line m.room t.room × (t.draft ≡ m.draft)

abbrev pub CarriesOpen : Tables → NodeInfo → List ℤ → List Step → List Instruction → List Act
    → Type 0
CarriesOpen p node stated steps line acts =
    (s t : State) → IsRoom (name_count node) stated s.room → FlowOpen steps line s t
    → Leaves node stated (left_from p node acts s) s t

-- the one statement is carried too
abbrev pub OneMore : Tables → NodeInfo → List ℤ → Act → List Step → List Instruction → List Step
    → List Instruction → Type 0
OneMore p node stated one steps line more longer =
    (acts : List Act) → CarriesOpen p node stated steps line acts
    → CarriesOpen p node stated more longer (acts ++ one ∷ [])
