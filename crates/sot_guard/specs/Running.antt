-- What a decision and a run of a node's body need and give, part by part.
use Rattle.std.specs.Prelude.{ℕ, ℤ, Bool, true, false, List, Option, None, ◌≡◌, MatchResult, length}
use Rattle.std.specs.Prelude.{replicate}
use Rattle.sot_lists.specs.Places.{At}
use Rattle.sot_lang.specs.declared.act.Act.{Act}
use Rattle.sot_lang.specs.declared.tables.NodeInfo.{NodeInfo}
use Rattle.sot_lang.specs.declared.tables.ModuleInfo.{ModuleInfo}
use Rattle.sot_lang.specs.Tables.{Tables}
use Rattle.sot_lang.specs.TableRules.{IsCoded}
use Rattle.sot_lang.specs.Ranges.{local_ranges, write_ranges}
use Rattle.sot_lang.specs.Bodies.{execution}
use Rattle.sot_lang.specs.Readings.{reading}
use Rattle.sot_code.specs.Recorded.{in_slots}
use Rattle.sot_world.specs.declared.mode.Mode.{Mode}
use Rattle.sot_world.specs.Changes.{IsNextMode, AreThere}

-- the mode after a decision where models are trusted, and else the mode before it
abbrev pub IsModeWhere : Bool → Tables → ℕ → ModuleInfo → Mode → List ℤ → Mode → Type 0
IsModeWhere true p jitter a mode s next = IsNextMode p jitter a mode s next
IsModeWhere false p jitter a mode s next = next ≡ mode

-- the node is coded, what it reads is there, and it has its locals
pub record MayRunOn (p : Tables) (n : ℕ) (scalars : List ℤ) (points : List (List ℤ))
    (locals : List ℤ) : Type 0 where
  pub node : NodeInfo
  pub acts : List Act
  pub is : At p.nodes n node
  pub coded : IsCoded node acts
  pub there : AreThere scalars points node.reads.items
  pub locals_are : length locals ≡ length node.locals.items

-- what the body gives, its draft in eight slots; and where it traps, nothing, and the locals stay
abbrev pub RunsTo : Tables → ℕ → List ℤ → List (List ℤ) → List ℤ → List ℤ → List (Option ℤ)
    → Type 0
RunsTo p n scalars points locals after draft =
    (node : NodeInfo) (acts : List Act) → At p.nodes n node → IsCoded node acts → MatchResult
    (execution acts (local_ranges node) (write_ranges p node) (reading node scalars points) locals)
    (λ fired. (after ≡ fired.locals) × (draft ≡ in_slots fired.draft))
    (λ trap. (after ≡ locals) × (draft ≡ replicate 8 None))
