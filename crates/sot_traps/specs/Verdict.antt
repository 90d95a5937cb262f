-- Whether a node never traps.
use Rattle.std.specs.Prelude.{◌≡◌, ◌≢◌, ◌↔◌, ℕ, Ok, Err, List, []}
use Rattle.sot_lists.specs.Places.{At}
use Rattle.sot_lang.specs.declared.act.Act.{Act}
use Rattle.sot_lang.specs.declared.tables.NodeInfo.{NodeInfo}
use Rattle.sot_lang.specs.declared.tables.ModuleInfo.{ModuleInfo}
use Rattle.sot_lang.specs.Tables.{Tables}
use Rattle.sot_lang.specs.TableRules.{IsCoded}
use Rattle.sot_iv.specs.declared.may_trap.MayTrap.{MayTrap}
use Rattle.sot_iv.specs.TermIntervals.{OrMayTrap}
use Rattle.sot_iv.specs.TrapFree.{IsSafeExecution, IsTrapFree}

-- the safe region of each module has a box
abbrev pub HaveSafeBoxes : Tables → Type 0
HaveSafeBoxes p = (m : ℕ) (a : ModuleInfo) → At p.modules m a → a.safe.boxes ≢ []

-- there is a node at this place, and it is coded
abbrev pub IsCodedNode : Tables → ℕ → Type 0
IsCodedNode p n = (node : NodeInfo) × (acts : List Act) × At p.nodes n node × IsCoded node acts

-- success exactly where the node is trap-free; a trap exactly where it is the first one
pub record IsVerdictOf (p : Tables) (node : NodeInfo) (acts : List Act)
    (result : OrMayTrap (Unit {0})) : Type 0 where
  pub free : (result ≡ Ok tt) ↔ IsTrapFree p node acts
  pub trap : (t : MayTrap) → (result ≡ Err t) ↔ IsSafeExecution p node acts (Err t)

-- that of the coded node at this place
abbrev pub IsTrapVerdict : Tables → ℕ → OrMayTrap (Unit {0}) → Type 0
IsTrapVerdict p n result =
    (node : NodeInfo) (acts : List Act) → At p.nodes n node → IsCoded node acts
    → IsVerdictOf p node acts result
