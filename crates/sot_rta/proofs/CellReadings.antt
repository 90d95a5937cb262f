-- What a node reads with one plant in a cell.
use Rattle.std.proofs.Common.{◌≡◌, ℕ, zero, suc, ◌<◌, List, [], ◌∷◌, ◌++◌, length, take, drop, refl, sym, ap, ◌∙◌, subst, arith}
use Rattle.std.specs.Prelude.{pos, slice_index_or}
use Rattle.std.proofs.Math.Seq.{take-append_seam, drop-append_seam}
use Rattle.std.proofs.lemmas.List.{get_or-set_other}
use Rattle.sot_box.specs.Sides.{Side}
use Rattle.sot_lists.specs.Places.{At}
use Rattle.sot_lang.specs.declared.tables.PlantInfo.{PlantInfo}
use Rattle.sot_lang.specs.declared.tables.NodeInfo.{NodeInfo}
use Rattle.sot_lang.specs.declared.tables.Slot.TheVariants.{State}
use Rattle.sot_lang.specs.Tables.{Tables}
use Rattle.sot_lang.specs.OwnerNames.{width_of}
use Rattle.sot_lang.specs.Ranges.{local_ranges, write_ranges}
use Rattle.sot_iv.specs.declared.drafted.Drafted.{Drafted}
use Rattle.sot_iv.specs.TermIntervals.{OrMayTrap}
use Rattle.sot_iv.specs.BodyIntervals.{IsExecutionIntervals}
use Rattle.sot_iv.specs.NodeFirings.{IsNodeDraft}
use Rattle.sot_traps.specs.Readings.{IsReading, CanBeRead}
use Rattle.sot_traps.proofs.SlotReadings.{reading_is}
use Rattle.sot_rta.specs.Drafts.{IsCellReading, AreCellReadings, IsCellDraft}

-- a plant with some state variable exists
plant_with : (ps : List PlantInfo) (k v : ℕ) → v < width_of ps k → (plant : PlantInfo) × At ps k plant
plant_with [] k v lt = absurd (omega arith)
plant_with (x ∷ ps) zero v lt = (x, refl)
plant_with (x ∷ ps) (suc k) v lt = plant_with ps k v lt

-- a reading of another plant than the one in the cell
pub other_side : (p : Tables) (k : ℕ) (cell : List Side) (j v : ℕ) (r : Side) → (j ≡ k → ⊥) → CanBeRead p (State j v) → IsReading p (State j v) r
    → IsCellReading p k cell (State j v) r
other_side p k cell j v r ne can is hulls all =
    reading_is p hulls all (State j v) r (λ i u e. let plant = plant_with p.plants j v can.1 in
    subst (λ q. (plant : PlantInfo) × At p.plants q plant) (named i u e) plant) is
    ∙ ap (λ h. slice_index_or h v (record { lo = pos 0; hi = pos 0 })) (sym (get_or-set_other hulls k j cell [] ne))
  where
    named : (i u : ℕ) → State j v ≡ State i u → j ≡ i
    named i u e = cc

-- what the node drafts is what its evaluation over these readings hands out
pub drafts_are : (p : Tables) (n : ℕ) (node : NodeInfo) (k : ℕ) (cell sides ranges : List Side) (result : OrMayTrap (List Drafted)) → At p.nodes n node
    → AreCellReadings p k cell node.reads.items sides → ranges ≡ sides ++ local_ranges node → IsNodeDraft p n ranges result → IsCellDraft p k cell node result
drafts_are p n node k cell sides ranges result at are whole gives acts hulls coded all =
    let h = gives node acts at coded in
    let long : length node.reads.items ≡ length sides = sym are.count in
    let front : take (length node.reads.items) ranges ≡ sides = ap (λ i. take i ranges) long ∙ ap (take (length sides)) whole
    ∙ take-append_seam sides (local_ranges node) in
    let back : drop (length node.reads.items) ranges ≡ local_ranges node = ap (λ i. drop i ranges) long ∙ ap (drop (length sides)) whole
    ∙ drop-append_seam sides (local_ranges node) in
    let runs = subst (λ q. IsExecutionIntervals acts (local_ranges node) (write_ranges p node) q (local_ranges node) h.0) (front ∙ are.are hulls all)
    (subst (λ q. IsExecutionIntervals acts (local_ranges node) (write_ranges p node) (take (length node.reads.items) ranges) q h.0) back h.1) in
    (h.0, runs, h.2)
