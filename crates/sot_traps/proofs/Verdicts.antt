-- What a node's evaluation over one choice of hulls says of all.
use Rattle.std.proofs.Common.{◌≡◌, ℕ, List, ◌++◌, length, take, drop, Ok, Err, refl, sym, ap, ◌∙◌, subst}
use Rattle.std.proofs.Math.Seq.{take-append_seam, drop-append_seam}
use Rattle.sot_box.specs.Sides.{Side}
use Rattle.sot_lists.specs.Places.{At}
use Rattle.sot_lang.specs.declared.act.Act.{Act}
use Rattle.sot_lang.specs.declared.tables.NodeInfo.{NodeInfo}
use Rattle.sot_lang.specs.Tables.{Tables}
use Rattle.sot_lang.specs.Ranges.{local_ranges, write_ranges}
use Rattle.sot_lang.specs.SafeRegions.{AllHulls}
use Rattle.sot_lang.specs.TableRules.{MeetsTableRules}
use Rattle.sot_iv.specs.declared.drafted.Drafted.{Drafted}
use Rattle.sot_iv.specs.TermIntervals.{OrMayTrap}
use Rattle.sot_iv.specs.BodyIntervals.{Intervals, IsExecutionIntervals}
use Rattle.sot_iv.specs.NodeIntervals.{IsNodeExecution}
use Rattle.sot_iv.specs.NodeFirings.{drafts_of}
use Rattle.sot_iv.specs.TrapFree.{IsSafeExecution}
use Rattle.sot_iv.proofs.BodyUnique.{execution_same}
use Rattle.sot_traps.specs.Readings.{AreReadings}
use Rattle.sot_traps.specs.Verdict.{HaveSafeBoxes, IsVerdictOf}
use Rattle.sot_traps.proofs.SafeHulls.{all_hulls}
use Rattle.sot_traps.proofs.SlotReadings.{readings_are, readings_length}

-- only whether there is a trap, and which
abbrev pub told : {A : Type 0} → OrMayTrap A → OrMayTrap (Unit {0})
told (Ok f) = Ok tt
told (Err t) = Err t

pub told_drafts : (o : OrMayTrap Intervals) → told (drafts_of o) ≡ told o
told_drafts (Ok f) = refl
told_drafts (Err t) = refl

verdict_from : (p : Tables) (node : NodeInfo) (acts : List Act) (o : OrMayTrap Intervals) → (hulls : List (List Side)) × AllHulls p hulls
    → ((hulls : List (List Side)) → AllHulls p hulls → IsNodeExecution p node acts hulls o)
    → ((q : OrMayTrap Intervals) → IsSafeExecution p node acts q → o ≡ q) → IsVerdictOf p node acts (told o)
verdict_from p node acts (Ok f) hs runs one = record {
  free = (λ e. (hs.0, hs.1, (f, runs hs.0 hs.1)), λ h. refl);
  trap = λ t. (λ e. absurd (cc), λ h. ap told (one (Err t) h));
}
verdict_from p node acts (Err u) hs runs one = record {
  free = (λ e. absurd (cc), λ h. ap told (one (Ok h.2.0) (h.0, h.1, h.2.1)));
  trap = λ t. (λ e. let same : u ≡ t = cc in subst (λ x. IsSafeExecution p node acts (Err x)) same (hs.0, hs.1, runs hs.0 hs.1), λ h. ap told (one (Err t) h));
}

pub verdict_is : (p : Tables) (n : ℕ) (node : NodeInfo) (acts : List Act) (sides : List Side) (o : OrMayTrap Intervals) → MeetsTableRules p → HaveSafeBoxes p
    → At p.nodes n node
    → AreReadings p node.reads.items sides → IsExecutionIntervals acts (local_ranges node) (write_ranges p node) sides (local_ranges node) o
    → IsVerdictOf p node acts (told o)
verdict_is p n node acts sides o rules boxes at are runs = verdict_from p node acts o (all_hulls p rules boxes) over one
  where
    over : (hulls : List (List Side)) → AllHulls p hulls → IsNodeExecution p node acts hulls o
    over hulls all =
        subst (λ q. IsExecutionIntervals acts (local_ranges node) (write_ranges p node) q (local_ranges node) o)
        (readings_are p hulls all node.reads.items sides (λ k v h. rules.typed.reads_are n node k v at h) are) runs

    one : (q : OrMayTrap Intervals) → IsSafeExecution p node acts q → o ≡ q
    one q h = execution_same acts (local_ranges node) (write_ranges p node) _ (local_ranges node) o q (over h.0 h.1) h.2

-- the verdict by what the evaluation of the node hands out
pub verdict_of : (p : Tables) (n : ℕ) (node : NodeInfo) (acts : List Act) (sides ranges : List Side) (result : OrMayTrap (List Drafted)) → MeetsTableRules p
    → HaveSafeBoxes p → At p.nodes n node
    → AreReadings p node.reads.items sides → ranges ≡ sides ++ local_ranges node
    → (o : OrMayTrap Intervals) × IsExecutionIntervals acts (local_ranges node) (write_ranges p node) (take (length node.reads.items) ranges)
    (drop (length node.reads.items) ranges) o × (result ≡ drafts_of o)
    → IsVerdictOf p node acts (told result)
verdict_of p n node acts sides ranges result rules boxes at are whole h =
    let long : length node.reads.items ≡ length sides = sym (readings_length p node.reads.items sides are) in
    let front : take (length node.reads.items) ranges ≡ sides = ap (λ k. take k ranges) long ∙ ap (take (length sides)) whole
    ∙ take-append_seam sides (local_ranges node) in
    let back : drop (length node.reads.items) ranges ≡ local_ranges node = ap (λ k. drop k ranges) long ∙ ap (drop (length sides)) whole
    ∙ drop-append_seam sides (local_ranges node) in
    let runs = subst (λ q. IsExecutionIntervals acts (local_ranges node) (write_ranges p node) q (local_ranges node) h.0) front
    (subst (λ q. IsExecutionIntervals acts (local_ranges node) (write_ranges p node) (take (length node.reads.items) ranges) q h.0) back h.1) in
    let same : told h.0 ≡ told result = sym (ap told h.2 ∙ told_drafts h.0) in
    subst (IsVerdictOf p node acts) same (verdict_is p n node acts sides h.0 rules boxes at are runs)
