-- The tube of a failing point is not inside the safe region.
use Rattle.std.proofs.Common.{◌≡◌, ℕ, ◌+◌, ℤ, false, true, List, [], ◌∷◌, refl, sym, ap₂, subst, arith}
use Rattle.std.specs.Prelude.{◌*◌}
use Rattle.sot_box.specs.Boxes.{IsWithin, point_box}
use Rattle.sot_box.specs.Regions.{IsInRegion, Covers}
use Rattle.sot_lists.specs.Places.{At}
use Rattle.sot_lists.proofs.Places.{at_same}
use Rattle.sot_lang.specs.declared.act.Act.{Act}
use Rattle.sot_lang.specs.declared.tables.PlantInfo.{PlantInfo}
use Rattle.sot_lang.specs.declared.tables.NodeInfo.{NodeInfo}
use Rattle.sot_lang.specs.declared.tables.ModuleInfo.{ModuleInfo}
use Rattle.sot_lang.specs.Tables.{Tables}
use Rattle.sot_lang.specs.TableRules.{IsCoded}
use Rattle.sot_lang.proofs.Owners.{one_body}
use Rattle.sot_iv.specs.BodyIntervals.{Intervals}
use Rattle.sot_iv.proofs.Unique.{same_number}
use Rattle.sot_tube.specs.Tubes.{TubeInside, AnyTubeInside}
use Rattle.sot_tube.specs.Certified.{DraftsFrom, command_intervals, IsClosedCell, IsReachCell}
use Rattle.sot_certify.proofs.Covering.{failing_each}
use Rattle.sot_certify.specs.Made.{IsGood, FailsAt}
use Rattle.sot_certify.specs.Laws.{TubesOfFailingPointsLeave}

-- a point's own box holds that point alone
alone : (s t : List ℤ) → IsWithin (point_box s) t → s ≡ t
alone [] [] w = refl
alone [] (y ∷ ys) w = absurd w
alone (x ∷ xs) [] w = absurd w
alone (x ∷ xs) (y ∷ ys) w = ap₂ (λ a b. a ∷ b) (same_number x y w.0 w.1) (alone xs ys w.2)

pub point_covered : (a : ModuleInfo) (s : List ℤ) → IsInRegion a.safe.boxes s → Covers a.safe.boxes (point_box s)
point_covered a s i t w = subst (IsInRegion a.safe.boxes) (alone s t w) i

none_more : (n : ℕ) → n + 0 ≡ n
none_more n = omega arith

-- of closed cells, and of reach cells
pub closed : (p : Tables) (a : ModuleInfo) (s : List ℤ) (plant : PlantInfo) (sc : NodeInfo) (acts : List Act) (fired : Intervals)
    → At p.plants a.plant plant → At p.nodes a.sc sc → IsCoded sc acts → DraftsFrom p a sc acts (point_box s) fired → FailsAt p a false s
    → TubeInside p plant (command_intervals p plant sc fired.draft) a.safe.boxes (point_box s) sc.period → ⊥
closed p a s plant sc acts fired at at_s coded drafts h inside =
    let f = failing_each (IsGood p a false) a.safe.boxes h.cells s h.found in
    let cell : IsClosedCell p 0 a plant sc acts (point_box s) = record {
      covered = point_covered a s f.0;
      fired = fired;
      drafts = drafts;
      stays = subst (TubeInside p plant (command_intervals p plant sc fired.draft) a.safe.boxes (point_box s)) (sym (none_more sc.period)) inside;
    } in
    f.1 (λ plant' sc' acts' at' at_s' coded'.
    let same : sc ≡ sc' = at_same p.nodes a.sc sc sc' at_s at_s' in
    subst (λ (x : PlantInfo). IsClosedCell p 0 a x sc' acts' (point_box s)) (at_same p.plants a.plant plant plant' at at')
    (subst (λ (y : NodeInfo). IsClosedCell p 0 a plant y acts' (point_box s)) same
    (subst (λ us. IsClosedCell p 0 a plant sc us (point_box s)) (one_body sc acts acts' coded (subst (λ (y : NodeInfo). IsCoded y acts') (sym same) coded'))
    cell)))

pub reach : (p : Tables) (a : ModuleInfo) (s : List ℤ) (plant : PlantInfo) → At p.plants a.plant plant → FailsAt p a true s
    → AnyTubeInside p plant a.safe.boxes (point_box s) (2 * a.period) → ⊥
reach p a s plant at h inside =
    let f = failing_each (IsGood p a true) a.safer.boxes h.cells s h.found in
    let cell : IsReachCell p 0 a plant (point_box s) = subst (λ n. AnyTubeInside p plant a.safe.boxes (point_box s) (2 * n)) (sym (none_more a.period)) inside
    in
    f.1 (λ plant' at'. subst (λ (x : PlantInfo). IsReachCell p 0 a x (point_box s)) (at_same p.plants a.plant plant plant' at at') cell)

pub tubes_leave : TubesOfFailingPointsLeave
tubes_leave = (closed, reach)
