-- Each check of a verdict is exact, and so is the verdict.
use Rattle.std.proofs.Common.{◌≡◌, ℕ, ⊎_elim, inl, inr, List, Ok, Err, Some, sym, ◌∙◌, subst, arith}
use Rattle.std.specs.Prelude.{◌+◌, ◌*◌, slice_set}
use Rattle.std.proofs.lemmas.Option.{same_Some}
use Rattle.sot_lang.specs.declared.act.Act.{Act}
use Rattle.sot_lang.specs.declared.cert.Cells.{Cells}
use Rattle.sot_lang.specs.declared.cert.Cert.{Cert}
use Rattle.sot_lang.specs.declared.tables.PlantInfo.{PlantInfo}
use Rattle.sot_lang.specs.declared.tables.NodeInfo.{NodeInfo}
use Rattle.sot_lang.specs.declared.tables.ModuleInfo.{ModuleInfo}
use Rattle.sot_lang.specs.Tables.{Tables}
use Rattle.sot_lang.specs.Ranges.{input_ranges, local_ranges, write_ranges}
use Rattle.sot_lang.specs.TableRules.{IsCoded}
use Rattle.sot_lang.proofs.Owners.{one_body}
use Rattle.sot_lists.proofs.Places.{at_same}
use Rattle.sot_box.specs.Sides.{Side}
use Rattle.sot_lists.specs.Places.{At}
use Rattle.sot_iv.specs.TermIntervals.{OrMayTrap}
use Rattle.sot_iv.specs.BodyIntervals.{Intervals, IsExecutionIntervals}
use Rattle.sot_iv.specs.NodeIntervals.{reading_intervals}
use Rattle.sot_iv.specs.TrapFree.{IsSafeExecution}
use Rattle.sot_iv.proofs.BodyUnique.{execution_same}
use Rattle.sot_tube.specs.declared.leave.Leave.{Leave}
use Rattle.sot_tube.specs.Refusals.{Refusal, SharedNode, SharedOutput, SharedPlant}
use Rattle.sot_tube.specs.Checks.{Check, and_then, for_each, IsLeastClash, IsExact}
use Rattle.sot_tube.specs.Leaves.{TubeLeaves}
use Rattle.sot_tube.specs.Certified.{HasCells, DraftsFrom, command_intervals}
use Rattle.sot_tube.specs.Verdict.{ShareNode, ShareOutput, SharePlant, IsForeignInput, IsWrittenByOne, ClosedCellLeaves, shared_node, shared_output}
use Rattle.sot_tube.specs.Verdict.{shared_plant, foreign_input, composition, entry, periods, outputs, boxes, shape, trap_free, code, closed_cover, reach_cover}
use Rattle.sot_tube.specs.Verdict.{closed_cell, reach_cell, cell_checks, cells_of, verdict}
use Rattle.sot_tube.proofs.Exact.{and_then_exact, for_each_exact, of_the_exact, least_number_same, least_clash_same}
use Rattle.sot_box.proofs.Laws.{gap_unique, gap_uncovered, first_gap_unique}
use Rattle.sot_tube.proofs.Gaps.{first_gap_in}
use Rattle.sot_tube.proofs.Leaving.{all_hulls_same, tube_leaves_not, tube_leaves_same}

-- three numbers make one refusal
three : (f : ℕ → ℕ → ℕ → Refusal) (Clash : ℕ → ℕ → ℕ → Type 0) (r r' : Refusal) → (x a b : ℕ) × IsLeastClash Clash x a b × (r ≡ f x a b)
    → (x a b : ℕ) × IsLeastClash Clash x a b × (r' ≡ f x a b) → r ≡ r'
three f Clash r r' h h' = let e = least_clash_same Clash h.0 h.1 h.2 h'.0 h'.1 h'.2 h.3 h'.3 in cc (e.xs, e.as', e.bs)

shared_node_exact : (p : Tables) → IsExact (shared_node p)
shared_node_exact p = record {
  exclusive = λ r h passes. let c = h.3.clash in let same = passes h.1 h.2 c.0 c.1 h.0 c.2 c.3 c.4 c.5 in absurd (omega (arith, h.3.before, same));
  unique = three SharedNode (ShareNode p);
}

shared_output_exact : (p : Tables) → IsExact (shared_output p)
shared_output_exact p = record {
  exclusive = λ r h passes. let c = h.3.clash in c.6 (passes h.1 h.2 c.0 c.1 h.0 c.2 c.3 c.4 c.5 (λ e. omega (arith, h.3.before, e)));
  unique = three SharedOutput (ShareOutput p);
}

shared_plant_exact : (p : Tables) → IsExact (shared_plant p)
shared_plant_exact p = record {
  exclusive = λ r h passes. let c = h.3.clash in let same = passes h.1 h.2 c.0 c.1 c.2 c.3 (c.4 ∙ sym c.5) in absurd (omega (arith, h.3.before, same));
  unique = three SharedPlant (SharePlant p);
}

foreign_input_exact : (p : Tables) (m : ℕ) (a : ModuleInfo) → IsExact (foreign_input p m a)
foreign_input_exact p m a = record {
  exclusive = λ r h passes. let f = h.1.has in f.5 (passes f.0 f.1 h.0 f.2 f.3 f.4);
  unique = λ r r' h h'. let e = least_number_same (IsForeignInput p a) h.0 h'.0 h.1 h'.1 in cc;
}

pub composition_exact : (p : Tables) → IsExact (composition p)
composition_exact p =
    and_then_exact (shared_node p) (and_then (shared_output p) (and_then (shared_plant p) (for_each p.modules (foreign_input p)))) (shared_node_exact p)
    (and_then_exact (shared_output p) (and_then (shared_plant p) (for_each p.modules (foreign_input p))) (shared_output_exact p)
    (and_then_exact (shared_plant p) (for_each p.modules (foreign_input p)) (shared_plant_exact p)
    (for_each_exact p.modules (foreign_input p) (foreign_input_exact p))))

entry_exact : (cert : Cert) (m : ℕ) → IsExact (entry cert m)
entry_exact cert m = record {
  exclusive = λ r h passes. h.0 passes.0 passes.1;
  unique = λ r r' h h'. h.1 ∙ sym h'.1;
}

pub periods_exact : (p : Tables) (m : ℕ) (a : ModuleInfo) → IsExact (periods p m a)
periods_exact p m a = record {
  exclusive = λ r h passes.
      ⊎_elim
      (λ x. let le = passes x.0.0 (inl x.0.1) in absurd (omega (arith, x.0.2, le)))
      (λ y. let le = passes y.1.0 (inr y.1.1) in absurd (omega (arith, y.1.2, le)))
      h;
  unique = λ r r' h h'.
      ⊎_elim
      (λ x. ⊎_elim (λ x'. x.1 ∙ sym x'.1) (λ y'. absurd (y'.0 x.0)) h')
      (λ y. ⊎_elim (λ x'. absurd (y.0 x'.0)) (λ y'. y.2 ∙ sym y'.2) h')
      h;
}

pub outputs_exact : (p : Tables) (m : ℕ) (a : ModuleInfo) → IsExact (outputs p m a)
outputs_exact p m a = record {
  exclusive = λ r h passes.
      let w = h.1.has in
      let both = passes w.0 w.1 h.0 w.2 w.3 in
      ⊎_elim (λ x. x.1 (both.0 x.0)) (λ y. y.1 (both.1 y.0)) w.4;
  unique = λ r r' h h'. let e = least_number_same (IsWrittenByOne p a) h.0 h'.0 h.1 h'.1 in cc;
}

pub boxes_exact : (m : ℕ) (a : ModuleInfo) → IsExact (boxes m a)
boxes_exact m a = record {
  exclusive = λ r h passes. ⊎_elim (λ x. passes.0 x.0) (λ y. passes.1 y.1) h;
  unique = λ r r' h h'.
      ⊎_elim
      (λ x. ⊎_elim (λ x'. x.1 ∙ sym x'.1) (λ y'. absurd (y'.0 x.0)) h')
      (λ y. ⊎_elim (λ x'. absurd (y.0 x'.0)) (λ y'. y.2 ∙ sym y'.2) h')
      h;
}

pub shape_exact : (p : Tables) (cert : Cert) (m : ℕ) (a : ModuleInfo) → IsExact (shape p cert m a)
shape_exact p cert m a =
    and_then_exact (entry cert m) (and_then (periods p m a) (and_then (outputs p m a) (boxes m a))) (entry_exact cert m)
    (and_then_exact (periods p m a) (and_then (outputs p m a) (boxes m a)) (periods_exact p m a)
    (and_then_exact (outputs p m a) (boxes m a) (outputs_exact p m a) (boxes_exact m a)))

pub cells_same : (cert : Cert) (m : ℕ) (a b : Cells) → HasCells cert m a → HasCells cert m b → a ≡ b
cells_same cert m a b h h' = same_Some a b (same_Some (Some a) (Some b) (sym h ∙ h'))

safe_execution_same : (p : Tables) (node : NodeInfo) (us : List Act) (o o' : OrMayTrap Intervals) → IsSafeExecution p node us o → IsSafeExecution p node us o'
    → o ≡ o'
safe_execution_same p node us o o' h h' =
    let e = all_hulls_same p h.0 h'.0 h.1 h'.1 in
    execution_same us (local_ranges node) (write_ranges p node) (reading_intervals p node h'.0) (local_ranges node) o o'
    (subst (λ q. IsExecutionIntervals us (local_ranges node) (write_ranges p node) (reading_intervals p node q) (local_ranges node) o) e h.2) h'.2

pub drafts_same : (p : Tables) (a : ModuleInfo) (sc : NodeInfo) (us : List Act) (cell : List Side) (f g : Intervals) → DraftsFrom p a sc us cell f
    → DraftsFrom p a sc us cell g → f ≡ g
drafts_same p a sc us cell f g h h' =
    let e = all_hulls_same p h.hulls h'.hulls h.are h'.are in
    let one = execution_same us (local_ranges sc) (write_ranges p sc) (reading_intervals p sc (slice_set h'.hulls a.plant cell)) (local_ranges sc) (Ok f) (Ok g)
    (subst (λ q. IsExecutionIntervals us (local_ranges sc) (write_ranges p sc) (reading_intervals p sc (slice_set q a.plant cell)) (local_ranges sc) (Ok f)) e
    h.runs) h'.runs in
    cc

trap_free_exact : (p : Tables) (n : ℕ) (node : NodeInfo) (us : List Act) → IsExact (trap_free p n node us)
trap_free_exact p n node us = record {
  exclusive = λ r h passes. let e = safe_execution_same p node us (Err h.0) (Ok passes.2.0) h.1 (passes.0, passes.1, passes.2.1) in cc;
  unique = λ r r' h h'. let e = safe_execution_same p node us (Err h.0) (Err h'.0) h.1 h'.1 in cc;
}

pub code_exact : (p : Tables) (n : ℕ) (node : NodeInfo) → IsExact (code p n node)
code_exact p n node = of_the_exact (IsCoded node) (trap_free p n node) (one_body node) (trap_free_exact p n node)

closed_cell_exact : (p : Tables) (j m : ℕ) (a : ModuleInfo) (plant : PlantInfo) (sc : NodeInfo) (us : List Act) (i : ℕ) (cell : List Side)
    → IsExact (closed_cell p j m a plant sc us i cell)
closed_cell_exact p j m a plant sc us i cell = record {
  exclusive = λ r h passes.
      ⊎_elim
      (λ out. gap_uncovered a.safe.boxes cell out.0 out.1 passes.covered)
      (λ later.
      let e = drafts_same p a sc us cell later.1 passes.fired later.2 passes.drafts in
      tube_leaves_not p plant (command_intervals p plant sc passes.fired.draft) a.safe.boxes cell (sc.period + j) h.0
      (subst (λ q. TubeLeaves p plant (command_intervals p plant sc q.draft) a.safe.boxes cell (sc.period + j) h.0) e later.3) passes.stays)
      h.1;
  unique = λ r r' h h'. let e = same h.0 h'.0 h.1 h'.1 in cc;
}
  where
    same : (l l' : Leave) → ClosedCellLeaves p j a plant sc us cell l → ClosedCellLeaves p j a plant sc us cell l' → l ≡ l'
    same l l' h h' =
        ⊎_elim
        (λ out. ⊎_elim
        (λ out'. let e = gap_unique a.safe.boxes cell out.0 out'.0 out.1 out'.1 in cc)
        (λ later'. absurd (gap_uncovered a.safe.boxes cell out.0 out.1 later'.0)) h')
        (λ later. ⊎_elim
        (λ out'. absurd (gap_uncovered a.safe.boxes cell out'.0 out'.1 later.0))
        (λ later'.
        let e = drafts_same p a sc us cell later.1 later'.1 later.2 later'.2 in
        tube_leaves_same p plant (command_intervals p plant sc later'.1.draft) a.safe.boxes cell (sc.period + j) l l'
        (subst (λ q. TubeLeaves p plant (command_intervals p plant sc q.draft) a.safe.boxes cell (sc.period + j) l) e later.3) later'.3) h')
        h

reach_cell_exact : (p : Tables) (j m : ℕ) (a : ModuleInfo) (plant : PlantInfo) (i : ℕ) (cell : List Side) → IsExact (reach_cell p j m a plant i cell)
reach_cell_exact p j m a plant i cell = record {
  exclusive = λ r h passes. tube_leaves_not p plant (input_ranges p plant) a.safe.boxes cell (2 * (a.period + j)) h.0 h.1 passes;
  unique = λ r r' h h'. let e = tube_leaves_same p plant (input_ranges p plant) a.safe.boxes cell (2 * (a.period + j)) h.0 h'.0 h.1 h'.1 in cc;
}

closed_cover_exact : (m : ℕ) (a : ModuleInfo) (cells : Cells) → IsExact (closed_cover m a cells)
closed_cover_exact m a cells = record {
  exclusive = λ r h passes. let in' = first_gap_in a.safe.boxes cells.closed.boxes h.0 h.1 in in'.1 (passes h.0 in'.0);
  unique = λ r r' h h'. let e = first_gap_unique a.safe.boxes cells.closed.boxes h.0 h'.0 h.1 h'.1 in cc;
}

reach_cover_exact : (m : ℕ) (a : ModuleInfo) (cells : Cells) → IsExact (reach_cover m a cells)
reach_cover_exact m a cells = record {
  exclusive = λ r h passes. let in' = first_gap_in a.safer.boxes cells.reach.boxes h.0 h.1 in in'.1 (passes h.0 in'.0);
  unique = λ r r' h h'. let e = first_gap_unique a.safer.boxes cells.reach.boxes h.0 h'.0 h.1 h'.1 in cc;
}

cell_checks_exact : (p : Tables) (j m : ℕ) (a : ModuleInfo) (plant : PlantInfo) (sc : NodeInfo) (us : List Act) (cells : Cells)
    → IsExact (cell_checks p j m a plant sc us cells)
cell_checks_exact p j m a plant sc us cells =
    and_then_exact (closed_cover m a cells) (and_then closed (and_then (reach_cover m a cells) reach)) (closed_cover_exact m a cells)
    (and_then_exact closed (and_then (reach_cover m a cells) reach)
    (for_each_exact cells.closed.boxes (closed_cell p j m a plant sc us) (closed_cell_exact p j m a plant sc us))
    (and_then_exact (reach_cover m a cells) reach (reach_cover_exact m a cells)
    (for_each_exact cells.reach.boxes (reach_cell p j m a plant) (reach_cell_exact p j m a plant))))
  where
    closed : Check
    closed = for_each cells.closed.boxes (closed_cell p j m a plant sc us)

    reach : Check
    reach = for_each cells.reach.boxes (reach_cell p j m a plant)

pub cells_exact : (p : Tables) (j : ℕ) (cert : Cert) (m : ℕ) (a : ModuleInfo) → IsExact (cells_of p j cert m a)
cells_exact p j cert m a =
    of_the_exact (At p.plants a.plant) _ (at_same p.plants a.plant) (λ plant.
    of_the_exact (At p.nodes a.sc) _ (at_same p.nodes a.sc) (λ sc.
    of_the_exact (IsCoded sc) _ (one_body sc) (λ us.
    of_the_exact (HasCells cert m) _ (cells_same cert m) (λ cells. cell_checks_exact p j m a plant sc us cells))))

pub verdict_exact : (p : Tables) (j : ℕ) (cert : Cert) → IsExact (verdict p j cert)
verdict_exact p j cert =
    and_then_exact (composition p) _ (composition_exact p)
    (and_then_exact (for_each p.modules (shape p cert)) _ (for_each_exact p.modules (shape p cert) (shape_exact p cert))
    (and_then_exact (for_each p.nodes (code p)) _ (for_each_exact p.nodes (code p) (code_exact p))
    (for_each_exact p.modules (cells_of p j cert) (cells_exact p j cert))))
