-- The checks of a module's cells.
use Rattle.std.proofs.Common.{◌≡◌, ℕ, ◌<◌, ⊎_elim, inr, Option, Some, Ok, Err, List, [], ◌∷◌, ℤ, length, get_or, refl, sym, ◌∙◌, subst}
use Rattle.std.specs.Prelude.{Result}
use Rattle.std.proofs.lemmas.Option.{same_Some}
use Rattle.sot_box.specs.Sides.{Side}
use Rattle.sot_lists.specs.Places.{At}
use Rattle.sot_box.specs.Regions.{IsInRegion, CoversAll}
use Rattle.sot_lang.specs.declared.cert.Cells.{Cells}
use Rattle.sot_lang.specs.declared.cert.Cert.{Cert}
use Rattle.sot_lang.specs.declared.tables.PlantInfo.{PlantInfo}
use Rattle.sot_lang.specs.declared.tables.NodeInfo.{NodeInfo}
use Rattle.sot_lang.specs.declared.tables.ModuleInfo.{ModuleInfo}
use Rattle.sot_lang.specs.declared.act.Act.{Act}
use Rattle.sot_lang.specs.Tables.{Tables}
use Rattle.sot_lang.specs.CertRules.{FitsTables}
use Rattle.sot_lang.specs.TableRules.{MeetsTableRules, IsCoded}
use Rattle.sot_tube.specs.Checks.{Check, and_then, for_each}
use Rattle.sot_tube.specs.Certified.{HasCells}
use Rattle.sot_tube.specs.Verdict.{closed_cover, reach_cover, closed_cell, reach_cell, cell_checks, cells_of}
use Rattle.sot_rta.specs.declared.refusal.Refusal.{Refusal}
use Rattle.sot_rta.specs.Refused.{Answers}
use Rattle.sot_rta.specs.Cells.{AnswersCells}
use Rattle.sot_lists.proofs.Places.{read_at}

-- boxes that are covered, point by point
pub covers_points : (boxes region : List (List Side)) → CoversAll boxes region → (s : List ℤ) → IsInRegion boxes s → IsInRegion region s
covers_points [] region c s i = absurd i
covers_points (b ∷ bs) region c s i = ⊎_elim (λ w. c.0 s w) (λ more. covers_points bs region c.1 s more) i

-- a check behind one that passes
pub behind : (first second : Check) → first.Passes → (r : Result (Unit {0}) Refusal) → Answers second r → Answers (and_then first second) r
behind first second passes (Ok x) h = (passes, h)
behind first second passes (Err e) h = inr (passes, h)

-- the reach cells behind all else that passes
pub cells_answer : (p : Tables) (jitter m : ℕ) (a : ModuleInfo) (plant : PlantInfo) (sc : NodeInfo) (acts : List Act) (cells : Cells)
    → (closed_cover m a cells).Passes → (for_each cells.closed.boxes (closed_cell p jitter m a plant sc acts)).Passes → (reach_cover m a cells).Passes
    → (r : Result (Unit {0}) Refusal) → Answers (for_each cells.reach.boxes (reach_cell p jitter m a plant)) r
    → Answers (cell_checks p jitter m a plant sc acts cells) r
cells_answer p jitter m a plant sc acts cells cover closed safer (Ok x) h = (cover, (closed, (safer, h)))
cells_answer p jitter m a plant sc acts cells cover closed safer (Err e) h = inr (cover, inr (closed, inr (safer, h)))

-- the entry of a module
pub entry_there : (p : Tables) (cert : Cert) → FitsTables p cert → (m : ℕ) (x : Option Cells) → m < length p.modules → x ≡ get_or cert.modules.items m x
    → At cert.modules.items m x
entry_there p cert fits m x lt is = read_at cert.modules.items cert.modules.items m x refl (subst (λ n. m < n) (sym fits.entries) lt) is

module _ (p : Tables) (rules : MeetsTableRules p) (jitter : ℕ) (cert : Cert) (m : ℕ) (a : ModuleInfo) (at : At p.modules m a) (cells : Cells)
    (entry : HasCells cert m cells) where
  passes : ((plant : PlantInfo) (sc : NodeInfo) (acts : List Act) → At p.plants a.plant plant → At p.nodes a.sc sc → IsCoded sc acts
      → (cell_checks p jitter m a plant sc acts cells).Passes) → (cells_of p jitter cert m a).Passes
  passes h plant plant_at sc sc_at acts coded others has =
      let same : cells ≡ others = same_Some cells others (same_Some (Some cells) (Some others) (sym entry ∙ has)) in
      subst (λ q. (cell_checks p jitter m a plant sc acts q).Passes) same (h plant sc acts plant_at sc_at coded)

  -- what is found by its place is what was read
  pub found_cells : (r : Result (Unit {0}) Refusal) → AnswersCells p jitter m a cells r → Answers (cells_of p jitter cert m a) r
  found_cells (Ok u) h = passes h
  found_cells (Err e) h =
      let plant = rules.typed.plant_is m a at in
      let sc = rules.typed.sc_is m a at in
      (plant.0, plant.1, (sc.0, sc.2, (sc.1, sc.3, (cells, entry, h plant.0 sc.0 sc.1 plant.1 sc.2 sc.3))))
