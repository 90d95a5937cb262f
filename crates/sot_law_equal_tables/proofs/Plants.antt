-- Tubes of plants that look the same are inside a region alike.
use Rattle.std.proofs.Common.{◌≡◌, ◌⊎◌, ℕ, zero, suc, List, ◌++◌, map, Ok, Err, refl, sym, ap, ◌∙◌, subst}
use Rattle.sot_box.specs.Sides.{Side}
use Rattle.sot_box.specs.Regions.{Covers}
use Rattle.sot_lang.specs.declared.tables.NoiseInfo.{NoiseInfo}
use Rattle.sot_lang.specs.declared.tables.PlantInfo.{PlantInfo}
use Rattle.sot_lang.specs.Tables.{Tables}
use Rattle.sot_lang.specs.Ranges.{range_of, bounds, input_ranges}
use Rattle.sot_lang.specs.SafeRegions.{AreHulls, joined_boxes}
use Rattle.sot_iv.specs.TermIntervals.{OrMayTrap}
use Rattle.sot_iv.specs.PlantIntervals.{IsNextBox}
use Rattle.sot_iv.specs.declared.may_trap.MayTrap.{MayTrap}
use Rattle.sot_tube.specs.declared.leave.Leave.{Leave}
use Rattle.sot_tube.specs.declared.leave.Leave.TheVariants.{Trap}
use Rattle.sot_tube.specs.Tubes.{StaysInside, TubeInside, AnyTubeInside}
use Rattle.sot_tube.specs.Leaves.{GoesOut, Leaves, TubeLeaves, AnyTubeLeaves}
use Rattle.sot_typing.specs.Resolved.{PlantTable, plant_seen, tables_seen}
use Rattle.sot_law_equal_tables.proofs.Expressions.{AreViewIntervals, terms_view}
use Rattle.sot_law_equal_tables.proofs.Seen.{scalars_same, modules_same}

-- a fact along an equality of facts
pub along : {A B : Type 0} → A ≡ B → A → B
along same fact = subst (λ (F : Type 0). F) same fact

-- two plants that look the same have the same next boxes
module _ (x y : PlantInfo) (alike : plant_seen x ≡ plant_seen y) where
  pub next_alike : (box commands seen : List Side) (o : OrMayTrap (List Side)) → IsNextBox x box commands seen o ≡ IsNextBox y box commands seen o
  next_alike box commands seen o =
      let sides : List NoiseInfo → List Side = λ ds. map (λ d. record { lo = d.lo; hi = d.hi }) ds in
      terms_view x.next.items (box ++ commands ++ seen ++ bounds x) o
      ∙ ap (λ (p : PlantTable). AreViewIntervals p.next (box ++ commands ++ seen ++ sides p.noise) o) alike
      ∙ sym (terms_view y.next.items (box ++ commands ++ seen ++ bounds y) o)

  pub stays_alike : (commands seen : List Side) (region : List (List Side)) (box : List Side) (k : ℕ)
      → StaysInside x commands seen region box k ≡ StaysInside y commands seen region box k
  stays_alike commands seen region box zero = refl
  stays_alike commands seen region box (suc k) = λ i.
      Covers region box × ((b : List Side) × next_alike box commands seen (Ok b) i × stays_alike commands seen region b k i)

  -- and their tubes leave a region alike
  pub leaves_alike : (commands seen : List Side) (region : List (List Side)) (box : List Side) (n k : ℕ) (leave : Leave)
      → Leaves x commands seen region box n k leave ≡ Leaves y commands seen region box n k leave
  leaves_alike commands seen region box n zero leave = refl
  leaves_alike commands seen region box n (suc k) leave = λ i.
      GoesOut region box n leave
      ⊎ (Covers region box × (f : MayTrap) × next_alike box commands seen (Err f) i × (leave ≡ Trap n f.at))
      ⊎ (Covers region box × (b : List Side) × next_alike box commands seen (Ok b) i × leaves_alike commands seen region b (suc n) k leave i)

module _ (t u : Tables) (same : tables_seen t ≡ tables_seen u) (x y : PlantInfo) (alike : plant_seen x ≡ plant_seen y) where
  pub inputs_alike : input_ranges t x ≡ input_ranges u y
  inputs_alike = λ i. map (range_of (scalars_same t u same i)) (alike i).inputs

  -- so a tube of the one is inside a region where that of the other is
  pub tube_alike : (commands : List Side) (region : List (List Side)) (box : List Side) (k : ℕ) → TubeInside t x commands region box k
      → TubeInside u y commands region box k
  tube_alike commands region box k tube = record {
    hulls = tube.hulls;
    are = along (λ i. AreHulls (modules_same t u same i) (alike i).sees tube.hulls) tube.are;
    stays = along (stays_alike x y alike commands (joined_boxes tube.hulls) region box k) tube.stays;
  }

  pub any_tube_alike : (region : List (List Side)) (box : List Side) (k : ℕ) → AnyTubeInside t x region box k → AnyTubeInside u y region box k
  any_tube_alike region box k tube = subst (λ commands. TubeInside u y commands region box k) inputs_alike (tube_alike (input_ranges t x) region box k tube)

  -- and leaves it where that of the other does, in the same way
  pub tube_leaves_alike : (commands : List Side) (region : List (List Side)) (box : List Side) (k : ℕ) (leave : Leave)
      → TubeLeaves t x commands region box k leave → TubeLeaves u y commands region box k leave
  tube_leaves_alike commands region box k leave tube = record {
    hulls = tube.hulls;
    are = along (λ i. AreHulls (modules_same t u same i) (alike i).sees tube.hulls) tube.are;
    leaves = along (leaves_alike x y alike commands (joined_boxes tube.hulls) region box 0 k leave) tube.leaves;
  }

  pub any_tube_leaves_alike : (region : List (List Side)) (box : List Side) (k : ℕ) (leave : Leave) → AnyTubeLeaves t x region box k leave
      → AnyTubeLeaves u y region box k leave
  any_tube_leaves_alike region box k leave tube =
      subst (λ commands. TubeLeaves u y commands region box k leave) inputs_alike (tube_leaves_alike (input_ranges t x) region box k leave tube)
