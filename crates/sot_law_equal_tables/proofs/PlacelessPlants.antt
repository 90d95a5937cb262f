-- Tubes of plants that are alike are inside a region alike.
use Rattle.std.proofs.Common.{◌≡◌, ℕ, zero, suc, List, ◌++◌, map, Ok, sym, ap, subst}
use Rattle.sot_box.specs.Sides.{Side}
use Rattle.sot_lang.specs.declared.tables.NoiseInfo.{NoiseInfo}
use Rattle.sot_lang.specs.declared.tables.PlantInfo.{PlantInfo}
use Rattle.sot_lang.specs.Tables.{Tables}
use Rattle.sot_lang.specs.Ranges.{range_of, bounds, input_ranges}
use Rattle.sot_lang.specs.SafeRegions.{AreHulls, joined_boxes}
use Rattle.sot_iv.specs.PlantIntervals.{IsNextBox}
use Rattle.sot_tube.specs.Tubes.{StaysInside, TubeInside, AnyTubeInside}
use Rattle.sot_typing.specs.Formulas.{formula_view}
use Rattle.sot_typing.specs.Resolved.{PlantTable}
use Rattle.sot_law_equal_tables.proofs.Expressions.{AreViewIntervals, terms_view}
use Rattle.sot_law_equal_tables.proofs.Plants.{along}
use Rattle.sot_law_equal_tables.proofs.PlacelessExpressions.{views_same}
use Rattle.sot_law_equal_tables.specs.UnplacedTables.{AreAlike}
use Rattle.sot_law_equal_tables.proofs.PlacelessSeen.{bare_plant, scalars_same, modules_same}

-- two plants that differ in places alone have the same next boxes
module _ (x y : PlantInfo) (alike : bare_plant x ≡ bare_plant y) where
  pub next_alike : (box commands seen after : List Side) → IsNextBox x box commands seen (Ok after) → IsNextBox y box commands seen (Ok after)
  next_alike box commands seen after next =
      let sides : List NoiseInfo → List Side = λ ds. map (λ d. record { lo = d.lo; hi = d.hi }) ds in
      let rs : List Side = box ++ commands ++ seen ++ bounds x in
      let ss : List Side = box ++ commands ++ seen ++ bounds y in
      let here = (views_same (map formula_view x.next.items) rs after).0 (along (terms_view x.next.items rs (Ok after)) next) in
      let there = along (ap (λ (p : PlantTable). AreViewIntervals p.next (box ++ commands ++ seen ++ sides p.noise) (Ok after)) alike) here in
      along (sym (terms_view y.next.items ss (Ok after))) ((views_same (map formula_view y.next.items) ss after).1 there)

  pub stays_alike : (commands seen : List Side) (region : List (List Side)) (box : List Side) (k : ℕ) → StaysInside x commands seen region box k
      → StaysInside y commands seen region box k
  stays_alike commands seen region box zero stays = stays
  stays_alike commands seen region box (suc k) stays =
      (stays.0, (stays.1.0, next_alike box commands seen stays.1.0 stays.1.1, stays_alike commands seen region stays.1.0 k stays.1.2))

module _ (t u : Tables) (same : AreAlike t u) (x y : PlantInfo) (alike : bare_plant x ≡ bare_plant y) where
  pub inputs_alike : input_ranges t x ≡ input_ranges u y
  inputs_alike = λ i. map (range_of (scalars_same t u same i)) (alike i).inputs

  -- so a tube of the one is inside a region where that of the other is
  pub tube_alike : (commands : List Side) (region : List (List Side)) (box : List Side) (k : ℕ) → TubeInside t x commands region box k
      → TubeInside u y commands region box k
  tube_alike commands region box k tube = record {
    hulls = tube.hulls;
    are = along (λ i. AreHulls (modules_same t u same i) (alike i).sees tube.hulls) tube.are;
    stays = stays_alike x y alike commands (joined_boxes tube.hulls) region box k tube.stays;
  }

  pub any_tube_alike : (region : List (List Side)) (box : List Side) (k : ℕ) → AnyTubeInside t x region box k → AnyTubeInside u y region box k
  any_tube_alike region box k tube = subst (λ commands. TubeInside u y commands region box k) inputs_alike (tube_alike (input_ranges t x) region box k tube)
