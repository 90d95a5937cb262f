-- Points in boxes, axis by axis, and what the box of a plant's next state needs.
use Rattle.std.proofs.Common.{◌≡◌, ℕ, suc, ◌+◌, ◌<◌, ◌≤◌, ℤ, pos, ⊎_elim, List, [], ◌∷◌, Ok, Err, length, refl, sym, ap, ◌∙◌, subst, arith}
use Rattle.std.specs.Prelude.{slice_index_or}
use Rattle.std.proofs.lemmas.Bool.{cases_lt}
use Rattle.std.proofs.lemmas.List.{length-map}
use Rattle.std.proofs.lemmas.Option.{slice_get_within}
use Rattle.sot_lists.specs.Places.{At}
use Rattle.sot_lists.proofs.Places.{at_same}
use Rattle.sot_box.specs.Sides.{Side, IsIn}
use Rattle.sot_box.specs.Boxes.{IsWithin, point_box}
use Rattle.sot_lang.specs.declared.tables.PlantInfo.{PlantInfo}
use Rattle.sot_lang.specs.Tables.{Tables}
use Rattle.sot_lang.specs.TableRules.{MeetsTableRules}
use Rattle.sot_iv.specs.declared.may_trap.MayTrap.{MayTrap}
use Rattle.sot_iv.specs.TermIntervals.{OrMayTrap}
use Rattle.sot_iv.specs.PlantIntervals.{IsNextBox}
use Rattle.sot_iv.specs.PlantTicks.{MayTickBox, IsBoxAfterTick}
use Rattle.sot_iv.proofs.Plants.{plant_same}
use Rattle.sot_tube.proofs.Walks.{terms_long}
use Rattle.sot_world.specs.Changes.{ArePoints, held_of, seen_of}
use Rattle.sot_world.proofs.Parts.{seen_length}
use Rattle.sot_guard.specs.Outside.{IsBoxOf, HaveBoxes, IsInBox, AreInBoxes}

-- a point each of whose numbers is in its interval
pub within_each : (b : List Side) (s : List ℤ) → length s ≡ length b → ((j : ℕ) (r : Side) (z : ℤ) → At b j r → At s j z → IsIn r z) → IsWithin b s
within_each [] [] e h = tt
within_each (r ∷ rs) (z ∷ zs) e h = (let i = h 0 r z refl refl in (i.0, i.1, within_each rs zs (omega (arith, e)) (λ j q y a b. h (suc j) q y a b)))
within_each [] (z ∷ zs) e h = absurd (omega (arith, e))
within_each (r ∷ rs) [] e h = absurd (omega (arith, e))

point_long : (s : List ℤ) → length (point_box s) ≡ length s
point_long s = length-map s (λ x. let r : Side = record { lo = x; hi = x } in r)

module _ (p : Tables) (rules : MeetsTableRules p) (scalars : List ℤ) (points : List (List ℤ)) (many : length scalars ≡ length p.scalars)
    (are : ArePoints p points) (k : ℕ) (plant : PlantInfo) (at : At p.plants k plant) where
  pub inputs_there : (ks : List ℕ) → ks ≡ plant.inputs.items → (i n : ℕ) → At ks i n → n < length scalars
  inputs_there ks is i n at_i =
      let below = rules.typed.inputs_are k plant n at (i, subst (λ l. At l i n) is at_i) in
      omega (arith, below, many)

  pub sees_there : (ks : List ℕ) → ks ≡ plant.sees.items → (i n : ℕ) → At ks i n → n < length points
  sees_there ks is i n at_i =
      let other = rules.typed.sees_are k plant n at (i, subst (λ l. At l i n) is at_i) in
      let below = slice_get_within p.plants n other.0 other.1 in
      let each = are.each in
      omega (arith, below, each)

  pub sees_few : (ks : List ℕ) → ks ≡ plant.sees.items → length ks ≤ 16
  sees_few ks is = subst (λ l. length l ≤ 16) (sym is) (rules.plants k plant at).sees

  pub inputs_few : (ks : List ℕ) → ks ≡ plant.inputs.items → length ks ≤ 8
  inputs_few ks is = subst (λ l. length l ≤ 8) (sym is) (rules.plants k plant at).inputs

  module _ (here held seen : List Side) (here_is : here ≡ point_box (slice_index_or points k [])) (held_is : held ≡ point_box (held_of plant scalars))
      (seen_is : seen ≡ point_box (seen_of plant points)) where
    pub may_tick_box : MayTickBox p k here held seen
    may_tick_box = record {
      plant = plant;
      is = at;
      states = ap length here_is ∙ point_long (slice_index_or points k []) ∙ are.widths k plant at;
      inputs = ap length held_is ∙ point_long (held_of plant scalars) ∙ length-map plant.inputs.items (λ n. slice_index_or scalars n (pos 0));
      seen_are = ap length seen_is ∙ point_long (seen_of plant points)
          ∙ seen_length p.plants points plant.sees.items are.each are.widths (λ i n at_i. sees_there plant.sees.items refl i n at_i);
    }

    next_box_is : (o : OrMayTrap (List Side)) → IsBoxAfterTick p k here held seen o
        → IsNextBox plant (point_box (slice_index_or points k [])) (point_box (held_of plant scalars)) (point_box (seen_of plant points)) o
    next_box_is o told =
        subst (λ b. IsNextBox plant b (point_box (held_of plant scalars)) (point_box (seen_of plant points)) o) here_is
        (subst (λ b. IsNextBox plant here b (point_box (seen_of plant points)) o) held_is (subst (λ b. IsNextBox plant here held b o) seen_is (told plant at)))

    pub box_told : (o : OrMayTrap (List Side)) (box : List Side) → o ≡ Ok box → IsBoxAfterTick p k here held seen o → (info : PlantInfo) → At p.plants k info
        → IsBoxOf scalars points k info box
    box_told o box is told info at_info =
        let e : IsBoxOf scalars points k plant box =
        subst (IsNextBox plant (point_box (slice_index_or points k [])) (point_box (held_of plant scalars)) (point_box (seen_of plant points))) is
        (next_box_is o told) in
        subst (λ x. IsBoxOf scalars points k x box) (at_same p.plants k plant info at at_info) e

    pub no_trap : (o : OrMayTrap (List Side)) (t : MayTrap) → o ≡ Err t → IsBoxAfterTick p k here held seen o → HaveBoxes p scalars points → ⊥
    no_trap o t is told boxes =
        let box = boxes k plant at in
        let e : o ≡ Ok box.0 = plant_same plant (point_box (slice_index_or points k [])) (point_box (held_of plant scalars)) (point_box (seen_of plant points))
        o (Ok box.0) (next_box_is o told) box.1 in
        cc

  -- the box is as wide as the plant
  pub box_wide : (box : List Side) → IsBoxOf scalars points k plant box → length box ≡ length plant.states.items
  box_wide box is = terms_long plant.next.items _ box is ∙ (rules.plants k plant at).one_next

-- one more plant in its box
pub one_more_box : (p : Tables) (scalars : List ℤ) (points next : List (List ℤ)) (k : ℕ) (plant : PlantInfo) → At p.plants k plant
    → AreInBoxes p scalars points next k → IsInBox scalars points k plant (slice_index_or next k []) → AreInBoxes p scalars points next (k + 1)
one_more_box p scalars points next k plant at before here i other lt at_i =
    ⊎_elim
    (λ less. before i other less at_i)
    (λ more.
    let e : k ≡ i = omega (arith, lt, more) in
    let same : plant ≡ other = at_same p.plants i plant other (subst (λ n. At p.plants n plant) e at) at_i in
    subst (λ x. IsInBox scalars points i x (slice_index_or next i [])) same
    (subst (λ n. IsInBox scalars points n plant (slice_index_or next n [])) e here))
    (cases_lt i k)
