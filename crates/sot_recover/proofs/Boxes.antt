-- The boxes of a tube, one after another.
use Rattle.std.proofs.Common.{◌≡◌, ℕ, zero, suc, ◌+◌, ◌<◌, ◌≤◌, List, [], ◌∷◌, ◌++◌, Ok, length, refl, sym, ap, ◌∙◌, subst, arith, length-append}
use Rattle.std.specs.Prelude.{IsOk, drop}
use Rattle.std.proofs.lemmas.Option.{same_Some, none-some}
use Rattle.sot_lists.specs.Places.{At}
use Rattle.sot_box.specs.Sides.{Side}
use Rattle.sot_lang.specs.declared.tables.PlantInfo.{PlantInfo}
use Rattle.sot_lang.specs.Tables.{Tables}
use Rattle.sot_lang.specs.TableRules.{MeetsTableRules}
use Rattle.sot_iv.specs.TermIntervals.{OrMayTrap}
use Rattle.sot_iv.specs.PlantTicks.{MayTickBox, IsBoxAfterTick, ArePlantRanges, IsBoxOver}
use Rattle.sot_iv.specs.PlantIntervals.{IsNextBox}
use Rattle.sot_iv.proofs.Plants.{plant_same}
use Rattle.sot_tube.proofs.Walks.{terms_long}
use Rattle.sot_tube.proofs.WalkRanges.{after, front_fits, ranges_next}
use Rattle.sot_law_runs.specs.TubeBoxes.{IsBoxAfter}
use Rattle.sot_law_runs.proofs.TubeBoxes.{unique}
use Rattle.sot_recover.specs.Tubes.{GoesOn, AreTubeBoxes}

-- what stands in a list with one more behind it
pub at_more : {A : Type 0} (xs : List A) (x : A) (k : ℕ) (y : A) (P : ℕ → A → Type 0) → ((j : ℕ) (z : A) → At xs j z → P j z) → P (length xs) x
    → At (xs ++ x ∷ []) k y → P k y
at_more [] x zero y P old new at = subst (P zero) (same_Some x y at) new
at_more [] x (suc k) y P old new at = absurd (none-some y at)
at_more (z ∷ zs) x zero y P old new at = old zero y at
at_more (z ∷ zs) x (suc k) y P old new at = at_more zs x k y (λ j. P (suc j)) (λ j. old (suc j)) new at

pub record TubeSoFar (p : Tables) (k : ℕ) (first held seen area : List Side) (n : ℕ) (names : List Side) (boxes : List (List Side)) : Type 0 where
  pub step : MayTickBox p k area held seen
  pub names_are : ArePlantRanges p k area held seen names
  pub here : (info : PlantInfo) → At p.plants k info → IsBoxAfter info held seen first n area
  pub boxes_are : (info : PlantInfo) → At p.plants k info → AreTubeBoxes info held seen first n boxes

module _ (p : Tables) (k : ℕ) (first held seen : List Side) where
  pub tube_start : (names : List Side) → MayTickBox p k first held seen → ArePlantRanges p k first held seen names
      → TubeSoFar p k first held seen first 0 names (first ∷ [])
  tube_start names step are = record {
    step = step;
    names_are = are;
    here = λ info at. refl;
    boxes_are =
        λ info at. record {
          count = omega arith;
          are = λ j b at_b.
              at_more [] first j b (λ i c. IsBoxAfter info held seen first i c) (λ i c none. absurd (none-some c none)) refl at_b;
        };
  }

  module _ (area : List Side) (n : ℕ) (names : List Side) (boxes : List (List Side)) (sofar : TubeSoFar p k first held seen area n names boxes) where
    -- there is a next box
    pub goes_on : (ticks : ℕ) → n < ticks → ((info : PlantInfo) → At p.plants k info → GoesOn info held seen first ticks) → (o : OrMayTrap (List Side))
        → IsBoxOver p k names o → IsOk o
    goes_on ticks lt goes o over =
        let info = sofar.step.plant in
        let at = sofar.step.is in
        let told = after p k area held seen names o sofar.names_are over in
        let next = goes info at (suc n) (omega (arith, lt)) in
        let same : next.1.0 ≡ area = unique info held seen first n next.1.0 area next.1.1 (sofar.here info at) in
        let is : IsNextBox info area held seen (Ok next.0) = subst (λ b. IsNextBox info b held seen (Ok next.0)) same next.1.2 in
        let one : o ≡ Ok next.0 = plant_same info area held seen o (Ok next.0) (told info at) is in
        subst IsOk (sym one) refl

    module _ (next : List Side) (rules : MeetsTableRules p) (over : IsBoxOver p k names (Ok next)) where
      told : IsBoxAfterTick p k area held seen (Ok next)
      told = after p k area held seen names (Ok next) sofar.names_are over

      pub fits : length next ≤ length names
      fits = front_fits p k area held seen names next rules sofar.step sofar.names_are told

      pub tube_next : (names' : List Side) (boxes' : List (List Side)) → names' ≡ next ++ drop (length next) names → boxes' ≡ boxes ++ next ∷ []
          → TubeSoFar p k first held seen next (n + 1) names' boxes'
      tube_next names' boxes' names_is boxes_is =
          let long : length next ≡ length sofar.step.plant.states.items = terms_long sofar.step.plant.next.items _ next (told sofar.step.plant sofar.step.is)
          ∙ (rules.plants k sofar.step.plant sofar.step.is).one_next in
          let e : suc n ≡ n + 1 = omega arith in
          let now : (info : PlantInfo) → At p.plants k info → IsBoxAfter info held seen first (n + 1) next = λ info at.
          subst (λ i. IsBoxAfter info held seen first i next) e (area, sofar.here info at, told info at) in
          record {
            step = record { plant = sofar.step.plant; is = sofar.step.is; states = long; inputs = sofar.step.inputs; seen_are = sofar.step.seen_are };
            names_are = ranges_next p k area held seen names next rules sofar.step sofar.names_are told names' names_is;
            here = now;
            boxes_are = λ info at. let old = sofar.boxes_are info at in let c = old.count in record {
              count = ap length boxes_is ∙ length-append boxes (next ∷ []) ∙ ap (λ i. i + 1) c;
              are =
                  λ j b at_b. at_more boxes next j b (λ i c. IsBoxAfter info held seen first i c) old.are
                  (subst (λ i. IsBoxAfter info held seen first i next) (sym c) (now info at)) (subst (λ l. At l j b) boxes_is at_b);
            };
          }
