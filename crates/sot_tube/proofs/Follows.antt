-- What the calls that follow a module's tube need of the tables, and what they answer.
use Rattle.std.proofs.Common.{arith, ⊎_elim, ◌≡◌, ◌≢◌, ℕ, zero, suc, ◌*◌, ◌<◌, ◌≤◌, eqb, List, [], ◌∷◌, Ok, Err, get_or, length, refl, sym, ap, ◌∙◌, subst}
use Rattle.std.specs.Prelude.{Bool, true, Result, MatchResult, vec_len, ◌==◌}
use Rattle.std.proofs.lemmas.Bool.{cond-true, cond-false, cases_eq, eq-eqb, eqb-true, ne_eqb}
use Rattle.std.proofs.lemmas.List.{length-map, nil_from_length}
use Rattle.std.proofs.lemmas.Option.{get_or_from_slice_get, none-some, same_Some, slice_get_within}
use Rattle.sot_box.specs.Sides.{Side}
use Rattle.sot_lists.specs.Places.{At, Has}
use Rattle.sot_lang.specs.declared.tables.ModuleInfo.{ModuleInfo}
use Rattle.sot_lang.specs.declared.tables.PlantInfo.{PlantInfo}
use Rattle.sot_lang.specs.Tables.{Tables}
use Rattle.sot_lang.specs.OwnerNames.{width_of, seen_width}
use Rattle.sot_lang.specs.Ranges.{range_of, input_ranges}
use Rattle.sot_lang.specs.SafeRegions.{safe_of}
use Rattle.sot_lang.specs.TableRules.{MeetsTableRules}
use Rattle.sot_lang.proofs.Owners.{width_at}
use Rattle.sot_lists.proofs.Places.{at_same, at_below}
use Rattle.sot_iv.specs.PlantTicks.{MayTickBox}
use Rattle.sot_iv.specs.SeenHulls.{AreSeenHulls}
use Rattle.sot_tube.specs.Tubes.{StaysInside, TubeInside}
use Rattle.sot_tube.specs.Leaves.{Leave, Leaves, TubeLeaves}
use Rattle.sot_tube.specs.Calls.{MayFollow, AreCommands, AnswersTube, AnswersAnyTube}

-- what is read at a place that is there
at_read : {A : Type 0} (xs : List A) (k : ℕ) (x : A) → k < length xs → x ≡ get_or xs k x → At xs k x
at_read xs k x lt is = let y = at_below xs k lt in subst (At xs k) (sym (get_or_from_slice_get xs k y.0 x y.1) ∙ sym is) y.1

narrow_plant : (ps : List PlantInfo) (k : ℕ) → ((i : ℕ) (plant : PlantInfo) → At ps i plant → length plant.states.items ≤ 4) → width_of ps k ≤ 4
narrow_plant [] k h = omega arith
narrow_plant (plant ∷ ps) zero h = h 0 plant refl
narrow_plant (plant ∷ ps) (suc k) h = narrow_plant ps k (λ i x at. h (suc i) x at)

few_seen : (ps : List PlantInfo) (ks : List ℕ) → ((i : ℕ) (plant : PlantInfo) → At ps i plant → length plant.states.items ≤ 4)
    → seen_width ps ks ≤ 4 * length ks
few_seen ps [] h = omega arith
few_seen ps (k ∷ ks) h = let a = narrow_plant ps k h in let b = few_seen ps ks h in omega (arith, a, b)

some_safe : (ms : List ModuleInfo) (k i : ℕ) (a : ModuleInfo) → At ms i a → a.plant ≡ k → ((j : ℕ) (b : ModuleInfo) → At ms j b → b.safe.boxes ≢ [])
    → safe_of ms k ≢ []
some_safe [] k i a at e h none = none-some a at
some_safe (m ∷ ms) k zero a at e h none =
    let here : m.plant ≡ k = ap (λ x. x.plant) (same_Some m a at) ∙ e in
    h 0 m refl (sym (cond-true (eqb m.plant k) m.safe.boxes (safe_of ms k) (eq-eqb m.plant k here)) ∙ none)
some_safe (m ∷ ms) k (suc i) a at e h none =
    ⊎_elim
    (λ here. h 0 m refl (sym (cond-true (eqb m.plant k) m.safe.boxes (safe_of ms k) (eq-eqb m.plant k here)) ∙ none))
    (λ ne. some_safe ms k i a at e (λ j b at'. h (suc j) b at') (sym (cond-false (eqb m.plant k) m.safe.boxes (safe_of ms k) (ne_eqb m.plant k ne)) ∙ none))
    (cases_eq m.plant k)

-- a plant whose list is empty sees no plant
pub nothing_seen : (plant : PlantInfo) (empty : Bool) → empty ≡ (vec_len plant.sees == 0) → empty ≡ true → plant.sees.items ≡ []
nothing_seen plant empty is told =
    let none : vec_len plant.sees ≡ 0 = eqb-true (vec_len plant.sees) 0 (sym is ∙ told) in
    nil_from_length plant.sees.items (sym plant.sees.ok.0 ∙ none)

-- the tube's answer, from that of the walk with the hulls in between
answer : (p : Tables) (plant : PlantInfo) (commands seen : List Side) (region : List (List Side)) (box : List Side) (k : ℕ) (r : Result (Unit {0}) Leave)
    → AreSeenHulls p.modules plant.sees.items seen
    → MatchResult r (λ _. StaysInside plant commands seen region box k) (λ l. Leaves plant commands seen region box 0 k l)
    → MatchResult r (λ _. TubeInside p plant commands region box k) (λ l. TubeLeaves p plant commands region box k l)
answer p plant commands seen region box k (Ok u) h w = record { hulls = h.0; are = h.1; stays = subst (λ q. StaysInside plant commands q region box k) h.2 w }
answer p plant commands seen region box k (Err l) h w = record { hulls = h.0; are = h.1; leaves = subst (λ q. Leaves plant commands q region box 0 k l) h.2 w }

module _ (p : Tables) (rules' : MeetsTableRules p) (m : ℕ) (box : List Side) (may : MayFollow p m box) (info : ModuleInfo)
    (info_is : info ≡ get_or p.modules m info) where
  pub info_at : At p.modules m info
  info_at = at_read p.modules m info may.exists' info_is

  pub plant_at : (plant : PlantInfo) → plant ≡ get_or p.plants info.plant plant → At p.plants info.plant plant
  plant_at plant is =
      let there = rules'.typed.plant_is m info info_at in
      at_read p.plants info.plant plant (slice_get_within p.plants info.plant there.0 there.1) is

  pub region_width : length box ≡ info.safe.width
  region_width = may.width info info_at ∙ sym (rules'.modules m info info_at).safe.width

  module _ (plant : PlantInfo) (plant_is : plant ≡ get_or p.plants info.plant plant) where
    one_plant : (a : ModuleInfo) (i : PlantInfo) → At p.modules m a → At p.plants a.plant i → plant ≡ i
    one_plant a i at_a at_i =
        let same : info ≡ a = at_same p.modules m info a info_at at_a in
        at_same p.plants info.plant plant i (plant_at plant plant_is) (subst (λ x. At p.plants x.plant i) (sym same) at_i)

    pub seen_fit : seen_width p.plants plant.sees.items ≤ 64
    seen_fit =
        let few = few_seen p.plants plant.sees.items (λ i x at. (rules'.plants i x at).states) in
        let sees = (rules'.plants info.plant plant (plant_at plant plant_is)).sees in
        omega (arith, few, sees)

    pub seen_safe : (k : ℕ) → Has plant.sees.items k → safe_of p.modules k ≢ []
    seen_safe k has =
        let other = rules'.typed.sees_are info.plant plant k (plant_at plant plant_is) has in
        let named = rules'.typed.named k other.0 other.1 in
        some_safe p.modules k named.0 named.1 named.2 named.3 may.boxes

    pub may_tick : (commands seen : List Side) → AreCommands p m commands → length seen ≡ seen_width p.plants plant.sees.items
        → MayTickBox p info.plant box commands seen
    may_tick commands seen are width = record {
      plant = plant;
      is = plant_at plant plant_is;
      states = may.width info info_at ∙ width_at p.plants info.plant plant (plant_at plant plant_is);
      inputs = are info plant info_at (plant_at plant plant_is);
      seen_are = width;
    }

    pub answers : (commands seen : List Side) (k : ℕ) (r : Result (Unit {0}) Leave) → AreSeenHulls p.modules plant.sees.items seen
        → ((i : PlantInfo) → At p.plants info.plant i → MatchResult r (λ _. StaysInside i commands seen info.safe.boxes box k)
        (λ l. Leaves i commands seen info.safe.boxes box 0 k l))
        → AnswersTube p m commands box k r
    answers commands seen k r hulls walked a i at_a at_i =
        let same : info ≡ a = at_same p.modules m info a info_at at_a in
        let at_i' : At p.plants info.plant i = subst (λ x. At p.plants x.plant i) (sym same) at_i in
        let one : plant ≡ i = one_plant a i at_a at_i in
        let hulls' : AreSeenHulls p.modules i.sees.items seen = subst (λ x. AreSeenHulls p.modules x.sees.items seen) one hulls in
        subst (λ x. MatchResult r (λ _. TubeInside p i commands x.safe.boxes box k) (λ l. TubeLeaves p i commands x.safe.boxes box k l)) same
        (answer p i commands seen info.safe.boxes box k r hulls' (walked i at_i'))

    -- commands anywhere in their types
    pub inputs_below : (k : ℕ) → Has plant.inputs.items k → k < length p.scalars
    inputs_below k has = rules'.typed.inputs_are info.plant plant k (plant_at plant plant_is) has

    module _ (types : List Side) (types_are : types ≡ input_ranges p plant) where
      pub are_commands : AreCommands p m types
      are_commands a i at_a at_i =
          ap length types_are ∙ length-map plant.inputs.items (range_of p.scalars) ∙ ap (λ x. length x.inputs.items) (one_plant a i at_a at_i)

      pub any_answers : (k : ℕ) (r : Result (Unit {0}) Leave) → AnswersTube p m types box k r → AnswersAnyTube p m box k r
      any_answers k r told a i at_a at_i =
          let here : types ≡ input_ranges p i = types_are ∙ ap (input_ranges p) (one_plant a i at_a at_i) in
          subst (λ cs. MatchResult r (λ _. TubeInside p i cs a.safe.boxes box k) (λ l. TubeLeaves p i cs a.safe.boxes box k l)) here (told a i at_a at_i)
