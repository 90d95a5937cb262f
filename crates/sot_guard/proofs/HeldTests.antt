-- What the test of a plant that is to be held safe needs, and what it answers.
use Rattle.std.proofs.Common.{◌≡◌, ℕ, zero, suc, ◌+◌, ◌<◌, ◌≤◌, ℤ, pos, Bool, true, false, ◌↔◌, List, [], ◌∷◌, ◌++◌, Ok, Err, length, map, take, get_or, refl, sym, ap, ◌∙◌, subst, arith}
use Rattle.std.specs.Prelude.{Result, IsTrue, MatchResult, slice_index_or}
use Rattle.std.specs.Result.{is_ok}
use Rattle.std.proofs.lemmas.Bool.{false≢true}
use Rattle.std.proofs.lemmas.List.{length-map, append_assoc}
use Rattle.std.proofs.Math.Numerals.{add-one}
use Rattle.std.proofs.lemmas.Option.{slice_get_within, get_or_from_slice_get}
use Rattle.sot_lists.specs.Places.{At}
use Rattle.sot_lists.proofs.Places.{at_same, at_map, at_below, read_at}
use Rattle.sot_box.specs.Sides.{Side}
use Rattle.sot_box.specs.Boxes.{point_box}
use Rattle.sot_lang.specs.declared.tables.ScalarInfo.{ScalarInfo}
use Rattle.sot_lang.specs.declared.tables.PlantInfo.{PlantInfo}
use Rattle.sot_lang.specs.declared.tables.NodeInfo.{NodeInfo}
use Rattle.sot_lang.specs.declared.tables.ModuleInfo.{ModuleInfo}
use Rattle.sot_lang.specs.Tables.{Tables}
use Rattle.sot_lang.specs.TableRules.{MeetsTableRules}
use Rattle.sot_lang.specs.OwnerNames.{width_of}
use Rattle.sot_lang.proofs.Owners.{width_at}
use Rattle.sot_tube.specs.Tubes.{TubeInside}
use Rattle.sot_tube.specs.declared.leave.Leave.{Leave}
use Rattle.sot_tube.specs.Leaves.{TubeLeaves}
use Rattle.sot_tube.specs.Calls.{MayFollow, AreCommands, AnswersTube}
use Rattle.sot_tube.proofs.Leaving.{tube_leaves_not}
use Rattle.sot_world.specs.Changes.{held_of}
use Rattle.sot_guard.specs.HeldParts.{IsUntilFrom, MayBeHeld, AnswersHeld, AnswersAt, IsFirstAnswer}

-- a tube is inside exactly where that is answered
ok_exactly : (p : Tables) (plant : PlantInfo) (commands : List Side) (region : List (List Side)) (box : List Side) (k : ℕ) (r : Result (Unit {0}) Leave)
    → MatchResult r (λ _. TubeInside p plant commands region box k) (λ l. TubeLeaves p plant commands region box k l)
    → IsTrue (is_ok r) ↔ TubeInside p plant commands region box k
ok_exactly p plant commands region box k (Ok u) t = ((λ e. t), (λ h. refl))
ok_exactly p plant commands region box k (Err l) t = (
  (λ f. absurd (false≢true f)),
  (λ h. absurd (tube_leaves_not p plant commands region box k l t h)),
)

-- the answer of a module's tube
pub held_told : (p : Tables) (j t m : ℕ) (held : List Side) (s : List ℤ) (box : List Side) (info : ModuleInfo) (sc : NodeInfo) (q : ℕ)
    (r : Result (Unit {0}) Leave) → At p.modules m info → At p.nodes info.sc sc → IsUntilFrom j sc.period sc.offset t q → box ≡ point_box s
    → AnswersTube p m held box q r → AnswersHeld p j t held s m (is_ok r)
held_told p j t m held s box info sc q r at at_sc until box_is told a plant node at_a at_p at_n =
    let same : info ≡ a = at_same p.modules m info a at at_a in
    let one : sc ≡ node = at_same p.nodes a.sc sc node (subst (λ x. At p.nodes x.sc sc) same at_sc) at_n in (
      q,
      subst (λ n. IsUntilFrom j n.period n.offset t q) one until,
      subst (λ b. IsTrue (is_ok r) ↔ TubeInside p plant held a.safe.boxes b q) box_is
          (ok_exactly p plant held a.safe.boxes box q r (told a plant at_a at_p)),
    )

module _ (p : Tables) (rules : MeetsTableRules p) (j : ℕ) (points : List (List ℤ)) (may : MayBeHeld p j points) (m : ℕ) (info : ModuleInfo)
    (at : At p.modules m info) where
  pub plant_below : info.plant < length p.plants
  plant_below = (let plant = rules.typed.plant_is m info at in slice_get_within p.plants info.plant plant.0 plant.1)

  pub point_below : info.plant < length points
  point_below = omega (arith, plant_below, may.points_are.each)

  pub jitter_few : j < 1000
  jitter_few = (let few = (rules.modules m info at).period in omega (arith, few, may.few m info at))

  pub follows : (s : List ℤ) → s ≡ slice_index_or points info.plant [] → MayFollow p m (point_box s)
  follows s is = record {
    boxes = may.boxes;
    exists' = slice_get_within p.modules m info at;
    width = λ b at_b.
        let same : info ≡ b = at_same p.modules m info b at at_b in
        let plant = rules.typed.plant_is m info at in
        let wide = may.points_are.widths info.plant plant.0 plant.1 ∙ sym (width_at p.plants info.plant plant.0 plant.1) in
        length-map s (λ x. let r : Side = record { lo = x; hi = x } in r) ∙ ap length is ∙ wide ∙ ap (λ x. width_of p.plants x.plant) same;
  }

  module _ (plant : PlantInfo) (at_p : At p.plants info.plant plant) (numbers : List ℤ) (held : List Side) (held_is : held ≡ point_box (held_of plant numbers))
    where
      one_plant : (a : ModuleInfo) (other : PlantInfo) → At p.modules m a → At p.plants a.plant other → plant ≡ other
      one_plant a other at_a at_o =
          let same : info ≡ a = at_same p.modules m info a at at_a in
          at_same p.plants a.plant plant other (subst (λ x. At p.plants x.plant plant) same at_p) at_o

      pub are_commands : AreCommands p m held
      are_commands a other at_a at_o =
          let one = one_plant a other at_a at_o in
          ap length held_is ∙ length-map (held_of plant numbers) (λ x. let r : Side = record { lo = x; hi = x } in r)
          ∙ length-map plant.inputs.items (λ k. slice_index_or numbers k (pos 0)) ∙ ap (λ x. length x.inputs.items) one

      pub told_at : (t : ℕ) (s : List ℤ) (b : Bool) → s ≡ slice_index_or points info.plant [] → AnswersHeld p j t held s m b → AnswersAt p j t numbers points m b
      told_at t s b is told a other node at_a at_o at_n =
          let same : info ≡ a = at_same p.modules m info a at at_a in
          let one = one_plant a other at_a at_o in
          let x = told a other node at_a at_o at_n in
          let held_as : held ≡ point_box (held_of other numbers) = held_is ∙ ap (λ y. point_box (held_of y numbers)) one in
          let point_as : s ≡ slice_index_or points a.plant [] = is ∙ ap (λ y. slice_index_or points y.plant []) same in (
            x.0,
            x.1,
            subst (λ c. IsTrue b ↔ TubeInside p other c a.safe.boxes (point_box (slice_index_or points a.plant [])) x.0) held_as
                (subst (λ y. IsTrue b ↔ TubeInside p other held a.safe.boxes (point_box y) x.0) point_as x.2),
          )

-- .. of every module
pub all_told : (p : Tables) (j t n : ℕ) (numbers : List ℤ) (points : List (List ℤ)) → length p.modules ≤ n
    → ((k : ℕ) → k < n → AnswersAt p j t numbers points k true) → (m : ℕ) → AnswersAt p j t numbers points m true
all_told p j t n numbers points all before m a plant node at_a at_p at_n =
    before m (let below = slice_get_within p.modules m a at_a in omega (arith, below, all)) a plant node at_a at_p at_n

-- .. and of the first one that is not held
pub first_told : (p : Tables) (rules : MeetsTableRules p) (j t m : ℕ) (numbers : List ℤ) (points : List (List ℤ)) (b : Bool) → m < length p.modules → b ≡ false
    → AnswersAt p j t numbers points m b → ((k : ℕ) → k < m → AnswersAt p j t numbers points k true) → IsFirstAnswer p j t numbers points m
first_told p rules j t m numbers points b below off told before =
    let at = at_below p.modules m below in
    let plant = rules.typed.plant_is m at.0 at.1 in
    let sc = rules.typed.sc_is m at.0 at.1 in
    record {
      module_info = at.0;
      plant = plant.0;
      node = sc.0;
      is = at.1;
      plant_is = plant.1;
      node_is = sc.2;
      unheld = subst (AnswersAt p j t numbers points m) off told;
      before = before;
    }

-- the declared number of a scalar
pub first_number : (scalars : List ScalarInfo) (k : ℕ) (x : ScalarInfo) → k < length scalars → x ≡ get_or scalars k x
    → slice_index_or (map (λ i. i.init) scalars) k (pos 0) ≡ x.init
first_number scalars k x below is =
    get_or_from_slice_get (map (λ i. i.init) scalars) k x.init (pos 0) (at_map (λ i. i.init) scalars k x (read_at scalars scalars k x refl below is))

abbrev pub side_at : ℤ → Side
side_at z = record { lo = z; hi = z }

boxes_more : (f : ℕ → ℤ) (ks : List ℕ) (i : ℕ) → i < length ks
    → point_box (map f (take (suc i) ks)) ≡ point_box (map f (take i ks)) ++ side_at (f (get_or ks i 0)) ∷ []
boxes_more f [] i lt = absurd (omega (arith, lt))
boxes_more f (k ∷ ks) zero lt = refl
boxes_more f (k ∷ ks) (suc i) lt = ap (λ bs. side_at (f k) ∷ bs) (boxes_more f ks i (omega (arith, lt)))

-- one declared number more, behind the others
pub first_more : (scalars : List ScalarInfo) (inputs : List ℕ) (i : ℕ) (x : ScalarInfo) (side : Side) (initial sides new : List Side) → i < length inputs
    → ((n k : ℕ) → At inputs n k → k < length scalars) → x ≡ get_or scalars (get_or inputs i 0) x
    → sides ≡ initial ++ point_box (map (λ k. slice_index_or (map (λ s. s.init) scalars) k (pos 0)) (take i inputs))
    → side ≡ side_at x.init → new ≡ sides ++ side ∷ []
    → new ≡ initial ++ point_box (map (λ k. slice_index_or (map (λ s. s.init) scalars) k (pos 0)) (take (i + 1) inputs))
first_more scalars inputs i x side initial sides new lt there is before told added =
    let f : ℕ → ℤ = λ k. slice_index_or (map (λ s. s.init) scalars) k (pos 0) in
    let at = at_below inputs i lt in
    let read : get_or inputs i 0 ≡ at.0 = get_or_from_slice_get inputs i at.0 0 at.1 in
    let below : get_or inputs i 0 < length scalars = subst (λ k. k < length scalars) (sym read) (there i at.0 at.1) in
    let number : f (get_or inputs i 0) ≡ x.init = first_number scalars (get_or inputs i 0) x below is in
    let more : point_box (map f (take (suc i) inputs)) ≡ point_box (map f (take i inputs)) ++ side_at x.init ∷ [] =
    boxes_more f inputs i lt ∙ ap (λ z. point_box (map f (take i inputs)) ++ side_at z ∷ []) number in
    added ∙ ap (λ b. sides ++ b ∷ []) told ∙ ap (λ s. s ++ side_at x.init ∷ []) before ∙ append_assoc initial (point_box (map f (take i inputs))) (side_at x.init ∷ [])
    ∙ ap (λ bs. initial ++ bs) (sym more) ∙ ap (λ n. initial ++ point_box (map f (take n inputs))) (sym (add-one i))

-- what holds of a program, its jitter, numbers and points holds of equal ones
pub same_held : (P : Tables → ℕ → List ℤ → List (List ℤ) → Type 0) (p q : Tables) (j k : ℕ) (s u : List ℤ) (x y : List (List ℤ)) → p ≡ q → j ≡ k → s ≡ u
    → x ≡ y → P p j s x → P q k u y
same_held P p q j k s u x y a b d e h =
    subst (λ z. P q k u z) e (subst (λ z. P q k z x) d (subst (λ z. P q z s x) b (subst (λ z. P z j s x) a h)))
