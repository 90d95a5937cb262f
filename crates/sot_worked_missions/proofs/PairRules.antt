-- The tables of the vehicle beside a battery meet the rules of tables.
use Rattle.std.proofs.Common.{◌≡◌, ◌≢◌, ℕ, zero, suc, ◌<◌, ◌≤◌, ◌+◌, ◌*◌, ℤ, true, false, List, [], ◌∷◌, refl, sym, ap, ◌∙◌, subst, arith, negsuc, ◌≤ℤ◌, length}
use Rattle.std.proofs.Common.{pos}
use Rattle.std.specs.Prelude.{slice_index_or, replicate, map, ◌++◌, ◌==◌, if◌then◌else◌}
use Rattle.std.proofs.lemmas.Int.{ints}
use Rattle.std.proofs.lemmas.Option.{same_Some, none-some}
use Rattle.std.proofs.lemmas.Bool.{false≢true}
use Rattle.sot_lists.specs.Places.{At, Has}
use Rattle.sot_box.specs.Sides.{Side, AreOrdered}
use Rattle.sot_box.specs.Boxes.{IsWithin}
use Rattle.sot_lang.specs.declared.act.Act.{Act}
use Rattle.sot_lang.specs.declared.tables.TopicInfo.{TopicInfo}
use Rattle.sot_lang.specs.declared.tables.ScalarInfo.{ScalarInfo}
use Rattle.sot_lang.specs.declared.tables.StateInfo.{StateInfo}
use Rattle.sot_lang.specs.declared.tables.NoiseInfo.{NoiseInfo}
use Rattle.sot_lang.specs.declared.tables.LocalInfo.{LocalInfo}
use Rattle.sot_lang.specs.declared.tables.PlantInfo.{PlantInfo}
use Rattle.sot_lang.specs.declared.tables.NodeInfo.{NodeInfo}
use Rattle.sot_lang.specs.declared.tables.ModuleInfo.{ModuleInfo}
use Rattle.sot_lang.specs.declared.tables.Slot.{Slot}
use Rattle.sot_lang.specs.declared.tables.Slot.TheVariants.{Scalar, State}
use Rattle.sot_lang.specs.Tables.{Tables}
use Rattle.sot_lang.specs.Ranges.{local_ranges}
use Rattle.sot_lang.specs.OwnerNames.{width_of, seen_width, is_truth_scalar, node_truths, plant_truths, reads_truth}
use Rattle.sot_lang.specs.TermRules.{TermsFit}
use Rattle.sot_lang.specs.ActRules.{ActsFit}
use Rattle.sot_lang.specs.TableRules.{IsTyped, IsCoded, IsNarrow, AreDistinct, MeetsTableRules, MeetsScalarRules, MeetsPlantRules, MeetsNodeRules}
use Rattle.sot_lang.specs.TableRules.{MeetsModuleRules, IsRegionFor}
use Rattle.sot_lang.specs.Line.{side, cmd_name, pos_name, fast_name, slow_name, nav_name}
use Rattle.sot_lists.proofs.ShortLists.{at_more, at_one, at_two}
use Rattle.sot_lang.proofs.Owners.{one_body}
use Rattle.sot_worked_missions.specs.Parts.{one_topic, whole_number}
use Rattle.sot_worked_missions.specs.Line.{IsCommand, nav}
use Rattle.sot_worked_missions.specs.Pair.{IsDescent, IsPair, fly, stair, stairs, cell_name, up_name, down_name, fly_name}
use Rattle.sot_worked_missions.proofs.Short.{only, only_place, nothing}
use Rattle.sot_worked_missions.proofs.LineTerms.{move_fits, command_fits}
use Rattle.sot_worked_missions.proofs.PairTerms.{height_fits, battery_fits, descent_fits}

at_four : {A : Type 0} (P : ℕ → A → Type 0) (a b c d : A) → P 0 a → P 1 b → P 2 c → P 3 d → (n : ℕ) (x : A) → At (a ∷ b ∷ c ∷ d ∷ []) n x → P n x
at_four P a b c d ha hb hc hd =
    at_more P a (b ∷ c ∷ d ∷ []) ha (at_more (λ n x. P (suc n) x) b (c ∷ d ∷ []) hb (at_two (λ n x. P (suc (suc n)) x) c d hc hd))

-- the names, by their first two letters
place_of : List ℕ → ℕ
place_of name =
    let c = slice_index_or name 0 0 + 2 * slice_index_or name 1 0 in
    if c == 317 then 0 else (if c == 100 then 1 else (if c == 334 then 2 else (if c == 301 then 3 else (if c == 296 then 4 else (if c == 331 then 5
    else (if c == 341 then 6 else (if c == 322 then 7 else (if c == 304 then 8 else 9))))))))

abbrev all_names : List (List ℕ)
all_names = cmd_name ∷ (100 ∷ []) ∷ pos_name ∷ cell_name ∷ fast_name ∷ slow_name ∷ up_name ∷ down_name ∷ nav_name ∷ fly_name ∷ []

is_at : (i : ℕ) (name : List ℕ) → At all_names i name → i ≡ place_of name
unfolding place_of
is_at =
    at_more (λ i x. i ≡ place_of x) cmd_name ((100 ∷ []) ∷ pos_name ∷ cell_name ∷ fast_name ∷ slow_name ∷ up_name ∷ down_name ∷ nav_name ∷ fly_name ∷ []) refl
    (at_more (λ i x. suc i ≡ place_of x) (100 ∷ []) (pos_name ∷ cell_name ∷ fast_name ∷ slow_name ∷ up_name ∷ down_name ∷ nav_name ∷ fly_name ∷ []) refl
    (at_more (λ i x. suc (suc i) ≡ place_of x) pos_name (cell_name ∷ fast_name ∷ slow_name ∷ up_name ∷ down_name ∷ nav_name ∷ fly_name ∷ []) refl
    (at_more (λ i x. suc (suc (suc i)) ≡ place_of x) cell_name (fast_name ∷ slow_name ∷ up_name ∷ down_name ∷ nav_name ∷ fly_name ∷ []) refl
    (at_more (λ i x. suc (suc (suc (suc i))) ≡ place_of x) fast_name (slow_name ∷ up_name ∷ down_name ∷ nav_name ∷ fly_name ∷ []) refl
    (at_more (λ i x. suc (suc (suc (suc (suc i)))) ≡ place_of x) slow_name (up_name ∷ down_name ∷ nav_name ∷ fly_name ∷ []) refl
    (at_four (λ i x. suc (suc (suc (suc (suc (suc i))))) ≡ place_of x) up_name down_name nav_name fly_name refl refl refl refl))))))

names_apart : AreDistinct all_names
names_apart i j name a b = is_at i name a ∙ sym (is_at j name b)

abbrev cmd : TopicInfo
cmd = one_topic cmd_name 0

abbrev d : TopicInfo
d = one_topic (100 ∷ []) 1

abbrev cmd_number : ScalarInfo
cmd_number = whole_number 0 (negsuc 1) (pos 2)

abbrev d_number : ScalarInfo
d_number = whole_number 1 (negsuc 0) (pos 1)

abbrev state_named : ℕ → StateInfo
state_named letter = record { name = letter ∷ []; scale = 0 }

abbrev noise_w : ℤ → NoiseInfo
noise_w lo = record { name = 119 ∷ []; scale = 0; lo = lo; hi = pos 1 }

-- a number that is read is a state variable of this plant, one of the first `width`
abbrev IsOf : ℕ → ℕ → Slot → Type 0
IsOf plant width (Scalar k) = ⊥
IsOf plant width (State k v) = (plant ≡ k) × (v < width)

reads_x : (node : NodeInfo) → node.reads.items ≡ State 0 0 ∷ [] → (s : Slot) → Has node.reads.items s → IsOf 0 1 s
reads_x node e s h = at_one (λ i s. IsOf 0 1 s) (State 0 0) (refl, omega arith) h.0 s (subst (λ l. At l h.0 s) e h.1)

reads_cell : (node : NodeInfo) → node.reads.items ≡ State 1 0 ∷ State 1 1 ∷ [] → (s : Slot) → Has node.reads.items s → IsOf 1 2 s
reads_cell node e s h = at_two (λ i s. IsOf 1 2 s) (State 1 0) (State 1 1) (refl, omega arith) (refl, omega arith) h.0 s (subst (λ l. At l h.0 s) e h.1)

no_inits : (node : NodeInfo) → node.locals.items ≡ [] → IsWithin (local_ranges node) (map (λ l. l.init) node.locals.items)
no_inits node locals = subst (λ (all : List LocalInfo). IsWithin (map (λ l. record { lo = l.lo; hi = l.hi }) all) (map (λ l. l.init) all)) (sym locals) tt

once : (node : NodeInfo) (s : ℕ) → node.writes.items ≡ s ∷ [] → (i j k : ℕ) → At node.writes.items i k → At node.writes.items j k → i ≡ j
once node s writes i j k a b = only_place s node.writes.items writes i k a ∙ sym (only_place s node.writes.items writes j k b)

-- one more at the end
at_snoc : {A : Type 0} (P : A → Type 0) (xs : List A) (y : A) → ((i : ℕ) (b : A) → At xs i b → P b) → P y → (i : ℕ) (b : A) → At (xs ++ (y ∷ [])) i b → P b
at_snoc P [] y all h i b at = at_one (λ i b. P b) y h i b at
at_snoc P (x ∷ xs) y all h zero b at = subst P (same_Some x b at) (all zero x refl)
at_snoc P (x ∷ xs) y all h (suc i) b at = at_snoc P xs y (λ i b at. all (suc i) b at) h i b at

-- the boxes of the safe region have two sides, whose ends are in order
stair_fits : (n : ℕ) → n ≤ 11 → (i : ℕ) (b : List Side) → At (stairs n) i b → (length b ≡ 2) × AreOrdered b
stair_fits zero few i b at = absurd (none-some b at)
stair_fits (suc n) few i b at =
    at_snoc (λ b. (length b ≡ 2) × AreOrdered b) (stairs n) (stair n) (stair_fits n (omega (arith, few)))
    (refl, (omega (arith, ints), (omega (arith, ints, few), tt))) i b at

eleven : length (stairs 11) ≡ 11
eleven = refl

-- of a plant's names none is a truth value
numbers_alone : (states : List StateInfo) (inputs : List ℕ) (seen : ℕ) (noise : List NoiseInfo)
    → states ≡ state_named 120 ∷ [] → inputs ≡ 0 ∷ [] → seen ≡ 0 → noise ≡ noise_w (negsuc 0) ∷ []
    → (map (λ s. false) states ++ map (is_truth_scalar (cmd_number ∷ d_number ∷ [])) inputs ++ replicate seen false ++ map (λ d. false) noise)
    ≡ false ∷ false ∷ false ∷ []
numbers_alone states inputs seen noise a b c e = rw (a, b, c, e) refl

five_numbers : (states : List StateInfo) (inputs : List ℕ) (seen : ℕ) (noise : List NoiseInfo)
    → states ≡ state_named 104 ∷ state_named 98 ∷ [] → inputs ≡ 1 ∷ [] → seen ≡ 1 → noise ≡ noise_w (pos 0) ∷ []
    → (map (λ s. false) states ++ map (is_truth_scalar (cmd_number ∷ d_number ∷ [])) inputs ++ replicate seen false ++ map (λ d. false) noise)
    ≡ false ∷ false ∷ false ∷ false ∷ false ∷ []
five_numbers states inputs seen noise a b c e = rw (a, b, c, e) refl

module _ (low : ℤ) (in_order : low ≤ℤ pos 1000) (p : Tables) (h : IsPair low p) where
  abbrev plants : List PlantInfo
  plants = h.vehicle ∷ h.cell ∷ []

  abbrev made : Tables
  made = record {
    topics = cmd ∷ d ∷ [];
    scalars = cmd_number ∷ d_number ∷ [];
    plants = plants;
    nodes = h.fast ∷ h.slow ∷ h.up ∷ h.down ∷ [];
    modules = nav ∷ fly low ∷ [];
  }

  width_pos : width_of plants 0 ≡ 1
  width_pos = ap length h.is_pos.states

  width_cell : width_of plants 1 ≡ 2
  width_cell = ap length h.is_cell.states

  topic_is : (k : ℕ) (info : ScalarInfo) → At made.scalars k info → info.topic ≡ k
  topic_is = at_two (λ k info. info.topic ≡ k) cmd_number d_number refl refl

  -- scalars of one topic are one
  same_scalar : (j k : ℕ) (a b : ScalarInfo) → At made.scalars j a → At made.scalars k b → a.topic ≡ b.topic → j ≡ k
  same_scalar j k a b x y e = sym (topic_is j a x) ∙ e ∙ topic_is k b y

  whole : (xs : List ℕ) (j k : ℕ) (a b : ScalarInfo) → Has xs j → At made.scalars j a → At made.scalars k b → a.topic ≡ b.topic → Has xs k
  whole xs j k a b w x y e = subst (λ k. Has xs k) (same_scalar j k a b x y e) w

  below_two : (xs : List ℕ) (s : ℕ) → xs ≡ s ∷ [] → s < 2 → (k : ℕ) → Has xs k → k < 2
  below_two xs s e less k w = (let f = only s xs e k w in omega (arith, f, less))

  there : (plant width : ℕ) (other : PlantInfo) → At plants plant other → (k v : ℕ) → IsOf plant width (State k v) → (other : PlantInfo) × At plants k other
  there plant width other at k v of = subst (λ k. (other : PlantInfo) × At plants k other) of.0 (other, at)

  narrow : (plant width : ℕ) → width_of plants plant ≡ width → (k v : ℕ) → IsOf plant width (State k v) → v < width_of plants k
  narrow plant width e k v of = subst (λ k. v < width_of plants k) of.0 (let less = of.1 in omega (arith, less, e))

  truths_x : (node : NodeInfo) → node.reads.items ≡ State 0 0 ∷ [] → node.locals.items ≡ [] → node_truths made node ≡ false ∷ []
  truths_x node reads locals =
      ap (λ l. map (reads_truth made.scalars) l ++ map (λ (x : LocalInfo). x.truth) node.locals.items) reads
      ∙ ap (λ l. false ∷ map (λ (x : LocalInfo). x.truth) l) locals

  truths_pos : plant_truths made h.vehicle ≡ false ∷ false ∷ false ∷ []
  truths_pos =
      numbers_alone h.vehicle.states.items h.vehicle.inputs.items (seen_width plants h.vehicle.sees.items) h.vehicle.noise.items
      h.is_pos.states h.is_pos.inputs (ap (seen_width plants) h.is_pos.sees) h.is_pos.noise

  truths_cell : plant_truths made h.cell ≡ false ∷ false ∷ false ∷ false ∷ false ∷ []
  truths_cell =
      five_numbers h.cell.states.items h.cell.inputs.items (seen_width plants h.cell.sees.items) h.cell.noise.items
      h.is_cell.states h.is_cell.inputs (ap (seen_width plants) h.is_cell.sees ∙ ap (λ n. n + 0) width_pos) h.is_cell.noise

  typed : IsTyped made
  typed = record {
    node_times = at_four (λ n node. node.offset < node.period) h.fast h.slow h.up h.down
        (omega (arith, h.is_fast.offset, h.is_fast.period)) (omega (arith, h.is_slow.offset, h.is_slow.period))
        (omega (arith, h.is_up.offset, h.is_up.period)) (omega (arith, h.is_down.offset, h.is_down.period));
    module_times = at_two (λ m a. a.offset < a.period) nav (fly low) (omega arith) (omega arith);
    ac_is = at_two (λ m a. (node : NodeInfo) × At made.nodes a.ac node) nav (fly low) (h.fast, refl) (h.up, refl);
    sc_is = at_two (λ m a. (node : NodeInfo) × (acts : List Act) × At made.nodes a.sc node × IsCoded node acts) nav (fly low)
        (h.slow, h.is_slow.body.0, refl, h.is_slow.body.1) (h.down, h.is_down.body.0, refl, h.is_down.body.1);
    plant_is = at_two (λ m a. (plant : PlantInfo) × At plants a.plant plant) nav (fly low) (h.vehicle, refl) (h.cell, refl);
    apart = at_two (λ m a. a.ac ≢ a.sc) nav (fly low) (λ e. omega (arith, e)) (λ e. omega (arith, e));
    sees_are = λ k one n at. at_two (λ k one. Has one.sees.items n → (other : PlantInfo) × At plants n other) h.vehicle h.cell
        (λ w. absurd (nothing h.vehicle.sees.items h.is_pos.sees w.0 n w.1))
        (λ w. subst (λ n. (other : PlantInfo) × At plants n other) (only 0 h.cell.sees.items h.is_cell.sees n w) (h.vehicle, refl)) k one at;
    named = at_two (λ k one. (m : ℕ) × (a : ModuleInfo) × At made.modules m a × (a.plant ≡ k)) h.vehicle h.cell (0, nav, refl, refl) (1, fly low, refl, refl);
    reads_are = λ n node k v at. at_four (λ n node. Has node.reads.items (State k v) → (other : PlantInfo) × At plants k other) h.fast h.slow h.up h.down
        (λ w. there 0 1 h.vehicle refl k v (reads_x h.fast h.is_fast.reads (State k v) w))
        (λ w. there 0 1 h.vehicle refl k v (reads_x h.slow h.is_slow.reads (State k v) w))
        (λ w. there 1 2 h.cell refl k v (reads_cell h.up h.is_up.reads (State k v) w))
        (λ w. there 1 2 h.cell refl k v (reads_cell h.down h.is_down.reads (State k v) w)) n node at;
    inits = (omega (arith, ints), omega (arith, ints), (omega (arith, ints), omega (arith, ints), tt));
    local_inits = at_four (λ n node. IsWithin (local_ranges node) (map (λ l. l.init) node.locals.items)) h.fast h.slow h.up h.down
        (no_inits h.fast h.is_fast.locals) (no_inits h.slow h.is_slow.locals) (no_inits h.up h.is_up.locals) (no_inits h.down h.is_down.locals);
    once = λ n node i j k at. at_four (λ n node. At node.writes.items i k → At node.writes.items j k → i ≡ j) h.fast h.slow h.up h.down
        (once h.fast 0 h.is_fast.writes i j k) (once h.slow 0 h.is_slow.writes i j k) (once h.up 1 h.is_up.writes i j k) (once h.down 1 h.is_down.writes i j k)
        n node at;
    inside = λ n node k at. at_four (λ n node. Has node.writes.items k → k < 2) h.fast h.slow h.up h.down
        (below_two h.fast.writes.items 0 h.is_fast.writes (omega arith) k) (below_two h.slow.writes.items 0 h.is_slow.writes (omega arith) k)
        (below_two h.up.writes.items 1 h.is_up.writes (omega arith) k) (below_two h.down.writes.items 1 h.is_down.writes (omega arith) k) n node at;
    outside = λ n node t i info at at_t e less has. at_two (λ t info. info.outside ≡ true → ⊥) cmd d (λ e. false≢true e) (λ e. false≢true e) t info at_t e;
    scalar_topic =
        at_two (λ k info. (topic : TopicInfo) × At made.topics info.topic topic × (topic.first ≤ k) × (k < topic.first + topic.count)) cmd_number d_number
        (cmd, refl, omega arith, omega arith) (d, refl, omega arith, omega arith);
    topic_scalar =
        λ t k topic at. at_two (λ t topic. topic.first ≤ k → k < topic.first + topic.count → (info : ScalarInfo) × At made.scalars k info × (info.topic ≡ t))
        cmd d
        (λ a b. let e : 0 ≡ k = omega (arith, a, b) in subst (λ k. (info : ScalarInfo) × At made.scalars k info × (info.topic ≡ 0)) e (cmd_number, refl, refl))
        (λ a b. let e : 1 ≡ k = omega (arith, a, b) in subst (λ k. (info : ScalarInfo) × At made.scalars k info × (info.topic ≡ 1)) e (d_number, refl, refl)) t
        topic at;
    whole_writes = λ n node j k a b at w x y e. whole node.writes.items j k a b w x y e;
    whole_inputs = λ i one j k a b at w x y e. whole one.inputs.items j k a b w x y e;
    inputs_are = λ i one k at. at_two (λ i one. Has one.inputs.items k → k < 2) h.vehicle h.cell
        (below_two h.vehicle.inputs.items 0 h.is_pos.inputs (omega arith) k) (below_two h.cell.inputs.items 1 h.is_cell.inputs (omega arith) k) i one at;
  }

  cmd_rules : MeetsScalarRules made cmd_number
  cmd_rules = record {
    scale = omega arith;
    range = (omega (arith, ints), omega (arith, ints));
    truth = λ e. absurd (false≢true e);
    plain = λ topic at e. ap (λ t. t.count) (sym (same_Some cmd topic at));
  }

  d_rules : MeetsScalarRules made d_number
  d_rules = record {
    scale = omega arith;
    range = (omega (arith, ints), omega (arith, ints));
    truth = λ e. absurd (false≢true e);
    plain = λ topic at e. ap (λ t. t.count) (sym (same_Some d topic at));
  }

  pos_rules : MeetsPlantRules made 0 h.vehicle
  pos_rules = record {
    some_state = omega (arith, ap length h.is_pos.states);
    states = omega (arith, ap length h.is_pos.states);
    state_scales = λ i info at. at_one (λ i (s : StateInfo). s.scale ≤ 6) (state_named 120) (omega arith) i info (subst (λ l. At l i info) h.is_pos.states at);
    inputs = omega (arith, ap length h.is_pos.inputs);
    sees = omega (arith, ap length h.is_pos.sees);
    sees_others = λ n w. absurd (nothing h.vehicle.sees.items h.is_pos.sees w.0 n w.1);
    noise = omega (arith, ap length h.is_pos.noise);
    noise_ranges =
        λ i info at. at_one (λ i (w : NoiseInfo). (w.scale ≤ 6) × IsNarrow w.lo w.hi) (noise_w (negsuc 0))
        (omega arith, (omega (arith, ints), omega (arith, ints))) i info
        (subst (λ l. At l i info) h.is_pos.noise at);
    one_next = ap length h.is_pos.next.2 ∙ sym (ap length h.is_pos.states);
    next =
        subst (TermsFit (plant_truths made h.vehicle)) (sym h.is_pos.next.2)
        (move_fits (plant_truths made h.vehicle) h.is_pos.next.0 truths_pos h.is_pos.next.1, tt);
  }

  cell_rules : MeetsPlantRules made 1 h.cell
  cell_rules = record {
    some_state = omega (arith, ap length h.is_cell.states);
    states = omega (arith, ap length h.is_cell.states);
    state_scales = λ i info at. at_two (λ i (s : StateInfo). s.scale ≤ 6) (state_named 104) (state_named 98) (omega arith) (omega arith) i info
        (subst (λ l. At l i info) h.is_cell.states at);
    inputs = omega (arith, ap length h.is_cell.inputs);
    sees = omega (arith, ap length h.is_cell.sees);
    sees_others = λ n w e. let f = only 0 h.cell.sees.items h.is_cell.sees n w in omega (arith, e, f);
    noise = omega (arith, ap length h.is_cell.noise);
    noise_ranges =
        λ i info at. at_one (λ i (w : NoiseInfo). (w.scale ≤ 6) × IsNarrow w.lo w.hi) (noise_w (pos 0))
        (omega arith, (omega (arith, ints), omega (arith, ints))) i info
        (subst (λ l. At l i info) h.is_cell.noise at);
    one_next = ap length h.is_cell.next ∙ sym (ap length h.is_cell.states);
    next = subst (TermsFit (plant_truths made h.cell)) (sym h.is_cell.next) (
      height_fits (plant_truths made h.cell) truths_cell h.is_cell.height h.is_cell.is_height,
      (battery_fits (plant_truths made h.cell) truths_cell h.is_cell.battery h.is_cell.is_battery, tt),
    );
  }

  -- a node that reads these state variables of a plant and writes one scalar
  node_rules : (node : NodeInfo) (plant width s : ℕ) → width_of plants plant ≡ width → node.period ≤ 1000 → length node.reads.items ≤ 64
      → ((slot : Slot) → Has node.reads.items slot → IsOf plant width slot) → node.writes.items ≡ s ∷ [] → node.locals.items ≡ []
      → ((acts : List Act) → IsCoded node acts → ActsFit (node_truths made node) (length node.locals.items) (length node.writes.items) acts)
      → MeetsNodeRules made node
  node_rules node plant width s wide period few reads writes locals body = record {
    period = period;
    reads = few;
    reads_scalars = λ k w. absurd (reads (Scalar k) w);
    reads_states = λ k v w. narrow plant width wide k v (reads (State k v) w);
    not_read = λ k w x. reads (Scalar k) w;
    writes = omega (arith, ap length writes);
    locals = omega (arith, ap length locals);
    local_ranges = λ i info at. absurd (nothing node.locals.items locals i info at);
    external = λ e. locals;
    body = body;
  }

  fast_rules : MeetsNodeRules made h.fast
  fast_rules =
      node_rules h.fast 0 1 0 width_pos (omega (arith, h.is_fast.period)) (omega (arith, ap length h.is_fast.reads)) (reads_x h.fast h.is_fast.reads)
      h.is_fast.writes h.is_fast.locals
      (λ acts coded. absurd (none-some coded.0 (sym h.is_fast.body ∙ coded.1)))

  slow_rules : MeetsNodeRules made h.slow
  slow_rules =
      node_rules h.slow 0 1 0 width_pos (omega (arith, h.is_slow.period)) (omega (arith, ap length h.is_slow.reads)) (reads_x h.slow h.is_slow.reads)
      h.is_slow.writes h.is_slow.locals
      (λ acts coded. command_fits (node_truths made h.slow) (length h.slow.locals.items) (length h.slow.writes.items) acts
      (truths_x h.slow h.is_slow.reads h.is_slow.locals) (ap length h.is_slow.writes)
      (subst IsCommand (one_body h.slow h.is_slow.body.0 acts h.is_slow.body.1 coded) h.is_slow.body.2))

  up_rules : MeetsNodeRules made h.up
  up_rules =
      node_rules h.up 1 2 1 width_cell (omega (arith, h.is_up.period)) (omega (arith, ap length h.is_up.reads)) (reads_cell h.up h.is_up.reads) h.is_up.writes
      h.is_up.locals
      (λ acts coded. absurd (none-some coded.0 (sym h.is_up.body ∙ coded.1)))

  down_rules : MeetsNodeRules made h.down
  down_rules =
      node_rules h.down 1 2 1 width_cell (omega (arith, h.is_down.period)) (omega (arith, ap length h.is_down.reads)) (reads_cell h.down h.is_down.reads)
      h.is_down.writes h.is_down.locals
      (λ acts coded. descent_fits (node_truths made h.down) (length h.down.locals.items) (length h.down.writes.items) acts (ap length h.is_down.writes)
      (subst IsDescent (one_body h.down h.is_down.body.0 acts h.is_down.body.1 coded) h.is_down.body.2))

  one_box : (r : Side) → r.lo ≤ℤ r.hi → IsRegionFor made 0 (record { width = 1; boxes = (r ∷ []) ∷ []; settled = false })
  one_box r le = record {
    width = sym width_pos;
    boxes = omega arith;
    each = at_one (λ i b. (length b ≡ 1) × AreOrdered b) (r ∷ []) (refl, (le, tt));
  }

  nav_rules : MeetsModuleRules made nav
  nav_rules = record {
    period = omega arith;
    safe = one_box (side (negsuc 39) (pos 40)) (omega (arith, ints));
    safer = one_box (side (negsuc 9) (pos 10)) (omega (arith, ints));
  }

  fly_rules : MeetsModuleRules made (fly low)
  fly_rules = record {
    period = omega arith;
    safe = record {
      width = sym width_cell;
      boxes = omega (arith, eleven);
      each = stair_fits 11 (omega arith);
    };
    safer = record {
      width = sym width_cell;
      boxes = omega arith;
      each = at_one (λ i b. (length b ≡ 2) × AreOrdered b) (side (pos 0) (pos 10) ∷ side low (pos 1000) ∷ []) (refl, (omega (arith, ints), (in_order, tt)));
    };
  }

  names : all_names ≡ (cmd_name ∷ (100 ∷ []) ∷ h.vehicle.name ∷ h.cell.name ∷ h.fast.name ∷ h.slow.name ∷ h.up.name ∷ h.down.name ∷ nav_name ∷ fly_name ∷ [])
  names i =
      cmd_name ∷ (100 ∷ []) ∷ sym h.is_pos.name i ∷ sym h.is_cell.name i ∷ sym h.is_fast.name i ∷ sym h.is_slow.name i ∷ sym h.is_up.name i ∷ sym h.is_down.name
      i ∷ nav_name ∷ fly_name ∷ []

  rules : MeetsTableRules made
  rules = record {
    typed = typed;
    topic_count = omega arith;
    plant_count = omega arith;
    node_count = omega arith;
    module_count = omega arith;
    topics = at_two (λ t topic. (1 ≤ topic.count) × (topic.count ≤ 8)) cmd d (omega arith, omega arith) (omega arith, omega arith);
    scalars = at_two (λ k info. MeetsScalarRules made info) cmd_number d_number cmd_rules d_rules;
    plants = at_two (λ k one. MeetsPlantRules made k one) h.vehicle h.cell pos_rules cell_rules;
    nodes = at_four (λ n node. MeetsNodeRules made node) h.fast h.slow h.up h.down fast_rules slow_rules up_rules down_rules;
    modules = at_two (λ m info. MeetsModuleRules made info) nav (fly low) nav_rules fly_rules;
    names_once = subst AreDistinct names names_apart;
    fields_once = λ i j a b at_i at_j s f. same_scalar i j a b at_i at_j s;
  }

pub pair_meets_rules : (low : ℤ) → low ≤ℤ pos 1000 → (p : Tables) → IsPair low p → MeetsTableRules p
pair_meets_rules low in_order p h =
    let e : made low in_order p h ≡ p = λ i. record {
      topics = sym h.topics i;
      scalars = sym h.scalars i;
      plants = sym h.plants i;
      nodes = sym h.nodes i;
      modules = sym h.modules i;
    } in
    subst MeetsTableRules e (rules low in_order p h)
