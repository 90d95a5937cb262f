-- The tables of the double integrator meet the rules of tables.
use Rattle.std.proofs.Common.{◌≡◌, ◌≢◌, ℕ, zero, suc, ◌<◌, ◌≤◌, ◌+◌, ◌*◌, ◌-◌, ℤ, true, false, List, [], ◌∷◌, refl, sym, ap, ◌∙◌, subst, arith, negsuc, ◌≤ℤ◌}
use Rattle.std.proofs.Common.{length, pos}
use Rattle.std.specs.Prelude.{slice_index_or, replicate, map, ◌++◌, ◌==◌, if◌then◌else◌, ltb, Bool}
use Rattle.std.proofs.lemmas.Int.{ints}
use Rattle.std.proofs.lemmas.Option.{same_Some, none-some}
use Rattle.std.proofs.lemmas.Bool.{false≢true}
use Rattle.sot_lists.specs.Places.{At, Has}
use Rattle.sot_box.specs.Sides.{Side, AreOrdered}
use Rattle.sot_box.specs.Boxes.{IsWithin}
use Rattle.sot_lang.specs.declared.act.Act.{Act}
use Rattle.sot_lang.specs.declared.tables.TopicInfo.{TopicInfo}
use Rattle.sot_lang.specs.declared.tables.ScalarInfo.{ScalarInfo}
use Rattle.sot_lang.specs.declared.tables.StateInfo.{StateInfo}
use Rattle.sot_lang.specs.declared.tables.NoiseInfo.{NoiseInfo}
use Rattle.sot_lang.specs.declared.tables.LocalInfo.{LocalInfo}
use Rattle.sot_lang.specs.declared.tables.PlantInfo.{PlantInfo}
use Rattle.sot_lang.specs.declared.tables.NodeInfo.{NodeInfo}
use Rattle.sot_lang.specs.declared.tables.ModuleInfo.{ModuleInfo}
use Rattle.sot_lang.specs.declared.tables.Slot.{Slot}
use Rattle.sot_lang.specs.declared.tables.Slot.TheVariants.{Scalar, State}
use Rattle.sot_lang.specs.Tables.{Tables}
use Rattle.sot_lang.specs.Ranges.{local_ranges}
use Rattle.sot_lang.specs.OwnerNames.{width_of, seen_width, is_truth_scalar, node_truths, plant_truths, reads_truth}
use Rattle.sot_lang.specs.TermRules.{TermsFit}
use Rattle.sot_lang.specs.ActRules.{ActsFit}
use Rattle.sot_lang.specs.TableRules.{IsTyped, IsCoded, IsNarrow, AreDistinct, MeetsTableRules, MeetsScalarRules, MeetsPlantRules, MeetsNodeRules}
use Rattle.sot_lang.specs.TableRules.{MeetsModuleRules}
use Rattle.sot_lang.specs.Line.{side, fast_name, slow_name, nav_name}
use Rattle.sot_lists.proofs.ShortLists.{at_more, at_one, at_two}
use Rattle.sot_lang.proofs.Owners.{one_body}
use Rattle.sot_worked_missions.specs.Parts.{one_topic, whole_number}
use Rattle.sot_worked_missions.specs.Double.{u_name, arm_name, IsThrust, IsDouble, run, falling, rising, row, rows, stops}
use Rattle.sot_worked_missions.proofs.Short.{only, only_place, nothing}
use Rattle.sot_worked_missions.proofs.DoubleTerms.{place_fits, speed_fits, thrust_fits}

-- the names, by their first letters
place_of : List ℕ → ℕ
place_of name =
    let c = slice_index_or name 0 0 in
    if c == 117 then 0 else (if c == 97 then 1 else (if c == 102 then 2 else (if c == 115 then 3 else 4)))

abbrev all_names : List (List ℕ)
all_names = u_name ∷ arm_name ∷ fast_name ∷ slow_name ∷ nav_name ∷ []

is_at : (i : ℕ) (name : List ℕ) → At all_names i name → i ≡ place_of name
unfolding place_of
is_at =
    at_more (λ i x. i ≡ place_of x) u_name (arm_name ∷ fast_name ∷ slow_name ∷ nav_name ∷ []) refl
    (at_more (λ i x. suc i ≡ place_of x) arm_name (fast_name ∷ slow_name ∷ nav_name ∷ []) refl
    (at_more (λ i x. suc (suc i) ≡ place_of x) fast_name (slow_name ∷ nav_name ∷ []) refl
    (at_two (λ i x. suc (suc (suc i)) ≡ place_of x) slow_name nav_name refl refl)))

names_apart : AreDistinct all_names
names_apart i j name a b = is_at i name a ∙ sym (is_at j name b)

abbrev u : TopicInfo
u = one_topic u_name 0

abbrev number : ScalarInfo
number = whole_number 0 (negsuc 1) (pos 2)

abbrev state_named : ℕ → StateInfo
state_named letter = record { name = letter ∷ []; scale = 0 }

abbrev noise_w : NoiseInfo
noise_w = record { name = 119 ∷ []; scale = 0; lo = negsuc 0; hi = pos 1 }

-- how far the arm goes is bounded
pub run_bound : (s : ℕ) → s ≤ 14 → run s ≤ 14 * s
run_bound zero few = omega arith
run_bound (suc s) few = (let before = run_bound s (omega (arith, few)) in omega (arith, few, before))

falling_fits : (s : ℕ) → s ≤ 14 → (length (falling s) ≡ 2) × AreOrdered (falling s)
falling_fits s few = (let bound = run_bound s few in (refl, (omega (arith, ints, bound, few), (omega (arith, ints), tt))))

rising_fits : (s : ℕ) → s ≤ 14 → (length (rising s) ≡ 2) × AreOrdered (rising s)
rising_fits s few = (let bound = run_bound s few in (refl, (omega (arith, ints, bound, few), (omega (arith, ints), tt))))

row_fits : (n : ℕ) → n ≤ 28 → (length (row n) ≡ 2) × AreOrdered (row n)
row_fits n few = by_half (ltb n 14)
  where
    by_half : (b : Bool) → (let box = if b then falling (14 - n) else rising (n - 14) in (length box ≡ 2) × AreOrdered box)
    by_half true = falling_fits (14 - n) (omega arith)
    by_half false = rising_fits (n - 14) (omega (arith, few))

-- one more at the end
at_snoc : {A : Type 0} (P : A → Type 0) (xs : List A) (y : A) → ((i : ℕ) (b : A) → At xs i b → P b) → P y → (i : ℕ) (b : A) → At (xs ++ (y ∷ [])) i b → P b
at_snoc P [] y all h i b at = at_one (λ i b. P b) y h i b at
at_snoc P (x ∷ xs) y all h zero b at = subst P (same_Some x b at) (all zero x refl)
at_snoc P (x ∷ xs) y all h (suc i) b at = at_snoc P xs y (λ i b at. all (suc i) b at) h i b at

-- the boxes of the safe region have two sides, whose ends are in order
rows_fit : (n : ℕ) → n ≤ 29 → (i : ℕ) (b : List Side) → At (rows n) i b → (length b ≡ 2) × AreOrdered b
rows_fit zero few i b at = absurd (none-some b at)
rows_fit (suc n) few i b at =
    at_snoc (λ b. (length b ≡ 2) × AreOrdered b) (rows n) (row n) (rows_fit n (omega (arith, few))) (row_fits n (omega (arith, few))) i b at

all_rows : length (rows 29) ≡ 29
all_rows = refl

-- of a plant's names none is a truth value
numbers_alone : (states : List StateInfo) (inputs : List ℕ) (seen : ℕ) (noise : List NoiseInfo)
    → states ≡ state_named 120 ∷ state_named 118 ∷ [] → inputs ≡ 0 ∷ [] → seen ≡ 0 → noise ≡ noise_w ∷ []
    → (map (λ s. false) states ++ map (is_truth_scalar (number ∷ [])) inputs ++ replicate seen false ++ map (λ d. false) noise)
    ≡ false ∷ false ∷ false ∷ false ∷ []
numbers_alone states inputs seen noise a b c d = rw (a, b, c, d) refl

-- a number that is read is a state variable of the arm
abbrev IsOfArm : Slot → Type 0
IsOfArm (Scalar k) = ⊥
IsOfArm (State k v) = (0 ≡ k) × (v < 2)

reads_arm : (node : NodeInfo) → node.reads.items ≡ State 0 0 ∷ State 0 1 ∷ [] → (s : Slot) → Has node.reads.items s → IsOfArm s
reads_arm node e s h = at_two (λ i s. IsOfArm s) (State 0 0) (State 0 1) (refl, omega arith) (refl, omega arith) h.0 s (subst (λ l. At l h.0 s) e h.1)

no_inits : (node : NodeInfo) → node.locals.items ≡ [] → IsWithin (local_ranges node) (map (λ l. l.init) node.locals.items)
no_inits node locals = subst (λ (all : List LocalInfo). IsWithin (map (λ l. record { lo = l.lo; hi = l.hi }) all) (map (λ l. l.init) all)) (sym locals) tt

once : (node : NodeInfo) → node.writes.items ≡ 0 ∷ [] → (i j k : ℕ) → At node.writes.items i k → At node.writes.items j k → i ≡ j
once node writes i j k a b = only_place 0 node.writes.items writes i k a ∙ sym (only_place 0 node.writes.items writes j k b)

below_one : (xs : List ℕ) → xs ≡ 0 ∷ [] → (k : ℕ) → Has xs k → k < 1
below_one xs e k w = (let f = only 0 xs e k w in omega (arith, f))

-- the first scalar is the only one
whole : (xs : List ℕ) (j k : ℕ) (a b : ScalarInfo) → Has xs j → At (number ∷ []) j a → At (number ∷ []) k b → Has xs k
whole xs j k a b w x y =
    let first : 0 ≡ j = at_one (λ j info. 0 ≡ j) number refl j a x in
    let second : 0 ≡ k = at_one (λ k info. 0 ≡ k) number refl k b y in
    subst (λ k. Has xs k) (sym first ∙ second) w

module _ (low high : ℤ) (in_order : low ≤ℤ high) (p : Tables) (h : IsDouble low high p) where
  abbrev plants : List PlantInfo
  plants = h.arm ∷ []

  abbrev made : Tables
  made = record { topics = u ∷ []; scalars = number ∷ []; plants = plants; nodes = h.fast ∷ h.slow ∷ []; modules = stops low high ∷ [] }

  width_arm : width_of plants 0 ≡ 2
  width_arm = ap length h.is_arm.states

  there : (k v : ℕ) → IsOfArm (State k v) → (other : PlantInfo) × At plants k other
  there k v of = subst (λ k. (other : PlantInfo) × At plants k other) of.0 (h.arm, refl)

  narrow : (k v : ℕ) → IsOfArm (State k v) → v < width_of plants k
  narrow k v of = subst (λ k. v < width_of plants k) of.0 (let less = of.1 in omega (arith, less, width_arm))

  two_truths : node_truths made h.slow ≡ false ∷ false ∷ []
  two_truths =
      ap (λ l. map (reads_truth made.scalars) l ++ map (λ (x : LocalInfo). x.truth) h.slow.locals.items) h.is_slow.reads
      ∙ ap (λ l. false ∷ false ∷ map (λ (x : LocalInfo). x.truth) l) h.is_slow.locals

  four_truths : plant_truths made h.arm ≡ false ∷ false ∷ false ∷ false ∷ []
  four_truths =
      numbers_alone h.arm.states.items h.arm.inputs.items (seen_width plants h.arm.sees.items) h.arm.noise.items
      h.is_arm.states h.is_arm.inputs (ap (seen_width plants) h.is_arm.sees) h.is_arm.noise

  typed : IsTyped made
  typed = record {
    node_times =
        at_two (λ n node. node.offset < node.period) h.fast h.slow (omega (arith, h.is_fast.offset, h.is_fast.period))
        (omega (arith, h.is_slow.offset, h.is_slow.period));
    module_times = at_one (λ m a. a.offset < a.period) (stops low high) (omega arith);
    ac_is = at_one (λ m a. (node : NodeInfo) × At made.nodes a.ac node) (stops low high) (h.fast, refl);
    sc_is =
        at_one (λ m a. (node : NodeInfo) × (acts : List Act) × At made.nodes a.sc node × IsCoded node acts) (stops low high)
        (h.slow, h.is_slow.body.0, refl, h.is_slow.body.1);
    plant_is = at_one (λ m a. (plant : PlantInfo) × At plants a.plant plant) (stops low high) (h.arm, refl);
    apart = at_one (λ m a. a.ac ≢ a.sc) (stops low high) (λ e. omega (arith, e));
    sees_are =
        λ k one n at. at_one (λ k one. Has one.sees.items n → (other : PlantInfo) × At plants n other) h.arm
        (λ w. absurd (nothing h.arm.sees.items h.is_arm.sees w.0 n w.1)) k one at;
    named = at_one (λ k one. (m : ℕ) × (a : ModuleInfo) × At made.modules m a × (a.plant ≡ k)) h.arm (0, stops low high, refl, refl);
    reads_are = λ n node k v at. at_two (λ n node. Has node.reads.items (State k v) → (other : PlantInfo) × At plants k other) h.fast h.slow
        (λ w. there k v (reads_arm h.fast h.is_fast.reads (State k v) w)) (λ w. there k v (reads_arm h.slow h.is_slow.reads (State k v) w)) n node at;
    inits = (omega (arith, ints), omega (arith, ints), tt);
    local_inits =
        at_two (λ n node. IsWithin (local_ranges node) (map (λ l. l.init) node.locals.items)) h.fast h.slow (no_inits h.fast h.is_fast.locals)
        (no_inits h.slow h.is_slow.locals);
    once = λ n node i j k at. at_two (λ n node. At node.writes.items i k → At node.writes.items j k → i ≡ j) h.fast h.slow
        (once h.fast h.is_fast.writes i j k) (once h.slow h.is_slow.writes i j k) n node at;
    inside = λ n node k at. at_two (λ n node. Has node.writes.items k → k < 1) h.fast h.slow
        (below_one h.fast.writes.items h.is_fast.writes k) (below_one h.slow.writes.items h.is_slow.writes k) n node at;
    outside = λ n node t i info at at_t e less has. at_one (λ t info. info.outside ≡ true → ⊥) u (λ e. false≢true e) t info at_t e;
    scalar_topic =
        at_one (λ k info. (topic : TopicInfo) × At made.topics info.topic topic × (topic.first ≤ k) × (k < topic.first + topic.count)) number
        (u, refl, omega arith, omega arith);
    topic_scalar =
        λ t k topic at. at_one (λ t topic. topic.first ≤ k → k < topic.first + topic.count → (info : ScalarInfo) × At made.scalars k info × (info.topic ≡ t)) u
        (λ a b. let e : 0 ≡ k = omega (arith, a, b) in subst (λ k. (info : ScalarInfo) × At made.scalars k info × (info.topic ≡ 0)) e (number, refl, refl)) t
        topic at;
    whole_writes = λ n node j k a b at w x y e. whole node.writes.items j k a b w x y;
    whole_inputs = λ i one j k a b at w x y e. whole one.inputs.items j k a b w x y;
    inputs_are = λ i one k at. at_one (λ i one. Has one.inputs.items k → k < 1) h.arm (below_one h.arm.inputs.items h.is_arm.inputs k) i one at;
  }

  one_number : MeetsScalarRules made number
  one_number = record {
    scale = omega arith;
    range = (omega (arith, ints), omega (arith, ints));
    truth = λ e. absurd (false≢true e);
    plain = λ topic at e. ap (λ t. t.count) (sym (same_Some u topic at));
  }

  arm_rules : MeetsPlantRules made 0 h.arm
  arm_rules = record {
    some_state = omega (arith, ap length h.is_arm.states);
    states = omega (arith, ap length h.is_arm.states);
    state_scales =
        λ i info at. at_two (λ i (s : StateInfo). s.scale ≤ 6) (state_named 120) (state_named 118) (omega arith) (omega arith) i info
        (subst (λ l. At l i info) h.is_arm.states at);
    inputs = omega (arith, ap length h.is_arm.inputs);
    sees = omega (arith, ap length h.is_arm.sees);
    sees_others = λ n w. absurd (nothing h.arm.sees.items h.is_arm.sees w.0 n w.1);
    noise = omega (arith, ap length h.is_arm.noise);
    noise_ranges =
        λ i info at. at_one (λ i (w : NoiseInfo). (w.scale ≤ 6) × IsNarrow w.lo w.hi) noise_w (omega arith, (omega (arith, ints), omega (arith, ints))) i info
        (subst (λ l. At l i info) h.is_arm.noise at);
    one_next = ap length h.is_arm.next ∙ sym (ap length h.is_arm.states);
    next = subst (TermsFit (plant_truths made h.arm)) (sym h.is_arm.next) (
      place_fits (plant_truths made h.arm) four_truths h.is_arm.«place» h.is_arm.is_place,
      (speed_fits (plant_truths made h.arm) four_truths h.is_arm.speed h.is_arm.is_speed, tt),
    );
  }

  -- a node that reads the arm and writes its input
  node_rules : (node : NodeInfo) → node.period ≤ 1000 → node.reads.items ≡ State 0 0 ∷ State 0 1 ∷ [] → node.writes.items ≡ 0 ∷ [] → node.locals.items ≡ []
      → ((acts : List Act) → IsCoded node acts → ActsFit (node_truths made node) (length node.locals.items) (length node.writes.items) acts)
      → MeetsNodeRules made node
  node_rules node period reads writes locals body = record {
    period = period;
    reads = omega (arith, ap length reads);
    reads_scalars = λ k w. absurd (reads_arm node reads (Scalar k) w);
    reads_states = λ k v w. narrow k v (reads_arm node reads (State k v) w);
    not_read = λ k w x. reads_arm node reads (Scalar k) w;
    writes = omega (arith, ap length writes);
    locals = omega (arith, ap length locals);
    local_ranges = λ i info at. absurd (nothing node.locals.items locals i info at);
    external = λ e. locals;
    body = body;
  }

  fast_rules : MeetsNodeRules made h.fast
  fast_rules =
      node_rules h.fast (omega (arith, h.is_fast.period)) h.is_fast.reads h.is_fast.writes h.is_fast.locals
      (λ acts coded. absurd (none-some coded.0 (sym h.is_fast.body ∙ coded.1)))

  slow_rules : MeetsNodeRules made h.slow
  slow_rules = node_rules h.slow (omega (arith, h.is_slow.period)) h.is_slow.reads h.is_slow.writes h.is_slow.locals
      (λ acts coded. thrust_fits (node_truths made h.slow) (length h.slow.locals.items) (length h.slow.writes.items) acts two_truths
      (ap length h.is_slow.writes)
      (subst IsThrust (one_body h.slow h.is_slow.body.0 acts h.is_slow.body.1 coded) h.is_slow.body.2))

  module_rules : MeetsModuleRules made (stops low high)
  module_rules = record {
    period = omega arith;
    safe = record { width = sym width_arm; boxes = omega (arith, all_rows); each = rows_fit 29 (omega arith) };
    safer = record {
      width = sym width_arm;
      boxes = omega arith;
      each = at_one (λ i b. (length b ≡ 2) × AreOrdered b) (side low high ∷ side (negsuc 1) (pos 2) ∷ []) (refl, (in_order, (omega (arith, ints), tt)));
    };
  }

  names : all_names ≡ (u_name ∷ h.arm.name ∷ h.fast.name ∷ h.slow.name ∷ nav_name ∷ [])
  names i = u_name ∷ sym h.is_arm.name i ∷ sym h.is_fast.name i ∷ sym h.is_slow.name i ∷ nav_name ∷ []

  rules : MeetsTableRules made
  rules = record {
    typed = typed;
    topic_count = omega arith;
    plant_count = omega arith;
    node_count = omega arith;
    module_count = omega arith;
    topics = at_one (λ t topic. (1 ≤ topic.count) × (topic.count ≤ 8)) u (omega arith, omega arith);
    scalars = at_one (λ k info. MeetsScalarRules made info) number one_number;
    plants = at_one (λ k one. MeetsPlantRules made k one) h.arm arm_rules;
    nodes = at_two (λ n node. MeetsNodeRules made node) h.fast h.slow fast_rules slow_rules;
    modules = at_one (λ m info. MeetsModuleRules made info) (stops low high) module_rules;
    names_once = subst AreDistinct names names_apart;
    fields_once = λ i j a b at_i at_j s f. at_one (λ i x. i ≡ j) number (sym (at_one (λ j x. j ≡ 0) number refl j b at_j)) i a at_i;
  }

pub double_meets_rules : (low high : ℤ) → low ≤ℤ high → (p : Tables) → IsDouble low high p → MeetsTableRules p
double_meets_rules low high in_order p h =
    let e : made low high in_order p h ≡ p = λ i. record {
      topics = sym h.topics i;
      scalars = sym h.scalars i;
      plants = sym h.plants i;
      nodes = sym h.nodes i;
      modules = sym h.modules i;
    } in
    subst MeetsTableRules e (rules low high in_order p h)
