-- The tables of the vehicle on a line meet the rules of tables.
use Rattle.std.proofs.Common.{◌≡◌, ◌≢◌, ℕ, ◌<◌, ◌≤◌, ◌+◌, true, false, Bool, List, [], ◌∷◌, refl, sym, ap, ◌∙◌, subst, arith, negsuc, ◌≤ℤ◌, length, pos}
use Rattle.std.specs.Prelude.{replicate, map, ◌++◌}
use Rattle.std.proofs.lemmas.Int.{ints}
use Rattle.std.proofs.lemmas.Option.{same_Some, none-some}
use Rattle.std.proofs.lemmas.Bool.{false≢true}
use Rattle.sot_lists.specs.Places.{At, Has}
use Rattle.sot_box.specs.Sides.{Side, AreOrdered}
use Rattle.sot_box.specs.Boxes.{IsWithin}
use Rattle.sot_lang.specs.declared.act.Act.{Act}
use Rattle.sot_lang.specs.declared.term.Term.{Term}
use Rattle.sot_lang.specs.declared.tables.TopicInfo.{TopicInfo}
use Rattle.sot_lang.specs.declared.tables.ScalarInfo.{ScalarInfo}
use Rattle.sot_lang.specs.declared.tables.StateInfo.{StateInfo}
use Rattle.sot_lang.specs.declared.tables.NoiseInfo.{NoiseInfo}
use Rattle.sot_lang.specs.declared.tables.LocalInfo.{LocalInfo}
use Rattle.sot_lang.specs.declared.tables.PlantInfo.{PlantInfo}
use Rattle.sot_lang.specs.declared.tables.NodeInfo.{NodeInfo}
use Rattle.sot_lang.specs.declared.tables.ModuleInfo.{ModuleInfo}
use Rattle.sot_lang.specs.declared.tables.Slot.{Slot}
use Rattle.sot_lang.specs.declared.tables.Slot.TheVariants.{Scalar, State}
use Rattle.sot_lang.specs.Tables.{Tables}
use Rattle.sot_lang.specs.Ranges.{local_ranges}
use Rattle.sot_lang.specs.OwnerNames.{width_of, seen_width, is_truth_scalar, node_truths, plant_truths, reads_truth}
use Rattle.sot_lang.specs.TermRules.{TermFits, TermsFit}
use Rattle.sot_lang.specs.TableRules.{IsTyped, IsCoded, IsNarrow, AreDistinct, MeetsTableRules, MeetsScalarRules, MeetsPlantRules, MeetsNodeRules}
use Rattle.sot_lang.specs.TableRules.{MeetsModuleRules, IsRegionFor}
use Rattle.sot_lang.specs.Line.{side, cmd_name, pos_name, fast_name, slow_name, nav_name}
use Rattle.sot_lists.proofs.ShortLists.{at_one, at_two}
use Rattle.sot_lang.proofs.Owners.{one_body}
use Rattle.sot_lang.proofs.LineRules.{names_apart}
use Rattle.sot_worked_missions.specs.Parts.{one_topic, whole_number}
use Rattle.sot_worked_missions.specs.Line.{IsPos, IsFast, IsSlow, IsCommand, IsLine, nav}
use Rattle.sot_worked_missions.proofs.Short.{only, only_place, nothing}
use Rattle.sot_worked_missions.proofs.LineTerms.{command_fits}

plant_of : Slot → ℕ
plant_of (Scalar k) = k
plant_of (State k v) = k

var_of : Slot → ℕ
var_of (Scalar k) = 0
var_of (State k v) = v

is_state : Slot → Bool
is_state (Scalar k) = false
is_state (State k v) = true

abbrev state_x : StateInfo
state_x = record { name = 120 ∷ []; scale = 0 }

abbrev noise_w : NoiseInfo
noise_w = record { name = 119 ∷ []; scale = 0; lo = negsuc 0; hi = pos 1 }

abbrev cmd : TopicInfo
cmd = one_topic cmd_name 0

abbrev number : ScalarInfo
number = whole_number 0 (negsuc 1) (pos 2)

-- of the plant's names none is a truth value
numbers_alone : (states : List StateInfo) (inputs : List ℕ) (seen : ℕ) (noise : List NoiseInfo)
    → states ≡ state_x ∷ [] → inputs ≡ 0 ∷ [] → seen ≡ 0 → noise ≡ noise_w ∷ []
    → (map (λ s. false) states ++ map (is_truth_scalar (number ∷ [])) inputs ++ replicate seen false ++ map (λ d. false) noise) ≡ false ∷ false ∷ false ∷ []
numbers_alone states inputs seen noise a b c d = rw (a, b, c, d) refl

-- a node that reads the vehicle's place and writes its command
module _ (node : NodeInfo) (reads : node.reads.items ≡ State 0 0 ∷ []) where
  is_plant : (k v : ℕ) → Has node.reads.items (State k v) → 0 ≡ k
  unfolding plant_of
  is_plant k v a = ap plant_of (only (State 0 0) node.reads.items reads (State k v) a)

  is_var : (k v : ℕ) → Has node.reads.items (State k v) → 0 ≡ v
  unfolding var_of
  is_var k v a = ap var_of (only (State 0 0) node.reads.items reads (State k v) a)

  no_scalar : (k : ℕ) → Has node.reads.items (Scalar k) → ⊥
  unfolding is_state
  no_scalar k a = false≢true (sym (ap is_state (only (State 0 0) node.reads.items reads (Scalar k) a)))

module _ (node : NodeInfo) (locals : node.locals.items ≡ []) where
  no_inits : IsWithin (local_ranges node) (map (λ l. l.init) node.locals.items)
  no_inits = subst (λ (all : List LocalInfo). IsWithin (map (λ l. record { lo = l.lo; hi = l.hi }) all) (map (λ l. l.init) all)) (sym locals) tt

  no_local : (i : ℕ) (info : LocalInfo) → At node.locals.items i info → ⊥
  no_local = nothing node.locals.items locals

module _ (node : NodeInfo) (writes : node.writes.items ≡ 0 ∷ []) where
  writes_once : (i j k : ℕ) → At node.writes.items i k → At node.writes.items j k → i ≡ j
  writes_once i j k a b = only_place 0 node.writes.items writes i k a ∙ sym (only_place 0 node.writes.items writes j k b)

  writes_low : (k : ℕ) → Has node.writes.items k → k < 1
  writes_low k a = (let e = only 0 node.writes.items writes k a in omega (arith, e))

  -- the first scalar is the only one
  writes_whole : (j k : ℕ) (a b : ScalarInfo) → Has node.writes.items j → At (number ∷ []) j a → At (number ∷ []) k b → Has node.writes.items k
  writes_whole j k a b h x y =
      let first : 0 ≡ j = at_one (λ j info. 0 ≡ j) number refl j a x in
      let second : 0 ≡ k = at_one (λ k info. 0 ≡ k) number refl k b y in
      subst (λ k. Has node.writes.items k) (sym first ∙ second) h

module _ (N : Term → Type 0) (fits : (truths : List Bool) (t : Term) → truths ≡ false ∷ false ∷ false ∷ [] → N t → TermFits truths t)
    (plant : PlantInfo) (fast slow : NodeInfo) (hp : IsPos N plant) (hf : IsFast fast) (hs : IsSlow slow) where
  abbrev made : Tables
  made = record { topics = cmd ∷ []; scalars = number ∷ []; plants = plant ∷ []; nodes = fast ∷ slow ∷ []; modules = nav ∷ [] }

  width_one : width_of made.plants 0 ≡ 1
  width_one = ap length hp.states

  node_reads : (node : NodeInfo) → node.reads.items ≡ State 0 0 ∷ [] → (k v : ℕ) → Has node.reads.items (State k v)
      → (other : PlantInfo) × At made.plants k other
  node_reads node reads k v a = subst (λ k. (other : PlantInfo) × At made.plants k other) (is_plant node reads k v a) (plant, refl)

  node_vars : (node : NodeInfo) → node.reads.items ≡ State 0 0 ∷ [] → (k v : ℕ) → Has node.reads.items (State k v) → v < width_of made.plants k
  node_vars node reads k v a =
      subst (λ k. v < width_of made.plants k) (is_plant node reads k v a) (let e = is_var node reads k v a in omega (arith, e, width_one))

  one_truth : node_truths made slow ≡ false ∷ []
  one_truth =
      ap (λ l. map (reads_truth made.scalars) l ++ map (λ (x : LocalInfo). x.truth) slow.locals.items) hs.reads
      ∙ ap (λ l. false ∷ map (λ (x : LocalInfo). x.truth) l) hs.locals

  three_truths : plant_truths made plant ≡ false ∷ false ∷ false ∷ []
  three_truths =
      numbers_alone plant.states.items plant.inputs.items (seen_width made.plants plant.sees.items) plant.noise.items
      hp.states hp.inputs (ap (seen_width made.plants) hp.sees) hp.noise

  whole_inputs : (j k : ℕ) (a b : ScalarInfo) → Has plant.inputs.items j → At (number ∷ []) j a → At (number ∷ []) k b → Has plant.inputs.items k
  whole_inputs j k a b h x y =
      let first : 0 ≡ j = at_one (λ j info. 0 ≡ j) number refl j a x in
      let second : 0 ≡ k = at_one (λ k info. 0 ≡ k) number refl k b y in
      subst (λ k. Has plant.inputs.items k) (sym first ∙ second) h

  typed : IsTyped made
  typed = record {
    node_times = at_two (λ n node. node.offset < node.period) fast slow (omega (arith, hf.offset, hf.period)) (omega (arith, hs.offset, hs.period));
    module_times = at_one (λ m a. a.offset < a.period) nav (omega arith);
    ac_is = at_one (λ m a. (node : NodeInfo) × At made.nodes a.ac node) nav (fast, refl);
    sc_is = at_one (λ m a. (node : NodeInfo) × (acts : List Act) × At made.nodes a.sc node × IsCoded node acts) nav (slow, hs.body.0, refl, hs.body.1);
    plant_is = at_one (λ m a. (plant : PlantInfo) × At made.plants a.plant plant) nav (plant, refl);
    apart = at_one (λ m a. a.ac ≢ a.sc) nav (λ e. omega (arith, e));
    sees_are =
        λ k one n at. at_one (λ k one. Has one.sees.items n → (other : PlantInfo) × At made.plants n other) plant
        (λ h. absurd (nothing plant.sees.items hp.sees h.0 n h.1)) k one at;
    named = at_one (λ k one. (m : ℕ) × (a : ModuleInfo) × At made.modules m a × (a.plant ≡ k)) plant (0, nav, refl, refl);
    reads_are = λ n node k v at. at_two (λ n node. Has node.reads.items (State k v) → (other : PlantInfo) × At made.plants k other) fast slow
        (node_reads fast hf.reads k v) (node_reads slow hs.reads k v) n node at;
    inits = (omega (arith, ints), omega (arith, ints), tt);
    local_inits =
        at_two (λ n node. IsWithin (local_ranges node) (map (λ l. l.init) node.locals.items)) fast slow (no_inits fast hf.locals) (no_inits slow hs.locals);
    once = λ n node i j k at. at_two (λ n node. At node.writes.items i k → At node.writes.items j k → i ≡ j) fast slow
        (writes_once fast hf.writes i j k) (writes_once slow hs.writes i j k) n node at;
    inside = λ n node k at. at_two (λ n node. Has node.writes.items k → k < 1) fast slow (writes_low fast hf.writes k) (writes_low slow hs.writes k) n node at;
    outside = λ n node t i info at at_t e less has. at_one (λ t info. info.outside ≡ true → ⊥) cmd (λ e. false≢true e) t info at_t e;
    scalar_topic =
        at_one (λ k info. (topic : TopicInfo) × At made.topics info.topic topic × (topic.first ≤ k) × (k < topic.first + topic.count)) number
        (cmd, refl, omega arith, omega arith);
    topic_scalar =
        λ t k topic at. at_one (λ t topic. topic.first ≤ k → k < topic.first + topic.count → (info : ScalarInfo) × At made.scalars k info × (info.topic ≡ t))
        cmd
        (λ a b. let e : 0 ≡ k = omega (arith, a, b) in subst (λ k. (info : ScalarInfo) × At made.scalars k info × (info.topic ≡ 0)) e (number, refl, refl)) t
        topic at;
    whole_writes =
        λ n node j k a b at. at_two (λ n node. Has node.writes.items j → At made.scalars j a → At made.scalars k b → a.topic ≡ b.topic
        → Has node.writes.items k) fast slow
        (λ h x y e. writes_whole fast hf.writes j k a b h x y) (λ h x y e. writes_whole slow hs.writes j k a b h x y) n node at;
    whole_inputs =
        λ i one j k a b at. at_one (λ i one. Has one.inputs.items j → At made.scalars j a → At made.scalars k b → a.topic ≡ b.topic → Has one.inputs.items k)
        plant
        (λ h x y e. whole_inputs j k a b h x y) i one at;
    inputs_are =
        λ i one k at. at_one (λ i one. Has one.inputs.items k → k < 1) plant (λ h. let e = only 0 plant.inputs.items hp.inputs k h in omega (arith, e)) i one
        at;
  }

  one_number : MeetsScalarRules made number
  one_number = record {
    scale = omega arith;
    range = (omega (arith, ints), omega (arith, ints));
    truth = λ e. absurd (false≢true e);
    plain = λ topic at e. ap (λ t. t.count) (sym (same_Some cmd topic at));
  }

  the_plant : MeetsPlantRules made 0 plant
  the_plant = record {
    some_state = omega (arith, ap length hp.states);
    states = omega (arith, ap length hp.states);
    state_scales = λ i info at. at_one (λ i (s : StateInfo). s.scale ≤ 6) state_x (omega arith) i info (subst (λ l. At l i info) hp.states at);
    inputs = omega (arith, ap length hp.inputs);
    sees = omega (arith, ap length hp.sees);
    sees_others = λ n h. absurd (nothing plant.sees.items hp.sees h.0 n h.1);
    noise = omega (arith, ap length hp.noise);
    noise_ranges =
        λ i info at. at_one (λ i (d : NoiseInfo). (d.scale ≤ 6) × IsNarrow d.lo d.hi) noise_w (omega arith, (omega (arith, ints), omega (arith, ints))) i info
        (subst (λ l. At l i info) hp.noise at);
    one_next = ap length hp.next.2 ∙ sym (ap length hp.states);
    next = subst (TermsFit (plant_truths made plant)) (sym hp.next.2) (fits (plant_truths made plant) hp.next.0 three_truths hp.next.1, tt);
  }

  safe_node : MeetsNodeRules made slow
  safe_node = record {
    period = omega (arith, hs.period);
    reads = omega (arith, ap length hs.reads);
    reads_scalars = λ k h. absurd (no_scalar slow hs.reads k h);
    reads_states = node_vars slow hs.reads;
    not_read = λ k h w. no_scalar slow hs.reads k h;
    writes = omega (arith, ap length hs.writes);
    locals = omega (arith, ap length hs.locals);
    local_ranges = λ i info at. absurd (no_local slow hs.locals i info at);
    external = λ e. hs.locals;
    body = λ acts coded. command_fits (node_truths made slow) (length slow.locals.items) (length slow.writes.items) acts one_truth (ap length hs.writes)
        (subst IsCommand (one_body slow hs.body.0 acts hs.body.1 coded) hs.body.2);
  }

  advanced_node : MeetsNodeRules made fast
  advanced_node = record {
    period = omega (arith, hf.period);
    reads = omega (arith, ap length hf.reads);
    reads_scalars = λ k h. absurd (no_scalar fast hf.reads k h);
    reads_states = node_vars fast hf.reads;
    not_read = λ k h w. no_scalar fast hf.reads k h;
    writes = omega (arith, ap length hf.writes);
    locals = omega (arith, ap length hf.locals);
    local_ranges = λ i info at. absurd (no_local fast hf.locals i info at);
    external = λ e. hf.locals;
    body = λ acts coded. absurd (none-some coded.0 (sym hf.body ∙ coded.1));
  }

  one_box : (r : Side) → r.lo ≤ℤ r.hi → IsRegionFor made 0 (record { width = 1; boxes = (r ∷ []) ∷ []; settled = false })
  one_box r le = record {
    width = sym width_one;
    boxes = omega arith;
    each = at_one (λ i b. (length b ≡ 1) × AreOrdered b) (r ∷ []) (refl, (le, tt));
  }

  the_module : MeetsModuleRules made nav
  the_module = record {
    period = omega arith;
    safe = one_box (side (negsuc 39) (pos 40)) (omega (arith, ints));
    safer = one_box (side (negsuc 9) (pos 10)) (omega (arith, ints));
  }

  names : (cmd_name ∷ pos_name ∷ fast_name ∷ slow_name ∷ nav_name ∷ []) ≡ (cmd_name ∷ plant.name ∷ fast.name ∷ slow.name ∷ nav_name ∷ [])
  names i = cmd_name ∷ sym hp.name i ∷ sym hf.name i ∷ sym hs.name i ∷ nav_name ∷ []

  rules : MeetsTableRules made
  rules = record {
    typed = typed;
    topic_count = omega arith;
    plant_count = omega arith;
    node_count = omega arith;
    module_count = omega arith;
    topics = at_one (λ t topic. (1 ≤ topic.count) × (topic.count ≤ 8)) cmd (omega arith, omega arith);
    scalars = at_one (λ k info. MeetsScalarRules made info) number one_number;
    plants = at_one (λ k one. MeetsPlantRules made k one) plant the_plant;
    nodes = at_two (λ n node. MeetsNodeRules made node) fast slow advanced_node safe_node;
    modules = at_one (λ m info. MeetsModuleRules made info) nav the_module;
    names_once = subst AreDistinct names names_apart;
    fields_once = λ i j a b at_i at_j s f. at_one (λ i x. i ≡ j) number (sym (at_one (λ j x. j ≡ 0) number refl j b at_j)) i a at_i;
  }

pub line_meets_rules : (N : Term → Type 0) → ((truths : List Bool) (t : Term) → truths ≡ false ∷ false ∷ false ∷ [] → N t → TermFits truths t) → (p : Tables)
    → IsLine N p → MeetsTableRules p
line_meets_rules N fits p h =
    let e : made N fits h.plants.0 h.nodes.0 h.nodes.1 h.plants.1 h.nodes.2 h.nodes.3 ≡ p = λ i. record {
      topics = sym h.topics i;
      scalars = sym h.scalars i;
      plants = sym h.plants.2 i;
      nodes = sym h.nodes.4 i;
      modules = sym h.modules i;
    } in
    subst MeetsTableRules e (rules N fits h.plants.0 h.nodes.0 h.nodes.1 h.plants.1 h.nodes.2 h.nodes.3)

-- what is said of one tick is said of each that it may be
pub pos_so : (M N : Term → Type 0) (plant : PlantInfo) → ((t : Term) → M t → N t) → IsPos M plant → IsPos N plant
pos_so M N plant more h = record {
  name = h.name;
  states = h.states;
  inputs = h.inputs;
  sees = h.sees;
  noise = h.noise;
  next = (h.next.0, more h.next.0 h.next.1, h.next.2);
}

pub ticks_so : (M N : Term → Type 0) (p : Tables) → ((t : Term) → M t → N t) → IsLine M p → IsLine N p
ticks_so M N p more h = record {
  topics = h.topics;
  scalars = h.scalars;
  plants = (h.plants.0, pos_so M N h.plants.0 more h.plants.1, h.plants.2);
  nodes = h.nodes;
  modules = h.modules;
}
