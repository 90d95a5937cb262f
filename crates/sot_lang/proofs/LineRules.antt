-- The running example's tables meet the rules of tables.
use Rattle.std.proofs.Common.{◌≡◌, ◌≢◌, ℕ, suc, ◌<◌, ◌≤◌, ◌+◌, true, false, Bool, List, [], ◌∷◌, Some, refl, sym, ap, ◌∙◌, subst, arith, negsuc, ◌≤ℤ◌, length}
use Rattle.std.proofs.Common.{pos}
use Rattle.std.specs.Prelude.{slice_index_or, map, ◌==◌, if◌then◌else◌}
use Rattle.std.proofs.lemmas.Int.{ints}
use Rattle.std.proofs.lemmas.Option.{same_Some, none-some}
use Rattle.std.proofs.lemmas.Bool.{false≢true}
use Rattle.std.specs.Global.{Global}
use Rattle.sot_lists.specs.Places.{At, Has}
use Rattle.sot_box.specs.Sides.{Side, AreOrdered}
use Rattle.sot_box.specs.Boxes.{IsWithin}
use Rattle.sot_lang.specs.declared.act.Act.{Act}
use Rattle.sot_lang.specs.declared.tables.TopicInfo.{TopicInfo}
use Rattle.sot_lang.specs.declared.tables.ScalarInfo.{ScalarInfo}
use Rattle.sot_lang.specs.declared.tables.StateInfo.{StateInfo}
use Rattle.sot_lang.specs.declared.tables.NoiseInfo.{NoiseInfo}
use Rattle.sot_lang.specs.declared.tables.PlantInfo.{PlantInfo}
use Rattle.sot_lang.specs.declared.tables.NodeInfo.{NodeInfo}
use Rattle.sot_lang.specs.declared.tables.ModuleInfo.{ModuleInfo}
use Rattle.sot_lang.specs.declared.tables.Slot.{Slot}
use Rattle.sot_lang.specs.declared.tables.Slot.TheVariants.{Scalar, State}
use Rattle.sot_lang.specs.Ranges.{local_ranges}
use Rattle.sot_lang.specs.OwnerNames.{width_of, node_truths}
use Rattle.sot_lang.specs.ActRules.{ActsFit}
use Rattle.sot_lang.specs.TableRules.{IsTyped, IsCoded, IsNarrow, AreDistinct, MeetsTableRules, MeetsScalarRules, MeetsPlantRules, MeetsNodeRules}
use Rattle.sot_lang.specs.TableRules.{MeetsModuleRules, MeetsLocalRules, IsRegionFor}
use Rattle.sot_lang.specs.declared.cert.Cells.{Cells}
use Rattle.sot_lang.specs.CertRules.{FitsTables, AreCellsOf}
use Rattle.sot_lang.specs.Line.{side, line, line_cert, line_cells, cmd, cmd_number, fast, slow, nav, pos_plant, slow_acts, cmd_name, pos_name, fast_name}
use Rattle.sot_lang.specs.Line.{slow_name, nav_name}
use Rattle.sot_lists.proofs.ShortLists.{at_none, at_more, at_one, at_two}

plant_no : Slot → ℕ
plant_no (Scalar k) = k
plant_no (State k v) = k

var_no : Slot → ℕ
var_no (Scalar k) = 0
var_no (State k v) = v

is_scalar : Slot → Bool
is_scalar (Scalar k) = true
is_scalar (State k v) = false

only_zero : (k : ℕ) → Has (0 ∷ []) k → k ≡ 0
only_zero k h = at_one (λ i n. n ≡ 0) 0 refl h.0 k h.1

same_place : (i j k : ℕ) → At (0 ∷ []) i k → At (0 ∷ []) j k → i ≡ j
same_place i j k a b = at_one (λ n x. n ≡ 0) 0 refl i k a ∙ sym (at_one (λ n x. n ≡ 0) 0 refl j k b)

-- the places of the names of the example, by their first letters
place_of : List ℕ → ℕ
place_of name =
    let c = slice_index_or name 0 0 in
    if c == 99 then 0 else (if c == 112 then 1 else (if c == 102 then 2 else (if c == 115 then 3 else 4)))

is_at : (i : ℕ) (name : List ℕ) → At (cmd_name ∷ pos_name ∷ fast_name ∷ slow_name ∷ nav_name ∷ []) i name → i ≡ place_of name
unfolding place_of
is_at =
    at_more (λ i x. i ≡ place_of x) cmd_name (pos_name ∷ fast_name ∷ slow_name ∷ nav_name ∷ []) refl
    (at_more (λ i x. suc i ≡ place_of x) pos_name (fast_name ∷ slow_name ∷ nav_name ∷ []) refl
    (at_more (λ i x. suc (suc i) ≡ place_of x) fast_name (slow_name ∷ nav_name ∷ []) refl
    (at_two (λ i x. suc (suc (suc i)) ≡ place_of x) slow_name nav_name refl refl)))

pub names_apart : AreDistinct (cmd_name ∷ pos_name ∷ fast_name ∷ slow_name ∷ nav_name ∷ [])
names_apart i j name a b = is_at i name a ∙ sym (is_at j name b)

module _ (g : Global) where
  seen_pos : (k v : ℕ) → Has (State 0 0 ∷ []) (State k v) → (k ≡ 0) × (v ≡ 0)
  unfolding plant_no var_no
  seen_pos k v h =
      let e : State 0 0 ≡ State k v = at_one (λ i s. State 0 0 ≡ s) (State 0 0) refl h.0 (State k v) h.1 in
      (sym (ap plant_no e), sym (ap var_no e))

  no_scalar : (k : ℕ) → Has (State 0 0 ∷ []) (Scalar k) → ⊥
  unfolding is_scalar
  no_scalar k h = false≢true (ap is_scalar (at_one (λ i s. State 0 0 ≡ s) (State 0 0) refl h.0 (Scalar k) h.1))

  the_scalar : (k : ℕ) (b : ScalarInfo) → At (line g).scalars k b → Has (0 ∷ []) k
  the_scalar = at_one (λ k b. Has (0 ∷ []) k) (cmd_number g) (0, refl)

  pub line_typed : IsTyped (line g)
  line_typed = record {
    node_times = at_two (λ n node. node.offset < node.period) (fast g) (slow g) (omega arith) (omega arith);
    module_times = at_one (λ m a. a.offset < a.period) (nav g) (omega arith);
    ac_is = at_one (λ m a. (node : NodeInfo) × At (line g).nodes a.ac node) (nav g) (fast g, refl);
    sc_is =
        at_one (λ m a. (node : NodeInfo) × (acts : List Act) × At (line g).nodes a.sc node × IsCoded node acts) (nav g)
        (slow g, slow_acts g, refl, (_, refl, refl));
    plant_is = at_one (λ m a. (plant : PlantInfo) × At (line g).plants a.plant plant) (nav g) (pos_plant g, refl);
    apart = at_one (λ m a. a.ac ≢ a.sc) (nav g) (λ e. omega (arith, e));
    sees_are =
        λ k plant n at. at_one (λ k plant. Has plant.sees.items n → (other : PlantInfo) × At (line g).plants n other) (pos_plant g)
        (λ h. absurd (none-some n h.1)) k plant at;
    named = at_one (λ k plant. (m : ℕ) × (a : ModuleInfo) × At (line g).modules m a × (a.plant ≡ k)) (pos_plant g) (0, nav g, refl, refl);
    reads_are =
        λ n node k v at. at_two (λ n node. Has node.reads.items (State k v) → (other : PlantInfo) × At (line g).plants k other) (fast g) (slow g) (reads k v)
        (reads k v) n node at;
    inits = (omega (arith, ints), omega (arith, ints), tt);
    local_inits = at_two (λ n node. IsWithin (local_ranges node) (map (λ l. l.init) node.locals.items)) (fast g) (slow g) tt tt;
    once =
        λ n node i j k at. at_two (λ n node. At node.writes.items i k → At node.writes.items j k → i ≡ j) (fast g) (slow g) (same_place i j k)
        (same_place i j k) n node at;
    inside = λ n node k at. at_two (λ n node. Has node.writes.items k → k < 1) (fast g) (slow g) (low k) (low k) n node at;
    outside =
        λ n node t i info at at_t. at_one (λ t info. info.outside ≡ true → i < info.count → Has node.writes.items (info.first + i) → ⊥) (cmd g)
        (λ e. absurd (false≢true e)) t info at_t;
    scalar_topic =
        at_one (λ k info. (topic : TopicInfo) × At (line g).topics info.topic topic × (topic.first ≤ k) × (k < topic.first + topic.count)) (cmd_number g)
        (cmd g, refl, omega arith, omega arith);
    topic_scalar =
        λ t k topic at. at_one (λ t topic. topic.first ≤ k → k < topic.first + topic.count
        → (info : ScalarInfo) × At (line g).scalars k info × (info.topic ≡ t)) (cmd g)
        (λ a b. let e : 0 ≡ k = omega (arith, a, b) in subst (λ k. (info : ScalarInfo) × At (line g).scalars k info × (info.topic ≡ 0)) e
        (cmd_number g, refl, refl)) t topic at;
    whole_writes =
        λ n node j k a b at. at_two (λ n node. Has node.writes.items j → At (line g).scalars j a → At (line g).scalars k b → a.topic ≡ b.topic
        → Has node.writes.items k) (fast g) (slow g) (λ h x y e. the_scalar k b y) (λ h x y e. the_scalar k b y) n node at;
    whole_inputs =
        λ i plant j k a b at. at_one (λ i plant. Has plant.inputs.items j → At (line g).scalars j a → At (line g).scalars k b → a.topic ≡ b.topic
        → Has plant.inputs.items k) (pos_plant g) (λ h x y e. the_scalar k b y) i plant at;
    inputs_are = λ i plant k at. at_one (λ i plant. Has plant.inputs.items k → k < 1) (pos_plant g) (low k) i plant at;
  }
    where
      reads : (k v : ℕ) → Has (State 0 0 ∷ []) (State k v) → (other : PlantInfo) × At (line g).plants k other
      reads k v h = subst (λ k. (other : PlantInfo) × At (line g).plants k other) (sym (seen_pos k v h).0) (pos_plant g, refl)

      low : (k : ℕ) → Has (0 ∷ []) k → k < 1
      low k h = (let e = only_zero k h in omega (arith, e))

  one_number : MeetsScalarRules (line g) (cmd_number g)
  one_number = record {
    scale = omega arith;
    range = (omega (arith, ints), omega (arith, ints));
    truth = λ e. absurd (false≢true e);
    plain = λ topic at e. ap (λ t. t.count) (sym (same_Some (cmd g) topic at));
  }

  the_plant : MeetsPlantRules (line g) 0 (pos_plant g)
  the_plant = record {
    some_state = omega arith;
    states = omega arith;
    state_scales = at_one (λ i (s : StateInfo). s.scale ≤ 6) _ (omega arith);
    inputs = omega arith;
    sees = omega arith;
    sees_others = λ n h. absurd (none-some n h.1);
    noise = omega arith;
    noise_ranges = at_one (λ i (d : NoiseInfo). (d.scale ≤ 6) × IsNarrow d.lo d.hi) _ (omega arith, (omega (arith, ints), omega (arith, ints)));
    one_next = refl;
    next = ((tt, (tt, omega arith, omega arith), omega arith), tt);
  }

  slow_reads : (k v : ℕ) → Has (State 0 0 ∷ []) (State k v) → v < width_of (line g).plants k
  slow_reads k v h = (let e = seen_pos k v h in rw (e.0, e.1) (omega arith))

  slow_body : (acts : List Act) → IsCoded (slow g) acts → ActsFit (node_truths (line g) (slow g)) 0 1 acts
  slow_body acts coded =
      let e : acts ≡ slow_acts g = sym coded.2 ∙ ap (λ v. v.items) (sym (same_Some _ coded.0 coded.1)) in
      rw e ((omega arith, (tt, (tt, omega arith, refl), refl, (tt, (tt, omega arith, refl), refl, refl))), tt)

  safe_node : MeetsNodeRules (line g) (slow g)
  safe_node = record {
    period = omega arith;
    reads = omega arith;
    reads_scalars = λ k h. absurd (no_scalar k h);
    reads_states = slow_reads;
    not_read = λ k h w. no_scalar k h;
    writes = omega arith;
    locals = omega arith;
    local_ranges = at_none (λ i info. MeetsLocalRules info);
    external = λ e. refl;
    body = slow_body;
  }

  fast_node : MeetsNodeRules (line g) (fast g)
  fast_node = record {
    period = omega arith;
    reads = omega arith;
    reads_scalars = λ k h. absurd (no_scalar k h);
    reads_states = slow_reads;
    not_read = λ k h w. no_scalar k h;
    writes = omega arith;
    locals = omega arith;
    local_ranges = at_none (λ i info. MeetsLocalRules info);
    external = λ e. refl;
    body = λ acts coded. absurd (none-some coded.0 coded.1);
  }

  one_box : (r : Side) → r.lo ≤ℤ r.hi → IsRegionFor (line g) 0 (record { width = 1; boxes = (r ∷ []) ∷ []; settled = false })
  one_box r le = record { width = refl; boxes = omega arith; each = at_one (λ i b. (length b ≡ 1) × AreOrdered b) (r ∷ []) (refl, (le, tt)) }

  closed_cells : AreCellsOf (line g) 0 (line_cells g).closed
  closed_cells = record {
    width = refl;
    boxes = omega arith;
    each =
        at_more (λ i b. (length b ≡ 1) × AreOrdered b) (side (negsuc 39) (negsuc 10) ∷ [])
        ((side (negsuc 9) (pos 10) ∷ []) ∷ (side (pos 11) (pos 40) ∷ []) ∷ []) (refl, (omega (arith, ints), tt))
        (at_two (λ i b. (length b ≡ 1) × AreOrdered b) (side (negsuc 9) (pos 10) ∷ []) (side (pos 11) (pos 40) ∷ []) (refl, (omega (arith, ints), tt))
        (refl, (omega (arith, ints), tt)));
  }

  reach_cells : AreCellsOf (line g) 0 (line_cells g).reach
  reach_cells =
      record {
        width = refl;
        boxes = omega arith;
        each = at_one (λ i b. (length b ≡ 1) × AreOrdered b) (side (negsuc 9) (pos 10) ∷ [])
            (refl, (omega (arith, ints), tt));
      }

  pub line_meets_rules : MeetsTableRules (line g)
  line_meets_rules = record {
    typed = line_typed;
    topic_count = omega arith;
    plant_count = omega arith;
    node_count = omega arith;
    module_count = omega arith;
    topics = at_one (λ t topic. (1 ≤ topic.count) × (topic.count ≤ 8)) (cmd g) (omega arith, omega arith);
    scalars = at_one (λ k info. MeetsScalarRules (line g) info) (cmd_number g) one_number;
    plants = at_one (λ k plant. MeetsPlantRules (line g) k plant) (pos_plant g) the_plant;
    nodes = at_two (λ n node. MeetsNodeRules (line g) node) (fast g) (slow g) fast_node safe_node;
    modules =
        at_one (λ m info. MeetsModuleRules (line g) info) (nav g)
        (record {
          period = omega arith;
          safe = one_box (side (negsuc 39) (pos 40)) (omega (arith, ints));
          safer = one_box (side (negsuc 9) (pos 10)) (omega (arith, ints));
        });
    names_once = names_apart;
    fields_once = λ i j a b at_i at_j s f. at_one (λ i x. i ≡ j) (cmd_number g) (sym (at_one (λ i x. i ≡ 0) (cmd_number g) refl j b at_j)) i a at_i;
  }

  pub line_cert_fits : FitsTables (line g) (line_cert g)
  line_cert_fits = record {
    entries = refl;
    closed =
        λ m info cells at at_c. at_one (λ m info. At (line_cert g).modules.items m (Some cells) → AreCellsOf (line g) info.plant cells.closed) (nav g)
        (λ h. subst (λ c. AreCellsOf (line g) 0 c.closed) (the_cells cells h) closed_cells) m info at at_c;
    reach =
        λ m info cells at at_c. at_one (λ m info. At (line_cert g).modules.items m (Some cells) → AreCellsOf (line g) info.plant cells.reach) (nav g)
        (λ h. subst (λ c. AreCellsOf (line g) 0 c.reach) (the_cells cells h) reach_cells) m info at at_c;
    node_jitter = at_two (λ n node. 0 < node.period) (fast g) (slow g) (omega arith) (omega arith);
    module_jitter = at_one (λ m info. 0 < info.period) (nav g) (omega arith);
  }
    where
      the_cells : (cells : Cells) → At (line_cert g).modules.items 0 (Some cells) → line_cells g ≡ cells
      the_cells cells at = same_Some (line_cells g) cells (same_Some (Some (line_cells g)) (Some cells) at)
