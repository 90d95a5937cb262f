-- The tables of a program of the grammar in which no rule fails are in order.
use Rattle.std.proofs.Common.{◌≡◌, ◌∙◌, ℕ, suc, List, [], ◌∷◌, ◌++◌, map, length, refl, sym, ap, subst, Option, Some, None, option_map, replicate, Bool, true}
use Rattle.std.proofs.Common.{false}
use Rattle.std.specs.Global.{Vec}
use Rattle.std.proofs.lemmas.Option.{none-some, same_Some}
use Rattle.std.proofs.lemmas.List.{length-map}
use Rattle.std.proofs.lemmas.Bool.{false_from_ne_true}
use Rattle.sot_lists.specs.Places.{At}
use Rattle.sot_lang.specs.declared.act.Act.{Act}
use Rattle.sot_lang.specs.declared.term.Term.{Term}
use Rattle.sot_lang.specs.declared.tables.PlantInfo.{PlantInfo}
use Rattle.sot_lang.specs.declared.tables.NodeInfo.{NodeInfo}
use Rattle.sot_lang.specs.declared.tables.StateInfo.{StateInfo}
use Rattle.sot_lang.specs.declared.tables.NoiseInfo.{NoiseInfo}
use Rattle.sot_lang.specs.declared.tables.LocalInfo.{LocalInfo}
use Rattle.sot_lang.specs.OwnerNames.{seen_width, is_truth_scalar, reads_truth, node_truths, plant_truths}
use Rattle.sot_lang.specs.Tables.{Tables}
use Rattle.sot_lang.specs.TableRules.{IsCoded, IsTyped, MeetsPlantRules, MeetsNodeRules, MeetsTableRules}
use Rattle.sot_lang.specs.TermRules.{TermFits, TermsFit}
use Rattle.sot_lang.specs.ActRules.{ActsFit}
use Rattle.sot_syntax_tree.specs.Trees.{Next, Program}
use Rattle.sot_rules.specs.declared.fault.TypeKind.TheVariants.{KindDiffers}
use Rattle.sot_rules.specs.First.{IsFaultless}
use Rattle.sot_syntax_tree.specs.Formed.{IsFormed, IsNext, IsBlock, IfThere}
use Rattle.sot_rules.specs.Fails.{noise_truth, noise_scalar, next_value, local_scalar, statements}
use Rattle.sot_rules.specs.Names.{local_thing, node_scope, plant_scope}
use Rattle.sot_typing.specs.Formulas.{Deeds, formula_view, deeds_view}
use Rattle.sot_typing.specs.Terms.{formula_of, deeds_of}
use Rattle.sot_typing.specs.Resolved.{AreTables, local_info, PlantTable, NodeTable}
use Rattle.sot_typing.proofs.Lists.{each_at}
use Rattle.sot_typing.proofs.Meanings.{plant_faultless, plant_formed, node_faultless, node_formed}
use Rattle.sot_typing.proofs.Ranges.{scalar_is}
use Rattle.sot_typing.proofs.Readings.{thing_sorts}
use Rattle.sot_typing.proofs.FormulaRules.{FormulaFits, DeedsFit, term_fits, acts_fit}
use Rattle.sot_typing.proofs.Expressions.{AreNames, tree_sound}
use Rattle.sot_typing.proofs.Statements.{block_fits}
use Rattle.sot_typing.proofs.Seen.{AreSeen, are_seen, of_seen, of_plant, of_node}
use Rattle.sot_typing.proofs.ScalarFacts as scalar
use Rattle.sot_typing.proofs.PlantFacts as plant
use Rattle.sot_typing.proofs.NodeFacts as node
use Rattle.sot_typing.proofs.ModuleFacts as decision
use Rattle.sot_typing.proofs.DeclaredNames as declared
use Rattle.sot_typing.proofs.Owners.{both_names, names_length, state_names, noise_names, local_names, input_names, seen_names, read_names}

terms_each : (truths : List Bool) (ts : List Term) → ((k : ℕ) (x : Term) → At ts k x → TermFits truths x) → TermsFit truths ts
terms_each truths [] h = tt
terms_each truths (t ∷ ts) h = (h 0 t refl, terms_each truths ts (λ k x a. h (suc k) x a))

-- what a coded node's body is seen as
body_seen : {B : Type 0} (o : Option (Vec Act)) (b : Option B) (g : B → Deeds) (v : Vec Act)
    → option_map (λ (v : Vec Act). deeds_view v.items) o ≡ option_map g b → o ≡ Some v → (x : B) × (b ≡ Some x) × (deeds_view v.items ≡ g x)
body_seen o (Some x) g v e q = (x, refl, same_Some (deeds_view v.items) (g x) (ap (option_map (λ (v : Vec Act). deeds_view v.items)) (sym q) ∙ e))
body_seen o None g v e q = absurd (none-some (deeds_view v.items) (sym e ∙ ap (option_map (λ (v : Vec Act). deeds_view v.items)) q))

module _ (p : Program) (t : Tables) (s : AreSeen p t) (f : IsFaultless p) (fo : IsFormed p) where
  -- the names of a plant
  plant_names : (k : ℕ) (i : PlantInfo) (a : At t.plants k i) → AreNames (plant_scope p (of_plant p t s k i a).0) (plant_truths t i)
  plant_names k i a =
      let x = of_plant p t s k i a in
      let none = plant_faultless p f k x.0 x.1 in
      let one = state_names x.0.states (plant.state_known p x.0 none) in
      let two = input_names p t s f x.0.inputs in
      let three = seen_names p t s f x.0.sees (plant.seen_meant p t s f k x.0 x.1) in
      let four = noise_names x.0.noise (λ d h. (
        (scalar_is true d.scalar (λ at kind w. none at kind (noise_scalar h w))).known,
        false_from_ne_true _ (λ e. none d.name.at KindDiffers (noise_truth h e)),
      )) in
      let all = both_names _ _ _ _ (both_names _ _ _ _ (both_names _ _ _ _ one two) three) four in
      subst (λ (y : PlantTable). AreNames (plant_scope p x.0)
      (map (λ (z : StateInfo). false) y.states ++ map (is_truth_scalar t.scalars) y.inputs ++ replicate (seen_width t.plants y.sees) false
      ++ map (λ (z : NoiseInfo). false) y.noise)) (sym x.2) all

  next_fits : (k : ℕ) (i : PlantInfo) → At t.plants k i → TermsFit (plant_truths t i) i.next.items
  next_fits k i a = terms_each (plant_truths t i) i.next.items one
    where
      one : (m : ℕ) (u : Term) → At i.next.items m u → TermFits (plant_truths t i) u
      one m u b =
          let x = of_plant p t s k i a in
          let r = of_seen formula_view (λ (n : Next). formula_of (plant_scope p x.0) n.value) i.next.items x.0.next (ap (λ (y : PlantTable). y.next) x.2) m u b
          in
          let g = each_at IsNext x.0.next m r.0 (plant_formed p fo k x.0 x.1).next r.1 in
          let y = tree_sound (plant_scope p x.0) (plant_truths t i) (plant_names k i a) r.0.value g.1
          (λ at kind h. plant_faultless p f k x.0 x.1 at kind (next_value (m, r.1) h)) in
          term_fits (plant_truths t i) u (subst (FormulaFits (plant_truths t i)) (sym r.2) y.fits)

  -- the names of a node
  own_names : (k : ℕ) (i : NodeInfo) (a : At t.nodes k i) → AreNames (map local_thing (of_node p t s k i a).0.locals)
      (map (λ (l : LocalInfo). l.truth) (map local_info (of_node p t s k i a).0.locals))
  own_names k i a =
      let x = of_node p t s k i a in
      local_names x.0.locals (λ l h. (scalar_is false l.scalar (λ at kind w. node_faultless p f k x.0 x.1 at kind (local_scalar h w))).known)

  node_names : (k : ℕ) (i : NodeInfo) (a : At t.nodes k i) → AreNames (node_scope p (of_node p t s k i a).0).read (node_truths t i)
  node_names k i a =
      let x = of_node p t s k i a in
      subst (λ (y : NodeTable). AreNames (node_scope p x.0).read (map (reads_truth t.scalars) y.reads ++ map (λ (l : LocalInfo). l.truth) y.locals)) (sym x.2)
      (both_names _ _ _ _ (read_names p t s f x.0.reads) (own_names k i a))

  count_locals : (k : ℕ) (i : NodeInfo) (a : At t.nodes k i) → length (thing_sorts (node_scope p (of_node p t s k i a).0).local) ≡ length i.locals.items
  count_locals k i a =
      let x = of_node p t s k i a in
      sym (names_length _ _ (own_names k i a)) ∙ length-map (map local_info x.0.locals) (λ (l : LocalInfo). l.truth)
      ∙ sym (ap (λ (y : NodeTable). length y.locals) x.2)

  count_writes : (k : ℕ) (i : NodeInfo) (a : At t.nodes k i) → length (thing_sorts (node_scope p (of_node p t s k i a).0).written) ≡ length i.writes.items
  count_writes k i a =
      let x = of_node p t s k i a in
      sym (names_length _ _ (input_names p t s f x.0.writes)) ∙ length-map _ (is_truth_scalar t.scalars) ∙ sym (ap (λ (y : NodeTable). length y.writes) x.2)

  body_fits : (k : ℕ) (i : NodeInfo) (a : At t.nodes k i) (acts : List Act) → IsCoded i acts
      → ActsFit (node_truths t i) (length i.locals.items) (length i.writes.items) acts
  body_fits k i a acts (v, e, q) =
      let x = of_node p t s k i a in
      let b = body_seen i.body x.0.body (deeds_of (node_scope p x.0)) v (ap (λ (y : NodeTable). y.body) x.2) e in
      let g : IsBlock b.0 = subst (IfThere IsBlock) b.1 (node_formed p fo k x.0 x.1).body in
      let d = block_fits (node_scope p x.0) (node_truths t i) (node_names k i a) b.0 g (λ at kind h. node_faultless p f k x.0 x.1 at kind (statements b.1 h)) in
      let c = subst (λ n. DeedsFit (node_truths t i) n (length (thing_sorts (node_scope p x.0).written)) (deeds_of (node_scope p x.0) b.0)) (count_locals k i a)
      d in
      let w = subst (λ n. DeedsFit (node_truths t i) (length i.locals.items) n (deeds_of (node_scope p x.0) b.0)) (count_writes k i a) c in
      subst (ActsFit (node_truths t i) (length i.locals.items) (length i.writes.items)) q
      (acts_fit (node_truths t i) (length i.locals.items) (length i.writes.items) v.items
      (subst (DeedsFit (node_truths t i) (length i.locals.items) (length i.writes.items)) (sym b.2) w))

  plant_meets : (k : ℕ) (i : PlantInfo) → At t.plants k i → MeetsPlantRules t k i
  plant_meets k i a = record {
    some_state = (plant.few_states p t s f fo k i a).0;
    states = (plant.few_states p t s f fo k i a).1;
    state_scales = plant.state_scales p t s f k i a;
    inputs = plant.few_inputs p t s f k i a;
    sees = plant.few_seen p t s f k i a;
    sees_others = λ n h. plant.sees_others p t s f k i n a h;
    noise = plant.few_noise p t s f k i a;
    noise_ranges = plant.noise_ranges p t s f k i a;
    one_next = plant.one_next p t s f k i a;
    next = next_fits k i a;
  }

  node_meets : (k : ℕ) (i : NodeInfo) → At t.nodes k i → MeetsNodeRules t i
  node_meets k i a = record {
    period = (node.node_times_are p t s f fo k i a).0;
    reads = node.few_reads p t s f k i a;
    reads_scalars = λ n h. node.reads_scalars p t s f k i n a h;
    reads_states = λ n v h. node.reads_states p t s f k i n v a h;
    not_read = λ n g h. node.not_read p t s f k i n a g h;
    writes = node.few_writes p t s f k i a;
    locals = node.few_locals p t s f k i a;
    local_ranges = node.locals_meet p t s f k i a;
    external = node.external_locals p t s f fo k i a;
    body = body_fits k i a;
  }

  typed : IsTyped t
  typed = record {
    node_times = λ k i a. (node.node_times_are p t s f fo k i a).1;
    module_times = λ k i a. (decision.module_times_are p t s f fo k i a).1;
    ac_is = decision.ac_is p t s f;
    sc_is = decision.sc_is p t s f;
    plant_is = decision.plant_is p t s f;
    apart = decision.apart p t s f;
    sees_are = plant.sees_are p t s f;
    named = plant.plant_named p t s f;
    reads_are = node.reads_are p t s f;
    inits = scalar.inits p t s f;
    local_inits = node.local_inits p t s f;
    once = node.writes_once p t s f;
    inside = node.writes_inside p t s f;
    outside = node.writes_outside p t s f;
    scalar_topic = scalar.topic_of_scalar p t s f;
    topic_scalar = scalar.scalar_of_topic p t s f;
    whole_writes = node.whole_writes p t s f;
    whole_inputs = plant.whole_inputs p t s f;
    inputs_are = plant.inputs_are p t s f;
  }

  meets : MeetsTableRules t
  meets = record {
    typed = typed;
    topic_count = declared.few_topics p t s f;
    plant_count = declared.few_plants p t s f;
    node_count = declared.few_nodes p t s f;
    module_count = declared.few_modules p t s f;
    topics = scalar.topic_counts p t s f fo;
    scalars = scalar.scalar_meets p t s f;
    plants = plant_meets;
    nodes = node_meets;
    modules = decision.module_meets p t s f fo;
    names_once = declared.distinct p t s f;
    fields_once = scalar.fields_once p t s f;
  }

pub tables_meet : (p : Program) (t : Tables) → IsFormed p → IsFaultless p → AreTables p t → MeetsTableRules t
tables_meet p t fo f e = meets p t (are_seen p t e) f fo
