-- The lists of faults of topics, plants, nodes and modules have exactly the rules that fail in them.
use Rattle.std.proofs.Common.{◌≡◌, ℕ, ◌<◌, nat_lt, ◌++◌, length, Option, Some, None, Bool, true, false, not, ◌&&◌, refl, sym, subst, arith}
use Rattle.std.proofs.lemmas.Bool.{not_from_false, not-true}
use Rattle.sot_lists.specs.Places.{Has}
use Rattle.sot_text.specs.declared.token.Span.{Span}
use Rattle.sot_syntax_tree.specs.declared.tree.Ident.{Ident}
use Rattle.sot_syntax_tree.specs.declared.tree.Lit.{Lit}
use Rattle.sot_syntax_tree.specs.declared.tree.Field.{Field}
use Rattle.sot_syntax_tree.specs.Trees.{Block, Topic, Plant, Node, Module, Local, Next, Declaration, a_topic, a_plant, a_node, a_module, Program}
use Rattle.sot_rules.specs.declared.fault.TypeFault.{TypeFault}
use Rattle.sot_rules.specs.declared.fault.TypeKind.{TypeKind}
use Rattle.sot_rules.specs.declared.fault.TypeKind.TheVariants.{Unknown, Twice, ScaleDiffers, KindDiffers, ReadsAndWrites, NoModule, NextMissing}
use Rattle.sot_rules.specs.Sorts.{scalar_sort, is_truthful}
use Rattle.sot_rules.specs.Names.{meaning, is_topic, is_plant, is_node, is_environment, is_external, Scope, node_scope, plant_scope, state_scope, reading}
use Rattle.sot_rules.specs.TreeSorts.{is_no_scale, sort}
use Rattle.sot_rules.specs.Lists.{are_same, is_among, places}
use Rattle.sot_rules.specs.Tests.{form_scalars, form_names, start_place, counts_differ, starts, has_module, topic_size, read_size, state_names, noise_names}
use Rattle.sot_rules.specs.Tests.{local_names, side_sorts, block_unrolled}
use Rattle.sot_rules.specs.Fails.{TopicFails, field_twice, many_fields, scalar, other_count, start, PlantFails, no_module, state_twice, many_states}
use Rattle.sot_rules.specs.Fails.{state_scale, input_unknown, input_twice, input_hides, many_inputs, seen_unknown, seen_topic, sees_itself, seen_twice}
use Rattle.sot_rules.specs.Fails.{seen_hides, many_seen, noise_twice, noise_hides, noise_truth, noise_scalar, many_noise, next_target, next_value, next_order}
use Rattle.sot_rules.specs.Fails.{next_short, NodeFails, node_times, read_unknown, read_twice, many_read, written_unknown, written_twice, written_outside}
use Rattle.sot_rules.specs.Fails.{written_read, many_written, local_twice, local_hides, local_scalar, local_start, many_locals, statements, many_statements}
use Rattle.sot_rules.specs.Fails.{ModuleFails, ac_unknown, sc_unknown, sc_external, same_node, module_times, plant_unknown, plant_topic, safe, safer}
use Rattle.sot_rules.specs.Fails.{DeclarationFails, in_topic, in_plant, in_node, in_module}
use Rattle.sot_rules.specs.Faults.{fault, when, together, tree_faults, block_faults, past, topic_lists, scalar_faults, start_faults, scale_faults, input_faults}
use Rattle.sot_rules.specs.Faults.{seen_lists, noise_lists, next_faults, plant_lists, read_faults, write_lists, local_lists, body_faults, node_lists}
use Rattle.sot_rules.specs.Faults.{module_lists, declaration_faults}
use Rattle.sot_rules.proofs.Members.{In, before, after, split, in_when, of_when, in_together, of_together, in_each, of_each}
use Rattle.sot_rules.proofs.ListFaults.{repeats_in, of_repeats, past_in, of_past, passes_in, of_passes, order_in, of_order}
use Rattle.sot_rules.proofs.TreeFaults.{tree_in, of_tree, target_in, of_target}
use Rattle.sot_rules.proofs.StatementFaults.{block_in, of_block}
use Rattle.sot_rules.proofs.PartFaults.{both_hold, one_holds, other_holds, scalar_in, of_scalar, start_in, of_start, times_in, of_times, region_in, of_region}

neither : (a b : Bool) → a ≡ false → b ≡ false → (not a && not b) ≡ true
neither a b p q = both_hold (not a) (not b) (not_from_false a p) (not_from_false b q)

not_one : (a b : Bool) → (not a && not b) ≡ true → a ≡ false
not_one a b h = not-true a (one_holds (not a) (not b) h)

not_other : (a b : Bool) → (not a && not b) ≡ true → b ≡ false
not_other a b h = not-true b (other_holds (not a) (not b) h)

-- topics
pub topic_in : (t : Topic) {at : Span} {k : TypeKind} → TopicFails t at k → In (fault at k) (together (topic_lists t))
topic_in t (field_twice {at = at} r) = in_together _ (topic_lists t) 0 (repeats_in (form_names t.shape) at r)
topic_in t (many_fields {at = at} r) = in_together _ (topic_lists t) 1 (past_in 8 (places (form_names t.shape)) at r)
topic_in t (scalar {s = s} m h) = in_together _ (topic_lists t) 2 (in_each _ (scalar_faults true) (form_scalars t.shape) s m (scalar_in true h))
topic_in t (other_count h) = in_together _ (topic_lists t) 3 (in_when (counts_differ t) (start_place t.init) KindDiffers h)
topic_in t (start {s = s} {c = c} m h) = in_together _ (topic_lists t) 4 (in_each _ (λ x. start_faults x.0 x.1) (starts t) (s, c) m (start_in s c h))

pub of_topic : (t : Topic) (at : Span) (k : TypeKind) → In (fault at k) (together (topic_lists t)) → TopicFails t at k
of_topic t at k h =
    of_together (TopicFails t at k) (fault at k) (topic_lists t) (
      of_repeats (TopicFails t) (form_names t.shape) (λ w r. field_twice r) at k,
      (
        of_past (TopicFails t) 8 (places (form_names t.shape)) (λ w r. many_fields r) at k,
        (
          (λ x. of_each (fault at k) (scalar_faults true) (form_scalars t.shape) x (λ s m y. scalar m (of_scalar true s at k y))),
          (
            of_when (TopicFails t) (counts_differ t) (start_place t.init) KindDiffers (λ q. other_count q) at k,
            (
              (λ x. of_each (fault at k) (λ x. start_faults x.0 x.1) (starts t) x (λ s m y. start m (of_start s.0 s.1 at k y))),
              tt,
            ),
          ),
        ),
      ),
    )
    h

-- plants
scale_in : (o : Option Lit) (d : Lit) → o ≡ Some d → is_no_scale d ≡ true → In (fault d.at ScaleDiffers) (scale_faults o)
scale_in o d e h = subst (λ z. In (fault d.at ScaleDiffers) (scale_faults z)) (sym e) (in_when (is_no_scale d) d.at ScaleDiffers h)

of_scale : (P : Span → TypeKind → Type 0) (o : Option Lit) → ((d : Lit) → o ≡ Some d → is_no_scale d ≡ true → P d.at ScaleDiffers) → (at : Span) (k : TypeKind)
    → In (fault at k) (scale_faults o) → P at k
of_scale P None make at k h = absurd h
of_scale P (Some d) make at k h = of_when P (is_no_scale d) d.at ScaleDiffers (make d refl) at k h

module _ (p : Program) (q : Plant) where
  seen_at : (f : TypeFault) (i : Ident) → Has q.sees i → In f (together (seen_lists p q i)) → In f (together (plant_lists p q))
  seen_at f i m h = in_together f (plant_lists p q) 7 (in_each f (λ i. together (seen_lists p q i)) q.sees i m h)

  noise_at : (g : TypeFault) (f : Field) → Has q.noise f → In g (together (noise_lists q f)) → In g (together (plant_lists p q))
  noise_at g f m h = in_together g (plant_lists p q) 10 (in_each g (λ f. together (noise_lists q f)) q.noise f m h)

  pub plant_in : {at : Span} {k : TypeKind} → PlantFails p q at k → In (fault at k) (together (plant_lists p q))
  plant_in (no_module h) = in_together _ (plant_lists p q) 0 (in_when (not (has_module p q.name)) q.name.at NoModule (not_from_false (has_module p q.name) h))
  plant_in (state_twice {at = at} r) = in_together _ (plant_lists p q) 1 (repeats_in (state_names q) at r)
  plant_in (many_states {at = at} r) = in_together _ (plant_lists p q) 2 (past_in 4 (places (state_names q)) at r)
  plant_in (state_scale {s = s} {d = d} m e h) = in_together _ (plant_lists p q) 3 (in_each _ (λ s. scale_faults s.scale) q.states s m (scale_in s.scale d e h))
  plant_in (input_unknown {i = i} m h) =
      in_together _ (plant_lists p q) 4 (in_each _ (input_faults p q) q.inputs i m
      (before _ (when (not (is_topic (meaning p i))) i.at Unknown) _
      (in_when (not (is_topic (meaning p i))) i.at Unknown (not_from_false (is_topic (meaning p i)) h))))
  plant_in (input_hides {i = i} m g h) =
      in_together _ (plant_lists p q) 4 (in_each _ (input_faults p q) q.inputs i m
      (after _ (when (not (is_topic (meaning p i))) i.at Unknown) _
      (in_when (is_topic (meaning p i) && is_among i (state_names q)) i.at Twice (both_hold (is_topic (meaning p i)) (is_among i (state_names q)) g h))))
  plant_in (input_twice {at = at} r) = in_together _ (plant_lists p q) 5 (repeats_in q.inputs at r)
  plant_in (many_inputs {at = at} r) = in_together _ (plant_lists p q) 6 (passes_in (λ i. topic_size (meaning p i)) 8 q.inputs at r)
  plant_in (seen_unknown {i = i} m g h) =
      seen_at _ i m (in_together _ (seen_lists p q i) 0 (in_when (not (is_topic (meaning p i)) && not (is_plant (meaning p i))) i.at Unknown
      (neither (is_topic (meaning p i)) (is_plant (meaning p i)) g h)))
  plant_in (seen_topic {i = i} m h) = seen_at _ i m (in_together _ (seen_lists p q i) 1 (in_when (is_topic (meaning p i)) i.at KindDiffers h))
  plant_in (sees_itself {i = i} m g h) =
      seen_at _ i m (in_together _ (seen_lists p q i) 2 (in_when (is_plant (meaning p i) && are_same i q.name) i.at KindDiffers
      (both_hold (is_plant (meaning p i)) (are_same i q.name) g h)))
  plant_in (seen_hides {i = i} m g e h) =
      seen_at _ i m (in_together _ (seen_lists p q i) 3 (in_when (is_plant (meaning p i) && (not (are_same i q.name) && is_among i (state_names q))) i.at Twice
      (both_hold (is_plant (meaning p i)) (not (are_same i q.name) && is_among i (state_names q)) g
      (both_hold (not (are_same i q.name)) (is_among i (state_names q)) (not_from_false (are_same i q.name) e) h))))
  plant_in (seen_twice {at = at} r) = in_together _ (plant_lists p q) 8 (repeats_in q.sees at r)
  plant_in (many_seen {at = at} r) = in_together _ (plant_lists p q) 9 (past_in 16 (places q.sees) at r)
  plant_in (noise_hides {f = f} m h) =
      noise_at _ f m (in_together _ (noise_lists q f) 0 (in_when (is_among f.name (state_names q ++ q.inputs ++ q.sees)) f.name.at Twice h))
  plant_in (noise_truth {f = f} m h) = noise_at _ f m (in_together _ (noise_lists q f) 1 (in_when (is_truthful (scalar_sort f.scalar)) f.name.at KindDiffers h))
  plant_in (noise_scalar {f = f} m h) = noise_at _ f m (in_together _ (noise_lists q f) 2 (scalar_in true h))
  plant_in (noise_twice {at = at} r) = in_together _ (plant_lists p q) 11 (repeats_in (noise_names q) at r)
  plant_in (many_noise {at = at} r) = in_together _ (plant_lists p q) 12 (past_in 4 (places (noise_names q)) at r)
  plant_in (next_value {n = n} m h) =
      in_together _ (plant_lists p q) 13 (in_each _ (next_faults p q) q.next n m
      (before _ (tree_faults (plant_scope p q) n.value) _ (tree_in (plant_scope p q) h)))
  plant_in (next_target {n = n} m h) =
      in_together _ (plant_lists p q) 13 (in_each _ (next_faults p q) q.next n m
      (after _ (tree_faults (plant_scope p q) n.value) _ (target_in (reading (state_scope q) n.name None) (sort (plant_scope p q) n.value) n.name.at h)))
  plant_in (next_order place {n = n} s h) = in_together _ (plant_lists p q) 14 (order_in q.states q.next place n s h)
  plant_in (next_short h) = in_together _ (plant_lists p q) 15 (in_when (nat_lt (length q.next) (length q.states)) q.end NextMissing (grind arith))

  of_input : (i : Ident) → Has q.inputs i → (at : Span) (k : TypeKind) → In (fault at k) (input_faults p q i) → PlantFails p q at k
  of_input i m at k h =
      split (fault at k) (when (not (is_topic (meaning p i))) i.at Unknown) _ h
      (of_when (PlantFails p q) (not (is_topic (meaning p i))) i.at Unknown (λ e. input_unknown m (not-true (is_topic (meaning p i)) e)) at k)
      (of_when (PlantFails p q) (is_topic (meaning p i) && is_among i (state_names q)) i.at Twice
      (λ e. input_hides m (one_holds (is_topic (meaning p i)) (is_among i (state_names q)) e)
      (other_holds (is_topic (meaning p i)) (is_among i (state_names q)) e)) at k)

  of_seen : (i : Ident) → Has q.sees i → (at : Span) (k : TypeKind) → In (fault at k) (together (seen_lists p q i)) → PlantFails p q at k
  of_seen i m at k h =
      of_together (PlantFails p q at k) (fault at k) (seen_lists p q i) (
        of_when (PlantFails p q) (not (is_topic (meaning p i)) && not (is_plant (meaning p i))) i.at Unknown
            (λ e. seen_unknown m (not_one (is_topic (meaning p i)) (is_plant (meaning p i)) e) (not_other (is_topic (meaning p i)) (is_plant (meaning p i)) e))
            at k,
        (
          of_when (PlantFails p q) (is_topic (meaning p i)) i.at KindDiffers (λ e. seen_topic m e) at k,
          (
            of_when (PlantFails p q) (is_plant (meaning p i) && are_same i q.name) i.at KindDiffers
                (λ e. sees_itself m (one_holds (is_plant (meaning p i)) (are_same i q.name) e) (other_holds (is_plant (meaning p i)) (are_same i q.name) e)) at
                k,
            (
              of_when (PlantFails p q) (is_plant (meaning p i) && (not (are_same i q.name) && is_among i (state_names q))) i.at Twice
                  (λ e. let r = other_holds (is_plant (meaning p i)) (not (are_same i q.name) && is_among i (state_names q)) e in
                  seen_hides m (one_holds (is_plant (meaning p i)) (not (are_same i q.name) && is_among i (state_names q)) e)
                  (not-true (are_same i q.name) (one_holds (not (are_same i q.name)) (is_among i (state_names q)) r))
                  (other_holds (not (are_same i q.name)) (is_among i (state_names q)) r)) at k,
              tt,
            ),
          ),
        ),
      )
      h

  of_noise : (f : Field) → Has q.noise f → (at : Span) (k : TypeKind) → In (fault at k) (together (noise_lists q f)) → PlantFails p q at k
  of_noise f m at k h =
      of_together (PlantFails p q at k) (fault at k) (noise_lists q f) (
        of_when (PlantFails p q) (is_among f.name (state_names q ++ q.inputs ++ q.sees)) f.name.at Twice (λ e. noise_hides m e) at k,
        (
          of_when (PlantFails p q) (is_truthful (scalar_sort f.scalar)) f.name.at KindDiffers (λ e. noise_truth m e) at k,
          (
            (λ x. noise_scalar m (of_scalar true f.scalar at k x)),
            tt,
          ),
        ),
      )
      h

  of_next : (n : Next) → Has q.next n → (at : Span) (k : TypeKind) → In (fault at k) (next_faults p q n) → PlantFails p q at k
  of_next n m at k h =
      split (fault at k) (tree_faults (plant_scope p q) n.value) _ h
      (λ x. next_value m (of_tree (plant_scope p q) n.value at k x))
      (λ x. next_target m (of_target (reading (state_scope q) n.name None) (sort (plant_scope p q) n.value) n.name.at at k x))

  short : (a b : ℕ) → nat_lt a b ≡ true → a < b
  short a b h = grind arith

  pub of_plant : (at : Span) (k : TypeKind) → In (fault at k) (together (plant_lists p q)) → PlantFails p q at k
  of_plant at k h =
      of_together (PlantFails p q at k) (fault at k) (plant_lists p q) (
        of_when (PlantFails p q) (not (has_module p q.name)) q.name.at NoModule (λ e. no_module (not-true (has_module p q.name) e)) at k,
        (
          of_repeats (PlantFails p q) (state_names q) (λ w r. state_twice r) at k,
          (
            of_past (PlantFails p q) 4 (places (state_names q)) (λ w r. many_states r) at k,
            (
              (λ x. of_each (fault at k) (λ s. scale_faults s.scale) q.states x
                  (λ s m y. of_scale (PlantFails p q) s.scale (λ d e g. state_scale m e g) at k y)),
              (
                (λ x. of_each (fault at k) (input_faults p q) q.inputs x (λ i m y. of_input i m at k y)),
                (
                  of_repeats (PlantFails p q) q.inputs (λ w r. input_twice r) at k,
                  (
                    of_passes (PlantFails p q) (λ i. topic_size (meaning p i)) 8 q.inputs (λ w r. many_inputs r) at k,
                    (
                      (λ x. of_each (fault at k) (λ i. together (seen_lists p q i)) q.sees x (λ i m y. of_seen i m at k y)),
                      (
                        of_repeats (PlantFails p q) q.sees (λ w r. seen_twice r) at k,
                        (
                          of_past (PlantFails p q) 16 (places q.sees) (λ w r. many_seen r) at k,
                          (
                            (λ x. of_each (fault at k) (λ f. together (noise_lists q f)) q.noise x (λ f m y. of_noise f m at k y)),
                            (
                              of_repeats (PlantFails p q) (noise_names q) (λ w r. noise_twice r) at k,
                              (
                                of_past (PlantFails p q) 4 (places (noise_names q)) (λ w r. many_noise r) at k,
                                (
                                  (λ x. of_each (fault at k) (next_faults p q) q.next x (λ n m y. of_next n m at k y)),
                                  (
                                    of_order (PlantFails p q) q.states q.next (λ place n s b. next_order place s b) at k,
                                    (
                                      of_when (PlantFails p q) (nat_lt (length q.next) (length q.states)) q.end NextMissing
                                          (λ e. next_short (short (length q.next) (length q.states) e)) at k,
                                      tt,
                                    ),
                                  ),
                                ),
                              ),
                            ),
                          ),
                        ),
                      ),
                    ),
                  ),
                ),
              ),
            ),
          ),
        ),
      )
      h

-- nodes
module _ (p : Program) (n : Node) where
  write_at : (f : TypeFault) (i : Ident) → Has n.writes i → In f (together (write_lists p n i)) → In f (together (node_lists p n))
  write_at f i m h = in_together f (node_lists p n) 4 (in_each f (λ i. together (write_lists p n i)) n.writes i m h)

  local_at : (f : TypeFault) (l : Local) → Has n.locals l → In f (together (local_lists n l)) → In f (together (node_lists p n))
  local_at f l m h = in_together f (node_lists p n) 7 (in_each f (λ l. together (local_lists n l)) n.locals l m h)

  body_at : (f : TypeFault) (o : Option Block) (body : Block) (s : Scope) → o ≡ Some body → In f (block_faults s body ++ past 10000 (block_unrolled body))
      → In f (body_faults s o)
  body_at f o body s e h = subst (λ z. In f (body_faults s z)) (sym e) h

  pub node_in : {at : Span} {k : TypeKind} → NodeFails p n at k → In (fault at k) (together (node_lists p n))
  node_in (node_times h) = in_together _ (node_lists p n) 0 (times_in n.period n.offset h)
  node_in (read_unknown {i = i} m g h) =
      in_together _ (node_lists p n) 1 (in_each _ (read_faults p) n.reads i m
      (in_when (not (is_topic (meaning p i)) && not (is_plant (meaning p i))) i.at Unknown (neither (is_topic (meaning p i)) (is_plant (meaning p i)) g h)))
  node_in (read_twice {at = at} r) = in_together _ (node_lists p n) 2 (repeats_in n.reads at r)
  node_in (many_read {at = at} r) = in_together _ (node_lists p n) 3 (passes_in (λ i. read_size (meaning p i)) 64 n.reads at r)
  node_in (written_unknown {i = i} m h) =
      write_at _ i m (in_together _ (write_lists p n i) 0 (in_when (not (is_topic (meaning p i))) i.at Unknown (not_from_false (is_topic (meaning p i)) h)))
  node_in (written_outside {i = i} m h) = write_at _ i m (in_together _ (write_lists p n i) 1 (in_when (is_environment (meaning p i)) i.at KindDiffers h))
  node_in (written_read {i = i} m g h) =
      write_at _ i m (in_together _ (write_lists p n i) 2 (in_when (is_topic (meaning p i) && is_among i n.reads) i.at ReadsAndWrites
      (both_hold (is_topic (meaning p i)) (is_among i n.reads) g h)))
  node_in (written_twice {at = at} r) = in_together _ (node_lists p n) 5 (repeats_in n.writes at r)
  node_in (many_written {at = at} r) = in_together _ (node_lists p n) 6 (passes_in (λ i. topic_size (meaning p i)) 8 n.writes at r)
  node_in (local_hides {l = l} m h) = local_at _ l m (in_together _ (local_lists n l) 0 (in_when (is_among l.name (n.reads ++ n.writes)) l.name.at Twice h))
  node_in (local_scalar {l = l} m h) = local_at _ l m (in_together _ (local_lists n l) 1 (scalar_in false h))
  node_in (local_start {l = l} m h) = local_at _ l m (in_together _ (local_lists n l) 2 (start_in l.scalar l.init h))
  node_in (local_twice {at = at} r) = in_together _ (node_lists p n) 8 (repeats_in (local_names n) at r)
  node_in (many_locals {at = at} r) = in_together _ (node_lists p n) 9 (past_in 16 (places (local_names n)) at r)
  node_in (statements {body = body} e h) =
      in_together _ (node_lists p n) 10 (body_at _ n.body body (node_scope p n) e
      (before _ (block_faults (node_scope p n) body) _ (block_in (node_scope p n) h)))
  node_in (many_statements {body = body} {at = at} e r) =
      in_together _ (node_lists p n) 10 (body_at _ n.body body (node_scope p n) e
      (after _ (block_faults (node_scope p n) body) _ (past_in 10000 (block_unrolled body) at r)))

  of_write : (i : Ident) → Has n.writes i → (at : Span) (k : TypeKind) → In (fault at k) (together (write_lists p n i)) → NodeFails p n at k
  of_write i m at k h =
      of_together (NodeFails p n at k) (fault at k) (write_lists p n i) (
        of_when (NodeFails p n) (not (is_topic (meaning p i))) i.at Unknown (λ e. written_unknown m (not-true (is_topic (meaning p i)) e)) at k,
        (
          of_when (NodeFails p n) (is_environment (meaning p i)) i.at KindDiffers (λ e. written_outside m e) at k,
          (
            of_when (NodeFails p n) (is_topic (meaning p i) && is_among i n.reads) i.at ReadsAndWrites
                (λ e. written_read m (one_holds (is_topic (meaning p i)) (is_among i n.reads) e) (other_holds (is_topic (meaning p i)) (is_among i n.reads) e))
                at k,
            tt,
          ),
        ),
      )
      h

  of_local : (l : Local) → Has n.locals l → (at : Span) (k : TypeKind) → In (fault at k) (together (local_lists n l)) → NodeFails p n at k
  of_local l m at k h =
      of_together (NodeFails p n at k) (fault at k) (local_lists n l) (
        of_when (NodeFails p n) (is_among l.name (n.reads ++ n.writes)) l.name.at Twice (λ e. local_hides m e) at k,
        (
          (λ x. local_scalar m (of_scalar false l.scalar at k x)),
          (
            (λ x. local_start m (of_start l.scalar l.init at k x)),
            tt,
          ),
        ),
      )
      h

  of_body : (o : Option Block) → n.body ≡ o → (at : Span) (k : TypeKind) → In (fault at k) (body_faults (node_scope p n) o) → NodeFails p n at k
  of_body None e at k h = absurd h
  of_body (Some body) e at k h =
      split (fault at k) (block_faults (node_scope p n) body) _ h
      (λ x. statements e (of_block (node_scope p n) body at k x))
      (of_past (NodeFails p n) 10000 (block_unrolled body) (λ w r. many_statements e r) at k)

  pub of_node : (at : Span) (k : TypeKind) → In (fault at k) (together (node_lists p n)) → NodeFails p n at k
  of_node at k h =
      of_together (NodeFails p n at k) (fault at k) (node_lists p n) (
        (λ x. node_times (of_times n.period n.offset at k x)),
        (
          (λ x. of_each (fault at k) (read_faults p) n.reads x (λ i m y.
              of_when (NodeFails p n) (not (is_topic (meaning p i)) && not (is_plant (meaning p i))) i.at Unknown
              (λ e. read_unknown m (not_one (is_topic (meaning p i)) (is_plant (meaning p i)) e)
              (not_other (is_topic (meaning p i)) (is_plant (meaning p i)) e)) at k y)),
          (
            of_repeats (NodeFails p n) n.reads (λ w r. read_twice r) at k,
            (
              of_passes (NodeFails p n) (λ i. read_size (meaning p i)) 64 n.reads (λ w r. many_read r) at k,
              (
                (λ x. of_each (fault at k) (λ i. together (write_lists p n i)) n.writes x (λ i m y. of_write i m at k y)),
                (
                  of_repeats (NodeFails p n) n.writes (λ w r. written_twice r) at k,
                  (
                    of_passes (NodeFails p n) (λ i. topic_size (meaning p i)) 8 n.writes (λ w r. many_written r) at k,
                    (
                      (λ x. of_each (fault at k) (λ l. together (local_lists n l)) n.locals x (λ l m y. of_local l m at k y)),
                      (
                        of_repeats (NodeFails p n) (local_names n) (λ w r. local_twice r) at k,
                        (
                          of_past (NodeFails p n) 16 (places (local_names n)) (λ w r. many_locals r) at k,
                          (
                            of_body n.body refl at k,
                            tt,
                          ),
                        ),
                      ),
                    ),
                  ),
                ),
              ),
            ),
          ),
        ),
      )
      h

-- modules
pub module_in : (p : Program) (m : Module) {at : Span} {k : TypeKind} → ModuleFails p m at k → In (fault at k) (together (module_lists p m))
module_in p m (ac_unknown h) =
    in_together _ (module_lists p m) 0 (in_when (not (is_node (meaning p m.ac))) m.ac.at Unknown (not_from_false (is_node (meaning p m.ac)) h))
module_in p m (sc_unknown h) =
    in_together _ (module_lists p m) 1 (in_when (not (is_node (meaning p m.sc))) m.sc.at Unknown (not_from_false (is_node (meaning p m.sc)) h))
module_in p m (sc_external h) = in_together _ (module_lists p m) 2 (in_when (is_external (meaning p m.sc)) m.sc.at KindDiffers h)
module_in p m (same_node h) = in_together _ (module_lists p m) 3 (in_when (are_same m.ac m.sc) m.sc.at Twice h)
module_in p m (module_times h) = in_together _ (module_lists p m) 4 (times_in m.period m.offset h)
module_in p m (plant_unknown g h) =
    in_together _ (module_lists p m) 5 (in_when (not (is_topic (meaning p m.plant)) && not (is_plant (meaning p m.plant))) m.plant.at Unknown
    (neither (is_topic (meaning p m.plant)) (is_plant (meaning p m.plant)) g h))
module_in p m (plant_topic h) = in_together _ (module_lists p m) 6 (in_when (is_topic (meaning p m.plant)) m.plant.at KindDiffers h)
module_in p m (safe h) = in_together _ (module_lists p m) 7 (region_in (side_sorts (meaning p m.plant)) m.safe h)
module_in p m (safer h) = in_together _ (module_lists p m) 8 (region_in (side_sorts (meaning p m.plant)) m.safer h)

pub of_module : (p : Program) (m : Module) (at : Span) (k : TypeKind) → In (fault at k) (together (module_lists p m)) → ModuleFails p m at k
of_module p m at k h =
    of_together (ModuleFails p m at k) (fault at k) (module_lists p m) (
      of_when (ModuleFails p m) (not (is_node (meaning p m.ac))) m.ac.at Unknown (λ e. ac_unknown (not-true (is_node (meaning p m.ac)) e)) at k,
      (
        of_when (ModuleFails p m) (not (is_node (meaning p m.sc))) m.sc.at Unknown (λ e. sc_unknown (not-true (is_node (meaning p m.sc)) e)) at k,
        (
          of_when (ModuleFails p m) (is_external (meaning p m.sc)) m.sc.at KindDiffers (λ e. sc_external e) at k,
          (
            of_when (ModuleFails p m) (are_same m.ac m.sc) m.sc.at Twice (λ e. same_node e) at k,
            (
              (λ x. module_times (of_times m.period m.offset at k x)),
              (
                of_when (ModuleFails p m) (not (is_topic (meaning p m.plant)) && not (is_plant (meaning p m.plant))) m.plant.at Unknown
                    (λ e. plant_unknown (not_one (is_topic (meaning p m.plant)) (is_plant (meaning p m.plant)) e)
                    (not_other (is_topic (meaning p m.plant)) (is_plant (meaning p m.plant)) e)) at k,
                (
                  of_when (ModuleFails p m) (is_topic (meaning p m.plant)) m.plant.at KindDiffers (λ e. plant_topic e) at k,
                  (
                    (λ x. safe (of_region (side_sorts (meaning p m.plant)) m.safe at k x)),
                    (
                      (λ x. safer (of_region (side_sorts (meaning p m.plant)) m.safer at k x)),
                      tt,
                    ),
                  ),
                ),
              ),
            ),
          ),
        ),
      ),
    )
    h

-- declarations
pub declaration_in : (p : Program) {d : Declaration} {at : Span} {k : TypeKind} → DeclarationFails p d at k → In (fault at k) (declaration_faults p d)
declaration_in p (in_topic {t = t} h) = topic_in t h
declaration_in p (in_plant {q = q} h) = plant_in p q h
declaration_in p (in_node {n = n} h) = node_in p n h
declaration_in p (in_module {m = m} h) = module_in p m h

pub of_declaration : (p : Program) (d : Declaration) (at : Span) (k : TypeKind) → In (fault at k) (declaration_faults p d) → DeclarationFails p d at k
of_declaration p (a_topic t) at k h = in_topic (of_topic t at k h)
of_declaration p (a_plant q) at k h = in_plant (of_plant p q at k h)
of_declaration p (a_node n) at k h = in_node (of_node p n at k h)
of_declaration p (a_module m) at k h = in_module (of_module p m at k h)
