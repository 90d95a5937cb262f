-- Where the `next` clauses or the disturbances of a plant stand behind the first fault, that stays.
use Rattle.std.proofs.Common.{◌≡◌, ◌∙◌, true, ◌&&◌, nat_lt, not, length, List, [], ◌∷◌, ◌++◌, map, Some, None, refl, ap₂}
use Rattle.std.specs.List.{flat_map}
use Rattle.std.proofs.lemmas.List.Folds.{list_all-map}
use Rattle.sot_text.specs.declared.token.Span.{Span}
use Rattle.sot_syntax_tree.specs.declared.tree.Field.{Field}
use Rattle.sot_syntax_tree.specs.declared.tree.StateDecl.{StateDecl}
use Rattle.sot_syntax_tree.specs.Trees.{Next, Plant, Program}
use Rattle.sot_rules.specs.declared.fault.TypeFault.{TypeFault}
use Rattle.sot_rules.specs.declared.fault.TypeKind.TheVariants.{Twice, KindDiffers, NextMissing}
use Rattle.sot_rules.specs.Sorts.{scalar_sort, is_truthful}
use Rattle.sot_rules.specs.Names.{plant_scope, state_scope, reading}
use Rattle.sot_rules.specs.TreeSorts.{sort}
use Rattle.sot_rules.specs.Lists.{are_same, is_among, places}
use Rattle.sot_rules.specs.Tests.{state_names, noise_names}
use Rattle.sot_rules.specs.Faults.{least, when, together, repeats, scalar_faults, tree_faults, next_faults, order_faults, noise_lists}
use Rattle.sot_rules.specs.Groups.{disturbances_faults}
use Rattle.sot_rules.specs.Nexts.{nexts_faults}
use Rattle.sot_rules.specs.Behind.{AreBehind, is_behind, names_behind, tree_behind, scalar_behind, nexts_behind, noise_behind}
use Rattle.sot_rules.proofs.Behind.{and_left, and_right, both_behind, when_behind, each_behind, repeats_behind, past_behind, stays_before}
use Rattle.sot_rules.proofs.Fronts.{scalar_is_behind}
use Rattle.sot_rules.proofs.BodiesBehind.{reading_behind, tree_is_behind, target_behind}

module _ (from : Span) where
  next_is_behind : (p : Program) (q : Plant) (n : Next) → (is_behind from n.name.at && tree_behind from n.value) ≡ true → AreBehind from (next_faults p q n)
  next_is_behind p q n e =
      let here = and_left (is_behind from n.name.at) _ e in
      both_behind from (tree_faults (plant_scope p q) n.value) _ (tree_is_behind from (plant_scope p q) n.value (and_right (is_behind from n.name.at) _ e))
      (target_behind from (reading (state_scope q) n.name None) (sort (plant_scope p q) n.value) n.name.at
      (reading_behind from n.name here (state_scope q) None refl) here)

  order_behind : (states : List StateDecl) (ns : List Next) → nexts_behind from ns ≡ true → AreBehind from (order_faults states ns)
  order_behind states [] e = refl
  order_behind [] (n ∷ ns) e =
      both_behind from (when true n.name.at NextMissing) _
      (when_behind from true n.name.at NextMissing (and_left (is_behind from n.name.at) _
      (and_left (is_behind from n.name.at && tree_behind from n.value) _ e)))
      (order_behind [] ns (and_right (is_behind from n.name.at && tree_behind from n.value) _ e))
  order_behind (s ∷ states) (n ∷ ns) e =
      both_behind from (when (not (are_same n.name s.name)) n.name.at NextMissing) _
      (when_behind from (not (are_same n.name s.name)) n.name.at NextMissing
      (and_left (is_behind from n.name.at) _ (and_left (is_behind from n.name.at && tree_behind from n.value) _ e)))
      (order_behind states ns (and_right (is_behind from n.name.at && tree_behind from n.value) _ e))

  nexts_are_behind : (p : Program) (q : Plant) → is_behind from q.end ≡ true → nexts_behind from q.next ≡ true → AreBehind from (nexts_faults p q)
  nexts_are_behind p q end e =
      both_behind from (flat_map (next_faults p q) q.next) _
      (each_behind from (λ n. is_behind from n.name.at && tree_behind from n.value) (next_faults p q) (next_is_behind p q) q.next e)
      (both_behind from (order_faults q.states q.next) _ (order_behind q.states q.next e)
      (when_behind from (nat_lt (length q.next) (length q.states)) q.end NextMissing end))

  disturbance_is_behind : (q : Plant) (f : Field) → (is_behind from f.name.at && scalar_behind from f.scalar) ≡ true
      → AreBehind from (together (noise_lists q f))
  disturbance_is_behind q f e =
      let here = and_left (is_behind from f.name.at) _ e in
      both_behind from (when (is_among f.name (state_names q ++ q.inputs ++ q.sees)) f.name.at Twice) _ (when_behind from _ f.name.at Twice here)
      (both_behind from (when (is_truthful (scalar_sort f.scalar)) f.name.at KindDiffers) _ (when_behind from _ f.name.at KindDiffers here)
      (both_behind from (scalar_faults true f.scalar) [] (scalar_is_behind from true f.scalar (and_right (is_behind from f.name.at) _ e)) refl))

  noise_names_behind : (fs : List Field) → noise_behind from fs ≡ true → names_behind from (map (λ f. f.name) fs) ≡ true
  noise_names_behind [] e = refl
  noise_names_behind (f ∷ fs) e =
      ap₂ (λ a b. a && b) (and_left (is_behind from f.name.at) _ (and_left (is_behind from f.name.at && scalar_behind from f.scalar) _ e))
      (noise_names_behind fs (and_right (is_behind from f.name.at && scalar_behind from f.scalar) _ e))

  disturbances_are_behind : (q : Plant) → noise_behind from q.noise ≡ true → AreBehind from (disturbances_faults q)
  disturbances_are_behind q e =
      let names = noise_names_behind q.noise e in
      both_behind from (flat_map (λ f. together (noise_lists q f)) q.noise) _
      (each_behind from (λ f. is_behind from f.name.at && scalar_behind from f.scalar) (λ f. together (noise_lists q f)) (disturbance_is_behind q) q.noise e)
      (both_behind from (repeats [] (noise_names q)) _ (repeats_behind from [] (noise_names q) names)
      (past_behind from (places (noise_names q)) 4 (list_all-map (is_behind from) (λ i. i.at) (noise_names q) ∙ names)))

pub nexts_stay : (f : TypeFault) (p : Program) (q : Plant) → is_behind f.at q.end ≡ true → nexts_behind f.at q.next ≡ true
    → least (Some f) (nexts_faults p q) ≡ Some f
nexts_stay f p q end e = stays_before f (nexts_faults p q) (nexts_are_behind f.at p q end e)

pub noise_stays : (f : TypeFault) (q : Plant) → noise_behind f.at q.noise ≡ true → least (Some f) (disturbances_faults q) ≡ Some f
noise_stays f q e = stays_before f (disturbances_faults q) (disturbances_are_behind f.at q e)
