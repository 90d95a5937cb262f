-- Where the parts of a body stand behind a place, so do its faults.
use Rattle.std.proofs.Common.{◌≡◌, ◌∙◌, ℕ, zero, suc, Bool, true, false, ◌&&◌, List, ◌++◌, Option, Some, None, find, nat_abs, refl, ap, ap₂}
use Rattle.std.specs.List.{list_all, list_any}
use Rattle.std.specs.Str.{bytes_eq}
use Rattle.std.proofs.lemmas.List.Folds.{list_all-append}
use Rattle.sot_text.specs.declared.token.Span.{Span}
use Rattle.sot_syntax_tree.specs.declared.tree.Ident.{Ident}
use Rattle.sot_syntax_tree.specs.Trees.{Tree, Trees, number, truth, named, binary, rest, negated, denied, called, rescaled, chosen, no_tree, one_more, Statement}
use Rattle.sot_syntax_tree.specs.Trees.{Block, assigned, published, branched, repeated, no_statement, statement}
use Rattle.sot_rules.specs.declared.fault.TypeFault.{TypeFault}
use Rattle.sot_rules.specs.declared.fault.TypeKind.TheVariants.{Unknown, ScaleDiffers, KindDiffers, PeriodOutside}
use Rattle.sot_rules.specs.declared.expressions.sort.Sort.{Sort}
use Rattle.sot_rules.specs.declared.expressions.sort.Sort.TheVariants.{Scaled}
use Rattle.sot_rules.specs.Sorts.{is_truthful, is_scaled, differ, are_mixed, kinds_misfit, scales_misfit, some_differ, branches_misfit}
use Rattle.sot_rules.specs.Names.{Part, Parts, alone, several, Thing, Scope, Reading, part_reading, parts_reading, thing_reading, reading, reading_sort}
use Rattle.sot_rules.specs.TreeSorts.{has_decimals, is_no_scale, is_zero, sort, sorts}
use Rattle.sot_rules.specs.Tests.{is_off, copies, unrolled, block_unrolled}
use Rattle.sot_rules.specs.Faults.{least, when, misfits, reading_faults, tree_faults, parts_faults, target_faults, statement_faults, block_faults, body_faults}
use Rattle.sot_rules.specs.Behind.{AreBehind, is_behind, field_behind, tree_behind, trees_behind, statement_behind, block_behind}
use Rattle.sot_rules.proofs.Behind.{and_left, and_right, both_behind, when_behind, past_behind, stays_before}

module _ (from : Span) where
  misfits_behind : (kind scale : Bool) (at : Span) → is_behind from at ≡ true → AreBehind from (misfits kind scale at)
  misfits_behind kind scale at h =
      both_behind from (when kind at KindDiffers) (when scale at ScaleDiffers) (when_behind from kind at KindDiffers h)
      (when_behind from scale at ScaleDiffers h)

  -- a name that is looked up
  module _ (first : Ident) (h : is_behind from first.at ≡ true) where
    part_behind : (field : Ident) (o : Option Part) → is_behind from field.at ≡ true → AreBehind from (reading_faults (part_reading field o))
    part_behind field None g = when_behind from true field.at Unknown g
    part_behind field (Some x) g = refl

    parts_are_behind : (field : Option Ident) (ps : Parts) → field_behind from field ≡ true → AreBehind from (reading_faults (parts_reading first field ps))
    parts_are_behind None (alone s) g = refl
    parts_are_behind (Some field) (alone s) g = when_behind from true field.at Unknown g
    parts_are_behind None (several ps) g = when_behind from true first.at Unknown h
    parts_are_behind (Some field) (several ps) g = part_behind field (find (λ x. bytes_eq field.name x.name) ps) g

    thing_behind : (field : Option Ident) (o : Option Thing) → field_behind from field ≡ true → AreBehind from (reading_faults (thing_reading first field o))
    thing_behind field None g = when_behind from true first.at Unknown h
    thing_behind field (Some x) g = parts_are_behind field x.parts g

    pub reading_behind : (names : List Thing) (field : Option Ident) → field_behind from field ≡ true
        → AreBehind from (reading_faults (reading names first field))
    reading_behind names field g = thing_behind field (find (λ x. bytes_eq first.name x.name) names) g

  module _ (names : List Thing) where
    mutual
      pub tree_is_behind : (t : Tree) → tree_behind from t ≡ true → AreBehind from (tree_faults names t)
      tree_is_behind (number l) e = refl
      tree_is_behind (truth b at) e = refl
      tree_is_behind (named first field) e = reading_behind first (and_left (is_behind from first.at) _ e) names field (and_right (is_behind from first.at) _ e)
      tree_is_behind (binary op a b at) e =
          let parts = and_right (is_behind from at) (tree_behind from a && tree_behind from b) e in
          both_behind from (tree_faults names a) _ (tree_is_behind a (and_left (tree_behind from a) _ parts))
          (both_behind from (tree_faults names b) _ (tree_is_behind b (and_right (tree_behind from a) _ parts))
          (misfits_behind (kinds_misfit op (sort names a) (sort names b)) (scales_misfit op (sort names a) (sort names b)) at
          (and_left (is_behind from at) _ e)))
      tree_is_behind (rest a by at) e =
          let parts = and_right (is_behind from at) (is_behind from by.at && tree_behind from a) e in
          both_behind from (tree_faults names a) _ (tree_is_behind a (and_right (is_behind from by.at) _ parts))
          (both_behind from (misfits (is_truthful (sort names a)) (differ (sort names a) (Scaled by.scale)) at) _
          (misfits_behind _ _ at (and_left (is_behind from at) _ e))
          (when_behind from (is_zero by) by.at KindDiffers (and_left (is_behind from by.at) _ parts)))
      tree_is_behind (negated a at) e =
          both_behind from (tree_faults names a) _ (tree_is_behind a (and_right (is_behind from at) _ e))
          (when_behind from (is_truthful (sort names a)) at KindDiffers (and_left (is_behind from at) _ e))
      tree_is_behind (denied a at) e =
          both_behind from (tree_faults names a) _ (tree_is_behind a (and_right (is_behind from at) _ e))
          (when_behind from (is_scaled (sort names a)) at KindDiffers (and_left (is_behind from at) _ e))
      tree_is_behind (called f parts at) e =
          both_behind from (parts_faults names parts) _ (parts_behind parts (and_right (is_behind from at) _ e))
          (misfits_behind (list_any is_truthful (sorts names parts)) (some_differ (sorts names parts)) at (and_left (is_behind from at) _ e))
      tree_is_behind (rescaled a to at) e =
          let parts = and_right (is_behind from at) (is_behind from to.at && tree_behind from a) e in
          both_behind from (tree_faults names a) _ (tree_is_behind a (and_right (is_behind from to.at) _ parts))
          (both_behind from (when (is_truthful (sort names a)) at KindDiffers) _ (when_behind from _ at KindDiffers (and_left (is_behind from at) _ e))
          (when_behind from (is_no_scale to) to.at ScaleDiffers (and_left (is_behind from to.at) _ parts)))
      tree_is_behind (chosen c a b at) e =
          let parts = and_right (is_behind from at) (tree_behind from c && (tree_behind from a && tree_behind from b)) e in
          let branches = and_right (tree_behind from c) (tree_behind from a && tree_behind from b) parts in
          both_behind from (tree_faults names c) _ (tree_is_behind c (and_left (tree_behind from c) _ parts))
          (both_behind from (tree_faults names a) _ (tree_is_behind a (and_left (tree_behind from a) _ branches))
          (both_behind from (tree_faults names b) _ (tree_is_behind b (and_right (tree_behind from a) _ branches))
          (misfits_behind (branches_misfit (sort names c) (sort names a) (sort names b)) (differ (sort names a) (sort names b)) at
          (and_left (is_behind from at) _ e))))

      parts_behind : (es : Trees) → trees_behind from es ≡ true → AreBehind from (parts_faults names es)
      parts_behind no_tree e = refl
      parts_behind (one_more a more) e =
          both_behind from (tree_faults names a) _ (tree_is_behind a (and_left (tree_behind from a) _ e))
          (parts_behind more (and_right (tree_behind from a) _ e))

  pub target_behind : (target : Reading) (value : Sort) (at : Span) → AreBehind from (reading_faults target) → is_behind from at ≡ true
      → AreBehind from (target_faults target value at)
  target_behind target value at r h =
      both_behind from (reading_faults target) _ r (misfits_behind (are_mixed (reading_sort target) value) (differ (reading_sort target) value) at h)

  module _ (s : Scope) where
    mutual
      statement_is_behind : (a : Statement) → statement_behind from a ≡ true → AreBehind from (statement_faults s a)
      statement_is_behind (assigned target e) h =
          let here = and_left (is_behind from target.at) _ h in
          both_behind from (tree_faults s.read e) _ (tree_is_behind s.read e (and_right (is_behind from target.at) _ h))
          (target_behind (reading s.local target None) (sort s.read e) target.at (reading_behind target here s.local None refl) here)
      statement_is_behind (published topic field e) h =
          let here = and_left (is_behind from topic.at) _ h in
          let parts = and_right (is_behind from topic.at) (field_behind from field && tree_behind from e) h in
          both_behind from (tree_faults s.read e) _ (tree_is_behind s.read e (and_right (field_behind from field) _ parts))
          (target_behind (reading s.written topic field) (sort s.read e) topic.at
          (reading_behind topic here s.written field (and_left (field_behind from field) _ parts)) here)
      statement_is_behind (branched c taken other at) h =
          let parts = and_right (is_behind from at) (tree_behind from c && (block_behind from taken && block_behind from other)) h in
          let blocks = and_right (tree_behind from c) (block_behind from taken && block_behind from other) parts in
          both_behind from (tree_faults s.read c) _ (tree_is_behind s.read c (and_left (tree_behind from c) _ parts))
          (both_behind from (when (is_scaled (sort s.read c)) at KindDiffers) _ (when_behind from _ at KindDiffers (and_left (is_behind from at) _ h))
          (both_behind from (block_faults s taken) _ (block_is_behind taken (and_left (block_behind from taken) _ blocks))
          (block_is_behind other (and_right (block_behind from taken) _ blocks))))
      statement_is_behind (repeated times body at) h =
          let parts = and_right (is_behind from at) (is_behind from times.at && block_behind from body) h in
          let count = and_left (is_behind from times.at) _ parts in
          both_behind from (when (has_decimals times) times.at ScaleDiffers) _ (when_behind from _ times.at ScaleDiffers count)
          (both_behind from (when (is_off times) times.at PeriodOutside) _ (when_behind from _ times.at PeriodOutside count)
          (block_is_behind body (and_right (is_behind from times.at) _ parts)))

      block_is_behind : (b : Block) → block_behind from b ≡ true → AreBehind from (block_faults s b)
      block_is_behind no_statement h = refl
      block_is_behind (statement a more) h =
          both_behind from (statement_faults s a) _ (statement_is_behind a (and_left (statement_behind from a) _ h))
          (block_is_behind more (and_right (statement_behind from a) _ h))

  -- the places of statements with loops unrolled
  all_of : (xs ys : List Span) → list_all (is_behind from) xs ≡ true → list_all (is_behind from) ys ≡ true → list_all (is_behind from) (xs ++ ys) ≡ true
  all_of xs ys a b = list_all-append (is_behind from) xs ys ∙ ap₂ (λ x y. x && y) a b

  copies_behind : (n : ℕ) (xs : List Span) → list_all (is_behind from) xs ≡ true → list_all (is_behind from) (copies n xs) ≡ true
  copies_behind zero xs e = refl
  copies_behind (suc n) xs e = all_of xs (copies n xs) e (copies_behind n xs e)

  mutual
    unrolled_behind : (a : Statement) → statement_behind from a ≡ true → list_all (is_behind from) (unrolled a) ≡ true
    unrolled_behind (assigned target e) h = ap (λ b. b && true) (and_left (is_behind from target.at) _ h)
    unrolled_behind (published topic field e) h = ap (λ b. b && true) (and_left (is_behind from topic.at) _ h)
    unrolled_behind (branched c taken other at) h =
        let parts = and_right (is_behind from at) (tree_behind from c && (block_behind from taken && block_behind from other)) h in
        let blocks = and_right (tree_behind from c) (block_behind from taken && block_behind from other) parts in
        ap₂ (λ x y. x && y) (and_left (is_behind from at) _ h)
        (all_of (block_unrolled taken) (block_unrolled other) (block_unrolled_behind taken (and_left (block_behind from taken) _ blocks))
        (block_unrolled_behind other (and_right (block_behind from taken) _ blocks)))
    unrolled_behind (repeated times body at) h =
        let parts = and_right (is_behind from at) (is_behind from times.at && block_behind from body) h in
        ap₂ (λ x y. x && y) (and_left (is_behind from at) _ h)
        (copies_behind (nat_abs times.mantissa) (block_unrolled body) (block_unrolled_behind body (and_right (is_behind from times.at) _ parts)))

    block_unrolled_behind : (b : Block) → block_behind from b ≡ true → list_all (is_behind from) (block_unrolled b) ≡ true
    block_unrolled_behind no_statement h = refl
    block_unrolled_behind (statement a more) h =
        all_of (unrolled a) (block_unrolled more) (unrolled_behind a (and_left (statement_behind from a) _ h))
        (block_unrolled_behind more (and_right (statement_behind from a) _ h))

-- where a body stands behind the first fault, that stays
pub body_stays : (f : TypeFault) (s : Scope) (b : Block) → block_behind f.at b ≡ true → least (Some f) (body_faults s (Some b)) ≡ Some f
body_stays f s b h =
    stays_before f (body_faults s (Some b))
    (both_behind f.at (block_faults s b) _ (block_is_behind f.at s b h) (past_behind f.at (block_unrolled b) 10000 (block_unrolled_behind f.at b h)))

-- a test that holds decides nothing beside another one
pub true_and : (a b : Bool) → a ≡ true → b ≡ (a && b)
true_and true b e = refl
true_and false b e = cc

pub false_and : (a b : Bool) → a ≡ false → a ≡ (a && b)
false_and true b e = cc
false_and false b e = refl
