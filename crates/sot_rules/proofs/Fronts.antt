-- What a node uses, where the rest of it stands behind the first fault of the first names that it reads.
use Rattle.std.proofs.Common.{◌≡◌, ◌∙◌, Bool, true, false, ◌&&◌, not, List, [], ◌∷◌, ◌++◌, map, Option, Some, append-nil, refl, sym, ap, ap₂, subst}
use Rattle.std.specs.List.{flat_map}
use Rattle.std.proofs.lemmas.List.{map-append}
use Rattle.std.proofs.lemmas.List.Elements.{filter-append}
use Rattle.std.proofs.lemmas.List.Folds.{list_all-map}
use Rattle.sot_text.specs.declared.token.Span.{Span}
use Rattle.sot_syntax_tree.specs.declared.tree.Ident.{Ident}
use Rattle.sot_syntax_tree.specs.declared.tree.Bounds.{Bounds}
use Rattle.sot_syntax_tree.specs.declared.tree.Scalar.{Scalar}
use Rattle.sot_syntax_tree.specs.declared.tree.Scalar.TheVariants.{Int, Fix, Bool as BoolScalar}
use Rattle.sot_syntax_tree.specs.declared.tree.Const.{Const}
use Rattle.sot_syntax_tree.specs.Trees.{Local, Plant, Node, Program}
use Rattle.sot_rules.specs.declared.fault.TypeFault.{TypeFault}
use Rattle.sot_rules.specs.declared.fault.TypeKind.TheVariants.{Unknown, Twice, ScaleDiffers, KindDiffers, RangeEmpty, InitOutside, ReadsAndWrites, RangeWide}
use Rattle.sot_rules.specs.declared.expressions.sort.Sort.{Sort}
use Rattle.sot_rules.specs.declared.expressions.sort.Sort.TheVariants.{Scaled}
use Rattle.sot_rules.specs.Sorts.{scalar_sort, scale_sort, const_sort, differ, are_mixed}
use Rattle.sot_rules.specs.Names.{meaning, is_topic, is_plant, is_environment}
use Rattle.sot_rules.specs.TreeSorts.{is_no_scale}
use Rattle.sot_rules.specs.Lists.{are_same, is_among, places}
use Rattle.sot_rules.specs.Tests.{is_empty, is_wide, starts_outside, const_place, topic_size, read_size, state_names, local_names}
use Rattle.sot_rules.specs.Faults.{least, when, together, repeats, bounds_faults, scalar_faults, start_faults, input_faults, seen_lists, read_faults}
use Rattle.sot_rules.specs.Faults.{write_lists, local_lists}
use Rattle.sot_rules.specs.Groups.{some_inputs_faults, reads_faults, writes_faults, some_writes_faults, locals_faults}
use Rattle.sot_rules.specs.Behind.{up_to, AreBehind, is_behind, StandsBehind, names_behind, bounds_behind, scalar_behind, local_behind, locals_behind}
use Rattle.sot_rules.proofs.Behind.{settled, stays_before, and_left, and_right, both_behind, when_behind, each_behind, repeats_behind, passes_behind}
use Rattle.sot_rules.proofs.Behind.{past_behind, each_front, repeats_front, passes_front}

module _ (from : Span) where
  same_both : (xs ys us vs : List TypeFault) → up_to from xs ≡ up_to from us → up_to from ys ≡ up_to from vs → up_to from (xs ++ ys) ≡ up_to from (us ++ vs)
  same_both xs ys us vs a b = filter-append _ xs ys ∙ ap₂ (λ x y. x ++ y) a b ∙ sym (filter-append _ us vs)

  -- what a node reads
  module _ (p : Program) where
    read_behind : (i : Ident) → is_behind from i.at ≡ true → AreBehind from (read_faults p i)
    read_behind i h = when_behind from (not (is_topic (meaning p i)) && not (is_plant (meaning p i))) i.at Unknown h

    reads_front : (front rest : List Ident) → names_behind from rest ≡ true → up_to from (reads_faults p (front ++ rest)) ≡ up_to from (reads_faults p front)
    reads_front front rest e =
        same_both _ _ (flat_map (read_faults p) front) _ (each_front from rest e (read_faults p) read_behind front)
        (same_both _ _ (repeats [] front) _ (repeats_front from rest e [] front) (passes_front from rest e (λ i. read_size (meaning p i)) 64 0 front))

    -- what it writes
    write_behind : (n : Node) (i : Ident) → is_behind from i.at ≡ true → AreBehind from (together (write_lists p n i))
    write_behind n i h =
        both_behind from (when (not (is_topic (meaning p i))) i.at Unknown) _ (when_behind from _ i.at Unknown h)
        (both_behind from (when (is_environment (meaning p i)) i.at KindDiffers) _ (when_behind from _ i.at KindDiffers h)
        (both_behind from (when (is_topic (meaning p i) && is_among i n.reads) i.at ReadsAndWrites) [] (when_behind from _ i.at ReadsAndWrites h) refl))

    -- a name that a plant takes in, and one that it sees
    input_behind : (q : Plant) (i : Ident) → is_behind from i.at ≡ true → AreBehind from (input_faults p q i)
    input_behind q i h =
        both_behind from (when (not (is_topic (meaning p i))) i.at Unknown) _ (when_behind from _ i.at Unknown h)
        (when_behind from (is_topic (meaning p i) && is_among i (state_names q)) i.at Twice h)

    sight_behind : (q : Plant) (i : Ident) → is_behind from i.at ≡ true → AreBehind from (together (seen_lists p q i))
    sight_behind q i h =
        both_behind from (when (not (is_topic (meaning p i)) && not (is_plant (meaning p i))) i.at Unknown) _ (when_behind from _ i.at Unknown h)
        (both_behind from (when (is_topic (meaning p i)) i.at KindDiffers) _ (when_behind from _ i.at KindDiffers h)
        (both_behind from (when (is_plant (meaning p i) && are_same i q.name) i.at KindDiffers) _ (when_behind from _ i.at KindDiffers h)
        (both_behind from (when (is_plant (meaning p i) && (not (are_same i q.name) && is_among i (state_names q))) i.at Twice) []
        (when_behind from _ i.at Twice h) refl)))

    writes_behind : (n : Node) → names_behind from n.writes ≡ true → AreBehind from (writes_faults p n)
    writes_behind n e =
        both_behind from (flat_map (λ i. together (write_lists p n i)) n.writes) _
        (each_behind from (λ i. is_behind from i.at) (λ i. together (write_lists p n i)) (write_behind n) n.writes e)
        (both_behind from (repeats [] n.writes) _ (repeats_behind from [] n.writes e) (passes_behind from (λ i. topic_size (meaning p i)) 8 0 n.writes e))

    writes_front : (n : Node) (front rest : List Ident) → names_behind from rest ≡ true
        → up_to from (some_writes_faults p n (front ++ rest)) ≡ up_to from (some_writes_faults p n front)
    writes_front n front rest e =
        same_both _ _ (flat_map (λ i. together (write_lists p n i)) front) _ (each_front from rest e (λ i. together (write_lists p n i)) (write_behind n) front)
        (same_both _ _ (repeats [] front) _ (repeats_front from rest e [] front) (passes_front from rest e (λ i. topic_size (meaning p i)) 8 0 front))

    inputs_front : (q : Plant) (front rest : List Ident) → names_behind from rest ≡ true
        → up_to from (some_inputs_faults p q (front ++ rest)) ≡ up_to from (some_inputs_faults p q front)
    inputs_front q front rest e =
        same_both _ _ (flat_map (input_faults p q) front) _ (each_front from rest e (input_faults p q) (input_behind q) front)
        (same_both _ _ (repeats [] front) _ (repeats_front from rest e [] front) (passes_front from rest e (λ i. topic_size (meaning p i)) 8 0 front))

  -- its locals
  module _ (limited : Bool) (s : Sort) (b : Bounds) (e : bounds_behind from b ≡ true) where
    lo_behind : is_behind from b.lo.at ≡ true
    lo_behind = and_left (is_behind from b.lo.at) (is_behind from b.hi.at) e

    bounds_are_behind : AreBehind from (bounds_faults limited s b)
    bounds_are_behind =
        both_behind from (when (differ s (Scaled b.lo.scale)) b.lo.at ScaleDiffers) _ (when_behind from _ b.lo.at ScaleDiffers lo_behind)
        (both_behind from (when (differ s (Scaled b.hi.scale)) b.hi.at ScaleDiffers) _
        (when_behind from _ b.hi.at ScaleDiffers (and_right (is_behind from b.lo.at) (is_behind from b.hi.at) e))
        (both_behind from (when (is_empty b) b.lo.at RangeEmpty) _ (when_behind from _ b.lo.at RangeEmpty lo_behind)
        (both_behind from (when (limited && is_wide b) b.lo.at RangeWide) [] (when_behind from _ b.lo.at RangeWide lo_behind) refl)))

  pub scalar_is_behind : (limited : Bool) (s : Scalar) → scalar_behind from s ≡ true → AreBehind from (scalar_faults limited s)
  scalar_is_behind limited (Int b) e = bounds_are_behind limited (Scaled 0) b e
  scalar_is_behind limited (Fix d b) e =
      both_behind from (when (is_no_scale d) d.at ScaleDiffers) _
      (when_behind from (is_no_scale d) d.at ScaleDiffers (and_left (is_behind from d.at) (bounds_behind from b) e))
      (bounds_are_behind limited (scale_sort d) b (and_right (is_behind from d.at) (bounds_behind from b) e))
  scalar_is_behind limited (BoolScalar at) e = refl

  start_is_behind : (s : Scalar) (c : Const) → is_behind from (const_place c) ≡ true → AreBehind from (start_faults s c)
  start_is_behind s c h =
      both_behind from (when (are_mixed (scalar_sort s) (const_sort c)) (const_place c) KindDiffers
      ++ when (differ (scalar_sort s) (const_sort c)) (const_place c) ScaleDiffers) _
      (both_behind from (when (are_mixed (scalar_sort s) (const_sort c)) (const_place c) KindDiffers) _ (when_behind from _ (const_place c) KindDiffers h)
      (when_behind from _ (const_place c) ScaleDiffers h))
      (when_behind from (starts_outside s c) (const_place c) InitOutside h)

  local_is_behind : (n : Node) (l : Local) → local_behind from l ≡ true → AreBehind from (together (local_lists n l))
  local_is_behind n l e =
      let rest = and_right (is_behind from l.name.at) (scalar_behind from l.scalar && is_behind from (const_place l.init)) e in
      both_behind from (when (is_among l.name (n.reads ++ n.writes)) l.name.at Twice) _
      (when_behind from _ l.name.at Twice (and_left (is_behind from l.name.at) _ e))
      (both_behind from (scalar_faults false l.scalar) _ (scalar_is_behind false l.scalar (and_left (scalar_behind from l.scalar) _ rest))
      (both_behind from (start_faults l.scalar l.init) [] (start_is_behind l.scalar l.init
      (and_right (scalar_behind from l.scalar) (is_behind from (const_place l.init)) rest)) refl))

  local_names_behind : (ls : List Local) → locals_behind from ls ≡ true → names_behind from (map (λ l. l.name) ls) ≡ true
  local_names_behind [] e = refl
  local_names_behind (l ∷ ls) e =
      let here = and_left (is_behind from l.name.at) _ (and_left (local_behind from l) (locals_behind from ls) e) in
      ap₂ (λ a b. a && b) here (local_names_behind ls (and_right (local_behind from l) (locals_behind from ls) e))

  locals_are_behind : (n : Node) → locals_behind from n.locals ≡ true → AreBehind from (locals_faults n)
  locals_are_behind n e =
      let names = local_names_behind n.locals e in
      both_behind from (flat_map (λ l. together (local_lists n l)) n.locals) _
      (each_behind from (local_behind from) (λ l. together (local_lists n l)) (local_is_behind n) n.locals e)
      (both_behind from (repeats [] (local_names n)) _ (repeats_behind from [] (local_names n) names)
      (past_behind from (places (local_names n)) 16 (list_all-map (is_behind from) (λ i. i.at) (local_names n) ∙ names)))

pub front_noted : (p : Program) (n : Node) (front rest : List Ident) (o : Option TypeFault) (f : TypeFault) → front ++ rest ≡ n.reads
    → (names_behind f.at rest && (names_behind f.at n.writes && locals_behind f.at n.locals)) ≡ true → Some f ≡ least o (reads_faults p front)
    → Some f ≡ least o (reads_faults p n.reads ++ (writes_faults p n ++ locals_faults n))
front_noted p n front rest o f is e noted =
    let from = f.at in
    let more = and_right (names_behind from rest) (names_behind from n.writes && locals_behind from n.locals) e in
    let reads : up_to from (reads_faults p n.reads) ≡ up_to from (reads_faults p front) = sym (ap (λ is. up_to from (reads_faults p is)) is)
    ∙ reads_front from p front rest (and_left (names_behind from rest) _ e) in
    let others : AreBehind from (writes_faults p n ++ locals_faults n) =
    both_behind from (writes_faults p n) (locals_faults n)
    (writes_behind from p n (and_left (names_behind from n.writes) _ more))
    (locals_are_behind from n (and_right (names_behind from n.writes) (locals_behind from n.locals) more)) in
    sym (settled o (reads_faults p n.reads ++ (writes_faults p n ++ locals_faults n)) (reads_faults p front) f
    (filter-append _ (reads_faults p n.reads) (writes_faults p n ++ locals_faults n) ∙ ap₂ (λ x y. x ++ y) reads others
    ∙ append-nil (up_to from (reads_faults p front)))
    (sym noted))

-- things of a list whose names stand in it before, where the rest of the list stands behind the first of them
pub front_repeats : {X : Type 0} (f : X → Ident) (items front rest : List X) (o : Option TypeFault) (first : TypeFault) → front ++ rest ≡ items
    → names_behind first.at (map f rest) ≡ true → Some first ≡ least o (repeats [] (map f front)) → Some first ≡ least o (repeats [] (map f items))
front_repeats f items front rest o first is e noted =
    let from = first.at in
    sym (settled o (repeats [] (map f items)) (repeats [] (map f front)) first
    (ap (λ xs. up_to from (repeats [] (map f xs))) (sym is) ∙ ap (λ names. up_to from (repeats [] names)) (map-append f front rest)
    ∙ repeats_front from (map f rest) e [] (map f front))
    (sym noted))

-- a name behind the first fault, by the list in which it stands
module _ (p : Program) (i : Ident) (o : Option TypeFault) (behind : StandsBehind o i.at) where
  stays_by : (fs : List TypeFault) → AreBehind behind.0.at fs → o ≡ least o fs
  stays_by fs h = subst (λ z. z ≡ least z fs) (sym behind.1) (sym (stays_before behind.0 fs h))

  pub write_stays : (n : Node) → o ≡ least o (together (write_lists p n i))
  write_stays n = stays_by _ (write_behind behind.0.at p n i behind.2)

  pub input_stays : (q : Plant) → o ≡ least o (input_faults p q i)
  input_stays q = stays_by _ (input_behind behind.0.at p q i behind.2)

  pub sight_stays : (q : Plant) → o ≡ least o (together (seen_lists p q i))
  sight_stays q = stays_by _ (sight_behind behind.0.at p q i behind.2)

-- names that a node writes, where the rest of them stands behind their first fault
pub front_writes : (p : Program) (n : Node) (names front rest : List Ident) (o : Option TypeFault) (f : TypeFault) → front ++ rest ≡ names
    → names_behind f.at rest ≡ true → Some f ≡ least o (some_writes_faults p n front) → Some f ≡ least o (some_writes_faults p n names)
front_writes p n names front rest o f is e noted =
    sym (settled o (some_writes_faults p n names) (some_writes_faults p n front) f
    (ap (λ is. up_to f.at (some_writes_faults p n is)) (sym is) ∙ writes_front f.at p n front rest e)
    (sym noted))

-- inputs of a plant, where the rest of them stands behind their first fault
pub front_inputs : (p : Program) (q : Plant) (names front rest : List Ident) (o : Option TypeFault) (f : TypeFault) → front ++ rest ≡ names
    → names_behind f.at rest ≡ true → Some f ≡ least o (some_inputs_faults p q front) → Some f ≡ least o (some_inputs_faults p q names)
front_inputs p q names front rest o f is e noted =
    sym (settled o (some_inputs_faults p q names) (some_inputs_faults p q front) f
    (ap (λ is. up_to f.at (some_inputs_faults p q is)) (sym is) ∙ inputs_front f.at p q front rest e)
    (sym noted))
