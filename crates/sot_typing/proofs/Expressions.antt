-- An expression in which no rule fails: its sort is known, and with places for names it is in form.
use Rattle.std.proofs.Common.{◌≡◌, ◌∙◌, ℕ, suc, ◌≤◌, ◌^◌, ◌==◌, ℤ, pos, negsuc, ◌≤ℤ◌, nat_abs, List, map, refl, sym, ap, subst, Option, Some, Bool, true, false}
use Rattle.std.proofs.Common.{arith}
use Rattle.std.specs.List.{list_any}
use Rattle.std.proofs.lemmas.Int.{ints}
use Rattle.std.proofs.lemmas.Bool.{or_from, false_from_ne_true}
use Rattle.sot_lists.specs.Places.{At}
use Rattle.sot_text.specs.declared.token.Span.{Span}
use Rattle.sot_lang.specs.Values.{is_word}
use Rattle.sot_syntax_tree.specs.declared.tree.Ident.{Ident}
use Rattle.sot_syntax_tree.specs.declared.tree.Lit.{Lit}
use Rattle.sot_syntax_tree.specs.declared.operator.Op.{Op}
use Rattle.sot_syntax_tree.specs.declared.operator.Op.TheVariants.{Add, Sub, Mul, Div, Less, LessEqual, Greater, GreaterEqual, Equal, NotEqual, And, Or}
use Rattle.sot_syntax_tree.specs.declared.operator.Func.{Func}
use Rattle.sot_syntax_tree.specs.declared.operator.Func.TheVariants.{Min, Max, Abs, Clamp}
use Rattle.sot_syntax_tree.specs.Functions.{arity}
use Rattle.sot_syntax_tree.specs.Trees.{Tree, Trees, number, truth, named, binary, rest, negated, denied, called, rescaled, chosen, no_tree, one_more}
use Rattle.sot_rules.specs.declared.fault.TypeKind.{TypeKind}
use Rattle.sot_rules.specs.declared.fault.TypeKind.TheVariants.{Unknown, ScaleDiffers, KindDiffers}
use Rattle.sot_rules.specs.declared.expressions.sort.Sort.{Sort}
use Rattle.sot_rules.specs.declared.expressions.sort.Sort.TheVariants.{Scaled, Truthful, Anything}
use Rattle.sot_rules.specs.Sorts.{is_truthful, is_scaled, differ, kinds_misfit, scales_misfit, operator_sort, given, some_differ, call_sort, branches_misfit}
use Rattle.sot_rules.specs.Names.{Thing, Reading, gives, nothing_at, reading, reading_sort}
use Rattle.sot_rules.specs.TreeSorts.{is_zero, is_no_scale, sort, sorts}
use Rattle.sot_syntax_tree.specs.Formed.{IsTree, AreTrees, part_count}
use Rattle.sot_rules.specs.Fails.{TreeFails, PartsFail, unknown, operands_kind, operands_scale, rest_kind, rest_scale, rest_zero, negated_truth, denied_number}
use Rattle.sot_rules.specs.Fails.{call_kind, call_scale, rescaled_truth, rescaled_far, branches_kind, branches_scale, in_left, in_right, in_rest, in_negated}
use Rattle.sot_rules.specs.Fails.{in_denied, in_call, in_rescaled, in_condition, in_then, in_else, in_first, in_later}
use Rattle.sot_typing.specs.Formulas.{Formula}
use Rattle.sot_typing.specs.Terms.{truth_number, sort_scale, place_of, formula_of, formulas_of}
use Rattle.sot_typing.proofs.Lists.{at_lt, at_map}
use Rattle.sot_typing.proofs.Ranges.{IsKnown, scale_known}
use Rattle.sot_typing.proofs.Readings.{thing_sorts, place_is}
use Rattle.sot_typing.proofs.FormulaRules.{IsTruthFormula, FormulasOperate, formula_count, FormulaFits, FormulasFit}
use Rattle.sot_typing.proofs.SortCases.{OperandSorts, operation_is, unless_fails, is_number, is_truth_value, given_known, branches_are, AreKnown, call_is}

-- each of the names is a truth value or a number of at most 6 decimals, and these are the truth values among them
pub record AreNames (names : List Thing) (truths : List Bool) : Type 0 where
  pub known : (k : ℕ) (s : Sort) → At (thing_sorts names) k s → IsKnown s
  pub same : truths ≡ map is_truthful (thing_sorts names)

-- the numbers of literals
pub small_word : (z : ℤ) → nat_abs z ≤ 10 ^ 12 → is_word z ≡ true
small_word (pos n) h = grind (arith, ints)
small_word (negsuc n) h = grind (arith, ints)

truth_word : (b : Bool) → (is_word (truth_number b) ≡ true) × (pos 0 ≤ℤ truth_number b) × (truth_number b ≤ℤ pos 1)
truth_word true = (refl, omega (arith, ints), omega (arith, ints))
truth_word false = (refl, omega (arith, ints), omega (arith, ints))

above_zero : (z : ℤ) → pos 0 ≤ℤ z → (nat_abs z == 0) ≡ false → pos 1 ≤ℤ z
above_zero (pos n) h e = grind (arith, ints)
above_zero (negsuc n) h e = grind (arith, ints)

-- what is known of an expression
pub record IsSound (names : List Thing) (truths : List Bool) (e : Tree) : Type 0 where
  pub known : IsKnown (sort names e)
  pub truth : sort names e ≡ Truthful → IsTruthFormula truths (formula_of names e)
  pub fits : FormulaFits truths (formula_of names e)

pub record AreSound (names : List Thing) (truths : List Bool) (parts : Trees) : Type 0 where
  pub known : AreKnown (sorts names parts)
  pub fit : FormulasFit truths (formulas_of names parts)
  pub count : formula_count (formulas_of names parts) ≡ part_count parts

operate : (truths : List Bool) (op : Op) (a b : Formula) (s t : Sort) → OperandSorts op s t → (s ≡ Truthful → IsTruthFormula truths a)
    → (t ≡ Truthful → IsTruthFormula truths b) → FormulasOperate truths op a b
operate truths Add a b s t o x y = tt
operate truths Sub a b s t o x y = tt
operate truths Mul a b s t o x y = tt
operate truths Div a b s t o x y = tt
operate truths Less a b s t o x y = tt
operate truths LessEqual a b s t o x y = tt
operate truths Greater a b s t o x y = tt
operate truths GreaterEqual a b s t o x y = tt
operate truths Equal a b s t o x y = tt
operate truths NotEqual a b s t o x y = tt
operate truths And a b s t o x y = (x o.0, y o.1)
operate truths Or a b s t o x y = (x o.0, y o.1)

some_part : (f : Func) (parts : Trees) → part_count parts ≡ arity f → (e : Tree) × (more : Trees) × (parts ≡ one_more e more)
some_part Min no_tree h = absurd (omega arith)
some_part Max no_tree h = absurd (omega arith)
some_part Abs no_tree h = absurd (omega arith)
some_part Clamp no_tree h = absurd (omega arith)
some_part f (one_more e more) h = (e, more, refl)

-- a name
name_sound : (names : List Thing) (truths : List Bool) → AreNames names truths → (first : Ident) (field : Option Ident)
    → ((at : Span) (k : TypeKind) → TreeFails names (named first field) at k → ⊥) → IsSound names truths (named first field)
name_sound names truths are first field none = by (reading names first field) refl
  where
    by : (r : Reading) → reading names first field ≡ r → IsSound names truths (named first field)
    by (nothing_at at) e = absurd (none at Unknown (unknown e))
    by (gives s) e =
        let a = place_is names first field s e in
        let q : sort names (named first field) ≡ s = ap reading_sort e in
        let t : At truths (place_of names first field) (is_truthful s) =
        subst (λ l. At l (place_of names first field) (is_truthful s)) (sym are.same) (at_map is_truthful (thing_sorts names) _ s a) in
        record {
          known = subst IsKnown (sym q) (are.known _ s a);
          truth = λ u. t ∙ ap Some (ap is_truthful (sym q ∙ u));
          fits = at_lt truths _ _ t;
        }

-- each construct, from its parts
abbrev Never : List Thing → Tree → Type 0
Never names e = (at : Span) (k : TypeKind) → TreeFails names e at k → ⊥

binary_sound : (names : List Thing) (truths : List Bool) (op : Op) (a b : Tree) (at : Span) → Never names (binary op a b at) → IsSound names truths a
    → IsSound names truths b → IsSound names truths (binary op a b at)
binary_sound names truths op a b at none x y =
    let k = false_from_ne_true (kinds_misfit op (sort names a) (sort names b)) (λ e. none at KindDiffers (operands_kind e)) in
    let m = false_from_ne_true (scales_misfit op (sort names a) (sort names b)) (λ e. none at ScaleDiffers (operands_scale e)) in
    let r = operation_is op (sort names a) (sort names b) x.known y.known k m in
    let q : sort names (binary op a b at) ≡ given (sort names a) (given (sort names b) (operator_sort op (sort names a) (sort names b))) =
    unless_fails _ _ (or_from (kinds_misfit op (sort names a) (sort names b)) _ k m) in
    record {
      known = subst IsKnown (sym q) r.known;
      truth = λ e. r.truth (sym q ∙ e);
      fits = (operate truths op (formula_of names a) (formula_of names b) (sort names a) (sort names b) r.operands x.truth y.truth, x.fits, y.fits);
    }

rest_sound : (names : List Thing) (truths : List Bool) (a : Tree) (by : Lit) (at : Span) → pos 0 ≤ℤ by.mantissa → Never names (rest a by at)
    → IsSound names truths a → IsSound names truths (rest a by at)
rest_sound names truths a by at above none x =
    let k = false_from_ne_true (is_truthful (sort names a)) (λ e. none at KindDiffers (rest_kind e)) in
    let m = false_from_ne_true (differ (sort names a) (Scaled by.scale)) (λ e. none at ScaleDiffers (rest_scale e)) in
    let z = false_from_ne_true (is_zero by) (λ e. none by.at KindDiffers (rest_zero e)) in
    let q : sort names (rest a by at) ≡ sort names a = unless_fails _ _
    (or_from (is_truthful (sort names a)) _ k (or_from (differ (sort names a) (Scaled by.scale)) _ m z)) in
    record {
      known = subst IsKnown (sym q) x.known;
      truth = λ e. is_number (sort names a) k (sym q ∙ e);
      fits = (above_zero by.mantissa above z, x.fits);
    }

negated_sound : (names : List Thing) (truths : List Bool) (a : Tree) (at : Span) → Never names (negated a at) → IsSound names truths a
    → IsSound names truths (negated a at)
negated_sound names truths a at none x =
    let k = false_from_ne_true (is_truthful (sort names a)) (λ e. none at KindDiffers (negated_truth e)) in
    let q : sort names (negated a at) ≡ sort names a = unless_fails _ _ k in
    record { known = subst IsKnown (sym q) x.known; truth = λ e. is_number (sort names a) k (sym q ∙ e); fits = x.fits }

denied_sound : (names : List Thing) (truths : List Bool) (a : Tree) (at : Span) → Never names (denied a at) → IsSound names truths a
    → IsSound names truths (denied a at)
denied_sound names truths a at none x =
    let k = false_from_ne_true (is_scaled (sort names a)) (λ e. none at KindDiffers (denied_number e)) in
    let q : sort names (denied a at) ≡ sort names a = unless_fails _ _ k in
    record { known = subst IsKnown (sym q) x.known; truth = λ e. tt; fits = (x.truth (is_truth_value (sort names a) x.known k), x.fits) }

called_sort : (names : List Thing) (truths : List Bool) (parts : Trees) (e : Tree) (more : Trees) → parts ≡ one_more e more → AreKnown (sorts names parts)
    → list_any is_truthful (sorts names parts) ≡ false → IsKnown (call_sort (sorts names parts)) × (is_truthful (call_sort (sorts names parts)) ≡ false)
called_sort names truths parts e more q x k =
    let y = subst (λ (l : Trees). AreKnown (sorts names l)) q x in
    let r = call_is (sort names e) (sorts names more) y.0 y.1 (subst (λ (l : Trees). list_any is_truthful (sorts names l) ≡ false) q k) in
    subst (λ (l : Trees). IsKnown (call_sort (sorts names l)) × (is_truthful (call_sort (sorts names l)) ≡ false)) (sym q) r

called_sound : (names : List Thing) (truths : List Bool) (f : Func) (parts : Trees) (at : Span) → part_count parts ≡ arity f → Never names (called f parts at)
    → AreSound names truths parts → IsSound names truths (called f parts at)
called_sound names truths f parts at count none x =
    let k = false_from_ne_true (list_any is_truthful (sorts names parts)) (λ e. none at KindDiffers (call_kind e)) in
    let m = false_from_ne_true (some_differ (sorts names parts)) (λ e. none at ScaleDiffers (call_scale e)) in
    let q : sort names (called f parts at) ≡ call_sort (sorts names parts) = unless_fails _ _ (or_from (list_any is_truthful (sorts names parts)) _ k m) in
    let p = some_part f parts count in
    let r = called_sort names truths parts p.0 p.1 p.2 x.known k in
    record {
      known = subst IsKnown (sym q) r.0;
      truth = λ e. is_number (call_sort (sorts names parts)) r.1 (sym q ∙ e);
      fits = (x.count ∙ count, x.fit);
    }

known_scale : (s : Sort) → IsKnown s → sort_scale s ≤ 6
known_scale (Scaled s) h = h
known_scale Truthful h = omega arith
known_scale Anything h = absurd h

rescaled_sound : (names : List Thing) (truths : List Bool) (a : Tree) (d : Lit) (at : Span) → Never names (rescaled a d at) → IsSound names truths a
    → IsSound names truths (rescaled a d at)
rescaled_sound names truths a d at none x =
    let k = false_from_ne_true (is_truthful (sort names a)) (λ e. none at KindDiffers (rescaled_truth e)) in
    let m = false_from_ne_true (is_no_scale d) (λ e. none d.at ScaleDiffers (rescaled_far e)) in
    let n = scale_known d m in
    let q : sort names (rescaled a d at) ≡ Scaled (nat_abs d.mantissa) = unless_fails _ _ (or_from (is_truthful (sort names a)) _ k m)
    ∙ given_known (sort names a) _ x.known in
    record {
      known = subst IsKnown (sym q) n.1;
      truth = λ e. (let z : Scaled (nat_abs d.mantissa) ≡ Truthful = sym q ∙ e in cc);
      fits = (known_scale (sort names a) x.known, n.1, x.fits);
    }

chosen_sound : (names : List Thing) (truths : List Bool) (c a b : Tree) (at : Span) → Never names (chosen c a b at) → IsSound names truths c
    → IsSound names truths a → IsSound names truths b → IsSound names truths (chosen c a b at)
chosen_sound names truths c a b at none x y z =
    let k = false_from_ne_true (branches_misfit (sort names c) (sort names a) (sort names b)) (λ e. none at KindDiffers (branches_kind e)) in
    let m = false_from_ne_true (differ (sort names a) (sort names b)) (λ e. none at ScaleDiffers (branches_scale e)) in
    let r = branches_are (sort names c) (sort names a) (sort names b) x.known y.known z.known k in
    let q : sort names (chosen c a b at) ≡ sort names a = unless_fails _ _ (or_from (branches_misfit (sort names c) (sort names a) (sort names b)) _ k m)
    ∙ given_known (sort names c) _ x.known ∙ given_known (sort names b) _ z.known in
    record {
      known = subst IsKnown (sym q) y.known;
      truth = λ e. (let t = sym q ∙ e in (y.truth t, z.truth (r.1 t)));
      fits = (x.truth r.0, x.fits, y.fits, z.fits);
    }

module _ (names : List Thing) (truths : List Bool) (are : AreNames names truths) where
  mutual
    pub tree_sound : (e : Tree) → IsTree e → ((at : Span) (k : TypeKind) → TreeFails names e at k → ⊥) → IsSound names truths e
    tree_sound (number l) f none = record { known = f.scale; truth = λ q. cc; fits = small_word l.mantissa f.mantissa }
    tree_sound (truth b at) f none = (let w = truth_word b in record { known = tt; truth = λ q. (w.1, w.2); fits = w.0 })
    tree_sound (named first field) f none = name_sound names truths are first field none
    tree_sound (binary op a b at) f none =
        binary_sound names truths op a b at none (tree_sound a f.0 (λ w k h. none w k (in_left h))) (tree_sound b f.1 (λ w k h. none w k (in_right h)))
    tree_sound (rest a by at) f none = rest_sound names truths a by at f.1.1 none (tree_sound a f.0 (λ w k h. none w k (in_rest h)))
    tree_sound (negated a at) f none = negated_sound names truths a at none (tree_sound a f (λ w k h. none w k (in_negated h)))
    tree_sound (denied a at) f none = denied_sound names truths a at none (tree_sound a f (λ w k h. none w k (in_denied h)))
    tree_sound (called g parts at) f none = called_sound names truths g parts at f.0 none (trees_sound parts f.1 (λ w k h. none w k (in_call h)))
    tree_sound (rescaled a d at) f none = rescaled_sound names truths a d at none (tree_sound a f.0 (λ w k h. none w k (in_rescaled h)))
    tree_sound (chosen c a b at) f none =
        chosen_sound names truths c a b at none (tree_sound c f.0 (λ w k h. none w k (in_condition h))) (tree_sound a f.1 (λ w k h. none w k (in_then h)))
        (tree_sound b f.2 (λ w k h. none w k (in_else h)))

    trees_sound : (parts : Trees) → AreTrees parts → ((at : Span) (k : TypeKind) → PartsFail names parts at k → ⊥) → AreSound names truths parts
    trees_sound no_tree f none = record { known = tt; fit = tt; count = refl }
    trees_sound (one_more e more) f none =
        let a = tree_sound e f.0 (λ w k h. none w k (in_first h)) in
        let b = trees_sound more f.1 (λ w k h. none w k (in_later h)) in
        record { known = (a.known, b.known); fit = (a.fits, b.fit); count = ap suc b.count }
