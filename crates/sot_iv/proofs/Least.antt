-- The intervals that the ends give are the least ones: sums, differences, products, quotients and hulls.
use Rattle.std.proofs.Common.{◌≡◌, ℤ, pos, negsuc, ◌≤ℤ◌, false, ◌⊎◌, inl, inr, ⊎_elim, refl, sym, subst, arith}
use Rattle.std.specs.Prelude.{int_lt, int_le, ◌&&◌}
use Rattle.std.specs.Int.{int_min, int_max}
use Rattle.std.proofs.lemmas.Bool.{cases_Bool, and_parts, and_from}
use Rattle.std.proofs.lemmas.Int.{ints, clamps}
use Rattle.sot_text.specs.declared.token.Span.{Span}
use Rattle.sot_box.specs.Sides.{Side, IsIn}
use Rattle.sot_syntax_tree.specs.declared.operator.Op.{Op}
use Rattle.sot_syntax_tree.specs.declared.operator.Op.TheVariants.{Add, Sub, Mul, Div}
use Rattle.sot_lang.specs.Values.{is_word}
use Rattle.sot_iv.specs.TermIntervals.{IsLeast, IsResult, IsFitted, IsIntervalHull, IsWordRange, result}
use Rattle.sot_iv.specs.Ends.{fitted, sum, difference, product, quotient, by_corners, least_of, greatest_of, hull, holds_zero}
use Rattle.sot_iv.proofs.Floors.{Among, among_products, among_factors, among_dividends, among_divisors}
use Rattle.sot_iv.proofs.Narrow.{le_refl_ℤ}

-- the numbers of an interval are in order
abbrev pub IsOrdered : Side → Type 0
IsOrdered r = r.lo ≤ℤ r.hi

pub low_in : (r : Side) → IsOrdered r → IsIn r r.lo
low_in r o = (le_refl_ℤ r.lo, o)

pub high_in : (r : Side) → IsOrdered r → IsIn r r.hi
high_in r o = (o, le_refl_ℤ r.hi)

pub in_ordered : (r : Side) (z : ℤ) → IsIn r z → IsOrdered r
in_ordered r z i = omega (arith, ints, i.0, i.1)

pub fitted_is : (at : Span) (r : Side) → IsFitted at r (fitted at r)
fitted_is at r =
    ⊎_elim
    (λ t. rw t (refl, and_parts (is_word r.lo) (is_word r.hi) t))
    (λ f. rw f ((λ (w : IsWordRange r). let both = and_from (is_word r.lo) (is_word r.hi) w.0 w.1 in cc), refl))
    (cases_Bool (is_word r.lo && is_word r.hi))

pub sum_least : (x y : Side) → IsOrdered x → IsOrdered y → IsLeast (IsResult Add x y) (sum x y)
sum_least x y xo yo = record {
  holds = λ z r. subst (IsIn (sum x y)) (sym r.is) (omega (arith, ints, r.a_in.0, r.b_in.0), omega (arith, ints, r.a_in.1, r.b_in.1));
  low = record { a = x.lo; b = y.lo; a_in = low_in x xo; b_in = low_in y yo; is = refl };
  high = record { a = x.hi; b = y.hi; a_in = high_in x xo; b_in = high_in y yo; is = refl };
}

pub difference_least : (x y : Side) → IsOrdered x → IsOrdered y → IsLeast (IsResult Sub x y) (difference x y)
difference_least x y xo yo = record {
  holds = λ z r. subst (IsIn (difference x y)) (sym r.is) (omega (arith, ints, r.a_in.0, r.b_in.1), omega (arith, ints, r.a_in.1, r.b_in.0));
  low = record { a = x.lo; b = y.hi; a_in = low_in x xo; b_in = high_in y yo; is = refl };
  high = record { a = x.hi; b = y.lo; a_in = high_in x xo; b_in = low_in y yo; is = refl };
}

four : (p q r s : ℤ) → (least_of p q r s ≤ℤ p) × (least_of p q r s ≤ℤ q) × (least_of p q r s ≤ℤ r) × (least_of p q r s ≤ℤ s) × (p ≤ℤ greatest_of p q r s)
    × (q ≤ℤ greatest_of p q r s) × (r ≤ℤ greatest_of p q r s) × (s ≤ℤ greatest_of p q r s)
four p q r s = omega (arith, ints, clamps)

min_cases : (p q : ℤ) → (int_min p q ≡ p) ⊎ (int_min p q ≡ q)
min_cases p q = ⊎_elim (λ t. inr (rw t refl)) (λ f. inl (rw f refl)) (cases_Bool (int_lt q p))

pub max_cases : (p q : ℤ) → (int_max p q ≡ p) ⊎ (int_max p q ≡ q)
max_cases p q = ⊎_elim (λ t. inl (rw t refl)) (λ f. inr (rw f refl)) (cases_Bool (int_lt q p))

least_among : (P : ℤ → Type 0) (p q r s : ℤ) → P p → P q → P r → P s → P (least_of p q r s)
least_among P p q r s hp hq hr hs =
    let a : P (int_min p q) = ⊎_elim (λ e. subst P (sym e) hp) (λ e. subst P (sym e) hq) (min_cases p q) in
    let b : P (int_min r s) = ⊎_elim (λ e. subst P (sym e) hr) (λ e. subst P (sym e) hs) (min_cases r s) in
    ⊎_elim (λ e. subst P (sym e) a) (λ e. subst P (sym e) b) (min_cases (int_min p q) (int_min r s))

greatest_among : (P : ℤ → Type 0) (p q r s : ℤ) → P p → P q → P r → P s → P (greatest_of p q r s)
greatest_among P p q r s hp hq hr hs =
    let a : P (int_max p q) = ⊎_elim (λ e. subst P (sym e) hp) (λ e. subst P (sym e) hq) (max_cases p q) in
    let b : P (int_max r s) = ⊎_elim (λ e. subst P (sym e) hr) (λ e. subst P (sym e) hs) (max_cases r s) in
    ⊎_elim (λ e. subst P (sym e) a) (λ e. subst P (sym e) b) (max_cases (int_max p q) (int_max r s))

chain : (l h z u v p q r s : ℤ) → Among u v z → Among p q u → Among r s v → l ≤ℤ p → l ≤ℤ q → l ≤ℤ r → l ≤ℤ s → p ≤ℤ h → q ≤ℤ h → r ≤ℤ h → s ≤ℤ h
    → (l ≤ℤ z) × (z ≤ℤ h)
chain l h z u v p q r s a b c lp lq lr ls ph qh rh sh = omega (arith, ints)

-- where an operator's result is always between those at the ends of either operand, the results at the corners are enough
corners_least : (op : Op) (x y : Side) → IsOrdered x → IsOrdered y →
    ((a b : ℤ) → IsIn x a → IsIn y b → Among (result op x.lo b) (result op x.hi b) (result op a b)) →
    ((a b : ℤ) → IsIn x a → IsIn y b → Among (result op a y.lo) (result op a y.hi) (result op a b)) →
    IsLeast (IsResult op x y) (by_corners (result op) x y)
corners_least op x y xo yo first second =
    let at : (a b : ℤ) → IsIn x a → IsIn y b → IsResult op x y (result op a b) = λ a b i j. record { a = a; b = b; a_in = i; b_in = j; is = refl } in
    let f = four (result op x.lo y.lo) (result op x.lo y.hi) (result op x.hi y.lo) (result op x.hi y.hi) in
    record {
      holds = λ z r. subst (IsIn (by_corners (result op) x y)) (sym r.is)
          (chain _ _ (result op r.a r.b) (result op x.lo r.b) (result op x.hi r.b) (result op x.lo y.lo) (result op x.lo y.hi) (result op x.hi y.lo)
          (result op x.hi y.hi)
          (first r.a r.b r.a_in r.b_in) (second x.lo r.b (low_in x xo) r.b_in) (second x.hi r.b (high_in x xo) r.b_in)
          f.0 f.1 f.2 f.3 f.4 f.5 f.6 f.7);
      low =
          least_among (IsResult op x y) _ _ _ _ (at x.lo y.lo (low_in x xo) (low_in y yo)) (at x.lo y.hi (low_in x xo) (high_in y yo))
          (at x.hi y.lo (high_in x xo) (low_in y yo)) (at x.hi y.hi (high_in x xo) (high_in y yo));
      high =
          greatest_among (IsResult op x y) _ _ _ _ (at x.lo y.lo (low_in x xo) (low_in y yo)) (at x.lo y.hi (low_in x xo) (high_in y yo))
          (at x.hi y.lo (high_in x xo) (low_in y yo)) (at x.hi y.hi (high_in x xo) (high_in y yo));
    }

pub product_least : (x y : Side) → IsOrdered x → IsOrdered y → IsLeast (IsResult Mul x y) (product x y)
product_least x y xo yo =
    corners_least Mul x y xo yo
    (λ a b i j. among_products x.lo x.hi a b i.0 i.1)
    (λ a b i j. among_factors a y.lo y.hi b j.0 j.1)

-- an interval with no 0 in it lies on one side of 0
pub one_sign : (y : Side) → IsOrdered y → holds_zero y ≡ false → (pos 1 ≤ℤ y.lo) ⊎ (y.hi ≤ℤ negsuc 0)
one_sign y o e =
    ⊎_elim
    (λ t. ⊎_elim
    (λ u. absurd (let both = and_from (int_le y.lo (pos 0)) (int_le (pos 0) y.hi) t u in cc))
    (λ g. inr (grind (arith, ints, g)))
    (cases_Bool (int_le (pos 0) y.hi)))
    (λ f. inl (grind (arith, ints, f)))
    (cases_Bool (int_le y.lo (pos 0)))

not_zero : (y : Side) (b : ℤ) → (pos 1 ≤ℤ y.lo) ⊎ (y.hi ≤ℤ negsuc 0) → IsIn y b → b ≡ pos 0 → ⊥
not_zero y b s i e = omega (arith, ints, s, i.0, i.1, e)

pub quotient_least : (x y : Side) → IsOrdered x → IsOrdered y → holds_zero y ≡ false → IsLeast (IsResult Div x y) (quotient x y)
quotient_least x y xo yo e =
    let s = one_sign y yo e in
    corners_least Div x y xo yo
    (λ a b i j. among_dividends x.lo x.hi a b (not_zero y b s j) i.0 i.1)
    (λ a b i j. among_divisors a y.lo y.hi b s j.0 j.1)

pub hull_is : (a b : Side) → IsOrdered a → IsOrdered b → IsIntervalHull a b (hull a b)
hull_is a b x y = record {
  holds =
      λ z i. ⊎_elim (λ p. (omega (arith, ints, clamps, p.0), omega (arith, ints, clamps, p.1)))
      (λ p. (omega (arith, ints, clamps, p.0), omega (arith, ints, clamps, p.1))) i;
  low = ⊎_elim (λ e. inl (subst (IsIn a) (sym e) (low_in a x))) (λ e. inr (subst (IsIn b) (sym e) (low_in b y))) (min_cases a.lo b.lo);
  high = ⊎_elim (λ e. inl (subst (IsIn a) (sym e) (high_in a x))) (λ e. inr (subst (IsIn b) (sym e) (high_in b y))) (max_cases a.hi b.hi);
}
