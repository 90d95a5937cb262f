-- The intervals that the ends give are the least ones: rests, negations, denials, changes of scale and the named functions.
use Rattle.std.proofs.Common.{◌≡◌, ℕ, ℤ, pos, ◌≤ℤ◌, Bool, true, false, ⊎_elim, List, [], ◌∷◌, length, Ok, refl, sym, ap, subst, arith}
use Rattle.std.specs.Prelude.{int_le, neg_ℤ, not}
use Rattle.std.specs.Int.{int_max}
use Rattle.std.proofs.lemmas.Bool.{cases_Bool, not-true, not-false}
use Rattle.std.proofs.lemmas.Int.{ints, clamps}
use Rattle.sot_text.specs.declared.token.Span.{Span}
use Rattle.sot_box.specs.Sides.{Side, IsIn, AreOrdered}
use Rattle.sot_box.specs.Boxes.{IsWithin}
use Rattle.sot_syntax_tree.specs.declared.operator.Func.{Func}
use Rattle.sot_syntax_tree.specs.declared.operator.Func.TheVariants.{Min, Max, Abs, Clamp}
use Rattle.sot_lang.specs.Values.{truth, is_true}
use Rattle.sot_syntax_tree.specs.Functions.{arity}
use Rattle.sot_iv.specs.TermIntervals.{IsLeast, IsFitted, IsImage, neg_result, not_result, rescale_result, called_result}
use Rattle.sot_iv.specs.Ends.{side, fitted, truths, is_always, is_ever, negation, denied, magnitude, least_side, greatest_side, clamped, rescaled}
use Rattle.sot_iv.specs.Evaluation.{called_side}
use Rattle.sot_iv.proofs.Least.{IsOrdered, low_in, high_in, fitted_is, max_cases}
use Rattle.sot_iv.proofs.Floors.{scaled_mono}
use Rattle.sot_iv.proofs.Truths.{sees, truth_between}

-- the set of results over numbers in these intervals
abbrev pub ImageOf : (List ℤ → ℤ) → List Side → ℤ → Type 0
ImageOf f xs z = (as' : List ℤ) × IsWithin xs as' × (z ≡ f as')

pub image_of : (f : List ℤ → ℤ) (at : Span) (xs : List Side) (r : Side) → IsLeast (ImageOf f xs) r → IsImage f at xs (fitted at r)
image_of f at xs r h = (r, h, fitted_is at r)

one_number : (x : Side) (P : List ℤ → Type 0) → ((a : ℤ) → IsIn x a → P (a ∷ [])) → (as' : List ℤ) → IsWithin (x ∷ []) as' → P as'
one_number x P h [] w = absurd w
one_number x P h (a ∷ []) w = h a (w.0, w.1)
one_number x P h (a ∷ b ∷ as') w = absurd w.2

two_numbers : (x y : Side) (P : List ℤ → Type 0) → ((a b : ℤ) → IsIn x a → IsIn y b → P (a ∷ b ∷ [])) → (as' : List ℤ) → IsWithin (x ∷ y ∷ []) as' → P as'
two_numbers x y P h [] w = absurd w
two_numbers x y P h (a ∷ as') w = one_number y (λ bs. P (a ∷ bs)) (λ b j. h a b (w.0, w.1) j) as' w.2

three_numbers : (x y u : Side) (P : List ℤ → Type 0) → ((a b c : ℤ) → IsIn x a → IsIn y b → IsIn u c → P (a ∷ b ∷ c ∷ [])) → (as' : List ℤ)
    → IsWithin (x ∷ y ∷ u ∷ []) as' → P as'
three_numbers x y u P h [] w = absurd w
three_numbers x y u P h (a ∷ as') w = two_numbers y u (λ bs. P (a ∷ bs)) (λ b c j k. h a b c (w.0, w.1) j k) as' w.2

-- of one number
pub one_least : (f : List ℤ → ℤ) (x r : Side) → ((a : ℤ) → IsIn x a → IsIn r (f (a ∷ []))) → (a : ℤ) × IsIn x a × (r.lo ≡ f (a ∷ []))
    → (a : ℤ) × IsIn x a × (r.hi ≡ f (a ∷ [])) → IsLeast (ImageOf f (x ∷ [])) r
one_least f x r h l g = record {
  holds = λ z i. subst (IsIn r) (sym i.2) (one_number x (λ as'. IsIn r (f as')) h i.0 i.1);
  low = (l.0 ∷ [], (l.1.0, l.1.1, tt), l.2);
  high = (g.0 ∷ [], (g.1.0, g.1.1, tt), g.2);
}

two_least : (f : List ℤ → ℤ) (x y r : Side) → ((a b : ℤ) → IsIn x a → IsIn y b → IsIn r (f (a ∷ b ∷ []))) → IsOrdered x → IsOrdered y
    → r.lo ≡ f (x.lo ∷ y.lo ∷ []) → r.hi ≡ f (x.hi ∷ y.hi ∷ []) → IsLeast (ImageOf f (x ∷ y ∷ [])) r
two_least f x y r h xo yo l g = record {
  holds = λ z i. subst (IsIn r) (sym i.2) (two_numbers x y (λ as'. IsIn r (f as')) h i.0 i.1);
  low = (x.lo ∷ y.lo ∷ [], ((low_in x xo).0, xo, ((low_in y yo).0, yo, tt)), l);
  high = (x.hi ∷ y.hi ∷ [], (xo, (high_in x xo).1, (yo, (high_in y yo).1, tt)), g);
}

three_least : (f : List ℤ → ℤ) (x y u r : Side) → ((a b c : ℤ) → IsIn x a → IsIn y b → IsIn u c → IsIn r (f (a ∷ b ∷ c ∷ []))) → IsOrdered x → IsOrdered y
    → IsOrdered u → r.lo ≡ f (x.lo ∷ y.lo ∷ u.lo ∷ []) → r.hi ≡ f (x.hi ∷ y.hi ∷ u.hi ∷ []) → IsLeast (ImageOf f (x ∷ y ∷ u ∷ [])) r
three_least f x y u r h xo yo uo l g = record {
  holds = λ z i. subst (IsIn r) (sym i.2) (three_numbers x y u (λ as'. IsIn r (f as')) h i.0 i.1);
  low = (x.lo ∷ y.lo ∷ u.lo ∷ [], ((low_in x xo).0, xo, ((low_in y yo).0, yo, ((low_in u uo).0, uo, tt))), l);
  high = (x.hi ∷ y.hi ∷ u.hi ∷ [], (xo, (high_in x xo).1, (yo, (high_in y yo).1, (uo, (high_in u uo).1, tt))), g);
}

pub negation_least : (x : Side) → IsOrdered x → IsLeast (ImageOf neg_result (x ∷ [])) (negation x)
negation_least x o =
    one_least neg_result x (negation x) (λ a i. (omega (arith, ints, i.1), omega (arith, ints, i.0))) (x.hi, high_in x o, refl) (x.lo, low_in x o, refl)

pub rescaled_least : (from to : ℕ) (x : Side) → IsOrdered x → IsLeast (ImageOf (rescale_result from to) (x ∷ [])) (rescaled from to x)
rescaled_least from to x o =
    one_least (rescale_result from to) x (rescaled from to x) (λ a i. (scaled_mono from to x.lo a i.0, scaled_mono from to a x.hi i.1)) (x.lo, low_in x o, refl)
    (x.hi, high_in x o, refl)

pub denied_least : (x : Side) → IsOrdered x → IsLeast (ImageOf not_result (x ∷ [])) (denied x)
denied_least x o =
    let s = sees x o in
    one_least not_result x (denied x)
    (λ a i. truth_between (not (is_ever x)) (not (is_true a)) (not (is_always x)) (λ e. ap not (s.none a i (not-true _ e)))
    (λ e. ap not (s.all a i (not-false _ e))))
    (s.high.0, s.high.1, ap (λ b. truth (not b)) (sym s.high.2))
    (s.low.0, s.low.1, ap (λ b. truth (not b)) (sym s.low.2))

-- truth values are in 64 bits
pub truths_fit : (at : Span) (u w : Bool) → IsFitted at (truths u w) (Ok (truths u w))
truths_fit at true true = (refl, (refl, refl))
truths_fit at true false = (refl, (refl, refl))
truths_fit at false true = (refl, (refl, refl))
truths_fit at false false = (refl, (refl, refl))

min_least : (x y : Side) → IsOrdered x → IsOrdered y → IsLeast (ImageOf (called_result Min) (x ∷ y ∷ [])) (least_side x y)
min_least x y xo yo =
    two_least (called_result Min) x y (least_side x y) (λ a b i j. (omega (arith, ints, clamps, i.0, j.0), omega (arith, ints, clamps, i.1, j.1))) xo yo refl
    refl

max_least : (x y : Side) → IsOrdered x → IsOrdered y → IsLeast (ImageOf (called_result Max) (x ∷ y ∷ [])) (greatest_side x y)
max_least x y xo yo =
    two_least (called_result Max) x y (greatest_side x y) (λ a b i j. (omega (arith, ints, clamps, i.0, j.0), omega (arith, ints, clamps, i.1, j.1))) xo yo refl
    refl

clamp_least : (x y u : Side) → IsOrdered x → IsOrdered y → IsOrdered u → IsLeast (ImageOf (called_result Clamp) (x ∷ y ∷ u ∷ [])) (clamped x y u)
clamp_least x y u xo yo uo =
    three_least (called_result Clamp) x y u (clamped x y u)
    (λ a b c i j k. (omega (arith, ints, clamps, i.0, j.0, k.0), omega (arith, ints, clamps, i.1, j.1, k.1))) xo yo uo refl refl

magnitude_least : (x : Side) → IsOrdered x → IsLeast (ImageOf (called_result Abs) (x ∷ [])) (magnitude x)
magnitude_least x o =
    ⊎_elim
    (λ (t : int_le (pos 0) x.lo ≡ true).
    let above : pos 0 ≤ℤ x.lo = grind (arith, ints, t) in
    rw t (one_least (called_result Abs) x x
    (λ a i. (omega (arith, ints, clamps, i.0), omega (arith, ints, clamps, i.1, i.0, above)))
    (x.lo, low_in x o, omega (arith, ints, clamps, above))
    (x.hi, high_in x o, omega (arith, ints, clamps, above, o))))
    (λ (f : int_le (pos 0) x.lo ≡ false). ⊎_elim
    (λ (t : int_le x.hi (pos 0) ≡ true).
    let below : x.hi ≤ℤ pos 0 = grind (arith, ints, t) in
    rw (f, t) (one_least (called_result Abs) x (negation x)
    (λ a i. (omega (arith, ints, clamps, i.1), omega (arith, ints, clamps, i.0, i.1, below)))
    (x.hi, high_in x o, omega (arith, ints, clamps, below))
    (x.lo, low_in x o, omega (arith, ints, clamps, below, o))))
    (λ (g : int_le x.hi (pos 0) ≡ false).
    let under : x.lo ≤ℤ pos 0 = grind (arith, ints, f) in
    let over : pos 0 ≤ℤ x.hi = grind (arith, ints, g) in
    rw (f, g) (one_least (called_result Abs) x (side (pos 0) (int_max (neg_ℤ x.lo) x.hi))
    (λ a i. (omega (arith, ints, clamps), omega (arith, ints, clamps, i.0, i.1)))
    (pos 0, (under, over), refl)
    (⊎_elim
    (λ (e : int_max (neg_ℤ x.lo) x.hi ≡ neg_ℤ x.lo). (x.lo, low_in x o, omega (arith, ints, clamps, e, under)))
    (λ (e : int_max (neg_ℤ x.lo) x.hi ≡ x.hi). (x.hi, high_in x o, omega (arith, ints, clamps, e, over)))
    (max_cases (neg_ℤ x.lo) x.hi))))
    (cases_Bool (int_le x.hi (pos 0))))
    (cases_Bool (int_le (pos 0) x.lo))

-- a function at as many intervals as it takes
pub called_least : (f : Func) (at : Span) (xs : List Side) → length xs ≡ arity f → AreOrdered xs → IsImage (called_result f) at xs (called_side f at xs)
called_least Min at (a ∷ b ∷ []) e o = image_of (called_result Min) at (a ∷ b ∷ []) (least_side a b) (min_least a b o.0 o.1.0)
called_least Max at (a ∷ b ∷ []) e o = image_of (called_result Max) at (a ∷ b ∷ []) (greatest_side a b) (max_least a b o.0 o.1.0)
called_least Abs at (a ∷ []) e o = image_of (called_result Abs) at (a ∷ []) (magnitude a) (magnitude_least a o.0)
called_least Clamp at (a ∷ l ∷ h ∷ []) e o = image_of (called_result Clamp) at (a ∷ l ∷ h ∷ []) (clamped a l h) (clamp_least a l h o.0 o.1.0 o.1.1.0)
called_least Min at [] e o = absurd (omega (arith, e))
called_least Min at (a ∷ []) e o = absurd (omega (arith, e))
called_least Min at (a ∷ b ∷ c ∷ xs) e o = absurd (omega (arith, e))
called_least Max at [] e o = absurd (omega (arith, e))
called_least Max at (a ∷ []) e o = absurd (omega (arith, e))
called_least Max at (a ∷ b ∷ c ∷ xs) e o = absurd (omega (arith, e))
called_least Abs at [] e o = absurd (omega (arith, e))
called_least Abs at (a ∷ b ∷ xs) e o = absurd (omega (arith, e))
called_least Clamp at [] e o = absurd (omega (arith, e))
called_least Clamp at (a ∷ []) e o = absurd (omega (arith, e))
called_least Clamp at (a ∷ b ∷ []) e o = absurd (omega (arith, e))
called_least Clamp at (a ∷ b ∷ c ∷ d ∷ xs) e o = absurd (omega (arith, e))
