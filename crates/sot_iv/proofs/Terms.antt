-- The evaluation by ends gives the least interval of an expression, or its first trap.
use Rattle.std.proofs.Common.{◌≡◌, ℕ, suc, ℤ, pos, Bool, true, false, inl, inr, ⊎_elim, List, [], ◌∷◌, length, Ok, Err, refl, sym, ap, ◌∙◌, subst, arith}
use Rattle.std.specs.Prelude.{int_lt, int_le, ◌&&◌, ◌||◌, not}
use Rattle.std.proofs.lemmas.Bool.{cases_Bool, and_parts, and_from}
use Rattle.std.proofs.lemmas.Int.{ints}
use Rattle.sot_text.specs.declared.token.Span.{Span}
use Rattle.sot_box.specs.Sides.{Side, IsIn, AreOrdered}
use Rattle.sot_box.specs.Boxes.{lows}
use Rattle.sot_syntax_tree.specs.declared.operator.Op.{Op}
use Rattle.sot_syntax_tree.specs.declared.operator.Op.TheVariants.{Add, Sub, Mul, Div, Less, LessEqual, Greater, GreaterEqual, Equal, NotEqual, And, Or}
use Rattle.sot_lang.specs.declared.term.Term.{Term, Row_of-Term, end_of-Term, more_of-Term, items-the_row-Term}
use Rattle.sot_lang.specs.declared.term.Term.TheVariants.{Number, Place, Binary', Rest', Neg', Not', Call', Rescale', If'}
use Rattle.sot_lang.specs.Values.{truth, is_true}
use Rattle.sot_lang.specs.TermPlaces.{HasPlaces, RowHasPlaces, HavePlaces}
use Rattle.sot_iv.specs.TermIntervals.{OrMayTrap, After, Joins, Chooses, IsLeast, IsResult, IsLeastResult, IsImage, IsIntervalHull, MayDivideByZero}
use Rattle.sot_iv.specs.TermIntervals.{rest_result, neg_result, not_result, rescale_result, called_result, result, IsTermInterval, ArePartIntervals}
use Rattle.sot_iv.specs.TermIntervals.{AreTermIntervals}
use Rattle.sot_iv.specs.Ends.{fitted, operated, quotient_or_trap, holds_zero, is_always, is_ever, rest, negation, denied, rescaled, hull, truths, quotient}
use Rattle.sot_iv.specs.Evaluation.{and_then, joined, chosen, called_side, term_interval, part_intervals, term_intervals}
use Rattle.sot_iv.proofs.Least.{IsOrdered, in_ordered, fitted_is, sum_least, difference_least, product_least, quotient_least, hull_is}
use Rattle.sot_iv.proofs.Truths.{Decides, decides_least, decides_swap, less_decides, at_most_decides, equal_decides, unequal_decides, sees, and_decides}
use Rattle.sot_iv.proofs.Truths.{or_decides, can_be_true, can_be_false, never_true, never_false, not_ever}
use Rattle.sot_iv.proofs.Images.{image_of, negation_least, rescaled_least, denied_least, truths_fit, called_least}
use Rattle.sot_iv.proofs.Rests.{rest_least}
use Rattle.sot_iv.proofs.Sound.{sound, sound_row}
use Rattle.sot_box.proofs.Ranges.{lows_within, within_in_order}

-- an interval of an expression has a number in it
pub interval_ordered : (t : Term) (rs : List Side) (r : Side) → AreOrdered rs → IsTermInterval t rs (Ok r) → IsOrdered r
interval_ordered t rs r o h = (let l = sound t rs (lows rs) r (lows_within rs o) h in in_ordered r l.0 l.2)

parts_ordered : {m : _} (ts : Row_of-Term m) (rs xs : List Side) → AreOrdered rs → ArePartIntervals ts rs (Ok xs) → AreOrdered xs
parts_ordered ts rs xs o h = (let l = sound_row ts rs (lows rs) xs (lows_within rs o) h in within_in_order xs l.0 l.2)

-- no operator but a quotient divides
by_ends : (op : Op) (at : Span) (x y r : Side) → (MayDivideByZero op y → ⊥) → IsLeast (IsResult op x y) r → IsLeastResult op at x y (fitted at r)
by_ends op at x y r no' h = inr (no', (r, h, fitted_is at r))

by_truths : (op : Op) (at : Span) (t : ℤ → ℤ → Bool) (x y : Side) (u w : Bool) → (MayDivideByZero op y → ⊥) → ((a b : ℤ) → result op a b ≡ truth (t a b))
    → Decides t x y u w → IsLeastResult op at x y (Ok (truths u w))
by_truths op at t x y u w no' is d = inr (no', (truths u w, decides_least op t x y u w is d, truths_fit at u w))

zero_in : (y : Side) → holds_zero y ≡ true → IsIn y (pos 0)
zero_in y t =
    let p = and_parts (int_le y.lo (pos 0)) (int_le (pos 0) y.hi) t in
    ((let h = p.0 in grind (arith, ints, h)), (let h = p.1 in grind (arith, ints, h)))

no_zero_in : (y : Side) → holds_zero y ≡ false → IsIn y (pos 0) → ⊥
no_zero_in y f i =
    let a : int_le y.lo (pos 0) ≡ true = grind (arith, ints, i.0) in
    let b : int_le (pos 0) y.hi ≡ true = grind (arith, ints, i.1) in
    true_not_false (sym (and_from (int_le y.lo (pos 0)) (int_le (pos 0) y.hi) a b) ∙ f)
  where
    true_not_false : true ≡ false → ⊥
    true_not_false e = cc

pub quotient_is : (at : Span) (x y : Side) → IsOrdered x → IsOrdered y → IsLeastResult Div at x y (quotient_or_trap at x y)
unfolding quotient_or_trap
quotient_is at x y xo yo =
    ⊎_elim
    (λ t. rw t (inl (zero_in y t, refl)))
    (λ f. rw f (inr (no_zero_in y f, (quotient x y, quotient_least x y xo yo f, fitted_is at (quotient x y)))))
    (cases_Bool (holds_zero y))

pub operated_is : (op : Op) (at : Span) (x y : Side) → IsOrdered x → IsOrdered y → IsLeastResult op at x y (operated op at x y)
operated_is Add at x y xo yo = by_ends Add at x y _ (λ h. h) (sum_least x y xo yo)
operated_is Sub at x y xo yo = by_ends Sub at x y _ (λ h. h) (difference_least x y xo yo)
operated_is Mul at x y xo yo = by_ends Mul at x y _ (λ h. h) (product_least x y xo yo)
operated_is Div at x y xo yo = quotient_is at x y xo yo
operated_is Less at x y xo yo = by_truths Less at (λ a b. int_lt a b) x y _ _ (λ h. h) (λ a b. refl) (less_decides x y xo yo)
operated_is LessEqual at x y xo yo = by_truths LessEqual at (λ a b. int_le a b) x y _ _ (λ h. h) (λ a b. refl) (at_most_decides x y xo yo)
operated_is Greater at x y xo yo = by_truths Greater at (λ a b. int_lt b a) x y _ _ (λ h. h) (λ a b. refl) (decides_swap _ x y _ _ (less_decides y x yo xo))
operated_is GreaterEqual at x y xo yo =
    by_truths GreaterEqual at (λ a b. int_le b a) x y _ _ (λ h. h) (λ a b. refl) (decides_swap _ x y _ _ (at_most_decides y x yo xo))
operated_is Equal at x y xo yo = by_truths Equal at (λ a b. int_le a b && int_le b a) x y _ _ (λ h. h) (λ a b. refl) (equal_decides x y xo yo)
operated_is NotEqual at x y xo yo = by_truths NotEqual at (λ a b. not (int_le a b && int_le b a)) x y _ _ (λ h. h) (λ a b. refl) (unequal_decides x y xo yo)
operated_is And at x y xo yo = by_truths And at (λ a b. is_true a && is_true b) x y _ _ (λ h. h) (λ a b. refl) (and_decides x y (sees x xo) (sees y yo))
operated_is Or at x y xo yo = by_truths Or at (λ a b. is_true a || is_true b) x y _ _ (λ h. h) (λ a b. refl) (or_decides x y (sees x xo) (sees y yo))

binary_is : (op : Op) (at : Span) (b : Term) (rs : List Side) (o p : OrMayTrap Side) → IsTermInterval b rs p → ((x : Side) → o ≡ Ok x → IsOrdered x)
    → ((y : Side) → p ≡ Ok y → IsOrdered y) →
    After o (joined (operated op at) o p) (λ x. (y : OrMayTrap Side) × IsTermInterval b rs y
    × After y (joined (operated op at) o p) (λ y. IsLeastResult op at x y (joined (operated op at) o p)))
binary_is op at b rs (Err t) p h xo yo = refl
binary_is op at b rs (Ok x) (Err t) h xo yo = (Err t, h, refl)
binary_is op at b rs (Ok x) (Ok y) h xo yo = (Ok y, h, operated_is op at x y (xo x refl) (yo y refl))

-- an operator with one operand
unary_is : (f : List ℤ → ℤ) (at : Span) (g : Side → OrMayTrap Side) (o : OrMayTrap Side) → ((x : Side) → o ≡ Ok x → IsImage f at (x ∷ []) (g x))
    → After o (and_then o g) (λ x. IsImage f at (x ∷ []) (and_then o g))
unary_is f at g (Err t) h = refl
unary_is f at g (Ok x) h = h x refl

-- a condition's branches
pub chosen_is : {A : Type 0} (f : A → A → OrMayTrap A) (x : Side) (o p : OrMayTrap A) (first second both : OrMayTrap A → Type 0) → IsOrdered x → first o
    → second p → both (joined f o p) →
    Chooses x (first (chosen f x o p)) (second (chosen f x o p)) (both (chosen f x o p))
chosen_is f x o p first second both xo a b c =
    let s = sees x xo in
    ⊎_elim
    (λ ever. ⊎_elim
    (λ always. inl (can_be_true x s ever, never_false x s always, rw (ever, always) a))
    (λ not_always. inr (inr (can_be_false x s not_always, can_be_true x s ever, rw (ever, not_always) c)))
    (cases_Bool (is_always x)))
    (λ never. inr (inl (can_be_false x s (not_ever x xo never), never_true x s never, rw never b)))
    (cases_Bool (is_ever x))

hulls_are : (b : Term) (rs : List Side) (o p : OrMayTrap Side) → IsTermInterval b rs p → ((x : Side) → o ≡ Ok x → IsOrdered x)
    → ((y : Side) → p ≡ Ok y → IsOrdered y) →
    After o (joined (λ y z. Ok (hull y z)) o p) (λ y. (z : OrMayTrap Side) × IsTermInterval b rs z
    × After z (joined (λ y z. Ok (hull y z)) o p) (λ z. (r : Side) × IsIntervalHull y z r × (joined (λ y z. Ok (hull y z)) o p ≡ Ok r)))
hulls_are b rs (Err t) p h xo yo = refl
hulls_are b rs (Ok x) (Err t) h xo yo = (Err t, h, refl)
hulls_are b rs (Ok x) (Ok y) h xo yo = (Ok y, h, (hull x y, hull_is x y (xo x refl) (yo y refl), refl))

if_is : (a b : Term) (rs : List Side) (c o p : OrMayTrap Side) → ((x : Side) → c ≡ Ok x → IsOrdered x) → IsTermInterval a rs o → IsTermInterval b rs p
    → ((x : Side) → o ≡ Ok x → IsOrdered x) → ((y : Side) → p ≡ Ok y → IsOrdered y) →
    After c (and_then c (λ x. chosen (λ y z. Ok (hull y z)) x o p)) (λ x. Chooses x
    (IsTermInterval a rs (and_then c (λ x. chosen (λ y z. Ok (hull y z)) x o p)))
    (IsTermInterval b rs (and_then c (λ x. chosen (λ y z. Ok (hull y z)) x o p)))
    ((y : OrMayTrap Side) × IsTermInterval a rs y × After y (and_then c (λ x. chosen (λ y z. Ok (hull y z)) x o p))
    (λ y. (z : OrMayTrap Side) × IsTermInterval b rs z × After z (and_then c (λ x. chosen (λ y z. Ok (hull y z)) x o p))
    (λ z. (r : Side) × IsIntervalHull y z r × (and_then c (λ x. chosen (λ y z. Ok (hull y z)) x o p) ≡ Ok r)))))
if_is a b rs (Err t) o p co ha hb ao bo = refl
if_is a b rs (Ok x) o p co ha hb ao bo =
    chosen_is (λ y z. Ok (hull y z)) x o p (IsTermInterval a rs) (IsTermInterval b rs)
    (λ q. (y : OrMayTrap Side) × IsTermInterval a rs y × After y q
    (λ y. (z : OrMayTrap Side) × IsTermInterval b rs z × After z q (λ z. (r : Side) × IsIntervalHull y z r × (q ≡ Ok r))))
    (co x refl) ha hb (o, ha, hulls_are b rs o p hb ao bo)

call_is : (f : _) (at : Span) (o : OrMayTrap (List Side)) → ((xs : List Side) → o ≡ Ok xs → IsImage (called_result f) at xs (called_side f at xs))
    → After o (and_then o (called_side f at)) (λ xs. IsImage (called_result f) at xs (and_then o (called_side f at)))
call_is f at (Err t) h = refl
call_is f at (Ok xs) h = h xs refl

joins_is : (go : OrMayTrap (List Side) → Type 0) (o : OrMayTrap Side) (p : OrMayTrap (List Side)) → go p → Joins o go (joined (λ x xs. Ok (x ∷ xs)) o p)
joins_is go (Err t) p h = refl
joins_is go (Ok x) (Ok xs) h = (Ok xs, h, refl)
joins_is go (Ok x) (Err t) h = (Err t, h, refl)

count_joined : (o : OrMayTrap Side) (p : OrMayTrap (List Side)) (xs : List Side) (n : ℕ) → joined (λ y ys. Ok (y ∷ ys)) o p ≡ Ok xs
    → ((ys : List Side) → p ≡ Ok ys → length ys ≡ n) → length xs ≡ suc n
count_joined (Err t) p xs n e h = cc
count_joined (Ok y) (Err t) xs n e h = cc
count_joined (Ok y) (Ok ys) xs n e h = (let same : y ∷ ys ≡ xs = cc in ap length (sym same) ∙ ap suc (h ys refl))

parts_count : {m : _} (ts : Row_of-Term m) (rs xs : List Side) → part_intervals ts rs ≡ Ok xs → length xs ≡ length (items-the_row-Term _ ts)
parts_count end_of-Term rs xs e = (let same : [] ≡ xs = cc in ap length (sym same))
parts_count (more_of-Term t rest) rs xs e = count_joined (term_interval t rs) (part_intervals rest rs) xs _ e (λ ys is. parts_count rest rs ys is)

mutual
  pub term_is : (n : ℕ) (t : Term) (rs : List Side) → AreOrdered rs → HasPlaces n t → IsTermInterval t rs (term_interval t rs)
  term_is n (Number z) rs o h = refl
  term_is n (Place k) rs o h = refl
  term_is n (Binary' op p a q b at) rs o h =
      let ha = term_is n a rs o h.0 in
      let hb = term_is n b rs o h.1 in (
        term_interval a rs,
        ha,
        binary_is op at b rs (term_interval a rs) (term_interval b rs) hb
            (λ x e. interval_ordered a rs x o (subst (IsTermInterval a rs) e ha))
            (λ y e. interval_ordered b rs y o (subst (IsTermInterval b rs) e hb)),
      )
  term_is n (Rest' p a by at) rs o h =
      let ha = term_is n a rs o h.1 in (
        term_interval a rs,
        ha,
        unary_is (rest_result by) at _ (term_interval a rs)
            (λ x e. image_of (rest_result by) at (x ∷ []) (rest by x) (rest_least by x h.0 (interval_ordered a rs x o (subst (IsTermInterval a rs) e ha)))),
      )
  term_is n (Neg' p a at) rs o h =
      let ha = term_is n a rs o h in (
        term_interval a rs,
        ha,
        unary_is neg_result at _ (term_interval a rs)
            (λ x e. image_of neg_result at (x ∷ []) (negation x) (negation_least x (interval_ordered a rs x o (subst (IsTermInterval a rs) e ha)))),
      )
  term_is n (Not' p a at) rs o h =
      let ha = term_is n a rs o h in (
        term_interval a rs,
        ha,
        unary_is not_result at _ (term_interval a rs)
            (λ x e. (
              denied x,
              denied_least x (interval_ordered a rs x o (subst (IsTermInterval a rs) e ha)),
              truths_fit at (not (is_ever x)) (not (is_always x)),
            )),
      )
  term_is n (Call' f shape parts at) rs o h =
      let hp = row_is n parts rs o h.1 in (
        part_intervals parts rs,
        hp,
        call_is f at (part_intervals parts rs)
            (λ xs e. called_least f at xs (parts_count parts rs xs e ∙ h.0) (parts_ordered parts rs xs o (subst (ArePartIntervals parts rs) e hp))),
      )
  term_is n (Rescale' p a from to at) rs o h =
      let ha = term_is n a rs o h.2 in (
        term_interval a rs,
        ha,
        unary_is (rescale_result from to) at _ (term_interval a rs)
            (λ x e. image_of (rescale_result from to) at (x ∷ []) (rescaled from to x)
            (rescaled_least from to x (interval_ordered a rs x o (subst (IsTermInterval a rs) e ha)))),
      )
  term_is n (If' p c q a s b at) rs o h =
      let hc = term_is n c rs o h.0 in
      let ha = term_is n a rs o h.1 in
      let hb = term_is n b rs o h.2 in (
        term_interval c rs,
        hc,
        if_is a b rs (term_interval c rs) (term_interval a rs) (term_interval b rs)
            (λ x e. interval_ordered c rs x o (subst (IsTermInterval c rs) e hc)) ha hb
            (λ x e. interval_ordered a rs x o (subst (IsTermInterval a rs) e ha))
            (λ y e. interval_ordered b rs y o (subst (IsTermInterval b rs) e hb)),
      )

  row_is : {m : _} (n : ℕ) (ts : Row_of-Term m) (rs : List Side) → AreOrdered rs → RowHasPlaces n ts → ArePartIntervals ts rs (part_intervals ts rs)
  row_is n end_of-Term rs o h = refl
  row_is n (more_of-Term t rest) rs o h = (
    term_interval t rs,
    term_is n t rs o h.0,
    joins_is (λ os. ArePartIntervals rest rs os) (term_interval t rs) (part_intervals rest rs)
        (row_is n rest rs o h.1),
  )

-- the least intervals of a list of expressions
pub terms_are : (n : ℕ) (ts : List Term) (rs : List Side) → AreOrdered rs → HavePlaces n ts → AreTermIntervals ts rs (term_intervals ts rs)
terms_are n [] rs o h = refl
terms_are n (t ∷ ts) rs o h =
    (term_interval t rs, term_is n t rs o h.0, joins_is (λ os. AreTermIntervals ts rs os) (term_interval t rs) (term_intervals ts rs) (terms_are n ts rs o h.1))
