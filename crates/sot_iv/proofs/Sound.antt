-- Where the interval evaluation succeeds, each value is there and lies in the interval.
use Rattle.std.proofs.Common.{◌≡◌, zero, suc, ◌-◌, ◌^◌, ℤ, pos, negsuc, ◌≤ℤ◌, ◌*ℤ◌, ◌-ℤ◌, neg_ℤ, true, false, inl, inr, ⊎_elim, List, [], ◌∷◌, Ok, Err, refl}
use Rattle.std.proofs.Common.{sym, subst, arith}
use Rattle.std.specs.Prelude.{slice_index_or, int_le, int_lt, not}
use Rattle.std.proofs.lemmas.Bool.{cases_Bool, and_parts, and_from}
use Rattle.std.proofs.lemmas.Int.{ints}
use Rattle.sot_text.specs.declared.token.Span.{Span}
use Rattle.sot_box.specs.Sides.{Side, IsIn, nought}
use Rattle.sot_syntax_tree.specs.declared.operator.Op.{Op}
use Rattle.sot_syntax_tree.specs.declared.operator.Op.TheVariants.{Add, Sub, Mul, Div, Less, LessEqual, Greater, GreaterEqual, Equal, NotEqual, And, Or}
use Rattle.sot_syntax_tree.specs.declared.operator.Func.{Func}
use Rattle.sot_syntax_tree.specs.declared.operator.Func.TheVariants.{Min, Max, Abs, Clamp}
use Rattle.sot_lang.specs.declared.term.Term.{Term, Row_of-Term, end_of-Term, more_of-Term}
use Rattle.sot_lang.specs.declared.term.Term.TheVariants.{Number, Place, Binary', Rest', Neg', Not', Call', Rescale', If'}
use Rattle.sot_lang.specs.Values.{Outcome, value_of, values_of_parts, branch, word, is_word, truth, is_true, floor_div, floor_by, apply, called}
use Rattle.sot_box.specs.Boxes.{IsWithin}
use Rattle.sot_iv.specs.TermIntervals.{OrMayTrap, After, Joins, consed, IsLeast, IsResult, IsFitted, IsLeastResult, IsImage, IsIntervalHull, MayDivideByZero}
use Rattle.sot_iv.specs.TermIntervals.{IsWordRange, CanBe, result, rest_result, neg_result, not_result, rescale_result, called_result, IsTermInterval}
use Rattle.sot_iv.specs.TermIntervals.{ArePartIntervals}
use Rattle.sot_box.proofs.Ranges.{within_read}

-- a number between two of 64 bits is of 64 bits
pub between : (r : Side) (z : ℤ) → IsWordRange r → IsIn r z → is_word z ≡ true
between r z w i =
    let lo = (and_parts (int_le (negsuc 9223372036854775807) r.lo) (int_lt r.lo (pos 9223372036854775808)) w.0).0 in
    let hi = (and_parts (int_le (negsuc 9223372036854775807) r.hi) (int_lt r.hi (pos 9223372036854775808)) w.1).1 in
    let a : int_le (negsuc 9223372036854775807) z ≡ true = grind (arith, ints) in
    let b : int_lt z (pos 9223372036854775808) ≡ true = grind (arith, ints) in
    and_from _ _ a b

word_is : (at : Span) (z : ℤ) → is_word z ≡ true → word at z ≡ Ok z
word_is at z e = rw e refl

-- an operator gives its result, where that is in 64 bits and no divisor is 0
apply_is : (op : Op) (at : Span) (a b : ℤ) (y : Side) → IsIn y b → (MayDivideByZero op y → ⊥) → is_word (result op a b) ≡ true
    → apply op at a b ≡ Ok (result op a b)
apply_is Add at a b y i ne w = word_is at (result Add a b) w
apply_is Sub at a b y i ne w = word_is at (result Sub a b) w
apply_is Mul at a b y i ne w = word_is at (result Mul a b) w
apply_is Div at a (pos zero) y i ne w = absurd (ne i)
apply_is Div at a (pos (suc b)) y i ne w = word_is at (result Div a (pos (suc b))) w
apply_is Div at a (negsuc b) y i ne w = word_is at (result Div a (negsuc b)) w
apply_is Less at a b y i ne w = refl
apply_is LessEqual at a b y i ne w = refl
apply_is Greater at a b y i ne w = refl
apply_is GreaterEqual at a b y i ne w = refl
apply_is Equal at a b y i ne w = refl
apply_is NotEqual at a b y i ne w = refl
apply_is And at a b y i ne w = refl
apply_is Or at a b y i ne w = refl

pub after_ok : {A B : Type 0} (x : OrMayTrap A) (r : B) (go : A → Type 0) → After x (Ok r) go → (y : A) × (x ≡ Ok y) × go y
after_ok (Ok y) r go h = (y, refl, h)
after_ok (Err t) r go h = cc

applied_ok : (op : Op) (at : Span) (x y r : Side) (a b : ℤ) → IsLeastResult op at x y (Ok r) → IsIn x a → IsIn y b
    → (z : ℤ) × (apply op at a b ≡ Ok z) × IsIn r z
applied_ok op at x y r a b h ia ib =
    ⊎_elim
    (λ (zero' : MayDivideByZero op y × (◌≡◌ {A = OrMayTrap Side} (Ok r)
    (Err (record { at = at; kind = Rattle.sot_lang.specs.declared.trap.TrapKind.TheVariants.ZeroDivisor; lo = y.lo; hi = y.hi })))).
    absurd (let e = zero'.1 in cc))
    (λ (rest : (MayDivideByZero op y → ⊥) × ((s : Side) × IsLeast (IsResult op x y) s × IsFitted at s (Ok r))).
    let s = rest.1.0 in
    let least = rest.1.1 in
    let fit = rest.1.2 in
    let i : IsIn s (result op a b) = least.holds (result op a b) (record { a = a; b = b; a_in = ia; b_in = ib; is = refl }) in
    let w = between s (result op a b) fit.1 i in
    (result op a b, apply_is op at a b y ib rest.0 w, subst (λ q. IsIn q (result op a b)) (sym fit.0) i))
    h

image_ok : (f : List ℤ → ℤ) (at : Span) (xs : List Side) (r : Side) (zs : List ℤ) → IsImage f at xs (Ok r) → IsWithin xs zs
    → (is_word (f zs) ≡ true) × IsIn r (f zs)
image_ok f at xs r zs h w =
    let i : IsIn h.0 (f zs) = h.1.holds (f zs) (zs, w, refl) in
    (between h.0 (f zs) h.2.1 i, subst (λ q. IsIn q (f zs)) (sym h.2.0) i)

called_is : (f : Func) (at : Span) (zs : List ℤ) → is_word (called_result f zs) ≡ true → called f at zs ≡ Ok (called_result f zs)
called_is Min at [] w = refl
called_is Min at (a ∷ []) w = refl
called_is Min at (a ∷ b ∷ []) w = refl
called_is Min at (a ∷ b ∷ c ∷ zs) w = refl
called_is Max at [] w = refl
called_is Max at (a ∷ []) w = refl
called_is Max at (a ∷ b ∷ []) w = refl
called_is Max at (a ∷ b ∷ c ∷ zs) w = refl
called_is Abs at [] w = refl
called_is Abs at (a ∷ []) w = word_is at (called_result Abs (a ∷ [])) w
called_is Abs at (a ∷ b ∷ zs) w = refl
called_is Clamp at [] w = refl
called_is Clamp at (a ∷ []) w = refl
called_is Clamp at (a ∷ b ∷ []) w = refl
called_is Clamp at (a ∷ b ∷ c ∷ []) w = refl
called_is Clamp at (a ∷ b ∷ c ∷ d ∷ zs) w = refl

le_refl_ℤ : (z : ℤ) → z ≤ℤ z
le_refl_ℤ z = omega (arith, ints)

-- what a value must meet
abbrev Lies : Outcome ℤ → Side → Type 0
Lies o r = (z : ℤ) × (o ≡ Ok z) × IsIn r z

-- the value is one of the hull
hull_left : (x y r s : Side) (o : Outcome ℤ) → IsIntervalHull x y s → ◌≡◌ {A = OrMayTrap Side} (Ok r) (Ok s) → Lies o x → Lies o r
hull_left x y r s o h is l = (let e : r ≡ s = cc in (l.0, l.1, subst (λ q. IsIn q l.0) (sym e) (h.holds l.0 (inl l.2))))

hull_right : (x y r s : Side) (o : Outcome ℤ) → IsIntervalHull x y s → ◌≡◌ {A = OrMayTrap Side} (Ok r) (Ok s) → Lies o y → Lies o r
hull_right x y r s o h is l = (let e : r ≡ s = cc in (l.0, l.1, subst (λ q. IsIn q l.0) (sym e) (h.holds l.0 (inr l.2))))

branch_lies : (c a b : Outcome ℤ) (x r : Side) → Lies c x → (CanBe true x → Lies a r) → (CanBe false x → Lies b r) → Lies (branch c a b) r
branch_lies c a b x r l ha hb =
    ⊎_elim
    (λ t. let h = ha (l.0, l.2, t) in (h.0, rw (l.1, t) h.1, h.2))
    (λ f. let h = hb (l.0, l.2, f) in (h.0, rw (l.1, f) h.1, h.2))
    (cases_Bool (is_true l.0))

pub joins_ok : (x : OrMayTrap Side) (xs : List Side) (go : OrMayTrap (List Side) → Type 0) → Joins x go (Ok xs)
    → (y : Side) × (ys : List Side) × (x ≡ Ok y) × go (Ok ys) × (xs ≡ y ∷ ys)
joins_ok (Err t) xs go h = cc
joins_ok (Ok y) xs go h = joined_ok y xs go h.0 h.1 h.2
  where
    joined_ok : (y : Side) (xs : List Side) (go : OrMayTrap (List Side) → Type 0) (os : OrMayTrap (List Side)) → go os → Ok xs ≡ consed y os
        → (z : Side) × (ys : List Side) × (◌≡◌ {A = OrMayTrap Side} (Ok y) (Ok z)) × go (Ok ys) × (xs ≡ z ∷ ys)
    joined_ok y xs go (Err t) g e = cc
    joined_ok y xs go (Ok ys) g e = (y, ys, refl, g, cc)

mutual
  pub sound : (t : Term) (rs : List Side) (env : List ℤ) (r : Side) → IsWithin rs env → IsTermInterval t rs (Ok r) → Lies (value_of t env) r
  sound (Number z) rs env r w h = (let e : r ≡ record { lo = z; hi = z } = cc in (z, refl, subst (λ q. IsIn q z) (sym e) (le_refl_ℤ z, le_refl_ℤ z)))
  sound (Place n) rs env r w h =
      (let e : r ≡ slice_index_or rs n nought = cc in (
        slice_index_or env n (pos 0),
        refl,
        subst (λ q. IsIn q (slice_index_or env n (pos 0))) (sym e) (within_read rs env n w),
      ))
  sound (Binary' op p a q b at) rs env r w h =
      let x = after_ok h.0 r _ h.2 in
      let a' = sound a rs env x.0 w (subst (IsTermInterval a rs) x.1 h.1) in
      let y = after_ok x.2.0 r _ x.2.2 in
      let b' = sound b rs env y.0 w (subst (IsTermInterval b rs) y.1 x.2.1) in
      let z = applied_ok op at x.0 y.0 r a'.0 b'.0 y.2 a'.2 b'.2 in
      (z.0, rw (a'.1, b'.1) z.1, z.2)
  sound (Rest' p a by at) rs env r w h =
      let x = after_ok h.0 r _ h.2 in
      let a' = sound a rs env x.0 w (subst (IsTermInterval a rs) x.1 h.1) in
      let i = image_ok (rest_result by) at (x.0 ∷ []) r (a'.0 ∷ []) x.2 (a'.2.0, a'.2.1, tt) in
      (a'.0 -ℤ (by *ℤ floor_div a'.0 by), rw a'.1 refl, i.1)
  sound (Neg' p a at) rs env r w h =
      let x = after_ok h.0 r _ h.2 in
      let a' = sound a rs env x.0 w (subst (IsTermInterval a rs) x.1 h.1) in
      let i = image_ok neg_result at (x.0 ∷ []) r (a'.0 ∷ []) x.2 (a'.2.0, a'.2.1, tt) in
      (neg_ℤ a'.0, rw a'.1 (word_is at (neg_ℤ a'.0) i.0), i.1)
  sound (Not' p a at) rs env r w h =
      let x = after_ok h.0 r _ h.2 in
      let a' = sound a rs env x.0 w (subst (IsTermInterval a rs) x.1 h.1) in
      let i = image_ok not_result at (x.0 ∷ []) r (a'.0 ∷ []) x.2 (a'.2.0, a'.2.1, tt) in
      (truth (not (is_true a'.0)), rw a'.1 refl, i.1)
  sound (Call' f shape parts at) rs env r w h =
      let x = after_ok h.0 r _ h.2 in
      let zs = sound_row parts rs env x.0 w (subst (ArePartIntervals parts rs) x.1 h.1) in
      let i = image_ok (called_result f) at x.0 r zs.0 x.2 zs.2 in
      (called_result f zs.0, rw zs.1 (called_is f at zs.0 i.0), i.1)
  sound (Rescale' p a from to at) rs env r w h =
      let x = after_ok h.0 r _ h.2 in
      let a' = sound a rs env x.0 w (subst (IsTermInterval a rs) x.1 h.1) in
      let g : ℤ → ℤ = λ z. floor_by (z *ℤ pos (10 ^ (to - from))) (10 ^ (from - to)) in
      let i = image_ok (rescale_result from to) at (x.0 ∷ []) r (a'.0 ∷ []) x.2 (a'.2.0, a'.2.1, tt) in
      (g a'.0, rw a'.1 (word_is at (g a'.0) i.0), i.1)
  sound (If' p c q a s b at) rs env r w h =
      let x = after_ok h.0 r _ h.2 in
      let c' = sound c rs env x.0 w (subst (IsTermInterval c rs) x.1 h.1) in
      ⊎_elim
      (λ only. branch_lies (value_of c env) (value_of a env) (value_of b env) x.0 r c' (λ t. sound a rs env r w only.2) (λ f. absurd (only.1 f)))
      (λ more. ⊎_elim
      (λ only. branch_lies (value_of c env) (value_of a env) (value_of b env) x.0 r c' (λ t. absurd (only.1 t)) (λ f. sound b rs env r w only.2))
      (λ two.
      let y = after_ok two.2.0 r _ two.2.2 in
      let z = after_ok y.2.0 r _ y.2.2 in
      branch_lies (value_of c env) (value_of a env) (value_of b env) x.0 r c'
      (λ t. hull_left y.0 z.0 r z.2.0 (value_of a env) z.2.1 z.2.2 (sound a rs env y.0 w (subst (IsTermInterval a rs) y.1 two.2.1)))
      (λ f. hull_right y.0 z.0 r z.2.0 (value_of b env) z.2.1 z.2.2 (sound b rs env z.0 w (subst (IsTermInterval b rs) z.1 y.2.1))))
      more)
      x.2

  pub sound_row : {m : _} (ts : Row_of-Term m) (rs : List Side) (env : List ℤ) (xs : List Side) → IsWithin rs env → ArePartIntervals ts rs (Ok xs)
      → (zs : List ℤ) × (values_of_parts ts env ≡ Ok zs) × IsWithin xs zs
  sound_row end_of-Term rs env xs w h = (let e : xs ≡ [] = cc in ([], refl, subst (λ q. IsWithin q []) (sym e) tt))
  sound_row (more_of-Term t rest) rs env xs w h =
      let x = joins_ok h.0 xs _ h.2 in
      let z = sound t rs env x.0 w (subst (IsTermInterval t rs) x.2 h.1) in
      let zs = sound_row rest rs env x.1 w x.3 in
      (z.0 ∷ zs.0, rw (z.1, zs.1) refl, subst (λ q. IsWithin q (z.0 ∷ zs.0)) (sym x.4) (z.2.0, z.2.1, zs.2))
