-- Interval evaluations of the running example.
use Rattle.std.proofs.Common.{◌≡◌, ℕ, zero, suc, ◌*◌, ℤ, pos, negsuc, ◌+ℤ◌, ◌≤ℤ◌, Bool, true, false, ◌⊎◌, inl, inr, ⊎_elim, refl, sym, ap, Ok, [], ◌∷◌, arith}
use Rattle.std.specs.Prelude.{int_lt, ◌<ℤ◌}
use Rattle.std.proofs.lemmas.Int.{ints}
use Rattle.std.proofs.lemmas.Bool.{false≢true}
use Rattle.std.specs.Global.{Global}
use Rattle.sot_box.specs.Sides.{Side, IsIn}
use Rattle.sot_box.specs.Regions.{Covers}
use Rattle.sot_syntax_tree.specs.declared.operator.Op.TheVariants.{Add, Greater, Less}
use Rattle.sot_lang.specs.declared.term.Term.TheVariants.{Number, Place, Binary', If'}
use Rattle.sot_lang.specs.Values.{is_word, truth, is_true}
use Rattle.sot_lang.specs.Line.{side, somewhere, boxed, next_x, pos_plant, slow_term, nav}
use Rattle.sot_iv.specs.TermIntervals.{IsLeast, IsResult, IsWordRange, IsLeastResult, IsTermInterval, CanBe}
use Rattle.sot_tube.specs.Tubes.{IsNextBox, StaysInside}

-- a small number is in 64 bits
pub small_word : (z : ℤ) → negsuc 999 ≤ℤ z → z ≤ℤ pos 1000 → is_word z ≡ true
small_word z low high = grind (arith, ints)

pub small_range : (lo hi : ℤ) → lo ≤ℤ hi → negsuc 999 ≤ℤ lo → hi ≤ℤ pos 1000 → IsWordRange (side lo hi)
small_range lo hi le low high = (small_word lo low (omega (arith, ints)), small_word hi (omega (arith, ints)) high)

add_least : (x y : Side) → x.lo ≤ℤ x.hi → y.lo ≤ℤ y.hi → IsLeast (IsResult Add x y) (side (x.lo +ℤ y.lo) (x.hi +ℤ y.hi))
add_least x y p q = record {
  holds = λ z s. (omega (arith, ints, s.is, s.a_in.0, s.b_in.0), omega (arith, ints, s.is, s.a_in.1, s.b_in.1));
  low = record { a = x.lo; b = y.lo; a_in = (omega (arith, ints), p); b_in = (omega (arith, ints), q); is = refl };
  high = record { a = x.hi; b = y.hi; a_in = (p, omega (arith, ints)); b_in = (q, omega (arith, ints)); is = refl };
}

pub add_box : (x y : Side) → x.lo ≤ℤ x.hi → y.lo ≤ℤ y.hi → IsWordRange (side (x.lo +ℤ y.lo) (x.hi +ℤ y.hi))
    → IsLeastResult Add somewhere x y (Ok (side (x.lo +ℤ y.lo) (x.hi +ℤ y.hi)))
add_box x y p q w = inr ((λ no'. no'), (side (x.lo +ℤ y.lo) (x.hi +ℤ y.hi), add_least x y p q, (refl, w)))

-- comparisons that are decided
truth_lt : (a b : ℤ) → a <ℤ b → truth (int_lt a b) ≡ pos 1
truth_lt a b lt = grind (arith, ints)

truth_ge : (a b : ℤ) → b ≤ℤ a → truth (int_lt a b) ≡ pos 0
truth_ge a b ge = grind (arith, ints)

pub less_true : (x y : Side) → x.lo ≤ℤ x.hi → y.lo ≤ℤ y.hi → x.hi <ℤ y.lo → IsLeastResult Less somewhere x y (Ok (side (pos 1) (pos 1)))
less_true x y p q lt = inr ((λ no'. no'), (side (pos 1) (pos 1), least, (refl, (refl, refl))))
  where
    one : (z : ℤ) → IsResult Less x y z → z ≡ pos 1
    one z s = rw s.is (truth_lt s.a s.b (omega (arith, ints, s.a_in.1, s.b_in.0)))

    some : IsResult Less x y (pos 1)
    some = record { a = x.lo; b = y.lo; a_in = (omega (arith, ints), p); b_in = (omega (arith, ints), q); is = sym (truth_lt x.lo y.lo (omega (arith, ints))) }

    least : IsLeast (IsResult Less x y) (side (pos 1) (pos 1))
    least = record { holds = λ z s. (omega (arith, ints, one z s), omega (arith, ints, one z s)); low = some; high = some }

pub less_false : (x y : Side) → x.lo ≤ℤ x.hi → y.lo ≤ℤ y.hi → y.hi ≤ℤ x.lo → IsLeastResult Less somewhere x y (Ok (side (pos 0) (pos 0)))
less_false x y p q lt = inr ((λ no'. no'), (side (pos 0) (pos 0), least, (refl, (refl, refl))))
  where
    one : (z : ℤ) → IsResult Less x y z → z ≡ pos 0
    one z s = rw s.is (truth_ge s.a s.b (omega (arith, ints, s.a_in.0, s.b_in.1)))

    some : IsResult Less x y (pos 0)
    some = record { a = x.lo; b = y.lo; a_in = (omega (arith, ints), p); b_in = (omega (arith, ints), q); is = sym (truth_ge x.lo y.lo (omega (arith, ints))) }

    least : IsLeast (IsResult Less x y) (side (pos 0) (pos 0))
    least = record { holds = λ z s. (omega (arith, ints, one z s), omega (arith, ints, one z s)); low = some; high = some }

pub greater_true : (x y : Side) → x.lo ≤ℤ x.hi → y.lo ≤ℤ y.hi → y.hi <ℤ x.lo → IsLeastResult Greater somewhere x y (Ok (side (pos 1) (pos 1)))
greater_true x y p q lt = inr ((λ no'. no'), (side (pos 1) (pos 1), least, (refl, (refl, refl))))
  where
    one : (z : ℤ) → IsResult Greater x y z → z ≡ pos 1
    one z s = rw s.is (truth_lt s.b s.a (omega (arith, ints, s.a_in.0, s.b_in.1)))

    some : IsResult Greater x y (pos 1)
    some = record { a = x.lo; b = y.lo; a_in = (omega (arith, ints), p); b_in = (omega (arith, ints), q); is = sym (truth_lt y.lo x.lo (omega (arith, ints))) }

    least : IsLeast (IsResult Greater x y) (side (pos 1) (pos 1))
    least = record { holds = λ z s. (omega (arith, ints, one z s), omega (arith, ints, one z s)); low = some; high = some }

pub greater_false : (x y : Side) → x.lo ≤ℤ x.hi → y.lo ≤ℤ y.hi → x.hi ≤ℤ y.lo → IsLeastResult Greater somewhere x y (Ok (side (pos 0) (pos 0)))
greater_false x y p q lt = inr ((λ no'. no'), (side (pos 0) (pos 0), least, (refl, (refl, refl))))
  where
    one : (z : ℤ) → IsResult Greater x y z → z ≡ pos 0
    one z s = rw s.is (truth_ge s.b s.a (omega (arith, ints, s.a_in.1, s.b_in.0)))

    some : IsResult Greater x y (pos 0)
    some = record { a = x.lo; b = y.lo; a_in = (omega (arith, ints), p); b_in = (omega (arith, ints), q); is = sym (truth_ge y.lo x.lo (omega (arith, ints))) }

    least : IsLeast (IsResult Greater x y) (side (pos 0) (pos 0))
    least = record { holds = λ z s. (omega (arith, ints, one z s), omega (arith, ints, one z s)); low = some; high = some }

pub one_can : CanBe true (side (pos 1) (pos 1))
one_can = (pos 1, (omega (arith, ints), omega (arith, ints)), refl)

pub one_only : CanBe false (side (pos 1) (pos 1)) → ⊥
one_only c = is_one c.0 (omega (arith, ints, c.1.0, c.1.1)) c.2
  where
    is_one : (z : ℤ) → z ≡ pos 1 → is_true z ≡ false → ⊥
    is_one z e f = let a = ap is_true e in false≢true cc

pub nought_can : CanBe false (side (pos 0) (pos 0))
nought_can = (pos 0, (omega (arith, ints), omega (arith, ints)), refl)

pub nought_only : CanBe true (side (pos 0) (pos 0)) → ⊥
nought_only c = is_0 c.0 (omega (arith, ints, c.1.0, c.1.1)) c.2
  where
    is_0 : (z : ℤ) → z ≡ pos 0 → is_true z ≡ true → ⊥
    is_0 z e f = let a = ap is_true e in false≢true cc

-- on the whole of the safe region both conditions of the safe node are undecided
truth_in : (b : Bool) → IsIn (side (pos 0) (pos 1)) (truth b)
truth_in true = (omega (arith, ints), omega (arith, ints))
truth_in false = (omega (arith, ints), omega (arith, ints))

greater_open : IsLeastResult Greater somewhere (side (negsuc 39) (pos 40)) (side (pos 10) (pos 10)) (Ok (side (pos 0) (pos 1)))
greater_open = inr (
  (λ no'. no'),
  (
    side (pos 0) (pos 1),
    record {
      holds = λ z s. rw s.is (truth_in (int_lt s.b s.a));
      low =
          record { a = negsuc 39; b = pos 10; a_in = (omega (arith, ints), omega (arith, ints)); b_in = (omega (arith, ints), omega (arith, ints)); is = refl };
      high = record { a = pos 40; b = pos 10; a_in = (omega (arith, ints), omega (arith, ints)); b_in = (omega (arith, ints), omega (arith, ints)); is = refl };
    },
    (refl, (refl, refl)),
  ),
)

less_open : IsLeastResult Less somewhere (side (negsuc 39) (pos 40)) (side (negsuc 9) (negsuc 9)) (Ok (side (pos 0) (pos 1)))
less_open = inr (
  (λ no'. no'),
  (
    side (pos 0) (pos 1),
    record {
      holds = λ z s. rw s.is (truth_in (int_lt s.a s.b));
      low =
          record { a = pos 40; b = negsuc 9; a_in = (omega (arith, ints), omega (arith, ints)); b_in = (omega (arith, ints), omega (arith, ints)); is = refl };
      high =
          record {
            a = negsuc 39;
            b = negsuc 9;
            a_in = (omega (arith, ints), omega (arith, ints));
            b_in = (omega (arith, ints), omega (arith, ints));
            is = refl;
          };
    },
    (refl, (refl, refl)),
  ),
)

can_not : CanBe false (side (pos 0) (pos 1))
can_not = (pos 0, (omega (arith, ints), omega (arith, ints)), refl)

can : CanBe true (side (pos 0) (pos 1))
can = (pos 1, (omega (arith, ints), omega (arith, ints)), refl)

module _ (g : Global) where
  -- the interval of what the safe node drafts, with its plant in this interval
  abbrev pub DraftIs : Side → Side → Type 0
  DraftIs cell r = IsTermInterval (slow_term g) (cell ∷ []) (Ok r)

  pub far : (cell : Side) → cell.lo ≤ℤ cell.hi → cell.hi <ℤ negsuc 9 → DraftIs cell (side (pos 2) (pos 2))
  far cell p lt = (
    Ok (side (pos 0) (pos 0)),
    (Ok cell, refl, (Ok (side (pos 10) (pos 10)), refl, greater_false cell (side (pos 10) (pos 10)) p (omega (arith, ints)) (omega (arith, ints)))),
    inr (inl (
      nought_can,
      nought_only,
      (
        Ok (side (pos 1) (pos 1)),
        (Ok cell, refl, (Ok (side (negsuc 9) (negsuc 9)), refl, less_true cell (side (negsuc 9) (negsuc 9)) p (omega (arith, ints)) lt)),
        inl (one_can, one_only, refl),
      ),
    )),
  )

  pub near : (cell : Side) → cell.lo ≤ℤ cell.hi → negsuc 9 ≤ℤ cell.lo → cell.hi ≤ℤ pos 10 → DraftIs cell (side (pos 0) (pos 0))
  near cell p lo hi = (
    Ok (side (pos 0) (pos 0)),
    (Ok cell, refl, (Ok (side (pos 10) (pos 10)), refl, greater_false cell (side (pos 10) (pos 10)) p (omega (arith, ints)) hi)),
    inr (inl (
      nought_can,
      nought_only,
      (
        Ok (side (pos 0) (pos 0)),
        (Ok cell, refl, (Ok (side (negsuc 9) (negsuc 9)), refl, less_false cell (side (negsuc 9) (negsuc 9)) p (omega (arith, ints)) lo)),
        inr (inl (nought_can, nought_only, refl)),
      ),
    )),
  )

  pub high : (cell : Side) → cell.lo ≤ℤ cell.hi → pos 10 <ℤ cell.lo → DraftIs cell (side (negsuc 1) (negsuc 1))
  high cell p lo = (
    Ok (side (pos 1) (pos 1)),
    (Ok cell, refl, (Ok (side (pos 10) (pos 10)), refl, greater_true cell (side (pos 10) (pos 10)) p (omega (arith, ints)) lo)),
    inl (one_can, one_only, refl),
  )

  pub undecided : DraftIs (side (negsuc 39) (pos 40)) (side (negsuc 1) (pos 2))
  undecided = (
    Ok (side (pos 0) (pos 1)),
    (Ok (side (negsuc 39) (pos 40)), refl, (Ok (side (pos 10) (pos 10)), refl, greater_open)),
    inr (inr (can_not, can, (Ok (side (negsuc 1) (negsuc 1)), refl, (Ok (side (pos 0) (pos 2)), inner, (side (negsuc 1) (pos 2), outer_hull, refl))))),
  )
    where
      outer_hull : IsLeast (λ z. IsIn (side (negsuc 1) (negsuc 1)) z ⊎ IsIn (side (pos 0) (pos 2)) z) (side (negsuc 1) (pos 2))
      outer_hull = record {
        holds = λ z s. ⊎_elim (λ i. (omega (arith, ints, i.0), omega (arith, ints, i.1))) (λ i. (omega (arith, ints, i.0), omega (arith, ints, i.1))) s;
        low = inl (omega (arith, ints), omega (arith, ints));
        high = inr (omega (arith, ints), omega (arith, ints));
      }

      inner_hull : IsLeast (λ z. IsIn (side (pos 2) (pos 2)) z ⊎ IsIn (side (pos 0) (pos 0)) z) (side (pos 0) (pos 2))
      inner_hull = record {
        holds = λ z s. ⊎_elim (λ i. (omega (arith, ints, i.0), omega (arith, ints, i.1))) (λ i. (omega (arith, ints, i.0), omega (arith, ints, i.1))) s;
        low = inr (omega (arith, ints), omega (arith, ints));
        high = inl (omega (arith, ints), omega (arith, ints));
      }

      inner : IsTermInterval (If' (boxed g) (Binary' Less (boxed g) (Place 0) (boxed g) (Number (negsuc 9)) somewhere) (boxed g) (Number (pos 2)) (boxed g)
          (Number (pos 0)) somewhere) (side (negsuc 39) (pos 40) ∷ []) (Ok (side (pos 0) (pos 2)))
      inner = (
        Ok (side (pos 0) (pos 1)),
        (Ok (side (negsuc 39) (pos 40)), refl, (Ok (side (negsuc 9) (negsuc 9)), refl, less_open)),
        inr (inr (can_not, can, (Ok (side (pos 2) (pos 2)), refl, (Ok (side (pos 0) (pos 0)), refl, (side (pos 0) (pos 2), inner_hull, refl))))),
      )

  -- one tick, with commands in an interval
  pub next_box : (b c : Side) → b.lo ≤ℤ b.hi → c.lo ≤ℤ c.hi → IsWordRange (side (b.lo +ℤ c.lo) (b.hi +ℤ c.hi))
      → IsWordRange (side (b.lo +ℤ c.lo +ℤ negsuc 0) (b.hi +ℤ c.hi +ℤ pos 1))
      → IsNextBox (pos_plant g) (b ∷ []) (c ∷ []) [] (Ok (side (b.lo +ℤ c.lo +ℤ negsuc 0) (b.hi +ℤ c.hi +ℤ pos 1) ∷ []))
  next_box b c p q w v = (Ok (side (b.lo +ℤ c.lo +ℤ negsuc 0) (b.hi +ℤ c.hi +ℤ pos 1)), term, (Ok [], refl, refl))
    where
      term : IsTermInterval (next_x g) (b ∷ c ∷ side (negsuc 0) (pos 1) ∷ []) (Ok (side (b.lo +ℤ c.lo +ℤ negsuc 0) (b.hi +ℤ c.hi +ℤ pos 1)))
      term = (
        Ok (side (b.lo +ℤ c.lo) (b.hi +ℤ c.hi)),
        (Ok b, refl, (Ok c, refl, add_box b c p q w)),
        (
          Ok (side (negsuc 0) (pos 1)),
          refl,
          add_box (side (b.lo +ℤ c.lo) (b.hi +ℤ c.hi)) (side (negsuc 0) (pos 1)) (omega (arith, ints)) (omega (arith, ints))
              v,
        ),
      )

  -- one tick, with any commands
  pub any_box : (lo hi : ℤ) → lo ≤ℤ hi → negsuc 99 ≤ℤ lo → hi ≤ℤ pos 100
      → IsNextBox (pos_plant g) (side lo hi ∷ []) (side (negsuc 1) (pos 2) ∷ []) [] (Ok (side (lo +ℤ negsuc 1 +ℤ negsuc 0) (hi +ℤ pos 2 +ℤ pos 1) ∷ []))
  any_box lo hi le low high =
      next_box (side lo hi) (side (negsuc 1) (pos 2)) le (omega (arith, ints))
      (small_range (lo +ℤ negsuc 1) (hi +ℤ pos 2) (omega (arith, ints)) (omega (arith, ints)) (omega (arith, ints)))
      (small_range (lo +ℤ negsuc 1 +ℤ negsuc 0) (hi +ℤ pos 2 +ℤ pos 1) (omega (arith, ints)) (omega (arith, ints)) (omega (arith, ints)))

  pub covers : (lo hi : ℤ) → negsuc 39 ≤ℤ lo → hi ≤ℤ pos 40 → Covers (nav g).safe.boxes (side lo hi ∷ [])
  covers lo hi p q [] w = absurd w
  covers lo hi p q (x ∷ []) w = inl (omega (arith, ints, w.0), omega (arith, ints, w.1), tt)
  covers lo hi p q (x ∷ y ∷ ys) w = absurd w.2

  -- with any commands a box grows by 3 a tick on either side
  pub any_stays : (k : ℕ) (lo hi : ℤ) → lo ≤ℤ hi → (negsuc 39 +ℤ pos (3 * k)) ≤ℤ lo → (hi +ℤ pos (3 * k)) ≤ℤ pos 40
      → StaysInside (pos_plant g) (side (negsuc 1) (pos 2) ∷ []) [] (nav g).safe.boxes (side lo hi ∷ []) k
  any_stays zero lo hi le low high = covers lo hi (omega (arith, ints)) (omega (arith, ints))
  any_stays (suc k) lo hi le low high = (
    covers lo hi (omega (arith, ints)) (omega (arith, ints)),
    (
      side (lo +ℤ negsuc 1 +ℤ negsuc 0) (hi +ℤ pos 2 +ℤ pos 1) ∷ [],
      any_box lo hi le (omega (arith, ints)) (omega (arith, ints)),
      any_stays k (lo +ℤ negsuc 1 +ℤ negsuc 0) (hi +ℤ pos 2 +ℤ pos 1) (omega (arith, ints)) (omega (arith, ints)) (omega (arith, ints)),
    ),
  )
