-- The widest of the first intervals of a box.
use Rattle.std.proofs.Common.{◌≡◌, ℕ, zero, suc, ◌+◌, ◌<◌, ⊎_elim, ◌≤ℤ◌, ◌<ℤ◌, List, [], ◌∷◌, length, subst, arith}
use Rattle.std.proofs.lemmas.Int.{ints}
use Rattle.std.proofs.lemmas.Bool.{cases_lt}
use Rattle.std.proofs.lemmas.Option.{slice_get_within, same_Some, none-some}
use Rattle.sot_box.specs.Sides.{Side, AreOrdered}
use Rattle.sot_lists.specs.Places.{At}
use Rattle.sot_lists.proofs.Places.{at_same}
use Rattle.sot_certify.specs.Cuts.{IsOnePoint, IsWidest, extent}
use Rattle.sot_certify.specs.Widest.{IsWidestOf}

-- one more interval
by_more : (P : ℕ → Type 0) (n i : ℕ) → i < n + 1 → (i < n → P i) → P n → P i
by_more P n i lt before last = ⊎_elim before (λ ge. let e : n ≡ i = omega (arith, lt, ge) in subst P e last) (cases_lt i n)

module _ (box : List Side) where
  pub alone : (r : Side) → At box 0 r → IsWidestOf box 1 0
  alone r at = record {
    inside = omega arith;
    widest = λ i r s lt at_r at_s. first_one i r s lt at_r at_s;
    first = λ i r s lt at_r at_s. absurd (omega (arith, lt));
  }
    where
      first_one : (i : ℕ) (r s : Side) → i < 1 → At box 0 r → At box i s → extent s ≤ℤ extent r
      first_one i r s lt at_r at_s =
          let z : i ≡ 0 = omega (arith, lt) in
          let e : s ≡ r = at_same box 0 s r (subst (λ k. At box k s) z at_s) at_r in
          subst (λ (q : Side). extent s ≤ℤ extent q) e (omega (arith, ints))

  pub stays : (n k : ℕ) (a b : Side) → At box k a → At box n b → extent b ≤ℤ extent a → IsWidestOf box n k → IsWidestOf box (n + 1) k
  stays n k a b at_a at_b le w = record {
    inside = (let u = w.inside in omega arith);
    widest =
        λ i r s lt at_r at_s. by_more (λ j. At box j s → extent s ≤ℤ extent r) n i lt (λ less at. w.widest i r s less at_r at) (λ at. last r s at_r at) at_s;
    first = w.first;
  }
    where
      last : (r s : Side) → At box k r → At box n s → extent s ≤ℤ extent r
      last r s at_r at_s =
          subst (λ (q : Side). extent q ≤ℤ extent r) (at_same box n b s at_b at_s) (subst (λ (q : Side). extent b ≤ℤ extent q) (at_same box k a r at_a at_r) le)

  pub moves : (n k : ℕ) (a b : Side) → At box k a → At box n b → extent a <ℤ extent b → IsWidestOf box n k → IsWidestOf box (n + 1) n
  moves n k a b at_a at_b lt w = record {
    inside = omega arith;
    widest =
        λ i r s less at_r at_s. by_more (λ j. At box j s → extent s ≤ℤ extent r) n i less
        (λ before at. (let u = below i r s before at_r at in omega (arith, ints)))
        (λ at. subst (λ (q : Side). extent s ≤ℤ extent q) (at_same box n s r at at_r) (omega (arith, ints))) at_s;
    first = λ i r s less at_r at_s. below i r s less at_r at_s;
  }
    where
      below : (i : ℕ) (r s : Side) → i < n → At box n r → At box i s → extent s <ℤ extent r
      below i r s less at_r at_s =
          let u = w.widest i a s less at_a at_s in
          let v : extent a <ℤ extent r = subst (λ (q : Side). extent a <ℤ extent q) (at_same box n b r at_b at_r) lt in
          omega (arith, ints)

  pub widest_is : (k : ℕ) (r : Side) → At box k r → IsWidestOf box (length box) k → IsWidest box k r
  widest_is k r at w = record {
    is = at;
    widest = λ i s at_s. w.widest i r s (slice_get_within box i s at_s) at at_s;
    first = λ i s lt at_s. w.first i r s lt at at_s;
  }

-- each interval of an ordered box is ordered
pub ordered_at : (box : List Side) (i : ℕ) (r : Side) → AreOrdered box → At box i r → r.lo ≤ℤ r.hi
ordered_at [] i r o at = absurd (none-some r at)
ordered_at (x ∷ xs) zero r o at = subst (λ (q : Side). q.lo ≤ℤ q.hi) (same_Some x r at) o.0
ordered_at (x ∷ xs) (suc i) r o at = ordered_at xs i r o.1 at

-- a box whose widest interval holds one number is one point
pub no_wider : (box : List Side) (k : ℕ) (r : Side) → AreOrdered box → IsWidest box k r → r.lo ≡ r.hi → IsOnePoint box
no_wider box k r o w e i s at = (let a = w.widest i s at in let b = ordered_at box i s o at in omega (arith, ints))
