-- Checks that are put together from exact checks are exact.
use Rattle.std.proofs.Common.{◌≡◌, ℕ, ◌<◌, ⊎_elim, List, sym, subst, arith}
use Rattle.sot_lists.specs.Places.{At}
use Rattle.sot_lists.proofs.Places.{at_same}
use Rattle.sot_lists.proofs.Numbers.{by_order}
use Rattle.sot_tube.specs.Checks.{Check, and_then, for_each, of_the, IsLeastNumber, IsLeastClash, IsExact}

pub and_then_exact : (a b : Check) → IsExact a → IsExact b → IsExact (and_then a b)
and_then_exact a b ea eb = record {
  exclusive = λ r refuses passes. ⊎_elim (λ x. ea.exclusive r x passes.0) (λ y. eb.exclusive r y.1 passes.1) refuses;
  unique = λ r r' h h'.
      ⊎_elim
      (λ x. ⊎_elim (λ x'. ea.unique r r' x x') (λ y'. absurd (ea.exclusive r x y'.0)) h')
      (λ y. ⊎_elim (λ x'. absurd (ea.exclusive r' x' y.0)) (λ y'. eb.unique r r' y.1 y'.1) h')
      h;
}

pub for_each_exact : {A : Type 0} (xs : List A) (check : ℕ → A → Check) → ((i : ℕ) (x : A) → IsExact (check i x)) → IsExact (for_each xs check)
for_each_exact {A} xs check each = record {
  exclusive = λ r h passes. (each h.0 h.1).exclusive r h.3 (passes h.0 h.1 h.2);
  unique = λ r r' h h'.
      by_order h.0 h'.0
      (λ less. absurd ((each h.0 h.1).exclusive r h.3 (h'.4 h.0 h.1 less h.2)))
      (λ more. absurd ((each h'.0 h'.1).exclusive r' h'.3 (h.4 h'.0 h'.1 more h'.2)))
      (λ same.
      let at : At xs h'.0 h.1 = subst (λ i. At xs i h.1) same h.2 in
      let entry : h.1 ≡ h'.1 = at_same xs h'.0 h.1 h'.1 at h'.2 in
      let moved : (check h'.0 h.1).Refuses r = subst (λ i. (check i h.1).Refuses r) same h.3 in
      (each h'.0 h'.1).unique r r' (subst (λ x. (check h'.0 x).Refuses r) entry moved) h'.3);
}

pub of_the_exact : {A : Type 0} (Is : A → Type 0) (check : A → Check) → ((x y : A) → Is x → Is y → x ≡ y) → ((x : A) → IsExact (check x))
    → IsExact (of_the Is check)
of_the_exact {A} Is check one each = record {
  exclusive = λ r h passes. (each h.0).exclusive r h.2 (passes h.0 h.1);
  unique = λ r r' h h'. (each h'.0).unique r r' (subst (λ x. (check x).Refuses r) (one h.0 h'.0 h.1 h'.1) h.2) h'.2;
}

pub least_number_same : (P : ℕ → Type 0) (t u : ℕ) → IsLeastNumber P t → IsLeastNumber P u → t ≡ u
least_number_same P t u a b =
    by_order t u (λ less. absurd (b.least t less a.has)) (λ more. absurd (a.least u more b.has)) (λ same. same)

-- the three numbers of a least clash
pub record SameThree (x a b y i k : ℕ) : Type 0 where
  pub xs : x ≡ y
  pub as' : a ≡ i
  pub bs : b ≡ k

pub least_clash_same : (Clash : ℕ → ℕ → ℕ → Type 0) (x a b y i k : ℕ) → IsLeastClash Clash x a b → IsLeastClash Clash y i k → SameThree x a b y i k
least_clash_same Clash x a b y i k h h' =
    by_order x y
    (λ less. absurd (h'.least_x x a b less h.before h.clash))
    (λ more. absurd (h.least_x y i k more h'.before h'.clash))
    (λ xs.
    let here : Clash y a b = subst (λ z. Clash z a b) xs h.clash in
    let there : Clash x i k = subst (λ z. Clash z i k) (sym xs) h'.clash in
    by_order a i
    (λ less. absurd (h'.least_a a b less h.before here))
    (λ more. absurd (h.least_a i k more h'.before there))
    (λ as'.
    let before : i < b = omega (arith, h.before) in
    let before' : a < k = omega (arith, h'.before) in
    by_order b k
    (λ less. absurd (h'.least_b b less before (subst (λ z. Clash y z b) as' here)))
    (λ more. absurd (h.least_b k more before' (subst (λ z. Clash x z k) (sym as') there)))
    (λ bs. record { xs = xs; as' = as'; bs = bs })))
