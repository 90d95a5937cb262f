-- What one check says, another says too.
use Rattle.std.proofs.Common.{ℕ, ⊎_elim, inl, inr, List}
use Rattle.sot_lists.specs.Places.{At}
use Rattle.sot_tube.specs.Refusals.{Refusal}
use Rattle.sot_tube.specs.Checks.{Check, and_then, for_each, of_the, IsLeastNumber, IsLeastClash}

-- where the one passes, so does the other, and what the one refuses, the other refuses with the same refusal
pub record Carried (c d : Check) : Type 0 where
  pub passes : c.Passes → d.Passes
  pub refuses : (r : Refusal) → c.Refuses r → d.Refuses r

pub both_carried : (a b c d : Check) → Carried a c → Carried b d → Carried (and_then a b) (and_then c d)
both_carried a b c d first second = record {
  passes = λ p. (first.passes p.0, second.passes p.1);
  refuses = λ r h. ⊎_elim (λ x. inl (first.refuses r x)) (λ y. inr (first.passes y.0, second.refuses r y.1)) h;
}

-- checks of each entry of two lists, where at each place stand entries that are alike
pub each_carried : {A B : Type 0} (Like : A → B → Type 0) (xs : List A) (ys : List B) (f : ℕ → A → Check) (g : ℕ → B → Check)
    → ((i : ℕ) (x : A) → At xs i x → (y : B) × At ys i y × Like x y)
    → ((i : ℕ) (y : B) → At ys i y → (x : A) × At xs i x × Like x y)
    → ((i : ℕ) (x : A) (y : B) → Like x y → Carried (f i x) (g i y)) → Carried (for_each xs f) (for_each ys g)
each_carried Like xs ys f g forth back entry = record {
  passes = λ p i y at. (let x = back i y at in (entry i x.0 y x.2).passes (p i x.0 x.1));
  refuses = λ r h.
      let y = forth h.0 h.1 h.2 in
      (h.0, y.0, y.1, (entry h.0 h.1 y.0 y.2).refuses r h.3, λ j z less at. (let x = back j z at in (entry j x.0 z x.2).passes (h.4 j x.0 less x.1)));
}

-- checks of the thing that is named so, where the things that are named are alike
pub the_carried : {A : Type 0} (Is Was : A → Type 0) (Like : A → A → Type 0) (f g : A → Check)
    → ((x : A) → Is x → (y : A) × Was y × Like x y) → ((y : A) → Was y → (x : A) × Is x × Like x y)
    → ((x y : A) → Like x y → Carried (f x) (g y)) → Carried (of_the Is f) (of_the Was g)
the_carried Is Was Like f g forth back each = record {
  passes = λ p y was. (let x = back y was in (each x.0 y x.2).passes (p x.0 x.1));
  refuses = λ r h. (let y = forth h.0 h.1 in (y.0, y.1, (each h.0 y.0 y.2).refuses r h.2));
}

-- the least number with a property is the least with one that means the same
pub least_carried : (P Q : ℕ → Type 0) → ((k : ℕ) → P k → Q k) → ((k : ℕ) → Q k → P k) → (k : ℕ) → IsLeastNumber P k → IsLeastNumber Q k
least_carried P Q forth back k h = record {
  has = forth k h.has;
  least = λ j less q. h.least j less (back j q);
}

-- so is the least clash
pub clash_carried : (P Q : ℕ → ℕ → ℕ → Type 0) → ((x i k : ℕ) → P x i k → Q x i k) → ((x i k : ℕ) → Q x i k → P x i k)
    → (x i k : ℕ) → IsLeastClash P x i k → IsLeastClash Q x i k
clash_carried P Q forth back x i k h = record {
  before = h.before;
  clash = forth x i k h.clash;
  least_x = λ y j l less before q. h.least_x y j l less before (back y j l q);
  least_a = λ j l less before q. h.least_a j l less before (back x j l q);
  least_b = λ l less before q. h.least_b l less before (back x i l q);
}
