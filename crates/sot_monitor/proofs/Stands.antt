-- What a monitor stands for, at first and after a step.
use Rattle.std.proofs.Common.{◌≡◌, ℕ, zero, suc, ◌+◌, ◌-◌, ◌<◌, ◌↔◌, List, [], ◌∷◌, ◌++◌, length, replicate, refl, sym, subst, ◌∙◌, arith}
use Rattle.std.specs.Prelude.{IsTrue, nat_eq}
use Rattle.std.proofs.lemmas.Bool.Decides.{nat_tests}
use Rattle.sot_formula.specs.declared.what.What.{What}
use Rattle.sot_formula.specs.Formulas.{Formula}
use Rattle.sot_formula.specs.Parts.{IsPart}
use Rattle.sot_monitor.specs.Holding.{Moment, Holds}
use Rattle.sot_monitor.specs.Standing.{IsLast, AreLasts, StepsOn, last_of}
use Rattle.sot_monitor.specs.Tracked.{Tracked}
use Rattle.sot_monitor.specs.Tracking.{StandsFor, new_of}
use Rattle.sot_monitor.proofs.Now.{now_is, part_inside}

zero_there : (n i : ℕ) → last_of (replicate n 0) i ≡ 0
zero_there zero i = refl
zero_there (suc n) zero = refl
zero_there (suc n) (suc i) = zero_there n i

-- no part has held at no moment
pub new_stands : (ws : List What) (f : Formula) → IsPart ws (length ws - 1) f → StandsFor (new_of ws) f []
new_stands ws f part =
    record {
      whole = part;
      added = refl;
      lasts = λ i g part_g. subst (IsLast [] g) (sym (zero_there (length ws) i)) (λ j lt held. absurd (omega (arith, lt)));
    }

pub some_parts : (ws : List What) (f : Formula) → IsPart ws (length ws - 1) f → 0 < length ws
some_parts ws f part = (let e = part_inside ws (length ws - 1) f part in omega (arith, e))

length_more : {A : Type 0} (xs : List A) (x : A) → length (xs ++ x ∷ []) ≡ suc (length xs)
length_more [] x = refl
length_more (y ∷ xs) x = (let e = length_more xs x in omega (arith, e))

module _ (m n : Tracked) (s : Moment) (whats : n.whats ≡ m.whats) (added : n.added ≡ m.added + 1) (steps : StepsOn m.whats m.lasts n.lasts m.added s) where
  pub stands_on : (f : Formula) (Ms : List Moment) → StandsFor m f Ms → StandsFor n f (Ms ++ s ∷ [])
  stands_on f Ms old =
      record {
        whole = subst (λ (ws : List What). IsPart ws (length ws - 1) f) (sym whats) old.whole;
        added = (let e = old.added in let k = length_more Ms s in omega (arith, added, e, k));
        lasts = subst (λ (ws : List What). AreLasts ws n.lasts (Ms ++ s ∷ [])) (sym whats) (steps Ms (sym old.added) old.lasts);
      }

  -- the formula holds now exactly where the number of the last part is that of now
  pub holds_on : (f : Formula) (Ms : List Moment) → StandsFor m f Ms → (last_of n.lasts (length m.whats - 1) ≡ n.added) ↔ Holds (Ms ++ s ∷ []) f (length Ms)
  holds_on f Ms old =
      let last = last_of n.lasts (length m.whats - 1) in
      let is = now_is Ms s f last (steps Ms (sym old.added) old.lasts (length m.whats - 1) f old.whole) in
      let same : n.added ≡ suc (length Ms) = (let e = old.added in omega (arith, added, e)) in
      (λ e. is.1 (e ∙ same), λ h. is.0 h ∙ sym same)

-- a step over equal lists
pub moved_steps : (ws vs : List What) (olds now' new : List ℕ) (k n : ℕ) (s : Moment) → ws ≡ vs → olds ≡ now' → k ≡ n → StepsOn ws olds new k s
    → StepsOn vs now' new n s
moved_steps ws vs olds now' new k n s a b e steps =
    subst (λ i. StepsOn vs now' new i s) e (subst (λ xs. StepsOn vs xs new k s) b (subst (λ us. StepsOn us olds new k s) a steps))

pub eq_yes : (a b : ℕ) → IsTrue (nat_eq a b) → a ≡ b
eq_yes a b e = grind (arith, nat_tests)

pub eq_is : (a b : ℕ) → a ≡ b → IsTrue (nat_eq a b)
eq_is a b e = grind (arith, nat_tests)
