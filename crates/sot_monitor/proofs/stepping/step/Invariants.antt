use Rattle.std.proofs.Common.{◌≡◌, ℕ, ◌<◌, ◌≤◌, List, [], ◌∷◌, ◌++◌, length}
use Rattle.std.specs.List.{All}
use Rattle.sot_formula.specs.Formulas.{Formula}
use Rattle.sot_formula.specs.Parts.{IsPart}
use Rattle.sot_monitor.specs.Holding.{Moment}
use Rattle.sot_monitor.specs.Standing.{IsLast, AreLasts, last_of}
use Rattle.sot_monitor.proofs.stepping.step.Given as goal

-- the numbers of the parts before place i are those of one moment more, and the others are as before
abbrev pub invariant-loop-i : goal.invariant-loop-i
invariant-loop-i g l = record {
  size : length l.lasts ≡ length l.whats;
  small : All (λ x. x ≤ 100001) l.lasts;
  done : (Ms : List Moment) → length Ms ≡ l.added → AreLasts l.whats l.initial.lasts Ms → (k : ℕ) (f : Formula) → k < l.i → IsPart l.whats k f
      → IsLast (Ms ++ g.L.Looks.moment l.now ∷ []) f (last_of l.lasts k);
  rest : (k : ℕ) → l.i ≤ k → last_of l.lasts k ≡ last_of l.initial.lasts k;
}
