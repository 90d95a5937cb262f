-- The expressions and the body of the vehicle on a line are in form.
use Rattle.std.proofs.Common.{◌≡◌, ℕ, Bool, false, List, [], ◌∷◌, refl, sym, ap, subst, arith, length}
use Rattle.sot_lang.specs.declared.act.Act.{Act}
use Rattle.sot_lang.specs.declared.term.Term.{Term}
use Rattle.sot_lang.specs.TermRules.{TermFits, IsTruth}
use Rattle.sot_lang.specs.ActRules.{ActsFit}
use Rattle.sot_worked_missions.specs.Line.{IsMove, IsDrift, IsReturn, IsCommand}

pub move_fits : (truths : List Bool) (t : Term) → truths ≡ false ∷ false ∷ false ∷ [] → IsMove t → TermFits truths t
move_fits truths t three h =
    let count = ap length three in
    let sum : TermFits truths h.0 = subst (TermFits truths) (sym h.1.2) (tt, omega (arith, count), omega (arith, count)) in
    subst (TermFits truths) (sym h.2.2) (tt, sum, omega (arith, count))

pub drift_fits : (truths : List Bool) (t : Term) → truths ≡ false ∷ false ∷ false ∷ [] → IsDrift t → TermFits truths t
drift_fits truths t three h =
    let count = ap length three in
    let sum : TermFits truths h.0 = subst (TermFits truths) (sym h.3.2) (tt, omega (arith, count), omega (arith, count)) in
    let gap : TermFits truths h.1 = subst (TermFits truths) (sym h.4.2) (tt, omega (arith, count), refl) in
    let share : TermFits truths h.2 = subst (TermFits truths) (sym h.5.2) (tt, omega (arith, count), gap) in
    subst (TermFits truths) (sym h.6.2) (tt, sum, share)

return_fits : (truths : List Bool) (t : Term) → truths ≡ false ∷ [] → IsReturn t → TermFits truths t
return_fits truths t one h =
    let count = ap length one in
    let above : TermFits truths h.0 = subst (TermFits truths) (sym h.3.2) (tt, omega (arith, count), refl) in
    let below : TermFits truths h.1 = subst (TermFits truths) (sym h.4.2) (tt, omega (arith, count), refl) in
    let is_above : IsTruth truths h.0 = subst (IsTruth truths) (sym h.3.2) tt in
    let is_below : IsTruth truths h.1 = subst (IsTruth truths) (sym h.4.2) tt in
    let rest : TermFits truths h.2 = subst (TermFits truths) (sym h.5.3) (is_below, below, refl, refl) in
    subst (TermFits truths) (sym h.6.3) (is_above, above, refl, rest)

pub command_fits : (truths : List Bool) (locals writes : ℕ) (acts : List Act) → truths ≡ false ∷ [] → writes ≡ 1 → IsCommand acts
    → ActsFit truths locals writes acts
command_fits truths locals writes acts one some h =
    subst (ActsFit truths locals writes) (sym h.2) ((omega (arith, some), return_fits truths h.0 one h.1), tt)
