-- The expressions of the arm and the body of its safe node are in form.
use Rattle.std.proofs.Common.{◌≡◌, ℕ, Bool, false, List, [], ◌∷◌, refl, sym, ap, subst, arith, length}
use Rattle.sot_syntax_tree.specs.declared.operator.Func.TheVariants.{Clamp}
use Rattle.sot_lang.specs.declared.act.Act.{Act}
use Rattle.sot_lang.specs.declared.term.Term.{Term}
use Rattle.sot_lang.specs.TermRules.{TermFits, TermsFit, IsTruth}
use Rattle.sot_lang.specs.ActRules.{ActsFit}
use Rattle.sot_worked_missions.specs.Parts.{place}
use Rattle.sot_worked_missions.specs.Double.{IsNextPlace, IsNextSpeed, IsPush, IsThrust}
use Rattle.sot_lang.proofs.Rows.{Call-TermFits}

module _ (truths : List Bool) (four : truths ≡ false ∷ false ∷ false ∷ false ∷ []) where
  pub place_fits : (t : Term) → IsNextPlace t → TermFits truths t
  place_fits t h = (let count = ap length four in subst (TermFits truths) (sym h.2) (tt, omega (arith, count), omega (arith, count)))

  pub speed_fits : (t : Term) → IsNextSpeed t → TermFits truths t
  speed_fits t h =
      let count = ap length four in
      let sum : TermFits truths h.0 = subst (TermFits truths) (sym h.1.2) (tt, omega (arith, count), omega (arith, count)) in
      subst (TermFits truths) (sym h.2.2) (tt, sum, omega (arith, count))

push_fits : (truths : List Bool) (t : Term) → truths ≡ false ∷ false ∷ [] → IsPush t → TermFits truths t
push_fits truths t two h =
    let count = ap length two in
    let above : TermFits truths h.above = subst (TermFits truths) (sym h.tests.2) (tt, omega (arith, count), refl) in
    let is_above : IsTruth truths h.above = subst (IsTruth truths) (sym h.tests.2) tt in
    let aim : TermFits truths h.aim = subst (TermFits truths) (sym h.aims.3) (is_above, above, refl, refl) in
    let gap : TermFits truths h.gap = subst (TermFits truths) (sym h.gaps.2) (tt, aim, omega (arith, count)) in
    let parts : TermsFit truths h.parts.items = subst (TermsFit truths) (sym h.items) (gap, (refl, (refl, tt))) in
    subst (TermFits truths) (sym h.is) (Call-TermFits Clamp h.parts (place 17 17) truths parts (ap length h.items))

pub thrust_fits : (truths : List Bool) (locals writes : ℕ) (acts : List Act) → truths ≡ false ∷ false ∷ [] → writes ≡ 1 → IsThrust acts
    → ActsFit truths locals writes acts
thrust_fits truths locals writes acts two some h =
    subst (ActsFit truths locals writes) (sym h.2) ((omega (arith, some), push_fits truths h.0 two h.1), tt)
