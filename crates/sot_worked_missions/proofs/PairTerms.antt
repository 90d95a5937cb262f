-- The expressions of the battery and the body of its safe node are in form.
use Rattle.std.proofs.Common.{◌≡◌, ℕ, Bool, false, List, [], ◌∷◌, refl, sym, ap, subst, arith, length}
use Rattle.sot_syntax_tree.specs.declared.operator.Func.TheVariants.{Abs, Clamp}
use Rattle.sot_lang.specs.declared.act.Act.{Act}
use Rattle.sot_lang.specs.declared.term.Term.{Term}
use Rattle.sot_lang.specs.TermRules.{TermFits, TermsFit, IsTruth}
use Rattle.sot_lang.specs.ActRules.{ActsFit}
use Rattle.sot_worked_missions.specs.Parts.{place}
use Rattle.sot_worked_missions.specs.Pair.{IsHeight, IsAway, IsToll, IsDrain, IsBattery, IsDescent}
use Rattle.sot_lang.proofs.Rows.{Call-TermFits}

module _ (truths : List Bool) (five : truths ≡ false ∷ false ∷ false ∷ false ∷ false ∷ []) where
  pub height_fits : (t : Term) → IsHeight t → TermFits truths t
  height_fits t h =
      let count = ap length five in
      let sum : TermFits truths h.sum = subst (TermFits truths) (sym h.adds.2) (tt, omega (arith, count), omega (arith, count)) in
      let parts : TermsFit truths h.parts.items = subst (TermsFit truths) (sym h.items) (sum, (refl, (refl, tt))) in
      subst (TermFits truths) (sym h.is) (Call-TermFits Clamp h.parts (place 33 12) truths parts (ap length h.items))

  away_fits : (t : Term) → IsAway t → TermFits truths t
  away_fits t h =
      let parts : TermsFit truths h.0.items = subst (TermsFit truths) (sym h.1) (omega (arith, ap length five), tt) in
      subst (TermFits truths) (sym h.2) (Call-TermFits Abs h.0 (place 34 45) truths parts (ap length h.1))

  toll_fits : (t : Term) → IsToll t → TermFits truths t
  toll_fits t h =
      let far : TermFits truths h.far = subst (TermFits truths) (sym h.tests.2) (tt, away_fits h.away h.abs, refl) in
      let is_far : IsTruth truths h.far = subst (IsTruth truths) (sym h.tests.2) tt in
      subst (TermFits truths) (sym h.is.3) (is_far, far, refl, refl)

  drain_fits : (t : Term) → IsDrain t → TermFits truths t
  drain_fits t h =
      let count = ap length five in
      let first : TermFits truths h.first = subst (TermFits truths) (sym h.one.2) (tt, omega (arith, count), refl) in
      let second : TermFits truths h.second = subst (TermFits truths) (sym h.two.2) (tt, first, toll_fits h.toll h.is_toll) in
      subst (TermFits truths) (sym h.is.2) (tt, second, omega (arith, count))

  pub battery_fits : (t : Term) → IsBattery t → TermFits truths t
  battery_fits t h =
      let count = ap length five in
      let flies : TermFits truths h.flies = subst (TermFits truths) (sym h.tests.2) (tt, omega (arith, count), refl) in
      let is_flying : IsTruth truths h.flies = subst (IsTruth truths) (sym h.tests.2) tt in
      subst (TermFits truths) (sym h.is.3) (is_flying, flies, drain_fits h.drained h.drains, omega (arith, count))

pub descent_fits : (truths : List Bool) (locals writes : ℕ) (acts : List Act) → writes ≡ 1 → IsDescent acts → ActsFit truths locals writes acts
descent_fits truths locals writes acts some h =
    subst (ActsFit truths locals writes) (sym h) ((omega (arith, some), refl), tt)
