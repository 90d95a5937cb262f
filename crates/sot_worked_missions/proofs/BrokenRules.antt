-- Each rule that is broken is told by one field of the rules.
use Rattle.std.proofs.Common.{◌≡◌, ◌≤◌, ◌≤ℤ◌, ℕ, pos, refl, arith}
use Rattle.std.proofs.lemmas.Int.{ints}
use Rattle.std.specs.Global.{Global}
use Rattle.sot_lang.specs.TableRules.{MeetsTableRules}
use Rattle.sot_lang.specs.Line.{pos_name}
use Rattle.sot_worked_missions.specs.Broken.{reads_its_own, one_name_twice, sees_itself, seven_decimals, one_value_too_many, long_period, box_of_two_sides}
use Rattle.sot_worked_missions.specs.Broken.{turned_box}

module _ (g : Global) where
  pub own_read : MeetsTableRules (reads_its_own g) → ⊥
  own_read h = (h.nodes 1 _ refl).not_read 0 (0, refl) (0, refl)

  pub name_twice : MeetsTableRules (one_name_twice g) → ⊥
  name_twice h = (let e : ◌≡◌ {A = ℕ} 1 4 = h.names_once 1 4 pos_name refl refl in absurd (omega (arith, e)))

  pub itself_seen : MeetsTableRules (sees_itself g) → ⊥
  itself_seen h = (h.plants 0 _ refl).sees_others 0 (0, refl) refl

  pub decimals : MeetsTableRules (seven_decimals g) → ⊥
  decimals h = (let e : 7 ≤ 6 = (h.scalars 0 _ refl).scale in absurd (omega (arith, e)))

  pub values : MeetsTableRules (one_value_too_many g) → ⊥
  values h = (let e = (h.scalars 0 _ refl).range.1 in absurd (omega (arith, ints, e)))

  pub period : MeetsTableRules (long_period g) → ⊥
  period h = (let e : 1001 ≤ 1000 = (h.nodes 0 _ refl).period in absurd (omega (arith, e)))

  pub sides : MeetsTableRules (box_of_two_sides g) → ⊥
  sides h = (let e : ◌≡◌ {A = ℕ} 2 1 = ((h.modules 0 _ refl).safe.each 0 _ refl).0 in absurd (omega (arith, e)))

  pub turned : MeetsTableRules (turned_box g) → ⊥
  turned h = (let e : pos 1 ≤ℤ pos 0 = ((h.modules 0 _ refl).safe.each 0 _ refl).1.0 in absurd (omega (arith, ints, e)))
