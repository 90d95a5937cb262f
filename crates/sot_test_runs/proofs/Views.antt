-- What may be asked of a world of the vehicle on a line.
use Rattle.std.proofs.Common.{◌≡◌, ℤ, List, [], ◌∷◌, length, ap, ◌∙◌, sym, subst, refl}
use Rattle.sot_lang.specs.declared.term.Term.{Term}
use Rattle.sot_lang.specs.Tables.{Tables}
use Rattle.sot_world.specs.Opens.{AreStarts}
use Rattle.sot_worked_missions.specs.Line.{IsLine}
use Rattle.sot_test_runs.proofs.Missions.{line_starts}

module _ (N : Term → Type 0) (p q : Tables) (same : q ≡ p) (h : IsLine N p) where
  pub starts_at : (s : List ℤ) → length s ≡ 1 → AreStarts q (s ∷ [])
  starts_at s one = subst (λ x. AreStarts x (s ∷ [])) (sym same) (line_starts N p h (s ∷ []) s refl one)

  pub one_module : length q.modules ≡ 1
  one_module = ap (λ x. length x.modules) same ∙ ap length h.modules

  pub one_plant : length q.plants ≡ 1
  one_plant = ap (λ x. length x.plants) same ∙ ap length h.plants.2

  pub two_nodes : length q.nodes ≡ 2
  two_nodes = ap (λ x. length x.nodes) same ∙ ap length h.nodes.4

  pub one_scalar : length q.scalars ≡ 1
  one_scalar = ap (λ x. length x.scalars) same ∙ ap length h.scalars
