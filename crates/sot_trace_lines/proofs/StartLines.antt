-- Start lines are read as they are spelled.
use Rattle.std.proofs.Common.{◌≡◌, ◌↔◌, ℕ, zero, suc, ◌||◌, Bool, true, false, List, [], ◌∷◌, ◌++◌, Option, Some, None, length, codes, inl, inr, refl, sym, ap}
use Rattle.std.proofs.Common.{ap₂, ◌∙◌}
use Rattle.std.specs.Prelude.{ℤ, is_some, IsTrue}
use Rattle.std.specs.List.{list_any}
use Rattle.std.specs.Option.{option_map_or}
use Rattle.std.proofs.lemmas.Bool.{cases_Bool}
use Rattle.std.proofs.lemmas.Option.{none-some, same_Some}
use Rattle.std.proofs.lemmas.List.{append-nil}
use Rattle.sot_lang.specs.declared.tables.PlantInfo.{PlantInfo}
use Rattle.sot_lang.specs.Tables.{Tables}
use Rattle.sot_lists.specs.Places.{At}
use Rattle.sot_world.proofs.Options.{some_there}
use Rattle.sot_trace.specs.Numbers.{numbers}
use Rattle.sot_trace_lines.specs.Spelled.{IsStartLine}
use Rattle.sot_trace_lines.specs.Pieces.{◌>>=◌, behind, at_end, row_at}
use Rattle.sot_trace_lines.specs.Readers.{start_front, point_at, start_at, starts_some}
use Rattle.sot_trace_lines.proofs.Pieces.{both, then_next, is_ended, in_front, behind_them}
use Rattle.sot_trace_lines.proofs.Rows.{row_from, read_row}

start_from : (plant : PlantInfo) (text : List ℕ) (point : List ℤ) → start_at plant text ≡ Some point
    → (length point ≡ length plant.states.items) × (text ≡ plant.name ++ (32 ∷ numbers point))
start_from plant text point e =
    let a = both (start_front plant text) (point_at plant) point e in
    let b = both (behind plant.name text) (behind (codes " ")) a.0 a.1 in
    let c = both (row_at (length plant.states.items) a.0) (λ x. at_end x.0 x.1) point a.2 in
    let row = row_from (length plant.states.items) a.0 c.0.0 c.0.1 c.1 in
    let ends = is_ended c.0.0 point c.0.1 c.2 in
    let last : a.0 ≡ numbers point = row.1 ∙ ap₂ (λ x y. numbers x ++ y) ends.1 ends.0 ∙ append-nil (numbers point) in
    (ap length (sym ends.1) ∙ row.0, in_front plant.name text b.0 b.1 ∙ ap (λ x. plant.name ++ x) (in_front (codes " ") b.0 a.0 b.2 ∙ ap (λ x. 32 ∷ x) last))

read_start : (plant : PlantInfo) (point : List ℤ) → length point ≡ length plant.states.items → start_at plant (plant.name ++ (32 ∷ numbers point)) ≡ Some point
read_start plant point size =
    ap (λ o. (o >>= behind (codes " ")) >>= point_at plant) (behind_them plant.name (32 ∷ numbers point))
    ∙ then_next (row_at (length plant.states.items) (numbers point)) (λ x. at_end x.0 x.1) (point, [])
    (ap₂ row_at (sym size) (sym (append-nil (numbers point))) ∙ read_row point [] tt)

module _ {A : Type 0} (test : A → Bool) where
  any_at : (xs : List A) → list_any test xs ≡ true → (k : ℕ) × (x : A) × At xs k x × (test x ≡ true)
  any_at [] e = absurd cc
  any_at (x ∷ xs) e =
      elim (cases_Bool (test x)) [
        | inl yes' ↦ (0, x, refl, yes')
        | inr no' ↦ (let more = any_at xs (sym (ap (λ b. b || list_any test xs) no') ∙ e) in (suc more.0, more.1, more.2, more.3))
      ]

  at_any : (xs : List A) (k : ℕ) (x : A) → At xs k x → test x ≡ true → list_any test xs ≡ true
  at_any [] k x at is = absurd (none-some x at)
  at_any (y ∷ xs) zero x at is = ap (λ b. b || list_any test xs) (ap test (same_Some y x at) ∙ is)
  at_any (y ∷ xs) (suc k) x at is =
      elim (cases_Bool (test y)) [
        | inl yes' ↦ ap (λ b. b || list_any test xs) yes'
        | inr no' ↦ ap (λ b. b || list_any test xs) no' ∙ at_any xs k x at is
      ]

starts_from : (p : Tables) (line : List ℕ) (o : Option (List ℕ)) → behind (codes "start ") line ≡ o
    → option_map_or (λ text. list_any (λ plant. is_some (start_at plant text)) p.plants) o false ≡ true → IsStartLine p line
starts_from p line None is e = absurd cc
starts_from p line (Some text) is e =
    let one = any_at (λ plant. is_some (start_at plant text)) p.plants e in
    let point = some_there (start_at one.1 text) one.3 in
    let from = start_from one.1 text point.0 point.1 in
    (one.0, one.1, point.0, one.2, from.0, in_front (codes "start ") line text is ∙ ap (λ x. codes "start " ++ x) from.1)

start_read : (p : Tables) (line : List ℕ) → IsStartLine p line → starts_some p line ≡ true
start_read p line (k, plant, point, at, size, is) =
    ap (starts_some p) is
    ∙ at_any (λ x. is_some (start_at x (plant.name ++ (32 ∷ numbers point)))) p.plants k plant at (ap is_some (read_start plant point size))

-- the test says whether the line is one
pub starts_is : (p : Tables) (line : List ℕ) → IsTrue (starts_some p line) ↔ IsStartLine p line
starts_is p line = (starts_from p line (behind (codes "start ") line) refl, start_read p line)
