-- The range at a place of a list is the range of the entry there.
use Rattle.std.proofs.Common.{◌≡◌, ℕ, zero, suc, ◌<◌, ℤ, List, [], ◌∷◌, length, get_or, Ok, refl, ap, sym, ◌∙◌, arith}
use Rattle.std.specs.Prelude.{map}
use Rattle.sot_text.specs.declared.token.Span.{Span}
use Rattle.sot_box.specs.Sides.{Side}
use Rattle.sot_lang.specs.declared.tables.ScalarInfo.{ScalarInfo}
use Rattle.sot_lang.specs.Values.{Outcome, then_with}
use Rattle.sot_lang.specs.declared.tables.LocalInfo.{LocalInfo}
use Rattle.sot_lang.specs.declared.tables.NodeInfo.{NodeInfo}
use Rattle.sot_lang.specs.Tables.{Tables}
use Rattle.sot_lang.specs.Ranges.{range_of, local_ranges, write_ranges}
use Rattle.sot_lang.specs.Bodies.{within, in_range}
use Rattle.sot_lang.proofs.Owners.{range_of-get}

module _ {A : Type 0} (f : A → Side) where
  pub in_range-map : (infos : List A) (k : ℕ) (d : A) (at : Span) (z : ℤ) → k < length infos
      → in_range (map f infos) k at z ≡ within (f (get_or infos k d)) at z
  in_range-map [] k d at z lt = absurd (omega arith)
  in_range-map (x ∷ infos) zero d at z lt = refl
  in_range-map (x ∷ infos) (suc k) d at z lt = in_range-map infos k d at z (omega arith)

-- the value of a local's next assignment, and of a scalar's next draft
pub local_value : (node : NodeInfo) (k : ℕ) (info : LocalInfo) (at : Span) (o : Outcome ℤ) (z : ℤ) → k < length node.locals.items
    → info ≡ get_or node.locals.items k info → o ≡ Ok z
    → then_with o (in_range (local_ranges node) k at) ≡ within (record { lo = info.lo; hi = info.hi }) at z
local_value node k info at o z lt is e =
    ap (λ o. then_with o (in_range (local_ranges node) k at)) e
    ∙ in_range-map (λ l. record { lo = l.lo; hi = l.hi }) node.locals.items k info at z lt
    ∙ ap (λ (i : LocalInfo). within (record { lo = i.lo; hi = i.hi }) at z) (sym is)

pub scalar_value : (p : Tables) (node : NodeInfo) (i k : ℕ) (info : ScalarInfo) (at : Span) (o : Outcome ℤ) (z : ℤ)
    → i < length node.writes.items → k ≡ get_or node.writes.items i k → k < length p.scalars → info ≡ get_or p.scalars k info → o ≡ Ok z
    → then_with o (in_range (write_ranges p node) i at) ≡ within (record { lo = info.lo; hi = info.hi }) at z
scalar_value p node i k info at o z lt is below here e =
    ap (λ o. then_with o (in_range (write_ranges p node) i at)) e
    ∙ in_range-map (range_of p.scalars) node.writes.items i k at z lt
    ∙ ap (λ k. within (range_of p.scalars k) at z) (sym is)
    ∙ ap (λ r. within r at z) (range_of-get p.scalars k info below)
    ∙ ap (λ (i : ScalarInfo). within (record { lo = i.lo; hi = i.hi }) at z) (sym here)
