-- The range at a place of a list is the range of the entry there.
use Rattle.std.proofs.Common.{◌≡◌, ℕ, zero, suc, ◌<◌, List, [], ◌∷◌, length, get_or, Ok, refl, ap, sym, ◌∙◌, arith}
use Rattle.std.specs.Prelude.{map}
use Rattle.sot_text.specs.declared.token.Span.{Span}
use Rattle.sot_box.specs.Sides.{Side}
use Rattle.sot_lang.specs.declared.tables.ScalarInfo.{ScalarInfo}
use Rattle.sot_lang.specs.declared.tables.LocalInfo.{LocalInfo}
use Rattle.sot_lang.specs.declared.tables.NodeInfo.{NodeInfo}
use Rattle.sot_lang.specs.Tables.{Tables}
use Rattle.sot_lang.specs.Ranges.{range_of, local_ranges, write_ranges}
use Rattle.sot_iv.specs.TermIntervals.{OrMayTrap}
use Rattle.sot_iv.specs.Evaluation.{and_then, put, put_at}
use Rattle.sot_lang.proofs.Owners.{range_of-get}

module _ {A : Type 0} (f : A → Side) where
  put_at-map : (infos : List A) (k : ℕ) (d : A) (at : Span) (x : Side) → k < length infos → put_at (map f infos) k at x ≡ put (f (get_or infos k d)) at x
  put_at-map [] k d at x lt = absurd (omega arith)
  put_at-map (y ∷ infos) zero d at x lt = refl
  put_at-map (y ∷ infos) (suc k) d at x lt = put_at-map infos k d at x (omega arith)

-- the interval of a local's next assignment, and of a scalar's next draft
pub local_value : (node : NodeInfo) (k : ℕ) (info : LocalInfo) (at : Span) (o : OrMayTrap Side) (x : Side) → k < length node.locals.items
    → info ≡ get_or node.locals.items k info → o ≡ Ok x
    → and_then o (put_at (local_ranges node) k at) ≡ put (record { lo = info.lo; hi = info.hi }) at x
local_value node k info at o x lt is e =
    ap (λ o. and_then o (put_at (local_ranges node) k at)) e
    ∙ put_at-map (λ l. record { lo = l.lo; hi = l.hi }) node.locals.items k info at x lt
    ∙ ap (λ (i : LocalInfo). put (record { lo = i.lo; hi = i.hi }) at x) (sym is)

pub scalar_value : (p : Tables) (node : NodeInfo) (i k : ℕ) (info : ScalarInfo) (at : Span) (o : OrMayTrap Side) (x : Side)
    → i < length node.writes.items → k ≡ get_or node.writes.items i k → k < length p.scalars → info ≡ get_or p.scalars k info → o ≡ Ok x
    → and_then o (put_at (write_ranges p node) i at) ≡ put (record { lo = info.lo; hi = info.hi }) at x
scalar_value p node i k info at o x lt is below here e =
    ap (λ o. and_then o (put_at (write_ranges p node) i at)) e
    ∙ put_at-map (range_of p.scalars) node.writes.items i k at x lt
    ∙ ap (λ k. put (range_of p.scalars k) at x) (sym is)
    ∙ ap (λ r. put r at x) (range_of-get p.scalars k info below)
    ∙ ap (λ (i : ScalarInfo). put (record { lo = i.lo; hi = i.hi }) at x) (sym here)
