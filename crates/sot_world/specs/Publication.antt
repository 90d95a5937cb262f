-- What a firing publishes, scalar by scalar.
use Rattle.std.specs.Prelude.{ℕ, ℤ, List, ◌≡◌, Some, None, Option, false, true}
use Rattle.sot_lang.specs.declared.tables.NodeInfo.{NodeInfo}
use Rattle.sot_lang.specs.Tables.{Tables}
use Rattle.sot_lang.specs.TableRules.{IsTyped}
use Rattle.sot_lists.specs.Places.{Has, At}
use Rattle.sot_lang.specs.Ranges.{range_of}
use Rattle.sot_box.specs.Sides.{IsIn}
use Rattle.sot_world.specs.Configurations.{Configuration, IsSized, number_of, locals_of}
use Rattle.sot_world.specs.Steps.{Fires, is_enabled}

-- an enabled node's drafted number in its scalar's range is the scalar's number afterwards, one
-- outside is refused and its scalar stays, and a scalar for which nothing is drafted, or which the
-- node does not write, stays; a disabled node's firing changes no scalar; the node's locals are the
-- new ones in either case
pub record PublishesSo (p : Tables) (n : ℕ) (node : NodeInfo) (locals : List ℤ)
    (draft : List (Option ℤ)) (C D : Configuration) : Type 0 where
  pub taken : (i k : ℕ) (z : ℤ) → is_enabled p C n ≡ true → At node.writes.items i k
      → At draft i (Some z) → IsIn (range_of p.scalars k) z → number_of D k ≡ z
  pub refused : (i k : ℕ) (z : ℤ) → At node.writes.items i k → At draft i (Some z)
      → (IsIn (range_of p.scalars k) z → ⊥) → number_of D k ≡ number_of C k
  pub not_drafted : (i k : ℕ) → At node.writes.items i k → At draft i None
      → number_of D k ≡ number_of C k
  pub not_written : (k : ℕ) → (Has node.writes.items k → ⊥) → number_of D k ≡ number_of C k
  pub disabled : is_enabled p C n ≡ false → D.scalars ≡ C.scalars
  pub locals_new : locals_of D n ≡ locals

-- every firing of a node publishes so
abbrev pub FiringsPublishSo : Type 0
FiringsPublishSo =
    (p : Tables) (n : ℕ) (node : NodeInfo) (locals : List ℤ) (draft : List (Option ℤ))
    (C D : Configuration) →
    IsTyped p → IsSized p C → At p.nodes n node → Fires p n node locals draft C D
    → PublishesSo p n node locals draft C D
