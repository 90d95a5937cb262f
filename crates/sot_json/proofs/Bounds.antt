-- A number that was read is in its range.
use Rattle.std.proofs.Common.{◌≡◌, ℤ, ◌≤ℤ◌, Ok, true, subst}
use Rattle.std.specs.Prelude.{int_le}
use Rattle.std.specs.Int.Signed.{le_z_yes}
use Rattle.std.proofs.lemmas.Float.{T_from_true}
use Rattle.std.proofs.lemmas.Bool.{and_parts}
use Rattle.serde_json.specs.Data.{Data}
use Rattle.serde_json.specs.Find.{as_number, as_integer}
use Rattle.sot_json.specs.declared.fault.JsonKind.TheVariants.{WrongShape, NotWhole, OutsideRange}
use Rattle.sot_json.specs.Says.{or, unless}
use Rattle.sot_json.specs.Json.{whole, is_within}
use Rattle.sot_json.proofs.Binds.{bind_ok, unless_ok, ok_same}

pub int_le_true : (a b : ℤ) → int_le a b ≡ true → a ≤ℤ b
int_le_true a b h = le_z_yes (T_from_true _ h)

pub whole_within : (lo hi z : ℤ) (d : Data) → whole lo hi d ≡ Ok z → (lo ≤ℤ z) × (z ≤ℤ hi)
unfolding whole
whole_within lo hi z d h =
    let n = bind_ok (or WrongShape (as_number d)) _ z h in
    let m = bind_ok (or NotWhole (as_integer n.0)) _ z n.2 in
    let w = bind_ok (unless OutsideRange (is_within lo hi m.0)) _ z m.2 in
    let b : is_within lo hi m.0 ≡ true = unless_ok OutsideRange _ _ w.1 in
    let e : m.0 ≡ z = ok_same m.0 z w.2 in
    let ends = and_parts (int_le lo m.0) (int_le m.0 hi) b in
    let both : (lo ≤ℤ m.0) × (m.0 ≤ℤ hi) = (int_le_true lo m.0 ends.0, int_le_true m.0 hi ends.1) in
    subst (λ (k : ℤ). (lo ≤ℤ k) × (k ≤ℤ hi)) e both
