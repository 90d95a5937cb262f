-- Between the crate's own functions: the widest of the first intervals of a box.
use Rattle.std.specs.Prelude.{ℕ, ◌<◌, ◌≤ℤ◌, ◌<ℤ◌, List}
use Rattle.sot_box.specs.Sides.{Side}
use Rattle.sot_lists.specs.Places.{At}
use Rattle.sot_certify.specs.Cuts.{extent}

-- axis k has the widest of the first n intervals of the box, of equal ones the first
pub record IsWidestOf (box : List Side) (n k : ℕ) : Type 0 where
  pub inside : k < n
  pub widest : (i : ℕ) (r s : Side) → i < n → At box k r → At box i s → extent s ≤ℤ extent r
  pub first : (i : ℕ) (r s : Side) → i < k → At box k r → At box i s → extent s <ℤ extent r
