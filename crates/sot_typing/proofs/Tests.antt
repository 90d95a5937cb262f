-- What is known where a test does not pass.
use Rattle.std.proofs.Common.{◌≡◌, ℕ, ◌==◌, Bool, true, false, not, ◌&&◌, refl, arith}

pub no_false : (b : Bool) → (b ≡ false → ⊥) → b ≡ true
no_false true h = refl
no_false false h = absurd (h refl)

-- two tests of which the first passes
pub and_tail : (x y : Bool) → x ≡ true → (x && y) ≡ false → y ≡ false
and_tail true y p q = q
and_tail false y p q = cc

-- numbers that do not differ
pub same_number : (x y : ℕ) → not (x == y) ≡ false → x ≡ y
same_number x y e = grind arith
