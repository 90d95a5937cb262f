-- Formulas over the moments of a flight.
use Rattle.std.specs.Prelude.{ℕ, ℤ, Bool}
use Rattle.sot_formula.specs.declared.quantity.Quantity.{Quantity}
use Rattle.sot_formula.specs.declared.quantity.Comparison.{Comparison}
use Rattle.sot_formula.specs.declared.quantity.Pairing.{Pairing}

pub data Formula : Type 0 where
  Truth : (value : Bool) → Formula
  Compared : (of : Quantity) (by : Comparison) (number : ℤ) → Formula
  Against : (of : Quantity) (by : Comparison) (other : Quantity) → Formula
  -- a sum or a difference is compared
  Paired : (first : Quantity) (pairing : Pairing) (second : Quantity) (by : Comparison)
      (number : ℤ) → Formula
  Not : (f : Formula) → Formula
  And Or : (f g : Formula) → Formula
  -- g, if f
  Implies : (f g : Formula) → Formula
  Once : (f : Formula) → Formula
  -- f held at each moment so far
  Always : (f : Formula) → Formula
  -- g held at some time, and f ever after
  Since : (f g : Formula) → Formula
  -- f held at most so many ticks ago
  Within : (ticks : ℕ) (f : Formula) → Formula
