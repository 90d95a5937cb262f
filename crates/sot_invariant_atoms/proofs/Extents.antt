-- How many steps the stretches of a block have together, which is less in its halves.
use Rattle.std.proofs.Common.{ℕ, zero, suc, ◌+◌, ◌-◌, ◌<◌, List, [], ◌∷◌, subst, sym, arith}
use Rattle.std.specs.Prelude.{slice_set}
use Rattle.std.proofs.lemmas.Option.{same_Some, none-some}
use Rattle.sot_lists.specs.Places.{At}
use Rattle.sot_atoms.specs.declared.block.Stretch.{Stretch}
use Rattle.sot_atoms.specs.Blocks.{AreHalves}

abbrev pub extent : List Stretch → ℕ
extent [] = 0
extent (r ∷ rs) = (r.to - r.from) + extent rs

pub extent_less : (rs : List Stretch) (k : ℕ) (r s : Stretch) → At rs k r → s.to - s.from < r.to - r.from → extent (slice_set rs k s) < extent rs
extent_less [] k r s at less = absurd (none-some r at)
extent_less (q ∷ rs) zero r s at less = (let e = same_Some q r at in let h = subst (λ (x : Stretch). s.to - s.from < x.to - x.from) (sym e) less in omega arith)
extent_less (q ∷ rs) (suc k) r s at less = (let h = extent_less rs k r s at less in omega arith)

pub low_less : (block low high : List Stretch) → AreHalves block low high → extent low < extent block
low_less block low high h = subst (λ q. extent q < extent block) (sym h.low_is)
    (extent_less block h.axis h.side _ h.longest.0 (let s = h.some_places in omega arith))

pub high_less : (block low high : List Stretch) → AreHalves block low high → extent high < extent block
high_less block low high h = subst (λ q. extent q < extent block) (sym h.high_is)
    (extent_less block h.axis h.side _ h.longest.0 (let s = h.some_places in omega arith))
