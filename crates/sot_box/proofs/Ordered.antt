-- Intervals whose low ends are at most their high ends.
use Rattle.std.proofs.Common.{ℕ, zero, suc, ◌<◌, ◌+◌, ◌≤ℤ◌, ◌≡◌, List, [], ◌∷◌, ◌++◌, length, take, sym, subst, ℤ, arith}
use Rattle.std.proofs.Math.ListN.{set}
use Rattle.std.proofs.lemmas.Int.{ints}
use Rattle.sot_box.specs.Sides.{Side, AreOrdered}
use Rattle.sot_box.specs.Boxes.{point_box}

pub ordered-set : (rs : List Side) (i : ℕ) (r : Side) → AreOrdered rs → r.lo ≤ℤ r.hi → AreOrdered (set rs i r)
ordered-set [] i r o h = tt
ordered-set (x ∷ rs) zero r o h = (h, o.1)
ordered-set (x ∷ rs) (suc i) r o h = (o.0, ordered-set rs i r o.1 h)

pub ordered-push : (rs : List Side) (r : Side) → AreOrdered rs → r.lo ≤ℤ r.hi → AreOrdered (rs ++ r ∷ [])
ordered-push [] r o h = (h, tt)
ordered-push (x ∷ rs) r o h = (o.0, ordered-push rs r o.1 h)

-- the first parts, with one more
pub ordered-more : (rs : List Side) (i : ℕ) (r : Side) → i < length rs → take (i + 1) rs ≡ take i rs ++ r ∷ [] → AreOrdered (take i rs) → r.lo ≤ℤ r.hi
    → AreOrdered (take (i + 1) rs)
ordered-more rs i r lt e o h = subst AreOrdered (sym e) (ordered-push (take i rs) r o h)

pub append_ordered : (rs ss : List Side) → AreOrdered rs → AreOrdered ss → AreOrdered (rs ++ ss)
append_ordered [] ss a b = b
append_ordered (r ∷ rs) ss a b = (a.0, append_ordered rs ss a.1 b)

pub point_ordered : (s : List ℤ) → AreOrdered (point_box s)
point_ordered [] = tt
point_ordered (x ∷ xs) = (omega (arith, ints), point_ordered xs)
