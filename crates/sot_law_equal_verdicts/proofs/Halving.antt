-- Where the same boxes are good, the same is found.
use Rattle.std.proofs.Common.{ℕ, zero, suc, inl, inr, List, [], ◌∷◌}
use Rattle.sot_box.specs.Sides.{Side}
use Rattle.sot_certify.specs.Findings.{Finding, BisectsWithin, BisectsEach}

module _ (Good Fine : List Side → Type 0) (forth : (box : List Side) → Good box → Fine box) (back : (box : List Side) → Fine box → Good box) where
  within_alike : (n : ℕ) (box : List Side) (f : Finding) → BisectsWithin Good n box f → BisectsWithin Fine n box f
  within_alike zero box f h = h
  within_alike (suc n) box f (inl h) = inl h
  within_alike (suc n) box f (inr (inl h)) = inr (inl (forth box h.0, h.1))
  within_alike (suc n) box f (inr (inr (inl h))) = inr (inr (inl ((λ g. h.0 (back box g)), h.1, h.2)))
  within_alike (suc n) box f (inr (inr (inr h))) =
      inr (inr (inr ((λ g. h.0 (back box g)), h.1, h.2, h.3, h.4, h.5, within_alike n h.1 h.4 h.6, within_alike n h.2 h.5 h.7, h.8)))

  pub found_alike : (boxes : List (List Side)) (f : Finding) → BisectsEach Good boxes f → BisectsEach Fine boxes f
  found_alike [] f h = h
  found_alike (box ∷ boxes) f h = (h.0, h.1, (h.2.0, within_alike h.2.0 box h.0 h.2.1), found_alike boxes h.1 h.3, h.4)
