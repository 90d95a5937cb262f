-- How boxes that are still open are taken, one after another.
use Rattle.std.proofs.Common.{◌≡◌, ℕ, zero, suc, ◌+◌, ◌≤◌, inl, inr, List, [], ◌∷◌, ◌++◌, refl, sym, ap, ◌∙◌, subst, arith}
use Rattle.sot_box.specs.Sides.{Side}
use Rattle.sot_box.specs.Boxes.{lows}
use Rattle.sot_certify.specs.Cuts.{IsOnePoint, AreHalves}
use Rattle.sot_certify.specs.Findings.{Finding, Whole, Failing, Begun, behind, followed, BisectsWithin, BisectsEach}
use Rattle.sot_certify.proofs.Findings.{followed_assoc, behind_behind}

-- with leave for more cuts the same is found
deepened : (Good : List Side → Type 0) (n k : ℕ) → n ≤ k → (box : List Side) (f : Finding) → BisectsWithin Good n box f → BisectsWithin Good k box f
deepened Good zero zero le box f h = h
deepened Good zero (suc k) le box f h = inl h
deepened Good (suc n) zero le box f h = absurd (omega (arith, le))
deepened Good (suc n) (suc k) le box f (inl h) = inl h
deepened Good (suc n) (suc k) le box f (inr (inl h)) = inr (inl h)
deepened Good (suc n) (suc k) le box f (inr (inr (inl h))) = inr (inr (inl h))
deepened Good (suc n) (suc k) le box f (inr (inr (inr h))) =
    inr (inr (inr (h.0, h.1, h.2, h.3, h.4, h.5, deepened Good n k (omega (arith, le)) h.1 h.4 h.6, deepened Good n k (omega (arith, le)) h.2 h.5 h.7, h.8)))

module _ (Good : List Side → Type 0) where
  -- nothing yet can be said of any boxes
  pub nothing : (boxes : List (List Side)) → BisectsEach Good boxes (Begun [])
  nothing [] = inl refl
  nothing (b ∷ bs) = (Begun [], Begun [], (0, refl), nothing bs, refl)

  pub takes_good : (box : List Side) (boxes : List (List Side)) (f : Finding) → Good box → BisectsEach Good boxes f
      → BisectsEach Good (box ∷ boxes) (behind (box ∷ []) f)
  takes_good box boxes f good h = (Whole (box ∷ []), f, (1, inr (inl (good, refl))), h, refl)

  pub takes_point : (box : List Side) (boxes : List (List Side)) → (Good box → ⊥) → IsOnePoint box → BisectsEach Good (box ∷ boxes) (Failing [] (lows box))
  takes_point box boxes bad one = (Failing [] (lows box), Begun [], (1, inr (inr (inl (bad, one, refl)))), nothing boxes, refl)

  pub takes_halves : (box low high : List Side) (boxes : List (List Side)) (f : Finding) → (Good box → ⊥) → AreHalves box low high
      → BisectsEach Good (low ∷ high ∷ boxes) f → BisectsEach Good (box ∷ boxes) f
  takes_halves box low high boxes f bad halves h =
      let a = h.0 in
      let n = h.2.0 in
      let rest = h.3 in
      let b = rest.0 in
      let m = rest.2.0 in (
        followed a b,
        rest.1,
        (
          suc (n + m),
          inr (inr (inr (
            bad,
            low,
            high,
            halves,
            a,
            b,
            deepened Good n (n + m) (omega arith) low a h.2.1,
            deepened Good m (n + m) (omega arith) high b rest.2.1,
            refl,
          ))),
        ),
        rest.3,
        h.4 ∙ ap (followed a) rest.4 ∙ followed_assoc a b rest.1,
      )

-- what was found so far, and all that may still be found in the boxes that are open, is found in all boxes
abbrev pub IsUnderWay : (List Side → Type 0) → List (List Side) → List (List Side) → List (List Side) → Type 0
IsUnderWay Good all cells open' = (f : Finding) → BisectsEach Good open' f → BisectsEach Good all (behind cells f)

behind_none : (f : Finding) → behind [] f ≡ f
behind_none (Whole c) = refl
behind_none (Failing c s) = refl
behind_none (Begun c) = refl

module _ (Good : List Side → Type 0) (all : List (List Side)) where
  pub starts : IsUnderWay Good all [] all
  starts f h = subst (BisectsEach Good all) (sym (behind_none f)) h

  pub more_cells : (cells open' : List (List Side)) (box : List Side) → Good box → IsUnderWay Good all cells (box ∷ open')
      → IsUnderWay Good all (cells ++ box ∷ []) open'
  more_cells cells open' box good h f k =
      subst (BisectsEach Good all) (behind_behind cells (box ∷ []) f) (h (behind (box ∷ []) f) (takes_good Good box open' f good k))

  pub more_boxes : (cells open' : List (List Side)) (box low high : List Side) → (Good box → ⊥) → AreHalves box low high
      → IsUnderWay Good all cells (box ∷ open') → IsUnderWay Good all cells (low ∷ high ∷ open')
  more_boxes cells open' box low high bad halves h f k = h f (takes_halves Good box low high open' f bad halves k)

  pub is_whole : (cells : List (List Side)) → IsUnderWay Good all cells [] → (r : List (List Side)) → r ≡ cells ++ [] → BisectsEach Good all (Whole r)
  is_whole cells h r e = subst (λ c. BisectsEach Good all (Whole c)) (sym e) (h (Whole []) (inr refl))

  pub is_failing : (cells open' : List (List Side)) (box : List Side) → (Good box → ⊥) → IsOnePoint box → IsUnderWay Good all cells (box ∷ open')
      → (r : List (List Side)) → r ≡ cells ++ [] → BisectsEach Good all (Failing r (lows box))
  is_failing cells open' box bad one h r e =
      subst (λ c. BisectsEach Good all (Failing c (lows box))) (sym e) (h (Failing [] (lows box)) (takes_point Good box open' bad one))

  pub is_begun : (cells open' : List (List Side)) → IsUnderWay Good all cells open' → (r : List (List Side)) → r ≡ cells ++ [] → BisectsEach Good all (Begun r)
  is_begun cells open' h r e = subst (λ c. BisectsEach Good all (Begun c)) (sym e) (h (Begun []) (nothing Good open'))
