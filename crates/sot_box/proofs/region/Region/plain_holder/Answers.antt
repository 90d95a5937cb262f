use Rattle.std.proofs.Common.{◌≡◌, ℕ, ◌<◌, ◌≤◌, inl, inr, arith, Option, Some, None, List, ℤ, length, MatchOption}
use Rattle.std.proofs.lemmas.Bool.{cases_lt}
use Rattle.sot_box.specs.Sides.{Side}
use Rattle.sot_box.specs.Regions.{IsInRegion}
use Rattle.sot_box.specs.Sweep.{HoldsAt}
use Rattle.sot_box.proofs.Within.{region-place}
use Rattle.sot_box.proofs.region.Region.plain_holder.Goals as goal

-- a search of all places in two halves finds the box that holds a point
both-halves : (boxes : List (List Side)) (p : List ℤ) (start all : ℕ) (o : Option ℕ) → all ≡ length boxes
    → ((k : ℕ) → start ≤ k → k < all → HoldsAt boxes k p → ⊥)
    → MatchOption o ((k : ℕ) → 0 ≤ k → k < start → HoldsAt boxes k p → ⊥) (λ i. HoldsAt boxes i p)
    → MatchOption o (IsInRegion boxes p → ⊥) (λ i. HoldsAt boxes i p)
both-halves boxes p start all (Some i) whole late early = early
both-halves boxes p start all None whole late early = λ r.
    let q = region-place boxes p r in
    elim (cases_lt q.0 start) [
      | inl before ↦ early q.0 (omega arith) before q.2
      | inr behind ↦ late q.0 behind (omega (arith, q.1)) q.2
    ]

pub returns-in-None : goal.returns-in-None
returns-in-None c =
    both-halves c.args.self.now.boxes c.args.p.now c.min-start.result c.len-all.result c.holder_between-in-None.result
    c.len-all.ensures c.in-None.ensures c.holder_between-in-None.ensures
