use Rattle.std.proofs.Common.{◌≡◌, ℕ, inl, inr, arith, subst}
use Rattle.std.proofs.lemmas.Bool.{cases_lt}
use Rattle.sot_lists.specs.Places.{At}
use Rattle.sot_box.specs.Boxes.{IsWithin}
use Rattle.sot_box.specs.Sweep.{HoldsAt}
use Rattle.sot_box.proofs.Sweeps.{holds-same}
use Rattle.sot_box.proofs.region.Region.holder_between.Goals as goal

pub loop-i-preserved : goal.loop-i-preserved
loop-i-preserved c = λ k above below h. elim (cases_lt k c.loop-i.i) [
  | inl before ↦ c.loop-i.invariant k above before h
  | inr here ↦
      let same : k ≡ c.loop-i.i = omega arith in
      let holds : HoldsAt c.args.self.now.boxes c.loop-i.i c.args.p.now =
      subst (λ (n : ℕ). HoldsAt c.args.self.now.boxes n c.args.p.now) same h in
      let place : At c.args.self.now.boxes c.loop-i.i c.at.result = c.at.ensures.place in
      let inside : IsWithin c.at.result c.args.p.now =
      holds-same c.args.self.now.boxes c.loop-i.i c.args.p.now c.at.result holds place in
      let found = c.if-has.ensures.1 inside in
      absurd (cc)
]

pub returns : goal.returns
returns c = λ k above below h. c.loop-i.invariant k above (omega arith) h
