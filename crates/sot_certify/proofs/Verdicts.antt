-- What is refused before cells are made is what a checker refuses.
use Rattle.std.proofs.Common.{ℕ, inl, inr}
use Rattle.sot_lists.specs.Places.{At}
use Rattle.sot_lang.specs.declared.cert.Cells.{Cells}
use Rattle.sot_lang.specs.declared.cert.Cert.{Cert}
use Rattle.sot_lang.specs.declared.tables.ModuleInfo.{ModuleInfo}
use Rattle.sot_lang.specs.Tables.{Tables}
use Rattle.sot_tube.specs.Certified.{HasCells}
use Rattle.sot_tube.specs.Refusals.{Refusal}
use Rattle.sot_tube.specs.Verdict.{shape}
use Rattle.sot_certify.specs.Conditions.{frame}
use Rattle.sot_certify.specs.Laws.{RefusalsAreTheVerdicts}

module _ (p : Tables) (cert : Cert) (all : (m : ℕ) (a : ModuleInfo) → At p.modules m a → (cells : Cells) × HasCells cert m cells) where
  shape_refuses : (m : ℕ) (a : ModuleInfo) (r : Refusal) → At p.modules m a → (frame p m a).Refuses r → (shape p cert m a).Refuses r
  shape_refuses m a r at (inl (inl h)) = inr (all m a at, inl h)
  shape_refuses m a r at (inl (inr (passes, h))) = inr (all m a at, inr (passes, inl h))
  shape_refuses m a r at (inr (passes, h)) = inr (all m a at, inr (passes.0, inr (passes.1, h)))

  shape_passes : (m : ℕ) (a : ModuleInfo) → At p.modules m a → (frame p m a).Passes → (shape p cert m a).Passes
  shape_passes m a at passes = (all m a at, (passes.0.0, (passes.0.1, passes.1)))

pub refusals_are_the_verdicts : RefusalsAreTheVerdicts
refusals_are_the_verdicts p jitter cert r all (inl h) = inl h
refusals_are_the_verdicts p jitter cert r all (inr (composed, inl (i, a, at, h, before))) =
    inr (composed, inl (i, a, at, shape_refuses p cert all i a r at h, λ j b lt at_b. shape_passes p cert all j b at_b (before j b lt at_b)))
refusals_are_the_verdicts p jitter cert r all (inr (composed, inr (frames, h))) =
    inr (composed, inr (λ m a at. shape_passes p cert all m a at (frames m a at), inl h))
