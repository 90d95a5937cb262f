use Rattle.std.proofs.Common.{ℕ, true, refl, ap, subst}
use Rattle.sot_guard.specs.GuardView.{guarding}
use Rattle.sot_guard.specs.HeldParts.{AnswersAt, IsFirstAnswer}
use Rattle.sot_guard.specs.Resuming.{StaysUnsafe}
use Rattle.sot_guard.proofs.HeldTests.{same_held}
use Rattle.sot_guard.proofs.Holding.{stays_unsafe}
use Rattle.sot_guard.proofs.guard.Guard.resume.Goals as goal

pub trust_again-requires-clause-held : goal.trust_again-requires-clause-held
trust_again-requires-clause-held c =
    let w = c.self.inside in
    subst (λ s. (m : ℕ) → AnswersAt s.accepted.program s.accepted.cert.jitter s.at.time s.at.scalars s.at.points m true) c.self.view_is
    (same_held (λ p j s x. (m : ℕ) → AnswersAt p j w.time s x m true) _ _ _ _ _ _ _ _ c.typed-p.ensures.program (ap (λ k. k.jitter) c.cert.ensures.cert)
    c.deref.ensures.value c.deref-2.ensures.value c.in-None.ensures)

pub returns-in-Some : goal.returns-in-Some
returns-in-Some c =
    let w = c.self.inside in
    let m = c.in-Some.«module» in
    let first = same_held (λ p j s x. IsFirstAnswer p j w.time s x m) _ _ _ _ _ _ _ _ c.typed-p.ensures.program (ap (λ k. k.jitter) c.cert.ensures.cert)
    c.deref.ensures.value c.deref-2.ensures.value c.in-Some.ensures in
    (refl, subst (λ s. StaysUnsafe s m) c.self.view_is (stays_unsafe (guarding w) m c.self.invariant.sizes first))
