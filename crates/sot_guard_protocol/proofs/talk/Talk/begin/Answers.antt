use Rattle.std.proofs.Common.{◌≡◌, ℤ, List, Err, ap, sym, subst, ◌∙◌}
use Rattle.sot_tube.specs.Admitted.{Admitted}
use Rattle.sot_guard.specs.declared.begin_fail.BeginFail.{BeginFail}
use Rattle.sot_guard.specs.declared.begin_fail.BeginFail.TheVariants.{Memory}
use Rattle.sot_guard.specs.Hearing.{Hearing}
use Rattle.sot_guard.specs.Resuming.{AreHeldSafe}
use Rattle.sot_guard.specs.Beginning.{AtOpening}
use Rattle.sot_guard_protocol.proofs.talk.Talk.begin.Goals as goal

pub returns-in-Err-clause-memory : goal.returns-in-Err-clause-memory
returns-in-Err-clause-memory c = λ is.
    let acc = c.accepted-acc.result.now in
    let same : c.in-Err.fail ≡ Memory = cc in
    let starts = c.deref.ensures.value ∙ c.into_lists-lists.ensures.starts in
    subst (λ (x : Admitted). AtOpening x.program c.args.time c.args.opening.starts (λ C. AreHeldSafe x.program x.cert.jitter C)) c.accepted-acc.ensures.value
    (subst (λ (s : List (List ℤ)). AtOpening acc.program c.args.time s (λ C. AreHeldSafe acc.program acc.cert.jitter C)) starts (c.in-Err.ensures.memory (ap (λ (f : BeginFail). Err f) same)))

pub returns-clause-held : goal.returns-clause-held
returns-clause-held c =
    let a = c.args.opening.accepted in
    let session = c.in-Ok.session in
    subst (λ (h : Hearing). AreHeldSafe a.program a.cert.jitter h.guarding.at) (sym c.new.ensures.hearing)
    (subst (λ (x : Admitted). AreHeldSafe x.program x.cert.jitter session.guarding.at) c.accepted-acc.ensures.value c.in-Ok.ensures.held)
