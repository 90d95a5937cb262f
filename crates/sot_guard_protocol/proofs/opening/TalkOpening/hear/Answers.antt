use Rattle.std.proofs.Common.{ℕ, List, Result, Ok, Err, IfErr, inr, sym, ap, subst, ◌∙◌}
use Rattle.sot_tube.specs.Admitted.{Admitted}
use Rattle.sot_guard.specs.declared.misheard.Misheard.{Misheard}
use Rattle.sot_guard_lines.specs.Sayings.{Saying, IsSaid}
use Rattle.sot_guard_lines.specs.Shown.{ShowsSaid}
use Rattle.sot_guard_protocol.specs.Openings.{Starting, AnswersStart, IsNoStart}
use Rattle.sot_guard_protocol.proofs.opening.TalkOpening.hear.Goals as goal

-- what is said and not taken is no start
no_start : {A : Type 0} (a b : Starting) (line : List ℕ) (s : Saying) (result : Result A Misheard) → IsSaid a.accepted.program line s
    → AnswersStart a s b result → IfErr result (λ why. IsNoStart a line why)
no_start a b line s (Ok taken) said answers = tt
no_start a b line s (Err why) said answers = inr (s, said, answers.1)

pub returns-in-Some-clause-unheard : goal.returns-in-Some-clause-unheard
returns-in-Some-clause-unheard c =
    let line = c.args.line.now in
    let s = c.in-Some.ensures.said.0 in
    let program = c.typed-p.ensures.program ∙ ap (λ (x : Admitted). x.program) c.accepted.ensures.value in
    let said = subst (λ p. IsSaid p line s) program c.in-Some.ensures.said.1 in
    let shown = subst (λ numbers. ShowsSaid c.in-Some.said numbers s) (sym c.deref.ensures.value) c.in-Some.ensures.said.2 in
    let answers = c.take.ensures s shown in
    subst (λ a. IfErr c.take.result (λ why. IsNoStart a line why)) c.self.view_is
    (no_start c.self.inside.places c.take.new.self line s c.take.result said answers)
