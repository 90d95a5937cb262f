use Rattle.std.proofs.Common.{ℕ, true, sym, subst, map}
use Rattle.sot_guard.specs.HeldParts.{MayBeHeld, AnswersAt, IsFirstAnswer}
use Rattle.sot_guard.proofs.Holding.{start_held, start_unsafe}
use Rattle.sot_guard.proofs.Regaining.{may_be_held}
use Rattle.sot_guard.proofs.guard.Guard.begin.Goals as goal

pub first_unheld_start-requires : goal.first_unheld_start-requires
first_unheld_start-requires c =
    let a = c.args.acc.now in
    let may = may_be_held a c.args.start.now c.typed-p.ensures.certified
    (record { each = c.requires.starts.each; widths = c.requires.starts.widths }) in
    subst (λ p. MayBeHeld p c.cert.result.now.jitter c.args.start.now) (sym c.typed-p.ensures.program)
    (subst (λ k. MayBeHeld a.program k.jitter c.args.start.now) (sym c.cert.ensures.cert) may)

pub returns-in-Some-clause-not_held : goal.returns-in-Some-clause-not_held
returns-in-Some-clause-not_held c =
    let a = c.args.acc.now in
    let first = subst (λ k. IsFirstAnswer a.program k.jitter c.args.time (map (λ i. i.init) a.program.scalars) c.args.start.now c.in-Some.«module») c.cert.ensures.cert
    (subst (λ p. IsFirstAnswer p c.cert.result.now.jitter c.args.time (map (λ i. i.init) p.scalars) c.args.start.now c.in-Some.«module») c.typed-p.ensures.program
    c.in-Some.ensures) in
    start_unsafe a.program a.cert.jitter c.args.time c.args.start.now c.requires.starts c.in-Some.«module» first

pub returns-in-Err-clause-memory : goal.returns-in-Err-clause-memory
returns-in-Err-clause-memory c = λ e.
    let a = c.args.acc.now in
    let answers = subst (λ k. (m : ℕ) → AnswersAt a.program k.jitter c.args.time (map (λ i. i.init) a.program.scalars) c.args.start.now m true) c.cert.ensures.cert
    (subst (λ p. (m : ℕ) → AnswersAt p c.cert.result.now.jitter c.args.time (map (λ i. i.init) p.scalars) c.args.start.now m true) c.typed-p.ensures.program
    c.in_default.ensures) in
    start_held a.program a.cert.jitter c.args.time c.args.start.now c.requires.starts answers
