use Rattle.std.proofs.Common.{◌≡◌, ℕ, ◌<◌, length, ap, subst}
use Rattle.sot_lang.specs.declared.cert.Cert.{Cert}
use Rattle.sot_lang.specs.Tables.{Tables}
use Rattle.sot_lang.specs.TableRules.{MeetsTableRules}
use Rattle.sot_tube.specs.Certified.{IsWellCertified}
use Rattle.sot_law_runs.specs.Holds.{Guarded}
use Rattle.sot_law_runs.proofs.Rows.{guarded_modules}
use Rattle.sot_recovery_text.proofs.More.{tells_within, tells_never}
use Rattle.sot_recovery_text.proofs.lines.put_outcome.Goals as goal

guarded : (p q : Tables) (cert : Cert) (m : ℕ) → q ≡ p → MeetsTableRules q → IsWellCertified p cert.jitter cert → m < length p.modules → Guarded p cert m
guarded p q cert m same rules certified lt = (let own = subst MeetsTableRules same rules in guarded_modules p cert m own.typed certified lt)

pub returns-in-Ok : goal.returns-in-Ok
returns-in-Ok c =
    let p = c.args.acc.now.program in
    let d = c.args.acc.now.cert in
    let g = guarded p _ d c.args.«module» c.typed-p.ensures.program c.module_at-info.ensures.rules c.typed-p.ensures.certified c.requires.module_is in
    let found = c.in-Ok.ensures in
    tells_within p d c.put_line.result c.args.«module» c.in-Ok.holds _ _ _ _ _ c.typed-p.ensures.program (ap (λ x. x.jitter) c.cert.ensures.cert)
    (record { parts = g; rank = found.rank g; recovered = found.recovered g; holds = found.holds g; trusts = found.trusts g }) c.put_line.ensures

pub returns-in-Err : goal.returns-in-Err
returns-in-Err c =
    let p = c.args.acc.now.program in
    let d = c.args.acc.now.cert in
    let g = guarded p _ d c.args.«module» c.typed-p.ensures.program c.module_at-info.ensures.rules c.typed-p.ensures.certified c.requires.module_is in
    tells_never p d c.put_never.result c.args.«module» c.in-Err.fail _ _ _ _ c.typed-p.ensures.program g (c.in-Err.ensures.never g) c.put_never.ensures
