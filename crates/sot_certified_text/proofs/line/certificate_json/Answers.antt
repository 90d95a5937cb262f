use Rattle.std.proofs.Common.{◌≤◌, Some, ap, sym, ◌∙◌, subst}
use Rattle.serde_json.specs.Data.{depth}
use Rattle.sot_json.proofs.Faults.{is_json}
use Rattle.serde_json.specs.Written.{has_float, compact_text}
use Rattle.sot_certified_text.specs.CertText.{data_with_jitter}
use Rattle.sot_certified_text.proofs.Shapes.{certificate_whole, certificate_flat}
use Rattle.sot_certified_text.proofs.line.certificate_json.Goals as goal

pub returns-clause-text : goal.returns-clause-text
returns-clause-text c =
    let is = c.in_ok-value.ensures in
    c.in_ok-text.ensures.text (ap has_float is ∙ certificate_whole c.args.p.now c.args.cert.now) ∙ ap compact_text is

pub returns-clause-reads_back : goal.returns-clause-reads_back
returns-clause-reads_back c =
    let is = c.in_ok-value.ensures in
    is_json c.in_ok-text.text.items (data_with_jitter c.args.p.now c.args.cert.now) (
      c.in_ok-text.ensures.utf8,
      c.in_ok-text.ensures.reads_back (subst (λ d. depth d ≤ 127) (sym is) (certificate_flat c.args.p.now c.args.cert.now))
          ∙ ap Some is,
    )
