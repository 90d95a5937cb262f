use Rattle.sot_lang.proofs.LineRules.{line_meets_rules, line_cert_fits}
use Rattle.sot_lang.proofs.facts.line_is_typed.Goals as goal

pub returns-clause-tables : goal.returns-clause-tables
returns-clause-tables c g = line_meets_rules g

pub returns-clause-cert : goal.returns-clause-cert
returns-clause-cert c g = line_cert_fits g
