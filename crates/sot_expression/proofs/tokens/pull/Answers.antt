use Rattle.std.proofs.Common.{sym, ap, ◌∙◌}
use Rattle.sot_text.specs.Reading.{outcome}
use Rattle.sot_expression.proofs.StreamLaws.{faulted}
use Rattle.sot_expression.proofs.tokens.pull.Goals as goal

pub returns-in-Err-clause-ahead : goal.returns-in-Err-clause-ahead
returns-in-Err-clause-ahead c =
    faulted c.in-Err.error c.args.lexer.now.bytes c.args.lexer.now.at c.next.new.self (sym (ap outcome c.in-Err.is) ∙ c.next.ensures.next)
