use Rattle.sot_parser.proofs.ProgramTexts.{answers_syntax, answers_place}
use Rattle.sot_parser.proofs.program.parse.Goals as goal

pub returns-clause-syntax : goal.returns-clause-syntax
returns-clause-syntax c = answers_syntax c.answer.result c.args.lexer.now.bytes c.args.lexer.now.at c.answer.ensures

pub returns-clause-place : goal.returns-clause-place
returns-clause-place c = answers_place c.answer.result c.args.lexer.now.bytes c.args.lexer.now.at c.answer.ensures
