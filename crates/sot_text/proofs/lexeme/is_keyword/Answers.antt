use Rattle.std.proofs.Common.{sym, ◌∙◌, arith}
use Rattle.sot_text.proofs.Keywords.{by_length, other_lengths}
use Rattle.sot_text.proofs.lexeme.is_keyword.Goals as goal

pub returns-in-2 : goal.returns-in-2
returns-in-2 c = c.is_listed.ensures ∙ sym (by_length 2 c.args.word.now c.in-2.is)

pub returns-in-3 : goal.returns-in-3
returns-in-3 c = c.is_listed-in-3.ensures ∙ sym (by_length 3 c.args.word.now c.in-3.is)

pub returns-in-4 : goal.returns-in-4
returns-in-4 c = c.is_listed-in-4.ensures ∙ sym (by_length 4 c.args.word.now c.in-4.is)

pub returns-in-5 : goal.returns-in-5
returns-in-5 c = c.is_listed-in-5.ensures ∙ sym (by_length 5 c.args.word.now c.in-5.is)

pub returns-in-6 : goal.returns-in-6
returns-in-6 c = c.is_listed-in-6.ensures ∙ sym (by_length 6 c.args.word.now c.in-6.is)

pub returns-in-7 : goal.returns-in-7
returns-in-7 c = c.is_listed-in-7.ensures ∙ sym (by_length 7 c.args.word.now c.in-7.is)

pub returns-in-8 : goal.returns-in-8
returns-in-8 c = c.is_listed-in-8.ensures ∙ sym (by_length 8 c.args.word.now c.in-8.is)

pub returns-in-11 : goal.returns-in-11
returns-in-11 c = c.is_listed-in-11.ensures ∙ sym (by_length 11 c.args.word.now c.in-11.is)

pub returns-in_default : goal.returns-in_default
returns-in_default c =
    sym (other_lengths c.args.word.now (omega arith) (omega arith) (omega arith) (omega arith) (omega arith) (omega arith) (omega arith) (omega arith))
