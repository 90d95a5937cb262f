use Rattle.std.proofs.Common.{◌<◌, take, sym, ap, ◌∙◌, arith}
use Rattle.std.proofs.lemmas.List.{length-take-le}
use Rattle.sot_text.specs.Lexeme.{word, sign}
use Rattle.sot_text.proofs.Fronts.{by_word, by_number, by_sign, some_sign}
use Rattle.sot_text.proofs.lexeme.front_of.Goals as goal

pub returns-then-begins_word-clause-front : goal.returns-then-begins_word-clause-front
returns-then-begins_word-clause-front c =
    let bytes = c.args.bytes.now in
    c.word.ensures.word ∙ ap (λ n. word (take n bytes)) c.word_len.ensures.len
    ∙ sym (by_word bytes c.in-len1-up.len_at_least (sym c.begins_word.ensures ∙ c.if-begins_word.true))

pub returns-then-begins_word-clause-within : goal.returns-then-begins_word-clause-within
returns-then-begins_word-clause-within c =
    omega (arith, c.word.ensures.len, length-take-le c.word_len.result c.args.bytes.now c.word_len.ensures.within)

pub returns-then-is_ascii_digit-clause-front : goal.returns-then-is_ascii_digit-clause-front
returns-then-is_ascii_digit-clause-front c =
    c.number.ensures.number ∙ sym (by_number c.args.bytes.now c.in-len1-up.len_at_least (sym c.begins_word.ensures ∙ c.if-begins_word.false)
    (sym c.is_ascii_digit.ensures.value ∙ c.if-is_ascii_digit.true))

pub returns-then-is_ascii_digit-clause-within : goal.returns-then-is_ascii_digit-clause-within
returns-then-is_ascii_digit-clause-within c = c.number.ensures.within

pub returns-in-0-clause-front : goal.returns-in-0-clause-front
returns-in-0-clause-front c =
    sym (by_sign c.args.bytes.now c.in-len1-up.len_at_least (sym c.begins_word.ensures ∙ c.if-begins_word.false)
    (sym c.is_ascii_digit.ensures.value ∙ c.if-is_ascii_digit.false) ∙ ap sign (sym c.sign_len.ensures.len ∙ c.in-0.is))

pub returns-in_default-clause-front : goal.returns-in_default-clause-front
returns-in_default-clause-front c =
    let some : 0 < c.sign_len.result = omega arith in
    sym (by_sign c.args.bytes.now c.in-len1-up.len_at_least (sym c.begins_word.ensures ∙ c.if-begins_word.false)
    (sym c.is_ascii_digit.ensures.value ∙ c.if-is_ascii_digit.false) ∙ ap sign (sym c.sign_len.ensures.len) ∙ some_sign c.sign_len.result some)
