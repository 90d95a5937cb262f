use Rattle.std.proofs.Common.{◌≡◌, suc, ◌+◌, ◌-◌, ◌*◌, ◌∷◌, true, take, drop, get_or, sym, ap, ◌∙◌, arith}
use Rattle.std.specs.Char.{is_ascii_digit}
use Rattle.std.proofs.lemmas.List.{drop_more}
use Rattle.sot_text.specs.Lexeme.{digits_len}
use Rattle.sot_text.proofs.Digits.{same_capped, read_on, digit_count, digit_read}
use Rattle.sot_text.proofs.lexeme.read_digits.Goals as goal

pub loop-len-init : goal.loop-len-init
loop-len-init c =
    let bytes = c.args.bytes.now in
    record {
      within = omega arith;
      small = omega arith;
      count = omega arith;
      same = same_capped _ c.args.start (take (digits_len bytes) bytes) (omega arith);
    }

pub loop-len-preserved : goal.loop-len-preserved
loop-len-preserved c =
    let bytes = c.args.bytes.now in
    let len = c.loop-len.len in
    let value = c.loop-len.value in
    let d = get_or bytes len 0 in
    let rest = drop (len + 1) bytes in
    let here : drop len bytes ≡ d ∷ rest = drop_more bytes len 0 c.loop-len-test.true in
    let digit : is_ascii_digit d ≡ true = sym c.is_ascii_digit.ensures.value ∙ c.if-is_ascii_digit.true in
    let more : digits_len (drop len bytes) ≡ suc (digits_len rest) = ap digits_len here ∙ digit_count d rest digit in
    record {
      within = omega arith;
      small = omega arith;
      count = omega arith;
      same =
          same_capped c.min-value-in-loop-len.result (10 * value + (d - 48)) (take (digits_len rest) rest) (omega (arith, c.from.ensures))
          ∙ sym (digit_read value d rest digit) ∙ sym (ap (read_on value) here) ∙ c.loop-len.invariant.same;
    }
