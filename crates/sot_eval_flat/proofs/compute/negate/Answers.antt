use Rattle.std.proofs.Common.{rules, ap, ◌∙◌, sym, Ok, w64, SFits}
use Rattle.std.proofs.lemmas.Int.{to_z-of_z}
use Rattle.sot_lang.specs.Values.{word}
use Rattle.sot_code.proofs.Filling.{read_word}
use Rattle.sot_eval_flat.proofs.Words.{less_than_zero}
use Rattle.sot_eval_flat.proofs.compute.negate.Goals as goal

pub returns-clause-value : goal.returns-clause-value
returns-clause-value c = λ well at.
    let fits : SFits w64 c.subtract.result = search rules in
    let e = rw (read_word c.args.a c.ranges.a) at (c.subtract.ensures.value well at) in
    ap (λ z. word at z) (less_than_zero c.args.a) ∙ e ∙ ap Ok (sym (to_z-of_z w64 c.subtract.result fits))
