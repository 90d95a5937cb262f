use Rattle.std.proofs.Common.{rules, ap, ◌∙◌, sym, Ok, w64, SFits}
use Rattle.std.proofs.lemmas.Int.{to_z-of_z}
use Rattle.sot_lang.specs.Values.{word}
use Rattle.sot_code.proofs.Words.{product_is}
use Rattle.sot_eval_flat.proofs.compute.multiply.Goals as goal

pub returns-clause-value : goal.returns-clause-value
returns-clause-value c = λ well at.
    let fits : SFits w64 c.fit.result = search rules in
    ap (λ z. word at z) (sym (product_is c.args.a c.args.b c.ranges.a c.ranges.b)) ∙ c.fit.ensures.value well at
    ∙ ap Ok (sym (to_z-of_z w64 c.fit.result fits))
