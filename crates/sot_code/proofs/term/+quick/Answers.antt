use Rattle.std.proofs.Common.{rules, ap, ◌∙◌, sym, Ok, w64, SFits}
use Rattle.std.proofs.lemmas.Int.{to_z-of_z}
use Rattle.sot_lang.specs.Values.{value_of}
use Rattle.sot_lang.specs.declared.term.Term.{the_lemmas}
use Rattle.sot_lang.proofs.Rows.{value_of-Call}
use Rattle.sot_lang.proofs.Places.{HasPlaces-Call}
use Rattle.sot_code.proofs.term.+quick.Goals as goal

pub quick_compound-quick_call-requires : goal.quick_compound-quick_call-requires
quick_compound-quick_call-requires t c =
    let p = HasPlaces-Call c.in-Call.func c.in-Call.parts c.in-Call.at _ (rw c.in-Call.is at c.requires) in
    (search (rules, the_lemmas, c.in-Call.is, c.decreases), p)

pub quick_compound-returns-in-Call-clause-value : goal.quick_compound-returns-in-Call-clause-value
quick_compound-returns-in-Call-clause-value t c = λ well.
    let fits : SFits w64 c.quick_call.result = search rules in
    ap (λ e. value_of e c.args.numbers.now) c.in-Call.is ∙ value_of-Call _ _ _ _ ∙ c.quick_call.ensures.value well
    ∙ ap Ok (sym (to_z-of_z w64 c.quick_call.result fits))
