use Rattle.std.proofs.Common.{rules, ap, ◌∙◌, sym}
use Rattle.sot_lang.specs.Values.{value_of}
use Rattle.sot_lang.specs.declared.term.Term.{the_lemmas}
use Rattle.sot_lang.proofs.Rows.{value_of-Call}
use Rattle.sot_lang.proofs.Places.{HasPlaces-Call}
use Rattle.sot_code.proofs.term.+exact.Goals as goal

pub compound-call-requires : goal.compound-call-requires
compound-call-requires t c =
    let p = HasPlaces-Call c.in-Call.func c.in-Call.parts c.in-Call.at _ (rw c.in-Call.is at c.requires) in
    (search (rules, the_lemmas, c.in-Call.is, c.decreases), p)

pub compound-returns-in-Call : goal.compound-returns-in-Call
compound-returns-in-Call t c = c.call.ensures ∙ sym (ap (λ e. value_of e c.args.numbers.now) c.in-Call.is ∙ value_of-Call _ _ _ _)
