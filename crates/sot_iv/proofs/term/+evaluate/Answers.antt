use Rattle.std.proofs.Common.{rules, ap, subst, ◌∙◌, sym, ◌++◌}
use Rattle.sot_lang.specs.declared.term.Term.{the_lemmas}
use Rattle.sot_lang.proofs.Places.{HasPlaces-Call}
use Rattle.sot_iv.specs.Evaluation.{term_interval, Finds}
use Rattle.sot_iv.proofs.Rows.{term_interval-Call}
use Rattle.sot_iv.proofs.term.+evaluate.Goals as goal

pub compound-call-requires : goal.compound-call-requires
compound-call-requires t c =
    let p = HasPlaces-Call c.in-Call.func c.in-Call.parts c.in-Call.at _ (rw c.in-Call.is at c.requires) in
    (search (rules, the_lemmas, c.in-Call.is, c.decreases), p)

pub compound-returns-in-Call : goal.compound-returns-in-Call
compound-returns-in-Call t c =
    subst (Finds c.call.result c.call.new.trap)
    (sym (ap (λ e. term_interval e (c.args.seen.now ++ c.args.locals.now)) c.in-Call.is ∙ term_interval-Call _ _ _ _))
    c.call.ensures
