use Rattle.std.proofs.Common.{refl}
use Rattle.sot_lang.proofs.facts.values_are_as_stated.Goals as goal

pub returns-clause-calls : goal.returns-clause-calls
unfolding Rattle.sot_lang.specs.declared.term.Term.TheBlock.hidden-the_row-Term-0 denote.Hole.Carrier.hidden
returns-clause-calls c g = (refl, refl, refl, refl)
