-- What is made so far, and then what is left.
use Rattle.std.proofs.Common.{◌≡◌, List, [], ◌∷◌, ◌++◌, refl, ap}
use Rattle.sot_lang.specs.declared.term.Term.{Term}
use Rattle.sot_lang.specs.declared.act.Act.{Act}
use Rattle.sot_typing.specs.Formulas.{Formulas, no_formula, one_more, formula_view, Deeds, no_deed, deed, deed_view, deeds_view}
use Rattle.sot_typing.specs.Sorted.{formulas_view}

abbrev pub parts_then : List Term → Formulas → Formulas
parts_then [] more = more
parts_then (t ∷ ts) more = one_more (formula_view t) (parts_then ts more)

pub parts_push : (ts : List Term) (t : Term) (more : Formulas) → parts_then (ts ++ t ∷ []) more ≡ parts_then ts (one_more (formula_view t) more)
parts_push [] t more = refl
parts_push (x ∷ ts) t more = ap (one_more (formula_view x)) (parts_push ts t more)

pub parts_end : (ts : List Term) → formulas_view ts ≡ parts_then ts no_formula
parts_end [] = refl
parts_end (t ∷ ts) = ap (one_more (formula_view t)) (parts_end ts)

abbrev pub deeds_then : List Act → Deeds → Deeds
deeds_then [] more = more
deeds_then (a ∷ us) more = deed (deed_view a) (deeds_then us more)

pub deeds_push : (us : List Act) (a : Act) (more : Deeds) → deeds_then (us ++ a ∷ []) more ≡ deeds_then us (deed (deed_view a) more)
deeds_push [] a more = refl
deeds_push (x ∷ us) a more = ap (deed (deed_view x)) (deeds_push us a more)

pub deeds_end : (us : List Act) → deeds_view us ≡ deeds_then us no_deed
deeds_end [] = refl
deeds_end (a ∷ us) = ap (deed (deed_view a)) (deeds_end us)
