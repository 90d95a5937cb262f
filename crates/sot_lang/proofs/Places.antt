-- What an evaluation needs of an expression follows from what the tables keep.
use Rattle.std.proofs.Common.{◌≡◌, ℕ, zero, suc, Bool, List, [], ◌∷◌, length, ap, sym, ◌∙◌, subst}
use Rattle.std.specs.Global.{Vec}
use Rattle.sot_text.specs.declared.token.Span.{Span}
use Rattle.sot_lists.specs.Places.{At}
use Rattle.sot_syntax_tree.specs.declared.operator.Func.{Func}
use Rattle.sot_lang.specs.declared.term.Term.{Term, Call, Row_of-Term, end_of-Term, more_of-Term, items-the_row-Term, items_hidden-the_row-Term-0}
use Rattle.sot_lang.specs.declared.term.Term.TheBlock.{hidden-the_row-Term-0}
use Rattle.sot_lang.specs.declared.term.Term.TheVariants.{Number, Place, Binary', Rest', Neg', Not', Call', Rescale', If'}
use Rattle.sot_lang.specs.TermRules.{TermFits, PartsFit, TermsFit}
use Rattle.sot_syntax_tree.specs.Functions.{arity}
use Rattle.sot_lang.specs.TermPlaces.{HasPlaces, RowHasPlaces, HavePlaces}

mutual
  pub HasPlaces-TermFits : (truths : List Bool) (t : Term) → TermFits truths t → HasPlaces (length truths) t
  HasPlaces-TermFits truths (Number z) h = tt
  HasPlaces-TermFits truths (Place k) h = h
  HasPlaces-TermFits truths (Binary' op p a q b at) h = (HasPlaces-TermFits truths a h.1, HasPlaces-TermFits truths b h.2)
  HasPlaces-TermFits truths (Rest' p a by at) h = (h.0, HasPlaces-TermFits truths a h.1)
  HasPlaces-TermFits truths (Neg' p a at) h = HasPlaces-TermFits truths a h
  HasPlaces-TermFits truths (Not' p a at) h = HasPlaces-TermFits truths a h.1
  HasPlaces-TermFits truths (Call' f shape parts at) h = (h.0, row_has_places truths parts h.1)
  HasPlaces-TermFits truths (Rescale' p a from to at) h = (h.0, h.1, HasPlaces-TermFits truths a h.2)
  HasPlaces-TermFits truths (If' p c q a r b at) h = (HasPlaces-TermFits truths c h.1, HasPlaces-TermFits truths a h.2, HasPlaces-TermFits truths b h.3)

  row_has_places : {m : _} (truths : List Bool) (ts : Row_of-Term m) → PartsFit truths ts → RowHasPlaces (length truths) ts
  row_has_places truths end_of-Term h = tt
  row_has_places truths (more_of-Term t rest) h = (HasPlaces-TermFits truths t h.0, row_has_places truths rest h.1)

pub HavePlaces-TermsFit : (truths : List Bool) (ts : List Term) → TermsFit truths ts → HavePlaces (length truths) ts
HavePlaces-TermsFit truths [] h = tt
HavePlaces-TermsFit truths (t ∷ ts) h = (HasPlaces-TermFits truths t h.0, HavePlaces-TermsFit truths ts h.1)

places_items : {m : _} (n : ℕ) (ts : Row_of-Term m) → RowHasPlaces n ts → HavePlaces n (items-the_row-Term _ ts)
places_items n end_of-Term h = tt
places_items n (more_of-Term t rest) h = (h.0, places_items n rest h.1)

-- a call's parts have places where it has
pub HasPlaces-Call : (f : Func) (v : Vec Term) (at : Span) (n : ℕ) → HasPlaces n (Call f v at) → HavePlaces n v.items × (length v.items ≡ arity f)
HasPlaces-Call f v at n h =
    let e = items_hidden-the_row-Term-0 v in
    (subst (HavePlaces n) e (places_items n (hidden-the_row-Term-0 v) h.1), sym (ap length e) ∙ h.0)

pub HavePlaces-at : (n : ℕ) (ts : List Term) (k : ℕ) (t : Term) → HavePlaces n ts → At ts k t → HasPlaces n t
HavePlaces-at n [] k t h at = cc
HavePlaces-at n (x ∷ ts) zero t h at = (let e : x ≡ t = cc in subst (HasPlaces n) e h.0)
HavePlaces-at n (x ∷ ts) (suc k) t h at = HavePlaces-at n ts k t h.1 at
