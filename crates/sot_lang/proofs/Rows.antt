-- A call's parts, read as the list of a `Vec`.
use Rattle.std.proofs.Common.{◌≡◌, ℕ, ℤ, Bool, List, [], ◌∷◌, zero, suc, length, refl, ap, sym, ◌∙◌, subst}
use Rattle.std.specs.Global.{Vec}
use Rattle.sot_text.specs.declared.token.Span.{Span}
use Rattle.sot_lists.specs.Places.{At}
use Rattle.sot_syntax_tree.specs.declared.operator.Func.{Func}
use Rattle.sot_lang.specs.declared.term.Term.{Term, Call, Row_of-Term, end_of-Term, more_of-Term, items-the_row-Term, items_hidden-the_row-Term-0}
use Rattle.sot_lang.specs.declared.term.Term.TheBlock.{hidden-the_row-Term-0}
use Rattle.sot_lang.specs.Values.{value_of, values_of_parts, one_more, then_with, called}
use Rattle.sot_lang.specs.Ticks.{values}
use Rattle.sot_lang.specs.TermRules.{TermFits, PartsFit, TermsFit}
use Rattle.sot_syntax_tree.specs.Functions.{arity}

values_items : {m : _} (ts : Row_of-Term m) (env : List ℤ) → values_of_parts ts env ≡ values (items-the_row-Term _ ts) env
values_items end_of-Term env = refl
values_items (more_of-Term t rest) env = ap (one_more (value_of t env)) (values_items rest env)

-- a call's value, by the list of its parts
pub value_of-Call : (f : Func) (v : Vec Term) (at : Span) (env : List ℤ) → value_of (Call f v at) env ≡ then_with (values v.items env) (called f at)
value_of-Call f v at env =
    ap (λ o. then_with o (called f at)) (values_items {m = _} (hidden-the_row-Term-0 v) env ∙ ap (λ ts. values ts env) (items_hidden-the_row-Term-0 v))

fit_items : {m : _} (ts : Row_of-Term m) (truths : List Bool) → PartsFit truths ts → TermsFit truths (items-the_row-Term _ ts)
fit_items end_of-Term truths h = tt
fit_items (more_of-Term t rest) truths h = (h.0, fit_items rest truths h.1)

-- a call that fits has the parts of its function, and each part fits
pub TermFits-Call : (f : Func) (v : Vec Term) (at : Span) (truths : List Bool) → TermFits truths (Call f v at)
    → TermsFit truths v.items × (length v.items ≡ arity f)
TermFits-Call f v at truths h =
    let e = items_hidden-the_row-Term-0 v in
    (subst (TermsFit truths) e (fit_items (hidden-the_row-Term-0 v) truths h.1), sym (ap length e) ∙ h.0)

items_fit : {m : _} (ts : Row_of-Term m) (truths : List Bool) → TermsFit truths (items-the_row-Term _ ts) → PartsFit truths ts
items_fit end_of-Term truths h = tt
items_fit (more_of-Term t rest) truths h = (h.0, items_fit rest truths h.1)

-- and the other way round
pub Call-TermFits : (f : Func) (v : Vec Term) (at : Span) (truths : List Bool) → TermsFit truths v.items → length v.items ≡ arity f
    → TermFits truths (Call f v at)
Call-TermFits f v at truths h size =
    let e = items_hidden-the_row-Term-0 v in
    (ap length e ∙ size, items_fit (hidden-the_row-Term-0 v) truths (subst (TermsFit truths) (sym e) h))

-- an expression of a list that fits
pub TermsFit-at : (truths : List Bool) (ts : List Term) (k : ℕ) (t : Term) → TermsFit truths ts → At ts k t → TermFits truths t
TermsFit-at truths [] k t h at = cc
TermsFit-at truths (x ∷ ts) zero t h at = (let e : x ≡ t = cc in subst (TermFits truths) e h.0)
TermsFit-at truths (x ∷ ts) (suc k) t h at = TermsFit-at truths ts k t h.1 at
