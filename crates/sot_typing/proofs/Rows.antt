-- The parts of a call and the blocks of a statement, by the lists of their `Vec`s.
use Rattle.std.proofs.Common.{◌≡◌, ℕ, refl, ap, ap₂, ◌∙◌}
use Rattle.std.specs.Global.{Vec}
use Rattle.sot_text.specs.declared.token.Span.{Span}
use Rattle.sot_syntax_tree.specs.declared.operator.Func.{Func}
use Rattle.sot_lang.specs.declared.term.Term.{Term, Call, Row_of-Term, end_of-Term, more_of-Term, items-the_row-Term, items_hidden-the_row-Term-0}
use Rattle.sot_lang.specs.declared.term.Term.TheBlock.{hidden-the_row-Term-0}
use Rattle.sot_lang.specs.declared.act.Act.{Act, If, Repeat, Row_of-Act, end_of-Act, more_of-Act, items-the_row-Act, items_hidden-the_row-Act-0}
use Rattle.sot_lang.specs.declared.act.Act.TheBlock.{hidden-the_row-Act-0}
use Rattle.sot_typing.specs.Formulas.{one_more, called, formula_view, parts_view, branched, repeated, deed, deed_view, row_view, deeds_view}
use Rattle.sot_typing.specs.Sorted.{formulas_view}

part_items : {m : _} (ts : Row_of-Term m) → parts_view ts ≡ formulas_view (items-the_row-Term _ ts)
part_items end_of-Term = refl
part_items (more_of-Term t more) = ap (one_more (formula_view t)) (part_items more)

pub call_view : (f : Func) (v : Vec Term) (at : Span) → formula_view (Call f v at) ≡ called f (formulas_view v.items) at
call_view f v at = ap (λ ts. called f ts at) (part_items {m = _} (hidden-the_row-Term-0 v) ∙ ap formulas_view (items_hidden-the_row-Term-0 v))

row_items : {m : _} (us : Row_of-Act m) → row_view us ≡ deeds_view (items-the_row-Act _ us)
row_items end_of-Act = refl
row_items (more_of-Act a more) = ap (deed (deed_view a)) (row_items more)

row_is : (v : Vec Act) → row_view (hidden-the_row-Act-0 v) ≡ deeds_view v.items
row_is v = row_items {m = _} (hidden-the_row-Act-0 v) ∙ ap deeds_view (items_hidden-the_row-Act-0 v)

pub branch_view : (c : Term) (u v : Vec Act) → deed_view (If c u v) ≡ branched (formula_view c) (deeds_view u.items) (deeds_view v.items)
branch_view c u v = (let a = row_is u in let b = row_is v in ap₂ (branched (formula_view c)) a b)

pub repeat_view : (n : ℕ) (v : Vec Act) → deed_view (Repeat n v) ≡ repeated n (deeds_view v.items)
repeat_view n v = ap (repeated n) (row_is v)
