use Rattle.std.proofs.Common.{◌∙◌, ◌++◌, map, ap, sym}
use Rattle.std.specs.String.{string_bytes}
use Rattle.std.proofs.lemmas.Result.{IfOk-equal}
use Rattle.sot_syntax_tree.specs.TreeViews.{next_view, plant_view}
use Rattle.sot_print.specs.Words.{laid}
use Rattle.sot_print.specs.Canonical.{each, next_clause}
use Rattle.sot_print.proofs.Declarations.{plant_bytes, plant_written}
use Rattle.sot_print.proofs.declaration.push_plant.Goals as goal

pub returns : goal.returns
returns c =
    let start = string_bytes c.args.out.now in
    let nexts = c.in_ok-push_next_clauses.ensures ∙ ap (λ ns. string_bytes c.push_plant_clauses.new.out ++ laid (each next_clause (map next_view ns)))
    c.deref.ensures.value in
    IfOk-equal c.push_closing.result _ _ _ c.push_closing.ensures
    (plant_written start (string_bytes c.push_head.new.out) (string_bytes c.push_word.new.out) (string_bytes c.push_plant_clauses.new.out)
    (string_bytes c.push_next_clauses.new.out) _ _ _ _ _ c.in_ok-push_head.ensures c.in_ok-push_word.ensures c.in_ok-push_plant_clauses.ensures nexts
    ∙ ap (λ bytes. start ++ bytes) (sym (plant_bytes c.args.gap (plant_view c.args.plant.now))))
