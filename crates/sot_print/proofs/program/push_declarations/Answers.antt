use Rattle.std.proofs.Common.{◌++◌, ◌∙◌, ap, map, refl}
use Rattle.std.specs.String.{string_bytes}
use Rattle.sot_syntax_tree.specs.TreeViews.{declaration_view}
use Rattle.sot_print.specs.Words.{laid}
use Rattle.sot_print.specs.Canonical.{own_line, declaration_words, declarations_from}
use Rattle.sot_print.proofs.Lists.{one_step}
use Rattle.sot_print.proofs.program.push_declarations.Goals as goal

pub loop-place-preserved : goal.loop-place-preserved
loop-place-preserved c =
    let d = c.index-declarations-place.result in
    one_step (λ first xs. declarations_from first (map declaration_view xs)) (λ first x. declaration_words (own_line first) (declaration_view x))
    (λ first x xs. refl)
    c.args.declarations.now c.loop-place.place d (string_bytes c.loop-place.out) (string_bytes c.push_declaration.new.out)
    c.loop-place-test.true c.index-declarations-place.is
    (c.in_ok-push_declaration.ensures ∙ ap (λ gap. string_bytes c.loop-place.out ++ laid (declaration_words gap (declaration_view d))) c.own_line.ensures)
    ∙ c.loop-place.invariant
