use Rattle.std.proofs.Common.{◌++◌, ◌∙◌, true, map, ap, sym, ◌≡◌, ◌==◌, false, length, [], ◌∷◌}
use Rattle.sot_syntax_tree.specs.TreeViews.{declaration_view}
use Rattle.sot_print.specs.Words.{laid}
use Rattle.sot_print.specs.Canonical.{declarations_from}
use Rattle.sot_print.proofs.Declarations.{program_ends}
use Rattle.sot_print.proofs.program.print.Goals as goal

pub returns : goal.returns
returns c =
    let ds = c.args.program.now.decls.items in
    let some : (length ds == 0) ≡ false = ap (λ xs. length xs == 0) (sym c.as_slice-declarations.ensures.value) ∙ sym c.is_empty.ensures
    ∙ c.if-is_empty.false in
    let written =
    c.in_ok-push_declarations.ensures ∙ ap (λ bytes. bytes ++ laid (declarations_from true (map declaration_view c.as_slice-declarations.result.now)))
    c.new-out.ensures.bytes
    ∙ ap (λ xs. laid (declarations_from true (map declaration_view xs))) c.as_slice-declarations.ensures.value in
    c.in_ok-push_str.ensures.bytes ∙ ap (λ bytes. bytes ++ 10 ∷ []) written ∙ sym (program_ends declaration_view ds some)
