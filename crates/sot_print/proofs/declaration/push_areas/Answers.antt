use Rattle.std.proofs.Common.{◌==◌, ◌++◌, ◌∙◌, ap, sym, append_assoc, map, refl}
use Rattle.std.specs.String.{string_bytes}
use Rattle.sot_syntax_tree.specs.TreeViews.{area_view}
use Rattle.sot_print.specs.Words.{laid}
use Rattle.sot_print.specs.Canonical.{bar, area_words, areas_from}
use Rattle.sot_print.proofs.Laying.{laid-append}
use Rattle.sot_print.proofs.Lists.{one_step}
use Rattle.sot_print.proofs.declaration.push_areas.Goals as goal

pub loop-place-preserved : goal.loop-place-preserved
loop-place-preserved c =
    let area = area_view c.index-areas-place.result in
    let written =
    c.in_ok-push_area.ensures ∙ ap (λ bytes. bytes ++ laid (area_words area)) c.in_ok-push_bar.ensures
    ∙ append_assoc (string_bytes c.loop-place.out) (laid (bar (c.loop-place.place == 0))) (laid (area_words area))
    ∙ ap (λ bytes. string_bytes c.loop-place.out ++ bytes) (sym (laid-append (bar (c.loop-place.place == 0)) (area_words area))) in
    one_step (λ first xs. areas_from first (map area_view xs)) (λ first x. bar first ++ area_words (area_view x)) (λ first x xs. refl)
    c.args.areas.now c.loop-place.place c.index-areas-place.result (string_bytes c.loop-place.out) (string_bytes c.push_area.new.out)
    c.loop-place-test.true c.index-areas-place.is written
    ∙ c.loop-place.invariant
