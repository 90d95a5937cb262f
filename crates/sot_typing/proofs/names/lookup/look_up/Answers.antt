-- Of `look_up`: that it never fails, and its promises.
use Rattle.std.proofs.Common.{◌∙◌, ◌<◌, ap, length, map, arith}
use Rattle.std.proofs.lemmas.List.{length-map, get_or_default}
use Rattle.sot_syntax_tree.specs.TreeViews.{declaration_view}
use Rattle.sot_typing.specs.Numbers.{nothing_counted}
use Rattle.sot_typing.proofs.FoundThing.{numbers_length, decl_at, is_meant}
use Rattle.sot_typing.proofs.names.lookup.look_up.Goals as goal

pub bounds-numbers-place : goal.bounds-numbers-place
bounds-numbers-place c =
    let all = ap length c.requires.are ∙ numbers_length nothing_counted (map declaration_view c.args.index.now.decls.now)
    ∙ length-map c.args.index.now.decls.now declaration_view in
    omega (arith, all, c.in_ok-place.ensures.within)

pub returns : goal.returns
returns c =
    let all = ap length c.requires.are ∙ numbers_length nothing_counted (map declaration_view c.args.index.now.decls.now)
    ∙ length-map c.args.index.now.decls.now declaration_view in
    let inside : c.in_ok-place.place < length c.args.numbers.now = omega (arith, all, c.in_ok-place.ensures.within) in
    is_meant c.args.index.now c.args.numbers.now c.args.name.now c.in_ok-place.place _ _ c.requires c.in_ok-place.ensures.first c.in_ok-place.ensures.meant
    (decl_at c.args.index.now.decls.now _ _ c.in_ok-place.ensures.within c.index-decls-place.is)
    (get_or_default c.args.numbers.now c.in_ok-place.place _ _ inside)
    inside
