-- Of `add_named`: that its loop keeps what it says, and its promises.
use Rattle.std.proofs.Common.{ap, ◌∙◌, ◌++◌, filter_map, refl}
use Rattle.std.specs.Option.{option_to_list}
use Rattle.sot_syntax_tree.specs.declared.tree.Ident.{Ident}
use Rattle.sot_rules.specs.Names.{meaning}
use Rattle.sot_rules.specs.Indexes.{program_in}
use Rattle.sot_typing.specs.Things.{things_in}
use Rattle.sot_rules.specs.NameLists.{thing_of_list}
use Rattle.sot_typing.proofs.Listings.{add_next, add_done, filter_shape}
use Rattle.sot_typing.proofs.names.gather.add_named.Goals as goal

pub loop-name-preserved : goal.loop-name-preserved
loop-name-preserved c =
    let h = λ (i : Ident). thing_of_list c.args.list (meaning (program_in c.args.index.now) i) in
    add_next things_in (filter_map h) (λ i. option_to_list (h i)) (filter_shape h) refl c.args.names.now c.loop-name.name-index c.loop-name.things.items _
    c.loop-name.invariant c.name-item.result c.loop-name-test.true c.name-item.is _
    (c.in_ok-add.ensures ∙ ap (λ o. things_in c.loop-name.things.items ++ option_to_list o)
    (c.thing_of_list-thing.ensures ∙ ap (thing_of_list c.args.list) c.meaning.ensures))

pub returns : goal.returns
returns c =
    let h = λ (i : Ident). thing_of_list c.args.list (meaning (program_in c.args.index.now) i) in
    add_done things_in (filter_map h) (λ i. option_to_list (h i)) (filter_shape h) refl c.args.names.now c.loop-name.name-index c.loop-name.things.items _
    c.loop-name.invariant c.loop-name-test.false
