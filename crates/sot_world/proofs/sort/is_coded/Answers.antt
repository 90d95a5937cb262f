use Rattle.std.proofs.Common.{refl, sym, ap, ◌∙◌}
use Rattle.sot_lists.proofs.Places.{read_at}
use Rattle.sot_world.proofs.Options.{some_there, none_there}
use Rattle.sot_world.proofs.sort.is_coded.Goals as goal

pub returns-clause-coded : goal.returns-clause-coded
returns-clause-coded c = λ yes.
    let at = read_at _ _ c.args.node _ (ap (λ t. t.nodes) c.p.view_is) c.requires c.index.ensures in
    let body = some_there c.index.result.now.body (sym c.is_some.ensures ∙ yes) in
    (c.index.result.now, body.0.items, at, (body.0, body.1, refl))

pub returns-clause-external : goal.returns-clause-external
returns-clause-external c = λ no.
    let at = read_at _ _ c.args.node _ (ap (λ t. t.nodes) c.p.view_is) c.requires c.index.ensures in
    (c.index.result.now, at, none_there c.index.result.now.body (sym c.is_some.ensures ∙ no))
