-- Of `note_past`: its promises.
use Rattle.sot_rules.proofs.Limits.{past_noted, none_past}
use Rattle.sot_rules.proofs.declarations.limit.note_past.Goals as goal

pub returns-then-limit-items : goal.returns-then-limit-items
returns-then-limit-items g c =
    past_noted g.T.Named.ident (λ i. i.at) c.args.items.now c.args.limit c.index-items-limit.result c.ident.result.now _ _
    c.if-limit-items.true c.index-items-limit.is c.ident.ensures c.note.ensures

pub returns-else-limit-items : goal.returns-else-limit-items
returns-else-limit-items g c =
    none_past g.T.Named.ident (λ i. i.at) c.args.items.now c.args.limit c.args.first.now c.if-limit-items.false
