-- Of `add`: its promises.
use Rattle.std.proofs.Common.{refl}
use Rattle.sot_rules.proofs.FewNames.{few_more, many_more}
use Rattle.sot_rules.proofs.names.things.add.Goals as goal

pub returns-then-is_empty : goal.returns-then-is_empty
returns-then-is_empty c =
    few_more c.args.table.now (record { few = c.push.new.self; many = c.args.table.now.many }) c.args.name c.args.kept
    (c.if-is_empty.ensures.0 refl) refl c.in_ok-push.ensures.items

pub returns : goal.returns
returns c =
    many_more c.args.table.now (record { few = c.args.table.now.few; many = c.add_value.new.table }) c.args.name.now c.args.kept
    refl c.in_ok-add_value.ensures
