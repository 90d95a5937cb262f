-- Of `note_repeated_declarations`: its promises.
use Rattle.std.proofs.Common.{◌≡◌, [], ap, sym, subst}
use Rattle.std.specs.Prelude.{OnOk}
use Rattle.sot_syntax_tree.specs.TreeViews.{declaration_view}
use Rattle.sot_rules.specs.Names.{declared_name}
use Rattle.sot_rules.specs.Faults.{least, repeats}
use Rattle.sot_rules.proofs.Mapped.{map_twice}
use Rattle.sot_rules.proofs.program.note_repeated_declarations.Goals as goal

pub returns-then-is_distinct : goal.returns-then-is_distinct
returns-then-is_distinct c = sym (ap (least c.args.first.now) (c.is_distinct.ensures c.if-is_distinct.true))

pub returns : goal.returns
returns c =
    subst (λ is. OnOk c.note_repeats.result (c.note_repeats.new.first ≡ least c.args.first.now (repeats [] is)))
    (map_twice declared_name declaration_view c.args.index.now.decls.now) c.note_repeats.ensures
