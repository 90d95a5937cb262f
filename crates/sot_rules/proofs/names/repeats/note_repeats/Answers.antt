-- Of `note_repeats`: its promise of fewer than two things.
use Rattle.std.proofs.Common.{sym, ap}
use Rattle.sot_rules.specs.Faults.{least}
use Rattle.sot_rules.proofs.Repeats.{few_repeat}
use Rattle.sot_rules.proofs.names.repeats.note_repeats.Goals as goal

pub returns-then-items-lt2 : goal.returns-then-items-lt2
returns-then-items-lt2 g c = sym (ap (least c.args.first.now) (few_repeat g.T.Named.ident c.args.items.now c.if-items-lt2.true))
