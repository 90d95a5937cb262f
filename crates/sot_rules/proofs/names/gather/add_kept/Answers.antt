-- Of `add_kept`: its promises.
use Rattle.std.proofs.Common.{subst}
use Rattle.sot_rules.specs.Alike.{StandsForThing}
use Rattle.sot_rules.proofs.StandsFor.{stands_added}
use Rattle.sot_rules.proofs.names.gather.add_kept.Goals as goal

pub returns-in_ok-add-in-Some : goal.returns-in_ok-add-in-Some
returns-in_ok-add-in-Some c tables x h xs stands =
    stands_added tables xs x c.args.things.now c.add.new.table _ c.args.name.now.name c.in-Some.s
    c.in_ok-add-in-Some.ensures c.as_bytes.ensures
    (subst (λ o. StandsForThing tables c.args.name.now.name o x) c.in-Some.is h)
    stands
