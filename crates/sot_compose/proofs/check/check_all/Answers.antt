use Rattle.std.proofs.Common.{subst}
use Rattle.sot_lang.specs.TableRules.{MeetsTableRules}
use Rattle.sot_world.proofs.Main.{certified_runs_are_safe}
use Rattle.sot_compose.proofs.Certified.{certified}
use Rattle.sot_compose.proofs.check.check_all.Goals as goal

pub of-requires : goal.of-requires
of-requires g c = certified c.args.p.now c.args.c.now (subst MeetsTableRules c.p.view_is c.p.invariant) c.requires c.in-Ok.ensures

pub returns-in-Ok-clause-safe : goal.returns-in-Ok-clause-safe
returns-in-Ok-clause-safe g c =
    let rules = subst MeetsTableRules c.p.view_is c.p.invariant in
    certified_runs_are_safe c.args.p.now c.args.c.now.jitter c.args.c.now rules.typed (certified c.args.p.now c.args.c.now rules c.requires c.in-Ok.ensures)
