use Rattle.std.proofs.Common.{refl, subst}
use Rattle.std.proofs.lemmas.Result.{err_from_is_err_and}
use Rattle.sot_lang.specs.TableRules.{MeetsTableRules}
use Rattle.sot_world.proofs.Main.{certified_runs_are_safe}
use Rattle.sot_certify.proofs.Certified.{fits, made, well_certified}
use Rattle.sot_certify.proofs.Points.{no_entries}
use Rattle.sot_certify.proofs.making.certify.Goals as goal

pub entries-requires-clause-may : goal.entries-requires-clause-may
entries-requires-clause-may c = record {
  own_plant = c.in_default.ensures.0.1.1.0;
  boxes = λ m a at. (c.in_default.ensures.1.0 m a at).1.0;
  free = λ n node acts at coded. c.in_default.ensures.1.1 n node at acts coded;
}

pub returns-in_err-modules-clause-point : goal.returns-in_err-modules-clause-point
returns-in_err-modules-clause-point c =
    let rules = subst MeetsTableRules c.p.view_is c.p.invariant in
    let q = err_from_is_err_and c.from_residual.result c.from_residual.ensures.1 in
    rw (q.1, q.2) (no_entries c.args.p.now c.in_err-modules.field-0.0 rules c.in_default.ensures c.in_err-modules.ensures)

pub returns-clause-answer : goal.returns-clause-answer
returns-clause-answer c =
    let rules = subst MeetsTableRules c.p.view_is c.p.invariant in
    (c.in_default.ensures, made c.args.p.now (record { jitter = 0; modules = c.in_ok-modules.modules }) rules refl c.in_ok-modules.ensures)

pub returns-clause-fits : goal.returns-clause-fits
returns-clause-fits c =
    let rules = subst MeetsTableRules c.p.view_is c.p.invariant in
    fits c.args.p.now (record { jitter = 0; modules = c.in_ok-modules.modules }) rules refl c.in_ok-modules.ensures

pub returns-clause-certified : goal.returns-clause-certified
returns-clause-certified c =
    let rules = subst MeetsTableRules c.p.view_is c.p.invariant in
    well_certified c.args.p.now (record { jitter = 0; modules = c.in_ok-modules.modules }) rules c.in_default.ensures
    (made c.args.p.now (record { jitter = 0; modules = c.in_ok-modules.modules }) rules refl c.in_ok-modules.ensures)

pub returns-clause-safe : goal.returns-clause-safe
returns-clause-safe c =
    let rules = subst MeetsTableRules c.p.view_is c.p.invariant in
    certified_runs_are_safe c.args.p.now 0 (record { jitter = 0; modules = c.in_ok-modules.modules }) rules.typed
    (well_certified c.args.p.now (record { jitter = 0; modules = c.in_ok-modules.modules }) rules c.in_default.ensures
    (made c.args.p.now (record { jitter = 0; modules = c.in_ok-modules.modules }) rules refl c.in_ok-modules.ensures))
