use Rattle.std.proofs.Common.{subst}
use Rattle.sot_lang.specs.TableRules.{MeetsTableRules}
use Rattle.sot_bridge.proofs.flying.look_at.Goals as goal

pub returns : goal.returns
returns c = subst MeetsTableRules c.p.view_is c.p.invariant
