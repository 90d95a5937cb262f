use Rattle.std.proofs.Common.{subst}
use Rattle.sot_lang.specs.declared.tables.ModuleInfo.{ModuleInfo}
use Rattle.sot_invariant_atoms.specs.Greatest.{HasPointsOf}
use Rattle.sot_invariant_atoms.specs.Closed.{HasCoveredOf}
use Rattle.sot_invariant_atoms.proofs.Covering.{tells_none}
use Rattle.sot_invariant_atoms.proofs.Closing.{has_closed}
use Rattle.sot_invariant_atoms.proofs.Questions.{region_of}
use Rattle.sot_invariant_atoms.proofs.sweeps.closed_atoms.Goals as goal

pub atoms_of-requires : goal.atoms_of-requires
atoms_of-requires c =
    region_of c.args.ask.now c.program-program.ensures.rules c.program-program.ensures.asked c.program-program.result.now c.program-program.ensures.value
    c.info-info.result.now c.info-info.ensures c.args.grid.now.width c.requires

pub returns-clause-none : goal.returns-clause-none
returns-clause-none c =
    tells_none c.args.ask.now.program c.args.ask.now.jitter c.args.ask.now.info c.args.grid.now c.axes-axes.ensures.cut c.in_ok-set.set c.greatest.new.set
    c.in_ok-set.ensures.size
    (subst (λ (x : ModuleInfo). HasPointsOf c.args.grid.now c.in_ok-set.set x.safe.boxes) c.info-info.ensures c.in_ok-set.ensures.holds)
    c.greatest.ensures.keeps

pub returns-clause-closed : goal.returns-clause-closed
returns-clause-closed c =
    has_closed c.args.ask.now.program c.args.ask.now.jitter c.args.ask.now.info c.args.grid.now c.in_ok-set.set c.greatest.new.set
    c.in_ok-set.ensures.size
    (subst (λ (x : ModuleInfo). HasCoveredOf c.args.grid.now c.in_ok-set.set x.safe.boxes) c.info-info.ensures c.in_ok-set.ensures.covered)
    c.greatest.ensures.closed
