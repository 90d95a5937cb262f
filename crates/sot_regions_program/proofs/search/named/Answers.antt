use Rattle.std.proofs.Common.{subst}
use Rattle.sot_regions.specs.declared.found.RegionsFail.{RegionsFail}
use Rattle.sot_regions_program.specs.Steps.{TellsFail}
use Rattle.sot_regions_program.proofs.Forms.{tells_module}
use Rattle.sot_regions_program.proofs.search.named.Goals as goal

pub returns-in-SafeNone : goal.returns-in-SafeNone
returns-in-SafeNone c = λ jitter tells.
    c.nothing_left.ensures jitter
    (subst (λ (f : RegionsFail). TellsFail c.args.p.now jitter c.args.«module» f) c.in-SafeNone.is tells)

pub returns-in-TooMany : goal.returns-in-TooMany
returns-in-TooMany c = λ jitter tells. tells_module c.args.p.now c.args.«module» c.requires.there

pub returns-in-SaferNone : goal.returns-in-SaferNone
returns-in-SaferNone c = λ jitter tells. tells_module c.args.p.now c.args.«module» c.requires.there
