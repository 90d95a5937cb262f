use Rattle.std.proofs.Common.{Bool, subst}
use Rattle.std.proofs.lemmas.Bool.{false≢true}
use Rattle.sot_trace_lines.specs.Shown.{Holds}
use Rattle.sot_replay.proofs.Narrow.{in_bounds}
use Rattle.sot_replay.proofs.bounds.are_possible.Goals as goal

-- a disturbance of more than 64 bits is in no bounds
pub returns : goal.returns
returns c all size holds =
    let (z, has, wide) = subst (λ (w : Bool). Holds w c.args.noise.now all) c.if-whole.false holds in
    ((λ is. absurd (false≢true is)), (λ inside. absurd (wide (in_bounds c.args.plants.now c.bounds_have_64_bits.ensures all size inside has.0 z has.1))))
