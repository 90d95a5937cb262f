use Rattle.std.proofs.Common.{arith}
use Rattle.std.proofs.lemmas.Bool.{false≢true}
use Rattle.std.proofs.lemmas.Option.{slice_get_within}
use Rattle.sot_compose.proofs.outputs.are_partners.Goals as goal

pub returns : goal.returns
returns c = (
  (λ f. absurd (false≢true f)),
  (λ some. absurd (c.loop-info.invariant some.0 some.1 (omega (arith, slice_get_within c.args.modules.now some.0 some.1 some.2, c.loop-info-test.false)) some.2
      some.3)),
)
