use Rattle.std.proofs.Common.{inl, refl, arith, [], ◌∷◌}
use Rattle.sot_trace.specs.Lines.{header}
use Rattle.sot_replay.specs.declared.fail.LineKind.TheVariants.{NotALine}
use Rattle.sot_replay.proofs.Refusals.{refused_in_opening, opening_refused_as_short}
use Rattle.sot_replay.proofs.laws.first_lines_are_refused.Goals as goal

pub returns : goal.returns
returns c b front is tell = (
  opening_refused_as_short b is front tell 0 [] (omega arith) refl,
  (λ line more other. refused_in_opening b is front tell 0 (line ∷ more) header line more NotALine refl refl (omega arith) other (inl (refl, refl))),
)
