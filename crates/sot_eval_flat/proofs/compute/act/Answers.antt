use Rattle.std.proofs.Common.{rules, FitsSigned, w64, ap}
use Rattle.std.specs.Prelude.{slice_set}
use Rattle.sot_code.proofs.Filling.{read_word}
use Rattle.sot_eval_flat.specs.Instructions.{number_at}
use Rattle.sot_eval_flat.proofs.compute.act.Goals as goal

pub returns-clause-does : goal.returns-clause-does
returns-clause-does c = λ well.
    let xs = c.args.room.now in
    let one = c.args.one.now in
    let z = c.compute-made.result in
    let z_fits : FitsSigned w64 z = search rules in
    let a_fits : FitsSigned w64 (number_at xs one.a) = search rules in
    let b_fits : FitsSigned w64 (number_at xs one.b) = search rules in
    let c_fits : FitsSigned w64 (number_at xs one.c) = search rules in
    let counts_fit : FitsSigned w64 (number_at xs one.counts) = search rules in (
      z,
      λ counts at.
          let stopped = c.count.ensures.none well (rw (read_word _ counts_fit) counts) in
          rw (read_word _ a_fits, read_word _ b_fits, read_word _ c_fits) at (c.compute-made.ensures.value stopped at),
      ap (λ x. slice_set xs one.to x) (read_word z z_fits),
    )
