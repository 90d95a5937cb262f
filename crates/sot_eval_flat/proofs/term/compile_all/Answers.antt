use Rattle.std.proofs.Common.{arith, pos}
use Rattle.std.proofs.lemmas.Option.{slice_get_within}
use Rattle.sot_eval_flat.proofs.Making.{if_ok, always}
use Rattle.sot_eval_flat.proofs.term.compile_all.Goals as goal

pub compile-requires-clause-counts : goal.compile-requires-clause-counts
compile-requires-clause-counts c =
    let stated = c.args.shape.now.constants.items in
    let one = c.in_ok-counts.ensures in
    let lt = slice_get_within stated one.0 (pos 1) one.1 in
    omega (arith, lt, c.requires.behind, one.2)

pub returns : goal.returns
returns c =
    let one = c.in_ok-counts.ensures in
    if_ok c.compile.result _ _
    (λ place w. (
      w.0,
      w.1,
      always c.args.shape.now.names c.args.shape.now.constants.items c.in_ok-counts.counts c.args.base c.args.term.now w.0 place one.0 c.requires.behind
          one.1 one.2 w.2,
    ))
    c.compile.ensures
