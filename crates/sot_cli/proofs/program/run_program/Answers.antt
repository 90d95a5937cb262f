use Rattle.std.proofs.Common.{inr, sym}
use Rattle.sot_cli.proofs.program.run_program.Goals as goal

pub returns-in-Ok : goal.returns-in-Ok
returns-in-Ok g c = record {
  ends = inr (
    c.in-Ok.words.items,
    c.in-Ok.ensures.words,
    (_, _, _, c.program-status.result, _, _, c.program-status.ensures, c.deref.ensures.value, sym c.from.ensures),
  );
}
