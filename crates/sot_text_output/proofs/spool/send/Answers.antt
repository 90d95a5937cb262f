use Rattle.std.proofs.Common.{take, drop, sym, take-append-drop, arith}
use Rattle.std.proofs.lemmas.List.{length-drop}
use Rattle.sot_text_output.proofs.spool.send.Goals as goal

pub returns-in-Err : goal.returns-in-Err
returns-in-Err g c =
    let n = c.in-Err.field-0.sent in
    let bytes = c.args.bytes.now in
    let left = length-drop n bytes in (
      c.in-Err.ensures.fault,
      (take n bytes, drop n bytes, omega (arith, left, c.in-Err.ensures.sent), c.in-Err.ensures.partial, sym (take-append-drop n bytes)),
    )
