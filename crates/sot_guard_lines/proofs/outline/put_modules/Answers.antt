use Rattle.std.proofs.Common.{ap, refl}
use Rattle.sot_lists.proofs.Places.{drop_at, read_at}
use Rattle.sot_trace.proofs.Putting.{piece_put}
use Rattle.sot_guard_lines.specs.Outline.{modules_text}
use Rattle.sot_guard_lines.proofs.outline.put_modules.Goals as goal

pub loop-m-preserved : goal.loop-m-preserved
loop-m-preserved g c = λ y rest.
    let xs = c.args.modules.now in
    let i = c.loop-m.m in
    let at = read_at xs xs i c.index-modules-m.result refl c.loop-m-test.true c.index-modules-m.is in
    piece_put g.O.Out.puts g.met.O.Out.more _ _ _ y _ _ _ _ c.put_module.ensures
    (ap (λ l. modules_text l) (drop_at xs i c.index-modules-m.result at)) (c.loop-m.invariant y) rest
