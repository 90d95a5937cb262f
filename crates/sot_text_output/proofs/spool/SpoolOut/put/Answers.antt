use Rattle.std.proofs.Common.{ℕ, List, subst}
use Rattle.sot_text_output.specs.SpoolViews.{Puts}
use Rattle.sot_text_output.proofs.spool.SpoolOut.put.Goals as goal

pub returns : goal.returns
returns g c =
    subst (λ (l : List ℕ). Puts g.K.Sink.held g.K.Sink.faults c.args.self.now c.put_bytes.new.self l) c.as_bytes.ensures.value c.put_bytes.ensures
