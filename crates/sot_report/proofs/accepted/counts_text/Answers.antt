use Rattle.sot_report.proofs.accepted.counts_text.Goals as goal

pub returns : goal.returns
returns c = c.in_ok-text.ensures.ok
