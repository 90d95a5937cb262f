use Rattle.sot_regions_program.proofs.search.search_one.Goals as goal

pub returns-in-Err-clause-err : goal.returns-in-Err-clause-err
returns-in-Err-clause-err c = c.named.ensures c.args.asked.jitter c.in-Err.ensures
