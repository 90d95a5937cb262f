use Rattle.sot_syntax_tree.specs.TreeViews.{program_view}
use Rattle.sot_regions_program.proofs.AsGiven.{certificate_of, given_result}
use Rattle.sot_regions_program.proofs.as_given.as_given.Goals as goal

pub spelled-requires-clause-spelled : goal.spelled-requires-clause-spelled
spelled-requires-clause-spelled c = (c.requires.tables.0, c.requires.tables.1.0)

pub written-requires : goal.written-requires
written-requires c =
    certificate_of c.args.asked.text.now c.requires.tables.0 (program_view c.in_ok-program.program) c.args.asked.tables.now c.args.cert.now
    c.requires.tables.1 c.in_ok-program.ensures c.requires.made c.requires.fits

pub returns : goal.returns
returns c = λ p typed.
    given_result c.written.result c.args.asked.text.now p (program_view c.in_ok-program.program) c.args.asked.tables.now c.args.asked.jitter
    c.args.cert.now typed c.in_ok-program.ensures c.requires.on_time c.requires.made c.requires.fits c.written.ensures.status c.written.ensures.text
    c.written.ensures.spelled
