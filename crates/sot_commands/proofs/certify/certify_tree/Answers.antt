use Rattle.sot_syntax_tree.specs.TreeViews.{program_view}
use Rattle.sot_typing.proofs.Meets.{tables_meet}
use Rattle.sot_law_print_parse.proofs.FormedPrograms.{spelled_formed}
use Rattle.sot_commands.proofs.Certified.{tables_result, mistyped_result}
use Rattle.sot_commands.proofs.certify.certify_tree.Goals as goal

pub resolve-requires : goal.resolve-requires
resolve-requires g c = record { formed = spelled_formed _ _ _ c.requires.spelled.1 }

pub returns-in-Ok : goal.returns-in-Ok
returns-in-Ok g c =
    tables_result c.certify_tables.result (program_view c.args.program.now) c.in-Ok.tables
    (record {
      faultless = c.in-Ok.ensures.faultless;
      tables = c.in-Ok.ensures.tables;
      rules = tables_meet _ _ (spelled_formed _ _ _ c.requires.spelled.1) c.in-Ok.ensures.faultless c.in-Ok.ensures.tables;
    }) c.certify_tables.ensures

pub returns-in-Err-Fault : goal.returns-in-Err-Fault
returns-in-Err-Fault g c =
    let first = c.in-Err-Fault.ensures.fault c.in-Err-Fault.fault c.in-Err-Fault.field-0-is in
    mistyped_result c.faulty.result (program_view c.args.program.now) c.in-Err-Fault.fault first c.faulty.ensures.status c.faulty.ensures.text
