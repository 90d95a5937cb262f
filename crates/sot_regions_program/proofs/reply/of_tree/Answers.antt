use Rattle.sot_syntax_tree.specs.TreeViews.{program_view}
use Rattle.sot_report.specs.Missions.{Resolves}
use Rattle.sot_typing.proofs.Meets.{tables_meet}
use Rattle.sot_law_print_parse.proofs.FormedPrograms.{spelled_formed}
use Rattle.sot_regions_program.proofs.Forms.{tables_result, mistyped_result}
use Rattle.sot_regions_program.proofs.reply.of_tree.Goals as goal

pub resolve-requires : goal.resolve-requires
resolve-requires g c = record { formed = spelled_formed _ _ _ c.requires.spelled }

pub of_tables-requires-clause-tables : goal.of_tables-requires-clause-tables
of_tables-requires-clause-tables g c κs within =
    let resolved : Resolves (program_view c.args.program.now) c.in-Ok.tables =
    record {
      faultless = c.in-Ok.ensures.faultless;
      tables = c.in-Ok.ensures.tables;
      rules = tables_meet _ _ (spelled_formed _ _ _ c.requires.spelled) c.in-Ok.ensures.faultless c.in-Ok.ensures.tables;
    }
    in
    (program_view c.args.program.now, (c.requires.spelled, resolved))

pub returns-in-Ok : goal.returns-in-Ok
returns-in-Ok g c =
    let resolved : Resolves (program_view c.args.program.now) c.in-Ok.tables =
    record {
      faultless = c.in-Ok.ensures.faultless;
      tables = c.in-Ok.ensures.tables;
      rules = tables_meet _ _ (spelled_formed _ _ _ c.requires.spelled) c.in-Ok.ensures.faultless c.in-Ok.ensures.tables;
    }
    in
    tables_result c.of_tables.result (program_view c.args.program.now) c.in-Ok.tables c.args.jitter resolved
    (c.of_tables.ensures (program_view c.args.program.now) (c.requires.spelled, resolved))

pub returns-in-Err-Fault : goal.returns-in-Err-Fault
returns-in-Err-Fault g c =
    let first = c.in-Err-Fault.ensures.fault c.in-Err-Fault.fault c.in-Err-Fault.field-0-is in
    mistyped_result c.faulty.result (program_view c.args.program.now) c.args.jitter c.in-Err-Fault.fault first c.faulty.ensures.status c.faulty.ensures.text
