use Rattle.sot_typing.proofs.Meets.{tables_meet}
use Rattle.sot_regions_program.proofs.typed.tables_of.Goals as goal

pub resolve-requires : goal.resolve-requires
resolve-requires c = record { formed = c.requires.formed }

pub unreachable-requires : goal.unreachable-requires
unreachable-requires c =
    let first = c.in-Err-Fault.ensures.fault c.in-Err-Fault.field-0-0 c.in-Err-Fault.field-0-is in
    c.requires.faultless _ _ first.fails

pub returns-in-Ok : goal.returns-in-Ok
returns-in-Ok c = record {
  faultless = c.in-Ok.ensures.faultless;
  tables = c.in-Ok.ensures.tables;
  rules = tables_meet _ _ c.requires.formed c.in-Ok.ensures.faultless c.in-Ok.ensures.tables;
}
