-- Of `node_scope`: its promises.
use Rattle.std.proofs.Common.{[]}
use Rattle.sot_rules.specs.Alike.{tables_in}
use Rattle.sot_rules.proofs.StandsFor.{names_alike}
use Rattle.sot_rules.proofs.names.owner.node_scope.Goals as goal

pub returns-in-Ok : goal.returns-in-Ok
returns-in-Ok c =
    let tables = tables_in c.args.index.now in
    record {
      read =
          names_alike (record c.no_names-read.result { things = c.add_scope-added.new.read }) tables _ c.no_names-read.ensures.tables
          (c.in-Ok.ensures.read [] c.no_names-read.ensures.none);
      local =
          names_alike (record c.no_names-local.result { things = c.add_scope-added.new.local }) tables _ c.no_names-local.ensures.tables
          (c.in-Ok.ensures.local [] c.no_names-local.ensures.none);
      written =
          names_alike (record c.no_names-written.result { things = c.add_scope-added.new.written }) tables _ c.no_names-written.ensures.tables
          (c.in-Ok.ensures.written [] c.no_names-written.ensures.none);
    }
