use Rattle.std.proofs.Common.{refl, ◌∙◌, arith}
use Rattle.std.proofs.lemmas.List.{length-set}
use Rattle.std.proofs.lemmas.Option.{slice_get_within}
use Rattle.sot_lists.proofs.Places.{read_at}
use Rattle.sot_lang.specs.declared.tables.ModuleInfo.{ModuleInfo}
use Rattle.sot_guard.proofs.Untils.{flag_more}
use Rattle.sot_guard.proofs.due.leave_due_decisions.Goals as goal

pub loop-m-preserved : goal.loop-m-preserved
loop-m-preserved c =
    let modules = c.args.modules.now in
    let at = read_at modules modules c.loop-m.m c.index-modules-m.result refl c.loop-m-test.true c.index-modules-m.is in
    record {
      size = length-set c.loop-m.left c.loop-m.m c.is_due.result ∙ c.loop-m.invariant.size;
      done = flag_more (λ (x : ModuleInfo). x.period) (λ x. x.offset) c.args.time modules c.loop-m.m c.loop-m.left c.index-modules-m.result c.is_due.result at
          (omega (arith, c.loop-m-test.true, c.loop-m.invariant.size)) c.is_due.ensures c.loop-m.invariant.done;
    }

pub returns-clause-left : goal.returns-clause-left
returns-clause-left c = λ m info at. c.loop-m.invariant.done m info (omega (arith, slice_get_within c.args.modules.now m info at, c.loop-m-test.false)) at
