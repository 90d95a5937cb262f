-- What is left to show of `boxes_of`.
use Rattle.std.proofs.Common.{decimal, subst, arith}
use Rattle.sot_json.specs.Answers.{IsUnder}
use Rattle.sot_cert.specs.CertFormat.{cell}
use Rattle.sot_json.proofs.Lists.{ends}
use Rattle.sot_cert.proofs.cells.boxes_of.Goals as goal

pub returns-in-Err-clause-says : goal.returns-in-Err-clause-says
returns-in-Err-clause-says c =
    let l = c.loop-item in
    ends (λ done. cell c.args.width) l.found.boxes c.deref-item-items.result.now l.item-index c.item-item.result c.in-Err.fail c.fault_under_index.result _
    (omega arith) c.item-item.is (subst (λ n. IsUnder (decimal n) c.in-Err.fail c.fault_under_index.result) c.len.ensures c.fault_under_index.ensures)
    c.in-Err.ensures.says l.invariant.1
