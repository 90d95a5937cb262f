use Rattle.std.proofs.Common.{subst}
use Rattle.std.proofs.lemmas.Result.{err_from_is_err_and}
use Rattle.sot_traps.specs.Verdict.{IsVerdictOf}
use Rattle.sot_traps.proofs.NodeReads.{readable, room, ordered, may_evaluate, verdict}
use Rattle.sot_traps.proofs.Verdicts.{told}
use Rattle.sot_traps.proofs.verdict.trap_free.Goals as goal

pub readings-ranges-requires-clause-readable : goal.readings-ranges-requires-clause-readable
readings-ranges-requires-clause-readable c =
    readable _ _ c.p.view_is c.p.invariant c.requires.boxes c.args.node c.requires.coded c.index-info.result.now c.index-info.ensures
    c.deref.result.now c.deref.ensures.value

pub put_locals-requires-clause-room : goal.put_locals-requires-clause-room
put_locals-requires-clause-room c =
    room _ _ c.p.view_is c.p.invariant c.requires.boxes c.args.node c.requires.coded c.index-info.result.now c.index-info.ensures
    c.deref.result.now c.deref.ensures.value c.readings-ranges.result c.readings-ranges.ensures c.deref-2.result.now c.deref-2.ensures.value

pub put_locals-requires-clause-ordered : goal.put_locals-requires-clause-ordered
put_locals-requires-clause-ordered c =
    ordered _ _ c.p.view_is c.p.invariant c.requires.boxes c.args.node c.requires.coded c.index-info.result.now c.index-info.ensures
    c.deref.result.now c.deref.ensures.value c.readings-ranges.result c.readings-ranges.ensures c.deref-2.result.now c.deref-2.ensures.value

pub iv_node-requires : goal.iv_node-requires
iv_node-requires c =
    may_evaluate _ _ c.p.view_is c.p.invariant c.requires.boxes c.args.node c.requires.coded c.index-info.result.now c.index-info.ensures
    c.deref.result.now c.deref.ensures.value c.readings-ranges.result c.readings-ranges.ensures c.deref-2.result.now c.deref-2.ensures.value
    c.put_locals.new.sides c.put_locals.ensures

pub returns : goal.returns
returns c node acts at coded =
    subst (λ q. IsVerdictOf c.args.p.now node acts (told q)) c.in_ok-iv_node.was
    (verdict _ _ c.p.view_is c.p.invariant c.requires.boxes c.args.node c.requires.coded c.index-info.result.now c.index-info.ensures
    c.deref.result.now c.deref.ensures.value c.readings-ranges.result c.readings-ranges.ensures c.deref-2.result.now c.deref-2.ensures.value
    c.put_locals.new.sides c.put_locals.ensures c.iv_node.result c.iv_node.ensures node acts at coded)

pub returns-in_err-iv_node : goal.returns-in_err-iv_node
returns-in_err-iv_node c node acts at coded =
    let q = err_from_is_err_and c.from_residual.result c.from_residual.ensures.1 in
    rw (q.1, q.2)
    (subst (λ q. IsVerdictOf c.args.p.now node acts (told q)) c.in_err-iv_node.was
    (verdict _ _ c.p.view_is c.p.invariant c.requires.boxes c.args.node c.requires.coded c.index-info.result.now c.index-info.ensures
    c.deref.result.now c.deref.ensures.value c.readings-ranges.result c.readings-ranges.ensures c.deref-2.result.now c.deref-2.ensures.value
    c.put_locals.new.sides c.put_locals.ensures c.iv_node.result c.iv_node.ensures node acts at coded))
