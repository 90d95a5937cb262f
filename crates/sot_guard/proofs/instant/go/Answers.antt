use Rattle.sot_guard.proofs.Instants.{instant_told, instant_order, instant_settled, told_stays}
use Rattle.sot_guard.proofs.instant.go.Goals as goal

pub returns-clause-happened : goal.returns-clause-happened
returns-clause-happened c =
    let d = c.decide_all.ensures in
    let f = c.fire_all.ensures in
    instant_told c.args.guard.now c.decide_all.new.guard c.fire_all.new.guard c.args.drafts.now c.clear.new.self.items c.decide_all.new.told.items
    c.fire_all.new.told.items c.clear.ensures.items d.accepted d.trusted d.decided f.fired

pub returns-clause-order : goal.returns-clause-order
returns-clause-order c =
    let d = c.decide_all.ensures in
    let f = c.fire_all.ensures in
    instant_order c.args.guard.now c.decide_all.new.guard c.fire_all.new.guard c.args.drafts.now c.clear.new.self.items c.decide_all.new.told.items
    c.fire_all.new.told.items c.clear.ensures.items d.accepted d.trusted d.decided f.fired

pub returns-clause-settled : goal.returns-clause-settled
returns-clause-settled c =
    let d = c.decide_all.ensures in
    let f = c.fire_all.ensures in
    instant_settled c.args.guard.now c.decide_all.new.guard c.fire_all.new.guard c.args.drafts.now c.clear.new.self.items c.decide_all.new.told.items
    c.fire_all.new.told.items c.clear.ensures.items d.accepted d.trusted d.decided f.fired

pub returns-clause-time : goal.returns-clause-time
returns-clause-time c =
    let d = c.decide_all.ensures in
    let f = c.fire_all.ensures in
    let s = c.args.guard.now in
    (told_stays s.trusted s.accepted.program s.accepted.cert.jitter c.args.drafts.now s.at _ c.fire_all.new.told.items
    (instant_told s c.decide_all.new.guard c.fire_all.new.guard c.args.drafts.now c.clear.new.self.items c.decide_all.new.told.items
    c.fire_all.new.told.items c.clear.ensures.items d.accepted d.trusted d.decided f.fired)).0

pub returns-clause-points : goal.returns-clause-points
returns-clause-points c =
    let d = c.decide_all.ensures in
    let f = c.fire_all.ensures in
    let s = c.args.guard.now in
    (told_stays s.trusted s.accepted.program s.accepted.cert.jitter c.args.drafts.now s.at _ c.fire_all.new.told.items
    (instant_told s c.decide_all.new.guard c.fire_all.new.guard c.args.drafts.now c.clear.new.self.items c.decide_all.new.told.items
    c.fire_all.new.told.items c.clear.ensures.items d.accepted d.trusted d.decided f.fired)).1
