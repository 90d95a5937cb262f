use Rattle.std.proofs.Common.{subst}
use Rattle.sot_turn.specs.Passes.{lock_of}
use Rattle.sot_workers.specs.Stations.{IsStationed}
use Rattle.sot_workers.proofs.relief.relieve.Goals as goal

pub join-requires : goal.join-requires
join-requires g c =
    let p = c.requires.stationed in
    let of = subst (IsStationed (lock_of c.args.turn.now) p.0 p.1 p.2 p.3) c.in-Caller.is p.4 in
    record { lock = (c.requires.lock, of.1) }

pub end-pass-requires-clause-began : goal.end-pass-requires-clause-began
end-pass-requires-clause-began g c =
    let p = c.requires.stationed in
    let of = subst (IsStationed (lock_of c.args.turn.now) p.0 p.1 p.2 p.3) c.in-Thread.is p.4 in
    (p.0, p.1, p.2, c.in-Thread.child.promise.0.value, of.1, c.join-in-Thread.ensures.on_shift)

pub returns-in-Guest-clause-list : goal.returns-in-Guest-clause-list
returns-in-Guest-clause-list g c = λ a f whole n away seen at.
    (subst (IsStationed (lock_of c.args.turn.now) a f n away) c.in-Guest.is at).0

pub returns-in-Caller-clause-list : goal.returns-in-Caller-clause-list
returns-in-Caller-clause-list g c = λ a f whole n away seen at.
    (subst (IsStationed (lock_of c.args.turn.now) a f n away) c.in-Caller.is at).0

pub returns-in-Thread-clause-list : goal.returns-in-Thread-clause-list
returns-in-Thread-clause-list g c = λ a f whole n away seen at.
    let of = subst (IsStationed (lock_of c.args.turn.now) a f n away) c.in-Thread.is at in
    c.end-pass.ensures.list a f whole n c.in-Thread.child.promise.0.value seen of.1 c.join-in-Thread.ensures.on_shift
