use Rattle.std.proofs.Common.{◌≡◌, IsSome, rules, sym, ap, ◌∙◌, subst}
use Rattle.sot_turn.proofs.Joining.{joins_keep, one_ground}
use Rattle.sot_turn.proofs.Looking.{looks_keep}
use Rattle.sot_turn.proofs.turn.Turn.join.Goals as goal

pub join_seat-requires : goal.join_seat-requires
join_seat-requires g c =
    let a = c.args.a in
    let b = c.args.b in
    let both = joins_keep g.G.Journal.ground g.G.Journal.entries a.place.id a.place.me.0 b.place.id b.place.me.0 (a.idle.0, a.idle.1, a.grounded)
    (b.idle.0, b.idle.1, b.grounded) in
    (search rules, search rules, b.empty, search rules, both)

pub load-requires : goal.load-requires
load-requires g c =
    let now = ap (λ m. m.0) c.join_seat.ensures.2 in
    let grounded = subst (λ v. IsSome v.own_ground) (sym now) c.args.a.grounded in
    (search rules, search rules, looks_keep g.G.Journal.ground g.G.Journal.entries _ _ _ (search rules) (ap (λ v. v.turn) now) grounded)

pub returns-clause-ground : goal.returns-clause-ground
returns-clause-ground g c =
    let a = c.args.a in
    let b = c.args.b in
    let now = ap (λ m. m.0) c.join_seat.ensures.2 in
    let both = one_ground a.place.me.0 b.place.me.0 c.join_seat.new.seat.me.0 (a.idle.0, a.idle.1, a.grounded) (b.idle.0, b.idle.1, b.grounded) now
    c.load.ensures.2.3 in
    let stays : c.load.new.seat.me.0.own_ground ≡ c.join_seat.new.seat.me.0.own_ground = λ i. (c.load.ensures.2.1 (search rules) i).0.own_ground in
    (stays ∙ both.0, stays ∙ both.1)

pub returns-clause-added : goal.returns-clause-added
returns-clause-added g c =
    let stays : c.load.new.seat.me.0.added ≡ c.join_seat.new.seat.me.0.added = λ i. (c.load.ensures.2.1 (search rules) i).0.added in
    stays ∙ ap (λ m. m.0.added) c.join_seat.ensures.2
