use Rattle.std.proofs.Common.{codes}
use Rattle.std.specs.String.{string_bytes}
use Rattle.sot_maker.specs.declared.member.Member.TheVariants.{Crew, Start, Sway}
use Rattle.sot_maker.specs.Members.{object_text}
use Rattle.sot_maker.specs.Missions.{flight_text}
use Rattle.sot_maker.proofs.Behind.{three_objects}
use Rattle.sot_maker.proofs.mission.put_flight.Goals as goal

pub returns : goal.returns
unfolding flight_text
returns c =
    three_objects
    c.push_str.result
    (string_bytes c.args.out.now)
    (string_bytes c.put_behind.new.out)
    (string_bytes c.put_behind-2.new.out)
    (string_bytes c.put_behind-3.new.out)
    (string_bytes c.push_str.new.self)
    (codes "{\"crew\":")
    (object_text Crew c.args.seed c.args.order.now)
    (codes ",\"format\":1,\"horizon\":1000,\"inputs\":[],\"start\":")
    (object_text Start c.args.seed c.args.order.now)
    (codes ",\"sway\":")
    (object_text Sway c.args.seed c.args.order.now)
    (codes "}")
    c.in_ok-put_behind.ensures
    c.in_ok-put_behind-2.ensures
    c.in_ok-put_behind-3.ensures
    c.push_str.ensures.bytes
