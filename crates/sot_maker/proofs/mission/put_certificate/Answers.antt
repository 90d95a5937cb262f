use Rattle.std.proofs.Common.{codes}
use Rattle.std.specs.String.{string_bytes}
use Rattle.sot_maker.specs.declared.member.Member.TheVariants.{Cells}
use Rattle.sot_maker.specs.Members.{object_text}
use Rattle.sot_maker.specs.Missions.{certificate_text}
use Rattle.sot_maker.proofs.Behind.{one_object}
use Rattle.sot_maker.proofs.mission.put_certificate.Goals as goal

pub returns : goal.returns
unfolding certificate_text
returns c =
    one_object
    c.push_str.result
    (string_bytes c.args.out.now)
    (string_bytes c.put_behind.new.out)
    (string_bytes c.push_str.new.self)
    (codes "{\"format\":1,\"modules\":")
    (object_text Cells c.args.seed c.args.order.now)
    (codes "}")
    c.in_ok-put_behind.ensures
    c.push_str.ensures.bytes
