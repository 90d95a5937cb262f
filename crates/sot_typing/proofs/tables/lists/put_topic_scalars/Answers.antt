-- Of `put_topic_scalars`: its promises.
use Rattle.std.proofs.Common.{◌≡◌, ◌++◌, OnOk, List, subst}
use Rattle.sot_lang.specs.declared.tables.ScalarInfo.{ScalarInfo}
use Rattle.sot_rules.specs.Indexes.{program_in}
use Rattle.sot_typing.proofs.Gathered.{scalars_of}
use Rattle.sot_typing.proofs.tables.lists.put_topic_scalars.Goals as goal

pub returns-in-Topic : goal.returns-in-Topic
returns-in-Topic c =
    subst (λ (z : List ScalarInfo). OnOk c.put_scalars.result (c.put_scalars.new.scalars.items ≡ c.args.scalars.now.items ++ z))
    (scalars_of (program_in c.args.index.now) c.args.d.now c.in-Topic.t _ c.in-Topic.is c.topic_number-number.ensures.place)
    c.put_scalars.ensures
