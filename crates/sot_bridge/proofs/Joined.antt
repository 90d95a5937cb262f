-- Whether two missions join, from what was found out of their topics and flights.
use Rattle.std.proofs.Common.{ℕ, List}
use Rattle.sot_bridge.specs.Topics.{Match}
use Rattle.sot_bridge.specs.declared.joining.JoinFault.{JoinFault}
use Rattle.sot_bridge.specs.declared.joining.JoinFault.TheVariants as kinds
use Rattle.sot_bridge.specs.Answers.{Side, AreNamed, Joins, DoNotJoin, most}
use Rattle.sot_bridge.specs.Steps.{HasRoom, LacksRoom}

module _ (a b : Side) (from to : List ℕ) (delay k l : ℕ) (named : AreNamed a b from to k l) where
  pub joined : Match a.tables b.tables named.from_is.0 named.to_is.0 → HasRoom a.plan b.plan delay (most a k) named.to_is.0.count
      → Joins a b from to delay k l
  joined same room =
      record { named = named; same = same; long = room.long; few_events = room.few_events; few_numbers = room.few_numbers }

  pub lacking : Match a.tables b.tables named.from_is.0 named.to_is.0 → (fault : JoinFault)
      → LacksRoom a.plan b.plan delay (most a k) named.to_is.0.count fault → DoNotJoin a b from to delay fault
  lacking same kinds.Unknown lacks = absurd lacks
  lacking same kinds.Type lacks = absurd lacks
  lacking same kinds.Horizon lacks = (k, l, named, same, lacks)
  lacking same kinds.TooManyEvents lacks = (k, l, named, same, lacks.0, lacks.1)
  lacking same kinds.TooManyNumbers lacks = (k, l, named, same, lacks.0, lacks.1, lacks.2)
