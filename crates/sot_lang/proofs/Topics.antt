-- What a topic has in tables that meet their rules.
use Rattle.std.proofs.Common.{ℕ, ◌+◌, ◌-◌, ◌≤◌, length, arith}
use Rattle.std.proofs.lemmas.Option.{slice_get_within}
use Rattle.sot_lists.specs.Places.{At}
use Rattle.sot_lang.specs.declared.tables.TopicInfo.{TopicInfo}
use Rattle.sot_lang.specs.Tables.{Tables}
use Rattle.sot_lang.specs.TableRules.{MeetsTableRules}

-- a topic's scalars are there
pub topic_inside : (p : Tables) → MeetsTableRules p → (t : ℕ) (info : TopicInfo) → At p.topics t info → info.first + info.count ≤ length p.scalars
topic_inside p rules t info at =
    let some = (rules.topics t info at).0 in
    let last = rules.typed.topic_scalar t (info.first + info.count - 1) info at (omega (arith, some)) (omega (arith, some)) in
    omega (arith, slice_get_within p.scalars (info.first + info.count - 1) last.0 last.1, some)
