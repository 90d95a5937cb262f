-- Two missions fail to join for one reason.
use Rattle.std.proofs.Common.{◌≡◌, ℕ, ◌+◌, ◌*◌, ◌<◌, ◌≤◌, Bool, true, false, List, inl, inr, refl, sym, ap, subst, arith}
use Rattle.sot_lists.specs.Places.{At}
use Rattle.sot_lists.proofs.Places.{at_same}
use Rattle.sot_lang.specs.declared.tables.TopicInfo.{TopicInfo}
use Rattle.sot_lang.specs.declared.tables.ScalarInfo.{ScalarInfo}
use Rattle.sot_lang.specs.Tables.{Tables}
use Rattle.sot_lang.specs.TableRules.{MeetsTableRules}
use Rattle.sot_typing.specs.Resolved.{ProgramTables, tables_seen}
use Rattle.sot_law_equal_tables.proofs.Seen.{scalars_same}
use Rattle.sot_flight.specs.Plans.{Plan}
use Rattle.sot_bridge.specs.Topics.{IsNamed, Match}
use Rattle.sot_bridge.specs.declared.joining.JoinFault.{JoinFault}
use Rattle.sot_bridge.specs.declared.joining.JoinFault.TheVariants as kinds
use Rattle.sot_bridge.specs.Answers.{Side, AreNamed, DoNotJoin, most}
use Rattle.sot_bridge.proofs.Alike.{Alike}
use Rattle.sot_law_bridge_answers.proofs.Near.{named_once, most_same}

-- names and topics, by tables that look the same
named_moved : (t u : Tables) → tables_seen t ≡ tables_seen u → (name : List ℕ) (outside : Bool) (k : ℕ) → IsNamed t name outside k → IsNamed u name outside k
named_moved t u same name outside k named =
    (named.0, subst (λ (ts : List TopicInfo). At ts k named.0) (ap (λ (s : ProgramTables). s.topics) same) named.1, named.2)

match_moved : (t u v w : Tables) → tables_seen t ≡ tables_seen u → tables_seen v ≡ tables_seen w → (x y : TopicInfo) → Match t v x y → Match u w x y
match_moved t u v w same same' x y m = record {
  count = m.count;
  each = λ i p q less at_p at_q. m.each i p q less (subst (λ (ss : List ScalarInfo). At ss (x.first + i) p) (sym (scalars_same t u same)) at_p)
      (subst (λ (ss : List ScalarInfo). At ss (y.first + i) q) (sym (scalars_same v w same')) at_q);
}

-- the first reason, by missions that are alike
module _ (a c b d : Side) (like_a : Alike a c) (like_b : Alike b d) (from to : List ℕ) (delay : ℕ) where
  both_moved : (k l : ℕ) → AreNamed a b from to k l → AreNamed c d from to k l
  both_moved k l named = record {
    from_is = named_moved a.tables c.tables like_a.tables from false k named.from_is;
    to_is = named_moved b.tables d.tables like_b.tables to true l named.to_is;
  }

  pub apart_moved : (f : JoinFault) → DoNotJoin a b from to delay f → DoNotJoin c d from to delay f
  unfolding named_moved both_moved
  apart_moved kinds.Unknown (inl none) = inl (λ k there. none k (named_moved c.tables a.tables (sym like_a.tables) from false k there))
  apart_moved kinds.Unknown (inr none) = inr (λ l there. none l (named_moved d.tables b.tables (sym like_b.tables) to true l there))
  apart_moved kinds.Type (k, l, named, differ) = (
    k,
    l,
    both_moved k l named,
    λ same. differ (match_moved c.tables a.tables d.tables b.tables (sym like_a.tables) (sym like_b.tables)
        named.from_is.0 named.to_is.0 same),
  )
  apart_moved kinds.Horizon (k, l, named, same, less) =
      let here = ap (λ (f : Plan). f.horizon) like_a.plan in
      let there = ap (λ (f : Plan). f.horizon) like_b.plan in (
        k,
        l,
        both_moved k l named,
        match_moved a.tables c.tables b.tables d.tables like_a.tables like_b.tables named.from_is.0 named.to_is.0 same,
        omega (arith, less, here, there),
      )
  apart_moved kinds.TooManyEvents (k, l, named, same, long, many) =
      let here = ap (λ (f : Plan). f.horizon) like_a.plan in
      let there = ap (λ (f : Plan). f.horizon) like_b.plan in
      let events = ap (λ (f : Plan). f.events) like_b.plan in
      let sends = most_same a c b d like_a like_b from to delay k l in (
        k,
        l,
        both_moved k l named,
        match_moved a.tables c.tables b.tables d.tables like_a.tables like_b.tables named.from_is.0 named.to_is.0 same,
        omega (arith, long, here, there),
        omega (arith, many, events, sends),
      )
  apart_moved kinds.TooManyNumbers (k, l, named, same, long, room, many) =
      let here = ap (λ (f : Plan). f.horizon) like_a.plan in
      let there = ap (λ (f : Plan). f.horizon) like_b.plan in
      let events = ap (λ (f : Plan). f.events) like_b.plan in
      let sends = most_same a c b d like_a like_b from to delay k l in (
        k,
        l,
        both_moved k l named,
        match_moved a.tables c.tables b.tables d.tables like_a.tables like_b.tables named.from_is.0 named.to_is.0 same,
        omega (arith, long, here, there),
        omega (arith, room, events, sends),
        subst (λ (n : ℕ). 1000000 < n + most c k * named.to_is.0.count) (ap (λ (f : Plan). f.numbers) like_b.plan)
            (subst (λ (n : ℕ). 1000000 < b.plan.numbers + n * named.to_is.0.count) sends many),
      )

-- each reason says that those before it are not so
module _ (a b : Side) (a_rules : MeetsTableRules a.tables) (b_rules : MeetsTableRules b.tables) (from to : List ℕ) (delay : ℕ) where
  named_not_unknown : (k l : ℕ) → AreNamed a b from to k l → DoNotJoin a b from to delay kinds.Unknown → ⊥
  named_not_unknown k l named (inl none) = none k named.from_is
  named_not_unknown k l named (inr none) = none l named.to_is

  module _ (k l k' l' : ℕ) (named : AreNamed a b from to k l) (named' : AreNamed a b from to k' l') where
    same_from : k ≡ k'
    same_from = named_once a.tables a_rules from false k k' named.from_is named'.from_is

    same_to : l ≡ l'
    same_to = named_once b.tables b_rules to true l l' named.to_is named'.to_is

    from_info : named.from_is.0 ≡ named'.from_is.0
    from_info =
        at_same a.tables.topics k' named.from_is.0 named'.from_is.0
        (subst (λ (n : ℕ). At a.tables.topics n named.from_is.0) same_from named.from_is.1) named'.from_is.1

    to_info : named.to_is.0 ≡ named'.to_is.0
    to_info =
        at_same b.tables.topics l' named.to_is.0 named'.to_is.0
        (subst (λ (n : ℕ). At b.tables.topics n named.to_is.0) same_to named.to_is.1) named'.to_is.1

    matched : Match a.tables b.tables named.from_is.0 named.to_is.0 → Match a.tables b.tables named'.from_is.0 named'.to_is.0
    matched same =
        subst (λ (x : TopicInfo). Match a.tables b.tables x named'.to_is.0) from_info
        (subst (λ (y : TopicInfo). Match a.tables b.tables named.from_is.0 y) to_info same)

    few : b.plan.events + most a k ≤ 200000 → b.plan.events + most a k' ≤ 200000
    few room = subst (λ (n : ℕ). b.plan.events + most a n ≤ 200000) same_from room

  -- the one before the other
  type_first : (k l k' l' : ℕ) (named : AreNamed a b from to k l) (named' : AreNamed a b from to k' l') → Match a.tables b.tables named.from_is.0 named.to_is.0
      → (¬ (Match a.tables b.tables named'.from_is.0 named'.to_is.0)) → ⊥
  type_first k l k' l' named named' same differ = differ (matched k l k' l' named named' same)

  horizon_first : a.plan.horizon + delay ≤ b.plan.horizon → b.plan.horizon < a.plan.horizon + delay → ⊥
  horizon_first long less = absurd (omega (arith, long, less))

  events_first : (k l k' l' : ℕ) → AreNamed a b from to k l → AreNamed a b from to k' l' → b.plan.events + most a k ≤ 200000
      → 200000 < b.plan.events + most a k' → ⊥
  events_first k l k' l' named named' room many = (let here = few k l k' l' named named' room in absurd (omega (arith, here, many)))

  pub apart_once : (f g : JoinFault) → DoNotJoin a b from to delay f → DoNotJoin a b from to delay g → f ≡ g
  apart_once kinds.Unknown kinds.Unknown x y = refl
  apart_once kinds.Unknown kinds.Type x (k, l, named, differ) = absurd (named_not_unknown k l named x)
  apart_once kinds.Unknown kinds.Horizon x (k, l, named, same, less) = absurd (named_not_unknown k l named x)
  apart_once kinds.Unknown kinds.TooManyEvents x (k, l, named, same, long, many) = absurd (named_not_unknown k l named x)
  apart_once kinds.Unknown kinds.TooManyNumbers x (k, l, named, same, long, room, many) = absurd (named_not_unknown k l named x)
  apart_once kinds.Type kinds.Unknown (k, l, named, differ) y = absurd (named_not_unknown k l named y)
  apart_once kinds.Horizon kinds.Unknown (k, l, named, same, less) y = absurd (named_not_unknown k l named y)
  apart_once kinds.TooManyEvents kinds.Unknown (k, l, named, same, long, many) y = absurd (named_not_unknown k l named y)
  apart_once kinds.TooManyNumbers kinds.Unknown (k, l, named, same, long, room, many) y = absurd (named_not_unknown k l named y)
  apart_once kinds.Type kinds.Type x y = refl
  apart_once kinds.Type kinds.Horizon (k, l, named, differ) (k', l', named', same, less') = absurd (type_first k' l' k l named' named same differ)
  apart_once kinds.Type kinds.TooManyEvents (k, l, named, differ) (k', l', named', same, long', many') = absurd (type_first k' l' k l named' named same differ)
  apart_once kinds.Type kinds.TooManyNumbers (k, l, named, differ) (k', l', named', same, long', room', many') =
      absurd (type_first k' l' k l named' named same differ)
  apart_once kinds.Horizon kinds.Type (k, l, named, same, less) (k', l', named', differ) = absurd (type_first k l k' l' named named' same differ)
  apart_once kinds.TooManyEvents kinds.Type (k, l, named, same, long, many) (k', l', named', differ) = absurd (type_first k l k' l' named named' same differ)
  apart_once kinds.TooManyNumbers kinds.Type (k, l, named, same, long, room, many) (k', l', named', differ) =
      absurd (type_first k l k' l' named named' same differ)
  apart_once kinds.Horizon kinds.Horizon x y = refl
  apart_once kinds.Horizon kinds.TooManyEvents (k, l, named, same, less) (k', l', named', same', long, many') = absurd (horizon_first long less)
  apart_once kinds.Horizon kinds.TooManyNumbers (k, l, named, same, less) (k', l', named', same', long, room', many') = absurd (horizon_first long less)
  apart_once kinds.TooManyEvents kinds.Horizon (k, l, named, same, long, many) (k', l', named', same', less) = absurd (horizon_first long less)
  apart_once kinds.TooManyNumbers kinds.Horizon (k, l, named, same, long, room, many) (k', l', named', same', less) = absurd (horizon_first long less)
  apart_once kinds.TooManyEvents kinds.TooManyEvents x y = refl
  apart_once kinds.TooManyEvents kinds.TooManyNumbers (k, l, named, same, long, many) (k', l', named', same', long', room, much) =
      absurd (events_first k' l' k l named' named room many)
  apart_once kinds.TooManyNumbers kinds.TooManyEvents (k, l, named, same, long, room, much) (k', l', named', same', long', many) =
      absurd (events_first k l k' l' named named' room many)
  apart_once kinds.TooManyNumbers kinds.TooManyNumbers x y = refl
