-- What may be relayed, and what is taken.
use Rattle.std.proofs.Common.{◌≡◌, ℕ, ◌+◌, ◌*◌, ◌≤◌, ◌≤ℤ◌, ℤ, List, [], ◌∷◌, length, map, sym, ap, ◌∙◌, subst, arith}
use Rattle.std.proofs.Math.Nat.{mul-le-mul_right, suc-mul}
use Rattle.std.proofs.lemmas.Int.{ints}
use Rattle.std.proofs.lemmas.Option.{slice_get_within, get_or_from_slice_get}
use Rattle.sot_lists.specs.Places.{At}
use Rattle.sot_lists.proofs.Places.{at_map}
use Rattle.sot_box.specs.Sides.{Side, IsIn, nought}
use Rattle.sot_lang.specs.declared.tables.TopicInfo.{TopicInfo}
use Rattle.sot_lang.specs.declared.tables.ScalarInfo.{ScalarInfo}
use Rattle.sot_lang.specs.Tables.{Tables}
use Rattle.sot_lang.specs.TableRules.{MeetsTableRules}
use Rattle.sot_lang.specs.Ranges.{range_of}
use Rattle.sot_flight.specs.Relayed.{Send, send_numbers, relayed}
use Rattle.sot_law_flights.proofs.Told.{whole_inputs}
use Rattle.sot_bridge.specs.Topics.{Match}
use Rattle.sot_bridge.specs.Sends.{most_sends}
use Rattle.sot_bridge.specs.SendLaws.{sends_of}
use Rattle.sot_bridge.specs.Laws.{SendsMayBeRelayed, SendsAreTaken}
use Rattle.sot_bridge.proofs.Few.{sends_few}
use Rattle.sot_bridge.proofs.Times.{sends_in_order}
use Rattle.sot_bridge.proofs.Ranges.{IsValueFor, AreValuesFor, value_at, flown_values}

range_is : (infos : List ScalarInfo) (n : ℕ) (x : ScalarInfo) → At infos n x → range_of infos n ≡ record { lo = x.lo; hi = x.hi }
range_is infos n x at =
    let of : ScalarInfo → Side = λ i. record { lo = i.lo; hi = i.hi } in
    get_or_from_slice_get (map of infos) n (of x) nought (at_map of infos n x at)

-- a value for the one topic is one for the other
value_suits : (p q : Tables) (k l : ℕ) (a b : TopicInfo) → MeetsTableRules p → MeetsTableRules q → At p.topics k a → At q.topics l b → Match p q a b
    → (value : List ℤ) → IsValueFor p a value → IsValueFor q b value
value_suits p q k l a b rules_p rules_q at_a at_b match value is = (
  is.0 ∙ match.count,
  λ i z at.
      let size = is.0 in
      let same = match.count in
      let low = slice_get_within value i z at in
      let x = rules_p.typed.topic_scalar k (a.first + i) a at_a (omega arith) (omega (arith, low, size)) in
      let y = rules_q.typed.topic_scalar l (b.first + i) b at_b (omega arith) (omega (arith, low, size, same)) in
      let suits = match.each i x.0 y.0 (omega (arith, low, size)) x.1 y.1 in
      let here : IsIn (record { lo = x.0.lo; hi = x.0.hi }) z = subst (λ r. IsIn r z) (range_is p.scalars (a.first + i) x.0 x.1) (is.1 i z at) in
      let from : x.0.lo ≤ℤ z = here.0 in
      let to : z ≤ℤ x.0.hi = here.1 in
      let lo = suits.low in
      let hi = suits.high in
      let there : IsIn (record { lo = y.0.lo; hi = y.0.hi }) z = (omega (arith, ints, from, lo), omega (arith, ints, to, hi)) in
      subst (λ r. IsIn r z) (sym (range_is q.scalars (b.first + i) y.0 y.1)) there,
)

numbers_of : (p : Tables) (info : TopicInfo) (sends : List Send) → AreValuesFor p info sends → send_numbers sends ≡ length sends * info.count
numbers_of p info [] are = omega arith
numbers_of p info (s ∷ sends) are =
    let here = are.0.0 in
    let rest = numbers_of p info sends are.1 in
    let more = suc-mul (length sends) info.count in
    omega (arith, here, rest, more)

pub may_be_relayed : SendsMayBeRelayed
may_be_relayed p q jitter f g entries k l delay a b rules_p rules_q short flown at_a at_b outside match long few_events few_numbers =
    let sends = sends_of p k entries in
    let values = flown_values p rules_p k a at_a jitter f entries flown in
    let few = sends_few p jitter f entries k rules_p short flown in
    let times = sends_in_order p jitter f entries k flown in
    let count = numbers_of p a sends values in
    let same = match.count in
    let most : length sends * b.count ≤ most_sends p k f.horizon * b.count = mul-le-mul_right b.count few in
    let numbers : send_numbers sends ≡ length sends * b.count = count ∙ ap (λ n. length sends * n) same in
    let suits : (i : ℕ) (s : Send) → At sends i s → IsValueFor q b s.value = λ i s at. value_suits p q k l a b rules_p rules_q at_a at_b match s.value
    (value_at p a sends values i s at) in
    record {
      info = b;
      is = at_b;
      outside = outside;
      sizes = λ i s at. (suits i s at).0;
      typed = λ i n s z at there. (suits i s at).1 n z there;
      ordered = times.0;
      in_time = λ i s at. (let by = times.1 i s at in omega (arith, by, long));
      few_events = omega (arith, few, few_events);
      few_numbers = omega (arith, numbers, most, few_numbers);
    }

pub taken : SendsAreTaken
taken q jitter g sends l delay entries flown = whole_inputs q jitter (relayed l delay sends g) entries flown
