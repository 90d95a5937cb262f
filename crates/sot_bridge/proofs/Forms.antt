-- What is said of two missions, from what was found out of them.
use Rattle.std.proofs.Common.{◌≡◌, ◌∙◌, ℕ, ◌<◌, ◌++◌, List, [], Some, None, Result, Ok, Err, inl, inr, length, refl, sym, ap, subst, arith}
use Rattle.std.specs.Prelude.{IfOk, slice_index_or}
use Rattle.std.proofs.lemmas.Option.{slice_get_within}
use Rattle.std.specs.declared.alloc.AllocError.{AllocError}
use Rattle.sot_sections.specs.declared.mission.Need.TheVariants as needs
use Rattle.sot_box.specs.Regions.{IsInRegion}
use Rattle.sot_lang.specs.declared.cert.Cert.{Cert}
use Rattle.sot_lang.specs.Tables.{Tables}
use Rattle.sot_lang.specs.TableRules.{MeetsTableRules}
use Rattle.sot_tube.specs.Admitted.{Admitted}
use Rattle.sot_tube.specs.Certified.{IsWellCertified}
use Rattle.sot_tube.specs.Refusals.{Refusal}
use Rattle.sot_tube.specs.Verdict.{verdict}
use Rattle.sot_world.specs.Configurations.{IsSafer}
use Rattle.sot_world.specs.Headline.{EveryRunIsSafe}
use Rattle.sot_world.specs.HistoryEntry.{Logged}
use Rattle.sot_world.specs.Opens.{StartInside}
use Rattle.sot_flight.specs.Fits.{FitsFlight}
use Rattle.sot_flight.specs.Plans.{Plan}
use Rattle.sot_flight.specs.Relayed.{Send, relayed, MayRelay}
use Rattle.sot_board.specs.Flown.{Position, IsStart, FlownBy}
use Rattle.sot_board.specs.Standing.{Standing}
use Rattle.sot_trace.specs.Traces.{trace_text}
use Rattle.sot_ordered_board.specs.Crews.{HasNoGuests}
use Rattle.sot_report.specs.declared.fault.Fault.{Fault}
use Rattle.sot_report.specs.Missions.{HasFault}
use Rattle.sot_report.specs.FaultTexts.{fault_text}
use Rattle.sot_report.specs.RefusalTexts.{refusal_text}
use Rattle.sot_bridge.specs.MissionHalves.{MissionHalves, halves_of}
use Rattle.sot_bridge.specs.SendLaws.{sends_of}
use Rattle.sot_bridge.proofs.Relaying.{may_be_relayed}
use Rattle.sot_cli.specs.declared.answer.Answer.{Answer}
use Rattle.sot_bridge.specs.declared.answer.Which.TheVariants.{A, B}
use Rattle.sot_bridge.specs.declared.joining.JoinFault.{JoinFault}
use Rattle.sot_bridge.specs.Answers.{Side, SpellsSide, IsAccepted, Starts, IsOutsideOf, Accepts, Joins, DoNotJoin, Replies, word_of}
use Rattle.sot_bridge.specs.Sides.{side_with}
use Rattle.sot_bridge.specs.Steps.{IsFirstFlown, SaysRelayed, SaysSecond, JudgesFlights, JudgesSecond, JudgesBoth, RepliesBoth}
use Rattle.sot_bridge.specs.Texts.{kind_text, section_text}

-- a flight that fits with no guests has none
pub no_guests : (t : Tables) (f : Plan) → FitsFlight t 0 f → HasNoGuests f
no_guests t f fits n i named = (let there = fits.guests_there n i named in absurd (omega (arith, there)))

-- a safer opening at the flight's points
pub starts_inside : (t : Tables) (f : Plan) (P : Position) → IsStart t f P → IsSafer t P.at → StartInside t f.start (length t.modules)
starts_inside t f P start safer = λ k a lt at. subst (λ points. IsInRegion a.safer.boxes (slice_index_or points a.plant [])) start.opening.points (safer k a at)

-- a board that was flown to its end
pub flown_first : (was now : Standing) (topic : ℕ) (text : List ℕ) (sends : List Send) → now.accepted ≡ was.accepted → now.plan ≡ was.plan
    → FlownBy now.accepted.program now.accepted.cert.jitter now.plan now.entries → text ≡ trace_text now.accepted.program now.plan.start now.entries
    → sends ≡ sends_of now.accepted.program topic now.entries
    → IsFirstFlown was.accepted.program was.accepted.cert.jitter was.plan topic text sends
flown_first was now topic text sends acc plan flown text_is sends_is =
    subst (λ (a : Admitted). IsFirstFlown a.program a.cert.jitter was.plan topic text sends) acc
    (subst (λ (f : Plan). IsFirstFlown now.accepted.program now.accepted.cert.jitter f topic text sends) plan (now.entries, flown, text_is, sends_is))

-- a trace of this history stands behind a text
abbrev pub IsBehind : Tables → ℕ → Plan → List ℕ → List ℕ → Type 0
IsBehind t jitter f front text = (history : List Logged) × FlownBy t jitter f history × (text ≡ front ++ trace_text t f.start history)

pub flown_second : (was now : Standing) (front text : List ℕ) → now.accepted ≡ was.accepted → now.plan ≡ was.plan
    → FlownBy now.accepted.program now.accepted.cert.jitter now.plan now.entries
    → text ≡ front ++ trace_text now.accepted.program now.plan.start now.entries
    → IsBehind was.accepted.program was.accepted.cert.jitter was.plan front text
flown_second was now front text acc plan flown text_is =
    subst (λ (a : Admitted). IsBehind a.program a.cert.jitter was.plan front text) acc
    (subst (λ (f : Plan). IsBehind now.accepted.program now.accepted.cert.jitter f front text) plan (now.entries, flown, text_is))

-- the second mission's flight with what comes over
pub relayed_result : (r : Result Answer AllocError) (acc given : Admitted) (f plan : Plan) (front : List ℕ)
    → acc ≡ given → plan ≡ f → StartInside given.program f.start (length given.program.modules) → IfOk r (λ a. a.status ≡ 0)
    → IfOk r (λ a. IsBehind acc.program acc.cert.jitter plan front a.text.items)
    → IfOk r (λ a. SaysRelayed given.program given.cert.jitter f front a.status a.text.items)
relayed_result (Ok a) acc given f plan front same is inside zero behind =
    inl (
      zero,
      inside,
      subst (λ (x : Admitted). IsBehind x.program x.cert.jitter f front a.text.items) same
          (subst (λ (p : Plan). IsBehind acc.program acc.cert.jitter p front a.text.items) is behind),
    )
relayed_result (Err e) acc given f plan front same is inside zero behind = tt

pub relayed_outside : (r : Result Answer AllocError) (given : Admitted) (t : Tables) (f : Plan) (front : List ℕ)
    → t ≡ given.program → IfOk r (λ a. a.status ≡ 1) → IfOk r (λ a. (line : List ℕ) × IsOutsideOf t f line × (a.text.items ≡ word_of B ++ line))
    → IfOk r (λ a. SaysRelayed given.program given.cert.jitter f front a.status a.text.items)
relayed_outside (Ok a) given t f front same one said =
    inr (one, subst (λ (x : Tables). (line : List ℕ) × IsOutsideOf x f line × (a.text.items ≡ word_of B ++ line)) same said)
relayed_outside (Err e) given t f front same one said = tt

-- the topic of the first mission is one of the tables of its board
pub topic_within : (t now : Tables) (a b : Side) (from to : List ℕ) (delay k l : ℕ) → now ≡ t → a.tables ≡ t → Joins a b from to delay k l
    → k < length now.topics
topic_within t now a b from to delay k l is_now is_a joins =
    subst (λ (x : Tables). k < length x.topics) (is_a ∙ sym is_now) (slice_get_within a.tables.topics k joins.named.from_is.0 joins.named.from_is.1)

-- what the first mission sends may be relayed to the second
pub relays : (a b : Side) (from to : List ℕ) (delay k l : ℕ) (text : List ℕ) (sends : List Send) → MeetsTableRules a.tables → MeetsTableRules b.tables
    → IsWellCertified a.tables a.cert.jitter a.cert → Joins a b from to delay k l → IsFirstFlown a.tables a.cert.jitter a.plan k text sends
    → MayRelay b.tables b.plan l delay sends
relays a b from to delay k l text sends a_rules b_rules well joins first =
    let x = joins.named.from_is in
    let y = joins.named.to_is in
    subst (λ (s : List Send). MayRelay b.tables b.plan l delay s) (sym first.3)
    (may_be_relayed a.tables b.tables a.cert.jitter a.plan b.plan first.0 k l delay x.0 y.0 a_rules b_rules well.node_jitter first.1 x.1 y.1 y.2.1
    joins.same joins.long joins.few_events joins.few_numbers)

-- what was flown on a board of an accepted program and a flight
pub first_of : (acc given : Admitted) (f plan : Plan) (k : ℕ) (text : List ℕ) (sends : List Send) → acc ≡ given → plan ≡ f
    → IsFirstFlown acc.program acc.cert.jitter plan k text sends → IsFirstFlown given.program given.cert.jitter f k text sends
first_of acc given f plan k text sends same is first =
    subst (λ (x : Admitted). IsFirstFlown x.program x.cert.jitter f k text sends) same
    (subst (λ (p : Plan). IsFirstFlown acc.program acc.cert.jitter p k text sends) is first)

-- an accepted program with its flight is the side that it was made of
module _ (x : Admitted) (t : Tables) (c : Cert) (f : Plan) (x_is : ◌≡◌ {A = Admitted} x (record { program = t; cert = c })) (other : Side) (delay k l : ℕ) where
  pub joins_first : (from to : List ℕ) → Joins (record { tables = t; cert = c; plan = f }) other from to delay k l
      → Joins (side_with x f) other from to delay k l
  joins_first from to joins = subst (λ (v : Admitted). Joins (side_with v f) other from to delay k l) (sym x_is) joins

  pub joins_second : (from to : List ℕ) → Joins other (record { tables = t; cert = c; plan = f }) from to delay k l
      → Joins other (side_with x f) from to delay k l
  joins_second from to joins = subst (λ (v : Admitted). Joins other (side_with v f) from to delay k l) (sym x_is) joins

  pub judges_first : (r : Result Answer AllocError) → IfOk r (λ a. JudgesSecond (side_with x f) other delay k l a.status a.text.items)
      → IfOk r (λ a. JudgesSecond (record { tables = t; cert = c; plan = f }) other delay k l a.status a.text.items)
  judges_first r said = subst (λ (v : Admitted). IfOk r (λ a. JudgesSecond (side_with v f) other delay k l a.status a.text.items)) x_is said

  pub judges_second : (r : Result Answer AllocError) → IfOk r (λ a. JudgesFlights other (side_with x f) delay k l a.status a.text.items)
      → IfOk r (λ a. JudgesFlights other (record { tables = t; cert = c; plan = f }) delay k l a.status a.text.items)
  judges_second r said = subst (λ (v : Admitted). IfOk r (λ a. JudgesFlights other (side_with v f) delay k l a.status a.text.items)) x_is said

-- the flights of both
module _ (a b : Side) (delay k l : ℕ) where
  flights : (front text : List ℕ) (sends : List Send) (status : ℕ) → IsFirstFlown a.tables a.cert.jitter a.plan k front sends → Starts a
      → SaysSecond b.tables b.cert.jitter b.plan l delay front sends status text → JudgesFlights a b delay k l status text
  flights front text sends status (h, flown, front_is, sends_is) starts (inl (zero, inside, (history, flown', says))) =
      inl (
        zero,
        starts,
        inside,
        record {
          a_history = h;
          b_history = history;
          a_flown = flown;
          b_flown = subst (λ (s : List Send). FlownBy b.tables b.cert.jitter (relayed l delay s b.plan) history) sends_is flown';
          text_is = says ∙ ap (λ (x : List ℕ). x ++ trace_text b.tables b.plan.start history) front_is;
        },
      )
  flights front text sends status first starts (inr (one, said)) = inr (inr (one, starts, said))

  pub flights_result : (r : Result Answer AllocError) (front : List ℕ) (sends : List Send) → IsFirstFlown a.tables a.cert.jitter a.plan k front sends → Starts a
      → IfOk r (λ x. SaysSecond b.tables b.cert.jitter b.plan l delay front sends x.status x.text.items)
      → IfOk r (λ x. JudgesFlights a b delay k l x.status x.text.items)
  flights_result (Ok x) front sends first starts said = flights front x.text.items sends x.status first starts said
  flights_result (Err e) front sends first starts said = tt

  pub flights_outside : (r : Result Answer AllocError) (t : Tables) → t ≡ a.tables → IfOk r (λ x. x.status ≡ 1)
      → IfOk r (λ x. (line : List ℕ) × IsOutsideOf t a.plan line × (x.text.items ≡ word_of A ++ line))
      → IfOk r (λ x. JudgesFlights a b delay k l x.status x.text.items)
  flights_outside (Ok x) t same one said =
      inr (inl (one, subst (λ (y : Tables). (line : List ℕ) × IsOutsideOf y a.plan line × (x.text.items ≡ word_of A ++ line)) same said))
  flights_outside (Err e) t same one said = tt

  -- the second is accepted, or refused
  pub second_result : (r : Result Answer AllocError) → IsAccepted b → EveryRunIsSafe b.tables b.cert.jitter
      → IfOk r (λ x. JudgesFlights a b delay k l x.status x.text.items) → IfOk r (λ x. JudgesSecond a b delay k l x.status x.text.items)
  second_result (Ok x) b_ok b_safe said = inl (b_ok, b_safe, said)
  second_result (Err e) b_ok b_safe said = tt

  pub second_refused : (r : Result Answer AllocError) (v : Refusal) → (verdict b.tables b.cert.jitter b.cert).Refuses v → IfOk r (λ x. x.status ≡ 1)
      → IfOk r (λ x. x.text.items ≡ word_of B ++ refusal_text b.tables v) → IfOk r (λ x. JudgesSecond a b delay k l x.status x.text.items)
  second_refused (Ok x) v refuses one said = inr (one, (refusal_text b.tables v, (v, refuses, refl), said))
  second_refused (Err e) v refuses one said = tt

  -- both are accepted, or one is refused
  both : (status : ℕ) (text : List ℕ) → IsAccepted a → EveryRunIsSafe a.tables a.cert.jitter → JudgesSecond a b delay k l status text
      → JudgesBoth a b delay k l status text
  both status text a_ok a_safe (inl (b_ok, b_safe, inl (zero, a_in, b_in, flown))) = inl (zero, a_ok, b_ok, a_safe, b_safe, a_in, b_in, flown)
  both status text a_ok a_safe (inl (b_ok, b_safe, inr (inl (one, said)))) = inr (one, inr (inr (inl (a_ok, b_ok, said))))
  both status text a_ok a_safe (inl (b_ok, b_safe, inr (inr (one, a_in, said)))) = inr (one, inr (inr (inr (a_ok, b_ok, a_in, said))))
  both status text a_ok a_safe (inr (one, said)) = inr (one, inr (inl (a_ok, said)))

  pub both_result : (r : Result Answer AllocError) → IsAccepted a → EveryRunIsSafe a.tables a.cert.jitter
      → IfOk r (λ x. JudgesSecond a b delay k l x.status x.text.items) → IfOk r (λ x. JudgesBoth a b delay k l x.status x.text.items)
  both_result (Ok x) a_ok a_safe said = both x.status x.text.items a_ok a_safe said
  both_result (Err e) a_ok a_safe said = tt

  pub both_refused : (r : Result Answer AllocError) (v : Refusal) → (verdict a.tables a.cert.jitter a.cert).Refuses v → IfOk r (λ x. x.status ≡ 1)
      → IfOk r (λ x. x.text.items ≡ word_of A ++ refusal_text a.tables v) → IfOk r (λ x. JudgesBoth a b delay k l x.status x.text.items)
  both_refused (Ok x) v refuses one said = inr (one, inl (refusal_text a.tables v, (v, refuses, refl), said))
  both_refused (Err e) v refuses one said = tt

-- two missions that join, and two that do not
module _ (a b : Side) (from to : List ℕ) (delay : ℕ) where
  pub joined_result : (r : Result Answer AllocError) (k l : ℕ) → Joins a b from to delay k l → IfOk r (λ x. JudgesBoth a b delay k l x.status x.text.items)
      → IfOk r (λ x. RepliesBoth a b from to delay x.status x.text.items)
  joined_result (Ok x) k l joins said = inl (k, l, joins, said)
  joined_result (Err e) k l joins said = tt

  pub apart_result : (r : Result Answer AllocError) (fault : JoinFault) (word : List ℕ) → DoNotJoin a b from to delay fault → word ≡ kind_text fault
      → IfOk r (λ x. x.status ≡ 3)
      → IfOk r (λ x. x.text.items ≡ word) → IfOk r (λ x. RepliesBoth a b from to delay x.status x.text.items)
  apart_result (Ok x) fault word apart is three said = inr (three, (fault, apart, said ∙ is))
  apart_result (Err e) fault word apart is three said = tt

  -- what is said of both is said of the bytes that spell them
  replied : (bytes text : List ℕ) (status : ℕ) (halves : MissionHalves) → halves_of bytes ≡ Some halves → SpellsSide halves.a a → SpellsSide halves.b b
      → RepliesBoth a b from to delay status text → Replies from to delay bytes status text
  replied bytes text status halves divided a_is b_is (inl (k, l, joins, inl (zero, a_ok, b_ok, a_safe, b_safe, a_in, b_in, flown))) =
      let accepts : Accepts from to delay bytes text = record {
        a = a;
        b = b;
        k = k;
        l = l;
        spelled = (halves, divided, a_is, b_is);
        joins = joins;
        a_accepted = a_ok;
        b_accepted = b_ok;
        a_safe = a_safe;
        b_safe = b_safe;
        a_starts = a_in;
        b_starts = b_in;
        flown = flown;
      } in
      inl (zero, accepts)
  replied bytes text status halves divided a_is b_is (inl (k, l, joins, inr (one, refuses))) =
      inr (inl (one, (a, b, k, l, (halves, divided, a_is, b_is), joins, refuses)))
  replied bytes text status halves divided a_is b_is (inr (three, said)) = inr (inr (three, inr (inr (a, b, (halves, divided, a_is, b_is), said))))

  pub replied_result : (r : Result Answer AllocError) (bytes : List ℕ) (halves : MissionHalves) → halves_of bytes ≡ Some halves → SpellsSide halves.a a
      → SpellsSide halves.b b → IfOk r (λ x. RepliesBoth a b from to delay x.status x.text.items)
      → IfOk r (λ x. Replies from to delay bytes x.status x.text.items)
  replied_result (Ok x) bytes halves divided a_is b_is said = replied bytes x.text.items x.status halves divided a_is b_is said
  replied_result (Err e) bytes halves divided a_is b_is said = tt

module _ (from to : List ℕ) (delay : ℕ) (bytes : List ℕ) where
  pub undivided_result : (r : Result Answer AllocError) → halves_of bytes ≡ None → IfOk r (λ x. x.status ≡ 3) → IfOk r (λ x. x.text.items ≡ section_text)
      → IfOk r (λ x. Replies from to delay bytes x.status x.text.items)
  undivided_result (Ok x) none three said = inr (inr (three, inl (none, said)))
  undivided_result (Err e) none three said = tt

  pub faulty_a : (r : Result Answer AllocError) (halves : MissionHalves) (f : Fault) → halves_of bytes ≡ Some halves → HasFault needs.Fly 0 halves.a f
      → IfOk r (λ x. x.status ≡ 3) → IfOk r (λ x. x.text.items ≡ word_of A ++ fault_text f)
      → IfOk r (λ x. Replies from to delay bytes x.status x.text.items)
  faulty_a (Ok x) halves f divided has three said = inr (inr (three, inr (inl (halves, divided, inl (f, has, said)))))
  faulty_a (Err e) halves f divided has three said = tt

  pub faulty_b : (r : Result Answer AllocError) (halves : MissionHalves) (a : Side) (f : Fault) → halves_of bytes ≡ Some halves → SpellsSide halves.a a
      → HasFault needs.Fly 0 halves.b f → IfOk r (λ x. x.status ≡ 3) → IfOk r (λ x. x.text.items ≡ word_of B ++ fault_text f)
      → IfOk r (λ x. Replies from to delay bytes x.status x.text.items)
  faulty_b (Ok x) halves a f divided a_is has three said = inr (inr (three, inr (inl (halves, divided, inr (a, a_is, (f, has, said))))))
  faulty_b (Err e) halves a f divided a_is has three said = tt
