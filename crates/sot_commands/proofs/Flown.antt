-- What is said of a flight that was flown, or whose start is refused.
use Rattle.std.proofs.Common.{◌≡◌, ◌∙◌, ap, sym, subst, refl, ℕ, suc, List, [], Option, None, Some, length, Result, Ok, Err, inl, inr}
use Rattle.std.specs.Prelude.{IfOk, slice_index_or}
use Rattle.std.specs.declared.alloc.AllocError.{AllocError}
use Rattle.sot_sections.specs.declared.mission.Need.TheVariants as needs
use Rattle.sot_sections.specs.declared.mission.SectionFault.{SectionFault}
use Rattle.sot_sections.specs.Sections.{Division, Parts, division, fault_behind, body_of, needed, or_missing, unless}
use Rattle.sot_text.specs.LineEnds.{lines}
use Rattle.sot_box.specs.Regions.{IsInRegion}
use Rattle.sot_lang.specs.Tables.{Tables}
use Rattle.sot_tube.specs.Admitted.{Admitted}
use Rattle.sot_world.specs.Configurations.{IsSafer}
use Rattle.sot_world.specs.HistoryEntry.{Logged}
use Rattle.sot_world.specs.Opens.{StartInside}
use Rattle.sot_flight.specs.Plans.{Plan}
use Rattle.sot_board.specs.Flown.{Position, IsStart, FlownBy}
use Rattle.sot_board.specs.Standing.{Standing}
use Rattle.sot_ordered_board.specs.Order.{FliesInOrder}
use Rattle.sot_report.specs.Missions.{Mission, SaysFlight}
use Rattle.sot_cli.specs.declared.answer.Answer.{Answer}
use Rattle.sot_commands.specs.Answers.{IsOutsideOf, SpellsFor}
use Rattle.sot_commands.specs.declared.telling.Telling.{Telling}
use Rattle.sot_commands.specs.declared.telling.Telling.TheVariants.{Trace, Summary, Verdict}
use Rattle.sot_commands.specs.Steps.{Tells, JudgesFlight}

-- a safer opening at the flight's points
pub starts_inside : (t : Tables) (f : Plan) (P : Position) → IsStart t f P → IsSafer t P.at → StartInside t f.start (length t.modules)
starts_inside t f P start safer = λ k a lt at. subst (λ points. IsInRegion a.safer.boxes (slice_index_or points a.plant [])) start.opening.points (safer k a at)

-- a history of the board's flight, by other names for its program and its flight
pub flown_here : (acc : Admitted) (f : Plan) (b : Standing) → b.accepted ≡ acc → b.plan ≡ f
    → FlownBy b.accepted.program b.accepted.cert.jitter b.plan b.entries → FlownBy acc.program acc.cert.jitter f b.entries
flown_here acc f b is plan flown =
    subst (λ (g : Plan). FlownBy acc.program acc.cert.jitter g b.entries) plan
    (subst (λ (x : Admitted). FlownBy x.program x.cert.jitter b.plan b.entries) is flown)

pub tells_here : (telling : Telling) (acc given : Admitted) (f : Plan) (b : Standing) (status : ℕ) (said : List ℕ) → acc ≡ given → b.plan ≡ f
    → Tells telling given.program b.plan b.entries status said → Tells telling acc.program f b.entries status said
tells_here telling acc given f b status said same plan tells =
    subst (λ (g : Plan). Tells telling acc.program g b.entries status said) plan
    (subst (λ (x : Admitted). Tells telling x.program b.plan b.entries status said) (sym same) tells)

pub in_order_here : (acc : Admitted) (f : Plan) (b : Standing) → b.accepted ≡ acc → b.plan ≡ f
    → FliesInOrder b.accepted.program b.accepted.cert.jitter b.plan b.entries → FliesInOrder acc.program acc.cert.jitter f b.entries
in_order_here acc f b is plan order =
    subst (λ (g : Plan). FliesInOrder acc.program acc.cert.jitter g b.entries) plan
    (subst (λ (x : Admitted). FliesInOrder x.program x.cert.jitter b.plan b.entries) is order)

-- what is told of a history of the flight, flown in order, is told of the flight
pub told_of : (telling : Telling) (t : Tables) (jitter : ℕ) (f : Plan) (history : List Logged) (status : ℕ) (text : List ℕ)
    → StartInside t f.start (length t.modules) → FliesInOrder t jitter f history
    → Tells telling t f history status text → JudgesFlight telling t jitter f status text
told_of Trace t jitter f history status text inside flown (inl (plain, zero, said)) = inl (zero, (inside, (history, flown, said)))
told_of Trace t jitter f history status text inside flown (inr verdict) = absurd verdict
told_of Summary t jitter f history status text inside flown (inl (plain, zero, said)) = inl (zero, (inside, (history, flown, said)))
told_of Summary t jitter f history status text inside flown (inr verdict) = absurd verdict
told_of (Verdict formula) t jitter f history status text inside flown (inl (plain, zero, said)) = absurd (plain tt)
told_of (Verdict formula) t jitter f history status text inside flown (inr (x, is, inl (zero, tells))) =
    inl (zero, (inside, (x, history, is, flown, tells)))
told_of (Verdict formula) t jitter f history status text inside flown (inr (x, is, inr (one, tells))) =
    inr (one, inr (inside, (x, history, is, flown, tells)))

pub outside_result : (r : Result Answer AllocError) (telling : Telling) (t : Tables) (jitter : ℕ) (f : Plan) → IfOk r (λ a. a.status ≡ 1)
    → IfOk r (λ a. IsOutsideOf t f a.text.items)
    → IfOk r (λ a. JudgesFlight telling t jitter f a.status a.text.items)
outside_result (Ok a) telling t jitter f status text = inr (status, inl text)
outside_result (Err e) telling t jitter f status text = tt

-- a mission that is to be flown has a flight
needed_flight : (front : List ℕ) (c f t : Option (List ℕ)) (parts : Parts) → needed needs.Fly front c f t ≡ Some parts → parts.flight ≡ None → ⊥
needed_flight front None f t parts e none = absurd cc
needed_flight front (Some c) None t parts e none = absurd cc
needed_flight front (Some c) (Some f) t parts e none =
    (let same : ◌≡◌ {A = Parts} (record { program = front; cert = c; flight = Some f; trace = None }) parts = cc in
    let is : ◌≡◌ {A = Option (List ℕ)} (Some f) None = ap (λ (p : Parts). p.flight) same ∙ none in absurd cc)

pub found_of : (fault : Option SectionFault) (n : ℕ) (found : Option Parts) (parts : Parts) → unless fault (or_missing n found) ≡ Ok parts → found ≡ Some parts
found_of (Some x) n found parts e = absurd cc
found_of None n None parts e = absurd cc
found_of None n (Some x) parts e = (let same : x ≡ parts = cc in ap (λ (p : Parts). Some p) same)

pub says_none : (t : Tables) (guests : ℕ) (section : Option (List ℕ)) → SaysFlight t guests section None → section ≡ None
says_none t guests None s = refl
says_none t guests (Some section) s = absurd s

pub flight_there : (guests : ℕ) (bytes : List ℕ) (m : Mission) → SpellsFor needs.Fly guests bytes m → m.flight ≡ None → ⊥
flight_there guests bytes m x none =
    let d : Division = division 1 (lines bytes) in
    let found = found_of (fault_behind 0 d.sections) (suc (length (lines bytes)))
    (needed needs.Fly d.front (body_of 1 d.sections) (body_of 2 d.sections) (body_of 3 d.sections)) x.parts x.divided in
    needed_flight d.front (body_of 1 d.sections) (body_of 2 d.sections) (body_of 3 d.sections) x.parts found
    (says_none m.tables guests x.parts.flight (subst (SaysFlight m.tables guests x.parts.flight) none x.flown))
