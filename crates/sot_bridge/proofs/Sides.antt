-- A mission that was read with its flight, as one side of a bridge.
use Rattle.std.proofs.Common.{◌≡◌, ◌∙◌, ℕ, suc, List, Option, None, Some, Ok, length, refl, sym, ap, subst}
use Rattle.std.specs.Prelude.{IfSome}
use Rattle.sot_sections.specs.declared.mission.Need.TheVariants as needs
use Rattle.sot_sections.specs.declared.mission.SectionFault.{SectionFault}
use Rattle.sot_sections.specs.Sections.{Division, Parts, division, fault_behind, body_of, needed, or_missing, unless}
use Rattle.sot_text.specs.LineEnds.{lines}
use Rattle.sot_lang.specs.Tables.{Tables}
use Rattle.sot_lang.specs.declared.cert.Cert.{Cert}
use Rattle.sot_lang.specs.CertRules.{FitsTables}
use Rattle.sot_flight.specs.Plans.{Plan}
use Rattle.sot_flight.specs.Fits.{FitsFlight}
use Rattle.sot_report.specs.Missions.{Mission, SpellsMission, SaysFlight}
use Rattle.sot_report.specs.declared.loading.Loaded.{Loaded}
use Rattle.sot_report.specs.Loads.{LoadsMission, mission_of}
use Rattle.sot_bridge.specs.declared.side.Side.{Side as Held}
use Rattle.sot_bridge.specs.Answers.{SpellsSide}
use Rattle.sot_bridge.specs.Sides.{side_of}

-- a mission that is to be flown has a flight
needed_flight : (front : List ℕ) (c f t : Option (List ℕ)) (parts : Parts) → needed needs.Fly front c f t ≡ Some parts → parts.flight ≡ None → ⊥
needed_flight front None f t parts e none = absurd cc
needed_flight front (Some c) None t parts e none = absurd cc
needed_flight front (Some c) (Some f) t parts e none =
    (let same : ◌≡◌ {A = Parts} (record { program = front; cert = c; flight = Some f; trace = None }) parts = cc in
    let is : ◌≡◌ {A = Option (List ℕ)} (Some f) None = ap (λ (p : Parts). p.flight) same ∙ none in absurd cc)

found_of : (fault : Option SectionFault) (n : ℕ) (found : Option Parts) (parts : Parts) → unless fault (or_missing n found) ≡ Ok parts → found ≡ Some parts
found_of (Some x) n found parts e = absurd cc
found_of None n None parts e = absurd cc
found_of None n (Some x) parts e = (let same : x ≡ parts = cc in ap (λ (p : Parts). Some p) same)

says_none : (t : Tables) (guests : ℕ) (section : Option (List ℕ)) → SaysFlight t guests section None → section ≡ None
says_none t guests None s = refl
says_none t guests (Some section) s = absurd s

flight_there : (guests : ℕ) (bytes : List ℕ) (m : Mission) → SpellsMission needs.Fly guests bytes m → m.flight ≡ None → ⊥
flight_there guests bytes m x none =
    let d : Division = division 1 (lines bytes) in
    let found = found_of (fault_behind 0 d.sections) (suc (length (lines bytes)))
    (needed needs.Fly d.front (body_of 1 d.sections) (body_of 2 d.sections) (body_of 3 d.sections)) x.parts x.divided in
    needed_flight d.front (body_of 1 d.sections) (body_of 2 d.sections) (body_of 3 d.sections) x.parts found
    (says_none m.tables guests x.parts.flight (subst (SaysFlight m.tables guests x.parts.flight) none x.flown))

pub has_flight : (bytes : List ℕ) (l : Loaded) → LoadsMission needs.Fly 0 bytes l → l.flight ≡ None → ⊥
has_flight bytes l loads none = flight_there 0 bytes (mission_of loads.program l) loads.mission none

module _ (l : Loaded) (s : Held) (program : s.program.now ≡ l.program) (cert : s.cert.now ≡ l.cert) (flight : Some s.flight.now ≡ l.flight) where
  pub spells_held : (bytes : List ℕ) → LoadsMission needs.Fly 0 bytes l → SpellsSide bytes (side_of s)
  spells_held bytes loads = (mission_of loads.program l, loads.mission, program, cert, sym flight)

  pub held_cert : FitsTables l.program l.cert → FitsTables s.program.now s.cert.now
  held_cert fits = subst (λ (t : Tables). FitsTables t s.cert.now) (sym program) (subst (λ (c : Cert). FitsTables l.program c) (sym cert) fits)

  pub held_flight : IfSome l.flight (λ f. FitsFlight l.program 0 f) → FitsFlight s.program.now 0 s.flight.now
  held_flight fits =
      subst (λ (t : Tables). FitsFlight t 0 s.flight.now) (sym program)
      (subst (λ (o : Option Plan). IfSome o (λ f. FitsFlight l.program 0 f)) (sym flight) fits)
