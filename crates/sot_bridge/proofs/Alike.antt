-- Two missions that one text spells are alike, and a text that spells one has no fault.
use Rattle.std.proofs.Common.{◌≡◌, ◌∙◌, ℕ, List, [], Option, None, Some, Result, Ok, sym, ap, subst}
use Rattle.std.specs.Prelude.{slice_index_or}
use Rattle.std.proofs.lemmas.Option.{same_Some, slice_get_within}
use Rattle.sot_lists.specs.Places.{At}
use Rattle.sot_box.specs.Regions.{IsInRegion}
use Rattle.sot_sections.specs.declared.mission.Need.TheVariants as needs
use Rattle.sot_sections.specs.Sections.{Parts, split_of}
use Rattle.sot_syntax_tree.specs.Trees.{Program}
use Rattle.sot_lang.specs.declared.cert.Cert.{Cert}
use Rattle.sot_lang.specs.Tables.{Tables}
use Rattle.sot_lang.specs.TableRules.{MeetsTableRules}
use Rattle.sot_parser.specs.Programs.{Spells}
use Rattle.sot_parser.proofs.ProgramTexts.{spells_unique}
use Rattle.sot_rules.specs.First.{IsFaultless}
use Rattle.sot_typing.specs.Resolved.{tables_seen, tables_of}
use Rattle.sot_cert.specs.CertFormat.{Contents, contents, cert_of}
use Rattle.sot_json.specs.declared.fault.JsonFault.{JsonFault}
use Rattle.sot_flight.specs.Plans.{Plan}
use Rattle.sot_flight.specs.FlightFormat.{flight_of}
use Rattle.sot_tube.specs.Certified.{IsWellCertified}
use Rattle.sot_tube.specs.Refusals.{Refusal}
use Rattle.sot_tube.specs.Verdict.{verdict}
use Rattle.sot_tube.proofs.Acceptance.{certified_passes}
use Rattle.sot_tube.proofs.VerdictExact.{verdict_exact}
use Rattle.sot_law_equal_tables.proofs.Certificates.{certificates_alike}
use Rattle.sot_law_equal_tables.proofs.Certified.{certified_alike}
use Rattle.sot_law_equal_tables.proofs.Seen.{modules_same}
use Rattle.sot_law_equal_tables.proofs.Flights.{flights_alike}
use Rattle.sot_world.specs.Opens.{IsFirstOutside}
use Rattle.sot_report.specs.declared.fault.Fault.{Fault}
use Rattle.sot_report.specs.declared.fault.Fault.TheVariants as faults
use Rattle.sot_report.specs.Missions.{Mission, SpellsMission, Resolves, HasParts, SaysFlight, FaultsFlight, HasFault}
use Rattle.sot_bridge.specs.Answers.{Side, SpellsSide, IsAccepted, Starts}

same_ok : {A E : Type 0} (x : Result A E) (a b : A) → x ≡ Ok a → x ≡ Ok b → a ≡ b
same_ok x a b e f = (let same = sym e ∙ f in cc)

-- bytes have one list of sections, and its program's text spells one program
same_parts : (bytes : List ℕ) (a b : Parts) → HasParts needs.Fly bytes a → HasParts needs.Fly bytes b → a ≡ b
same_parts bytes a b = same_ok (split_of bytes needs.Fly) a b

same_program : (a b : Parts) (p q : Program) → a ≡ b → Spells a.program 0 p → Spells b.program 0 q → p ≡ q
same_program a b p q same spells spells' = spells_unique a.program 0 p q spells (subst (λ (x : Parts). Spells x.program 0 q) (sym same) spells')

-- tables of one program look the same
same_seen : (p q : Program) (t u : Tables) → p ≡ q → Resolves p t → Resolves q u → tables_seen t ≡ tables_seen u
same_seen p q t u same r s = r.tables ∙ ap tables_of same ∙ sym s.tables

-- and the certificate's text says the same of them
same_said : (a b : Parts) (t u : Tables) → a ≡ b → tables_seen t ≡ tables_seen u → cert_of t a.cert ≡ cert_of u b.cert
same_said a b t u same seen = certificates_alike t u a.cert seen ∙ ap (λ (x : Parts). cert_of u x.cert) same

-- and the flight's text the same flight
same_flown : (t u : Tables) (section : Option (List ℕ)) (f g : Plan) (a b : Option Plan) → tables_seen t ≡ tables_seen u → a ≡ Some f → b ≡ Some g
    → SaysFlight t 0 section a → SaysFlight u 0 section b → f ≡ g
same_flown t u None f g None b seen is is' x y = absurd cc
same_flown t u None f g (Some a) b seen is is' x y = absurd x
same_flown t u (Some section) f g None b seen is is' x y = absurd x
same_flown t u (Some section) f g (Some a) None seen is is' x y = absurd y
same_flown t u (Some section) f g (Some a) (Some b) seen is is' x y =
    let one : a ≡ b = same_ok (flight_of u 0 section) a b (sym (flights_alike t u 0 section seen) ∙ x.0) y.0 in
    same_Some f a (sym is) ∙ one ∙ same_Some b g is'

flown_faulty : (t u : Tables) (section : Option (List ℕ)) (a : Option Plan) (fault : JsonFault) → tables_seen t ≡ tables_seen u
    → SaysFlight t 0 section a → FaultsFlight u 0 section fault → ⊥
flown_faulty t u None a fault seen x y = y
flown_faulty t u (Some section) None fault seen x y = x
flown_faulty t u (Some section) (Some f) fault seen x y = (let e = sym x.0 ∙ flights_alike t u 0 section seen ∙ y in absurd cc)

module _ (bytes : List ℕ) (m n : Mission) (x : SpellsMission needs.Fly 0 bytes m) (y : SpellsMission needs.Fly 0 bytes n) where
  sections : x.parts ≡ y.parts
  sections = same_parts bytes x.parts y.parts x.divided y.divided

  seen : tables_seen m.tables ≡ tables_seen n.tables
  seen = same_seen m.program n.program m.tables n.tables (same_program x.parts y.parts m.program n.program sections x.spelled y.spelled) x.resolved y.resolved

  said : contents m.cert ≡ contents n.cert
  said =
      same_ok (cert_of n.tables y.parts.cert) (contents m.cert) (contents n.cert)
      (sym (same_said x.parts y.parts m.tables n.tables sections seen) ∙ x.certified) y.certified

  one_flight : (f g : Plan) → m.flight ≡ Some f → n.flight ≡ Some g → f ≡ g
  one_flight f g is is' =
      same_flown m.tables n.tables x.parts.flight f g m.flight n.flight seen is is' x.flown
      (subst (λ (q : Parts). SaysFlight n.tables 0 q.flight n.flight) (sym sections) y.flown)

-- what two sides have in common that one text spells
pub record Alike (s t : Side) : Type 0 where
  pub tables : tables_seen s.tables ≡ tables_seen t.tables
  pub jitter : s.cert.jitter ≡ t.cert.jitter
  pub cells : s.cert.modules.items ≡ t.cert.modules.items
  pub plan : s.plan ≡ t.plan

pub alike : (bytes : List ℕ) (s t : Side) → SpellsSide bytes s → SpellsSide bytes t → Alike s t
alike bytes s t (m, x, t_is, c_is, f_is) (n, y, t_is', c_is', f_is') = record {
  tables = ap tables_seen t_is ∙ seen bytes m n x y ∙ sym (ap tables_seen t_is');
  jitter = ap (λ (c : Cert). c.jitter) c_is ∙ ap (λ (c : Contents). c.jitter) (said bytes m n x y) ∙ sym (ap (λ (c : Cert). c.jitter) c_is');
  cells = ap (λ (c : Cert). c.modules.items) c_is ∙ ap (λ (c : Contents). c.modules) (said bytes m n x y) ∙ sym (ap (λ (c : Cert). c.modules.items) c_is');
  plan = one_flight bytes m n x y s.plan t.plan f_is f_is';
}

pub rules_of : (bytes : List ℕ) (s : Side) → SpellsSide bytes s → MeetsTableRules s.tables
rules_of bytes s (m, x, tables, cert, flight) = subst (λ (t : Tables). MeetsTableRules t) (sym tables) x.resolved.rules

module _ (s t : Side) (like : Alike s t) where
  pub unlike : Alike t s
  unlike = record { tables = sym like.tables; jitter = sym like.jitter; cells = sym like.cells; plan = sym like.plan }

  -- a mission that is accepted is not refused
  pub accepted_refused : IsAccepted s → (r : Refusal) → (verdict t.tables t.cert.jitter t.cert).Refuses r → ⊥
  accepted_refused certified r refuses =
      let other = certified_alike s.tables t.tables s.cert.jitter s.cert t.cert like.tables like.cells certified in
      let here = subst (λ j. IsWellCertified t.tables j t.cert) like.jitter other in
      (verdict_exact t.tables t.cert.jitter t.cert).exclusive r refuses (certified_passes t.tables t.cert.jitter t.cert here)

  -- where all its plants start inside, none starts outside
  pub inside_outside : Starts s → (k : ℕ) → IsFirstOutside t.tables t.plan.start k → ⊥
  inside_outside inside k first =
      let here = subst (λ ms. At ms k first.info) (sym (modules_same s.tables t.tables like.tables)) first.is in
      first.outside (subst (λ (h : Plan). IsInRegion first.info.safer.boxes (slice_index_or h.start first.info.plant [])) like.plan
      (inside k first.info (slice_get_within s.tables.modules k first.info here) here))

-- bytes that spell a mission have no fault
spelled_faulty : (bytes : List ℕ) (m : Mission) (f : Fault) → SpellsMission needs.Fly 0 bytes m → HasFault needs.Fly 0 bytes f → ⊥
spelled_faulty bytes m (faults.Section f) x split = (let e = sym x.divided ∙ split in absurd cc)
spelled_faulty bytes m (faults.Syntax f) x (parts, has, none, is) =
    none m.program (subst (λ (q : Parts). Spells q.program 0 m.program) (same_parts bytes x.parts parts x.divided has) x.spelled)
spelled_faulty bytes m (faults.Typing f) x (parts, has, (p, spells, first)) =
    let same : m.program ≡ p = same_program x.parts parts m.program p (same_parts bytes x.parts parts x.divided has) x.spelled spells in
    subst (λ (q : Program). IsFaultless q) same x.resolved.faultless f.at f.kind first.fails
spelled_faulty bytes m (faults.Cert f) x (parts, has, (p, t, (spells, resolves), fails)) =
    let here = same_parts bytes x.parts parts x.divided has in
    let same : m.program ≡ p = same_program x.parts parts m.program p here x.spelled spells in
    let e = sym x.certified ∙ same_said x.parts parts m.tables t here (same_seen m.program p m.tables t same x.resolved resolves) ∙ fails in
    absurd cc
spelled_faulty bytes m (faults.Flight f) x (parts, has, (p, t, (spells, resolves), says, fails)) =
    let here = same_parts bytes x.parts parts x.divided has in
    let same : m.program ≡ p = same_program x.parts parts m.program p here x.spelled spells in
    flown_faulty m.tables t parts.flight m.flight f (same_seen m.program p m.tables t same x.resolved resolves)
    (subst (λ (q : Parts). SaysFlight m.tables 0 q.flight m.flight) here x.flown) fails

pub side_faulty : (bytes : List ℕ) (s : Side) (f : Fault) → SpellsSide bytes s → HasFault needs.Fly 0 bytes f → ⊥
side_faulty bytes s f (m, x, tables, cert, flight) has = spelled_faulty bytes m f x has
