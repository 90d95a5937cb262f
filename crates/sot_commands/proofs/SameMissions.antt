-- The missions that one text spells look the same.
use Rattle.std.proofs.Common.{◌≡◌, ◌∙◌, ℕ, List, Option, None, Some, Result, Ok, sym, ap, subst}
use Rattle.std.proofs.lemmas.Option.{same_Some}
use Rattle.sot_sections.specs.declared.mission.Need.{Need}
use Rattle.sot_sections.specs.Sections.{Parts, split_of}
use Rattle.sot_syntax_tree.specs.Trees.{Program}
use Rattle.sot_lang.specs.Tables.{Tables}
use Rattle.sot_parser.specs.Programs.{Spells}
use Rattle.sot_parser.proofs.ProgramTexts.{spells_unique}
use Rattle.sot_typing.specs.Resolved.{tables_seen, tables_of}
use Rattle.sot_cert.specs.CertFormat.{Contents, contents, cert_of}
use Rattle.sot_flight.specs.Plans.{Plan}
use Rattle.sot_flight.specs.FlightFormat.{flight_of}
use Rattle.sot_law_equal_tables.proofs.Certificates.{certificates_alike}
use Rattle.sot_law_equal_tables.proofs.Flights.{flights_alike}
use Rattle.sot_law_equal_ranks.specs.Laws.{LookTheSame}
use Rattle.sot_report.specs.Missions.{Mission, Resolves, HasParts, SaysFlight}
use Rattle.sot_commands.specs.Answers.{SpellsFor}

-- bytes have one list of sections, and its program's text spells one program
pub same_ok : {A E : Type 0} (x : Result A E) (a b : A) → x ≡ Ok a → x ≡ Ok b → a ≡ b
same_ok x a b e f = (let same = sym e ∙ f in cc)

pub same_parts : (need : Need) (bytes : List ℕ) (a b : Parts) → HasParts need bytes a → HasParts need bytes b → a ≡ b
same_parts need bytes a b = same_ok (split_of bytes need) a b

pub same_program : (a b : Parts) (p q : Program) → a ≡ b → Spells a.program 0 p → Spells b.program 0 q → p ≡ q
same_program a b p q same spells spells' = spells_unique a.program 0 p q spells (subst (λ (x : Parts). Spells x.program 0 q) (sym same) spells')

-- tables of one program look the same
pub same_seen : (p q : Program) (t u : Tables) → p ≡ q → Resolves p t → Resolves q u → tables_seen t ≡ tables_seen u
same_seen p q t u same r s = r.tables ∙ ap tables_of same ∙ sym s.tables

-- and the certificate's text says the same of them
pub same_said : (a b : Parts) (t u : Tables) → a ≡ b → tables_seen t ≡ tables_seen u → cert_of t a.cert ≡ cert_of u b.cert
same_said a b t u same seen = certificates_alike t u a.cert seen ∙ ap (λ (x : Parts). cert_of u x.cert) same

-- the flight's text says the same flight of tables that look the same
pub same_flown : (guests : ℕ) (t u : Tables) (section : Option (List ℕ)) (f g : Plan) (a b : Option Plan) → tables_seen t ≡ tables_seen u → a ≡ Some f
    → b ≡ Some g
    → SaysFlight t guests section a → SaysFlight u guests section b → f ≡ g
same_flown guests t u None f g None b seen is is' x y = absurd cc
same_flown guests t u None f g (Some a) b seen is is' x y = absurd x
same_flown guests t u (Some section) f g None b seen is is' x y = absurd x
same_flown guests t u (Some section) f g (Some a) None seen is is' x y = absurd y
same_flown guests t u (Some section) f g (Some a) (Some b) seen is is' x y =
    let one : a ≡ b = same_ok (flight_of u guests section) a b (sym (flights_alike t u guests section seen) ∙ x.0) y.0 in
    same_Some f a (sym is) ∙ one ∙ same_Some b g is'

module _ (need : Need) (guests : ℕ) (bytes : List ℕ) (m n : Mission) (x : SpellsFor need guests bytes m) (y : SpellsFor need guests bytes n) where
  pub sections : x.parts ≡ y.parts
  sections = same_parts need bytes x.parts y.parts x.divided y.divided

  pub seen : tables_seen m.tables ≡ tables_seen n.tables
  seen = same_seen m.program n.program m.tables n.tables (same_program x.parts y.parts m.program n.program sections x.spelled y.spelled) x.resolved y.resolved

  pub said : contents m.cert ≡ contents n.cert
  said =
      same_ok (cert_of n.tables y.parts.cert) (contents m.cert) (contents n.cert)
      (sym (same_said x.parts y.parts m.tables n.tables sections seen) ∙ x.certified) y.certified

  -- two missions of one text look the same
  pub look_same : LookTheSame m.tables n.tables m.cert n.cert
  look_same = record { tables = seen; jitter = ap (λ (c : Contents). c.jitter) said; cells = ap (λ (c : Contents). c.modules) said }
