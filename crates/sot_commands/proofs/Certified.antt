-- `certify`: what is said of a program's text, from what is said of its tables.
use Rattle.std.proofs.Common.{◌≡◌, ◌≢◌, ◌∙◌, ap, sym, subst, ℕ, List, Result, Ok, Err, inl, inr}
use Rattle.std.specs.Prelude.{IfOk}
use Rattle.std.specs.declared.alloc.AllocError.{AllocError}
use Rattle.sot_sections.specs.declared.mission.Need.TheVariants as needs
use Rattle.sot_sections.specs.Sections.{Parts, split_of}
use Rattle.sot_syntax_tree.specs.Trees.{Program}
use Rattle.sot_lang.specs.Tables.{Tables}
use Rattle.sot_lang.specs.declared.cert.Cert.{Cert}
use Rattle.sot_parser.specs.Programs.{Spells}
use Rattle.sot_parser.specs.declared.syntax.Syntax.{Syntax}
use Rattle.sot_parser.specs.ParseAnswers.{fault_at}
use Rattle.sot_law_fault_place.proofs.ExactPlaces.{fault_is_placed}
use Rattle.sot_parser.proofs.ProgramTexts.{spells_unique}
use Rattle.sot_rules.specs.declared.fault.TypeFault.{TypeFault}
use Rattle.sot_rules.specs.First.{IsFirstFault}
use Rattle.sot_print.specs.Canonical.{canonical}
use Rattle.sot_law_print_parse.specs.Unplaced.{AreSame}
use Rattle.sot_law_print_parse.proofs.Canonical.{canonical_text}
use Rattle.sot_law_print_parse.proofs.FormedPrograms.{spelled_formed}
use Rattle.sot_certify.specs.declared.fail.CertifyFail.{CertifyFail}
use Rattle.sot_certify.specs.declared.fail.CertifyFail.TheVariants.{Memory}
use Rattle.sot_certify.specs.Certifying.{Certifies}
use Rattle.sot_certified_text.specs.CertText.{certificate_line}
use Rattle.sot_certified_text.specs.Missions.{mission_text}
use Rattle.sot_certified_text.specs.FailTexts.{fail_text}
use Rattle.sot_certified_text.proofs.Lines.{texts_divide}
use Rattle.sot_report.specs.declared.fault.Fault.TheVariants as faults
use Rattle.sot_report.specs.Missions.{Mission, SpellsNone, Resolves, HasFault}
use Rattle.sot_report.specs.FaultTexts.{type_text, syntax_text}
use Rattle.sot_cli.specs.declared.answer.Answer.{Answer}
use Rattle.sot_commands.specs.declared.words.Command.TheVariants.{Certify}
use Rattle.sot_commands.specs.Answers.{SpellsFor, IsCertifiedText, IsRefusedFor, SpellsAccepted, SpellsAcceptedOf, Replies}
use Rattle.sot_commands.specs.Steps.{IsWritten, CertifiesTables, CertifiesTree}
use Rattle.sot_tube.specs.Refusals.{Refusal}
use Rattle.sot_report.specs.declared.fault.Fault.{Fault}
use Rattle.sot_certified_text.proofs.Written.{no_fault, missions_passed}

-- the first section of what was written is the canonical text, so the mission's program is the one that was read
same_ok : {A E : Type 0} (x : Result A E) (a b : A) → x ≡ Ok a → x ≡ Ok b → a ≡ b
same_ok x a b e f = (let same = sym e ∙ f in cc)

same_program : (bytes : List ℕ) (p : Program) (m : Program) → Spells bytes 0 p → Spells (canonical p) 0 m → AreSame p m
same_program bytes p m spells again =
    let read = canonical_text bytes 0 p spells in
    subst (λ (q : Program). AreSame p q) (spells_unique (canonical p) 0 read.0 m read.1 again) read.2

first_section : (p : Program) (t : Tables) (cert : Cert) (text : List ℕ) (parts : Parts) → text ≡ mission_text (canonical p) (certificate_line t cert)
    → split_of text needs.Check ≡ Ok parts → (bytes : List ℕ) → Spells bytes 0 p → parts.program ≡ canonical p
first_section p t cert text parts is divided bytes spells =
    let here = sym (ap (λ (x : List ℕ). split_of x needs.Check) is) ∙ divided in
    ap (λ (x : Parts). x.program) (same_ok (split_of (mission_text (canonical p) (certificate_line t cert)) needs.Check) parts _ here
    (texts_divide p t cert (spelled_formed bytes 0 p spells)))

of_program : (bytes : List ℕ) (p : Program) (t : Tables) (text : List ℕ) → Spells bytes 0 p → IsCertifiedText p t text → SpellsAccepted text
    → SpellsAcceptedOf p text
of_program bytes p t text spells (cert, made, fits, is) (m, spelled, accepted, safe) =
    let front = first_section p t cert text spelled.parts is spelled.divided bytes spells in
    (m, spelled, same_program bytes p m.program spells (subst (λ (x : List ℕ). Spells x 0 m.program) front spelled.spelled), accepted, safe)

replied : (guests : ℕ) (bytes : List ℕ) (p : Program) (status : ℕ) (text : List ℕ) → Spells bytes 0 p → CertifiesTree p status text
    → Replies guests Certify bytes status text
replied guests bytes p status text spells (inl (t, resolves, inl (is, has, accepted))) =
    inl (is, (p, t, spells, resolves, has, of_program bytes p t text spells has accepted))
replied guests bytes p status text spells (inl (t, resolves, inr (is, none))) = inr (inl (is, (p, t, spells, resolves, none)))
replied guests bytes p status text spells (inr (is, (f, first, says))) = inr (inr (is, (faults.Typing f, (p, spells, first), says)))

pub certified_result : (guests : ℕ) (r : Result Answer AllocError) (bytes : List ℕ) (p : Program) → Spells bytes 0 p
    → IfOk r (λ a. CertifiesTree p a.status a.text.items)
    → IfOk r (λ a. Replies guests Certify bytes a.status a.text.items)
certified_result guests (Ok a) bytes p spells said = replied guests bytes p a.status a.text.items spells said
certified_result guests (Err e) bytes p spells said = tt

pub misspelled_result : (guests : ℕ) (r : Result Answer AllocError) (bytes : List ℕ) (fault : Syntax) → SpellsNone bytes → fault ≡ fault_at bytes 0
    → IfOk r (λ a. a.status ≡ 3) → IfOk r (λ a. a.text.items ≡ syntax_text fault)
    → IfOk r (λ a. Replies guests Certify bytes a.status a.text.items)
misspelled_result guests (Ok a) bytes fault none place status text =
    inr (inr (status, (faults.Syntax fault, (none, fault_is_placed bytes 0 fault none place), text)))
misspelled_result guests (Err e) bytes fault none place status text = tt

-- what was written has no fault, and no mission that it spells is refused
pub written_faulty : (text : List ℕ) (f : Fault) → IsWritten text → HasFault needs.Check 0 text f → ⊥
written_faulty text f (bytes, p, t, cert, has, is) fault = no_fault bytes p t cert 0 f has (subst (λ (x : List ℕ). HasFault needs.Check 0 x f) is fault)

pub written_refused : (text : List ℕ) (m : Mission) (r : Refusal) → IsWritten text → SpellsFor needs.Check 0 text m → IsRefusedFor m r → ⊥
written_refused text m r (bytes, p, t, cert, has, is) spells refused =
    missions_passed bytes p t cert 0 m r has (subst (λ (x : List ℕ). SpellsFor needs.Check 0 x m) is spells) refused

-- a program that has no certificate, and one that breaks a rule of typing
pub uncertified_result : (r : Result Answer AllocError) (p : Program) (t : Tables) (fail : CertifyFail) → fail ≢ Memory → Certifies t (Err fail)
    → IfOk r (λ a. a.status ≡ 1)
    → IfOk r (λ a. a.text.items ≡ fail_text t fail) → IfOk r (λ a. CertifiesTables p t a.status a.text.items)
uncertified_result (Ok a) p t fail enough fails status text = inr (status, (fail, enough, fails, text))
uncertified_result (Err e) p t fail enough fails status text = tt

pub tables_result : (r : Result Answer AllocError) (p : Program) (t : Tables) → Resolves p t → IfOk r (λ a. CertifiesTables p t a.status a.text.items)
    → IfOk r (λ a. CertifiesTree p a.status a.text.items)
tables_result (Ok a) p t resolves said = inl (t, resolves, said)
tables_result (Err e) p t resolves said = tt

pub mistyped_result : (r : Result Answer AllocError) (p : Program) (fault : TypeFault) → IsFirstFault p fault → IfOk r (λ a. a.status ≡ 3)
    → IfOk r (λ a. a.text.items ≡ type_text fault)
    → IfOk r (λ a. CertifiesTree p a.status a.text.items)
mistyped_result (Ok a) p fault first status text = inr (status, (fault, first, text))
mistyped_result (Err e) p fault first status text = tt
