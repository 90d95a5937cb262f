-- What is said of a text, from what it spells.
use Rattle.std.proofs.Common.{◌≡◌, ℕ, List, Some, Result, Ok, Err, inl, inr}
use Rattle.std.specs.Prelude.{IfOk, ◌≢◌}
use Rattle.std.specs.declared.alloc.AllocError.{AllocError}
use Rattle.sot_sections.specs.declared.mission.Need.TheVariants as needs
use Rattle.sot_syntax_tree.specs.Trees.{Program}
use Rattle.sot_lang.specs.Tables.{Tables}
use Rattle.sot_lang.specs.declared.cert.Cert.{Cert}
use Rattle.sot_parser.specs.Programs.{Spells}
use Rattle.sot_parser.specs.declared.syntax.Syntax.{Syntax}
use Rattle.sot_parser.specs.ParseAnswers.{fault_at}
use Rattle.sot_law_fault_place.proofs.ExactPlaces.{fault_is_placed}
use Rattle.sot_print.specs.Canonical.{canonical}
use Rattle.sot_tube.specs.Refusals.{Refusal}
use Rattle.sot_tube.specs.Certified.{IsWellCertified}
use Rattle.sot_tube.specs.Verdict.{verdict}
use Rattle.sot_world.specs.Headline.{EveryRunIsSafe}
use Rattle.sot_flight.specs.Plans.{Plan}
use Rattle.sot_report.specs.declared.fault.Fault.{Fault}
use Rattle.sot_report.specs.Missions.{Mission, SpellsNone, HasFault}
use Rattle.sot_report.specs.FaultTexts.{fault_text, syntax_text}
use Rattle.sot_report.specs.RefusalTexts.{refusal_text}
use Rattle.sot_report.specs.AcceptedTexts.{accepted_text}
use Rattle.sot_cli.specs.declared.answer.Answer.{Answer}
use Rattle.sot_commands.specs.declared.words.Command.TheVariants.{Check, Format}
use Rattle.sot_formula.specs.declared.fail.MonitorFail.{MonitorFail}
use Rattle.sot_formula.specs.declared.fail.MonitorFail.TheVariants as monitor_fails
use Rattle.sot_commands.specs.WatchTexts.{formula_text}
use Rattle.sot_commands.specs.Answers.{SpellsFor, IsStopped, Replies}
use Rattle.sot_commands.specs.declared.telling.Telling.{Telling}
use Rattle.sot_commands.specs.declared.telling.Telling.TheVariants.{Trace, Summary, Verdict}
use Rattle.sot_commands.specs.Orders.{IsFailedOf, RefusesFlight, IsFaulty, FliesBytes}
use Rattle.sot_commands.specs.Steps.{Judges, JudgesFlown, JudgesWatched, MeansFor, FailsFor}

-- `format`: a text that spells a program has its canonical text said
pub formatted_result : (guests : ℕ) (r : Result Answer AllocError) (bytes : List ℕ) (program : Program) → Spells bytes 0 program → IfOk r (λ a. a.status ≡ 0)
    → IfOk r (λ a. a.text.items ≡ canonical program)
    → IfOk r (λ a. Replies guests Format bytes a.status a.text.items)
formatted_result guests (Ok a) bytes program spells status text = inl (status, (program, spells, text))
formatted_result guests (Err e) bytes program spells status text = tt

-- and of a text that spells none it was said where the grammar does not go on
pub misspelled_result : (guests : ℕ) (r : Result Answer AllocError) (bytes : List ℕ) (fault : Syntax) → SpellsNone bytes → fault ≡ fault_at bytes 0
    → IfOk r (λ a. a.status ≡ 3) → IfOk r (λ a. a.text.items ≡ syntax_text fault)
    → IfOk r (λ a. Replies guests Format bytes a.status a.text.items)
misspelled_result guests (Ok a) bytes fault none place status text = inr (inr (status, (fault, none, fault_is_placed bytes 0 fault none place, text)))
misspelled_result guests (Err e) bytes fault none place status text = tt

-- `check`: a mission that is accepted, and one that is refused
pub accepted_result : (r : Result Answer AllocError) (t : Tables) (c : Cert) → IsWellCertified t c.jitter c → EveryRunIsSafe t c.jitter
    → IfOk r (λ a. a.status ≡ 0) → IfOk r (λ a. a.text.items ≡ accepted_text t c)
    → IfOk r (λ a. Judges t c a.status a.text.items)
accepted_result (Ok a) t c certified safe status text = inl (status, certified, safe, text)
accepted_result (Err e) t c certified safe status text = tt

pub refused_result : (r : Result Answer AllocError) (t : Tables) (c : Cert) (v : Refusal) → (verdict t c.jitter c).Refuses v → IfOk r (λ a. a.status ≡ 1)
    → IfOk r (λ a. a.text.items ≡ refusal_text t v)
    → IfOk r (λ a. Judges t c a.status a.text.items)
refused_result (Ok a) t c v refuses status text = inr (status, (v, refuses, text))
refused_result (Err e) t c v refuses status text = tt

-- what is said of its program and certificate is said of the mission
replied : (guests : ℕ) (bytes text : List ℕ) (status : ℕ) (m : Mission) → SpellsFor needs.Check 0 bytes m → Judges m.tables m.cert status text
    → Replies guests Check bytes status text
replied guests bytes text status m spells (inl (is, certified, safe, says)) = inl (is, (m, spells, certified, safe, says))
replied guests bytes text status m spells (inr (is, refused)) = inr (inl (is, (m, spells, refused)))

pub judged_result : (guests : ℕ) (r : Result Answer AllocError) (bytes : List ℕ) (m : Mission) → SpellsFor needs.Check 0 bytes m
    → IfOk r (λ a. Judges m.tables m.cert a.status a.text.items)
    → IfOk r (λ a. Replies guests Check bytes a.status a.text.items)
judged_result guests (Ok a) bytes m spells judges = replied guests bytes a.text.items a.status m spells judges
judged_result guests (Err e) bytes m spells judges = tt

-- and bytes that have a fault
pub faulty_result : (guests : ℕ) (r : Result Answer AllocError) (bytes : List ℕ) (fault : Fault) → HasFault needs.Check 0 bytes fault
    → IfOk r (λ a. a.status ≡ 3) → IfOk r (λ a. a.text.items ≡ fault_text fault)
    → IfOk r (λ a. Replies guests Check bytes a.status a.text.items)
faulty_result guests (Ok a) bytes fault has status text = inr (inr (status, (fault, has, text)))
faulty_result guests (Err e) bytes fault has status text = tt

-- `fly` and `soak`: a refusal is said of the program with its certificate
pub unflown_result : (r : Result Answer AllocError) (telling : Telling) (t : Tables) (c : Cert) (f : Plan) (v : Refusal) → (verdict t c.jitter c).Refuses v
    → IfOk r (λ a. a.status ≡ 1)
    → IfOk r (λ a. a.text.items ≡ refusal_text t v) → IfOk r (λ a. JudgesFlown telling t c f a.status a.text.items)
unflown_result (Ok a) telling t c f v refuses status text = inr (status, (v, refuses, text))
unflown_result (Err e) telling t c f v refuses status text = tt

-- a formula that may watch the flight has a fault
pub unwatched_result : (r : Result Answer AllocError) (telling : Telling) (t : Tables) (c : Cert) (f : Plan) (fail : MonitorFail) → FailsFor telling t fail
    → IfOk r (λ a. a.status ≡ 3) → IfOk r (λ a. (fail ≢ monitor_fails.Memory) × (a.text.items ≡ formula_text fail))
    → IfOk r (λ a. JudgesWatched telling t c f a.status a.text.items)
unwatched_result (Ok a) telling t c f fail fails status (enough, text) = inr (status, (fail, enough, fails, text))
unwatched_result (Err e) telling t c f fail fails status text = tt

-- and what is said of these is said of the mission
module _ (guests : ℕ) (bytes text : List ℕ) (m : Mission) (f : Plan) (spells : SpellsFor needs.Fly guests bytes m) (is : m.flight ≡ Some f) where
  stopped : (telling : Telling) → MeansFor telling m.tables → IsStopped m text → RefusesFlight telling guests bytes text
  stopped Trace means stop = (m, spells, stop)
  stopped Summary means stop = (m, spells, stop)
  stopped (Verdict formula) means stop = inr (m, spells, means, stop)

  failed : (telling : Telling) → IsWellCertified m.tables m.cert.jitter m.cert → EveryRunIsSafe m.tables m.cert.jitter
      → IsFailedOf telling m.tables m.cert.jitter f text → RefusesFlight telling guests bytes text
  failed Trace certified safe fails = absurd fails
  failed Summary certified safe fails = absurd fails
  failed (Verdict formula) certified safe fails = inl (m, spells, certified, safe, (f, is, fails))

  misread : (telling : Telling) (fail : MonitorFail) → fail ≢ monitor_fails.Memory → FailsFor telling m.tables fail → text ≡ formula_text fail
      → IsFaulty telling guests bytes text
  misread Trace fail enough fails said = absurd fails
  misread Summary fail enough fails said = absurd fails
  misread (Verdict formula) fail enough fails said = inr (m, spells, (fail, enough, fails, said))

  pub flown : (telling : Telling) (status : ℕ) → JudgesWatched telling m.tables m.cert f status text → FliesBytes guests telling bytes status text
  flown telling status (inl (means, inl (certified, safe, inl (zero, says)))) = inl (zero, (m, spells, certified, safe, (f, is, says)))
  flown telling status (inl (means, inl (certified, safe, inr (one, inl outside)))) =
      inr (inl (one, stopped telling means (inr (certified, (f, is, outside)))))
  flown telling status (inl (means, inl (certified, safe, inr (one, inr fails)))) = inr (inl (one, failed telling certified safe fails))
  flown telling status (inl (means, inr (one, refused))) = inr (inl (one, stopped telling means (inl refused)))
  flown telling status (inr (three, (fail, enough, fails, said))) = inr (inr (three, misread telling fail enough fails said))

unread : (telling : Telling) (guests : ℕ) (bytes text : List ℕ) (fault : Fault) → HasFault needs.Fly guests bytes fault → text ≡ fault_text fault
    → IsFaulty telling guests bytes text
unread Trace guests bytes text fault has said = (fault, has, said)
unread Summary guests bytes text fault has said = (fault, has, said)
unread (Verdict formula) guests bytes text fault has said = inl (fault, has, said)

pub unread_result : (guests : ℕ) (r : Result Answer AllocError) (telling : Telling) (bytes : List ℕ) (fault : Fault) → HasFault needs.Fly guests bytes fault
    → IfOk r (λ a. a.status ≡ 3)
    → IfOk r (λ a. a.text.items ≡ fault_text fault) → IfOk r (λ a. FliesBytes guests telling bytes a.status a.text.items)
unread_result guests (Ok a) telling bytes fault has status text = inr (inr (status, unread telling guests bytes a.text.items fault has text))
unread_result guests (Err e) telling bytes fault has status text = tt
