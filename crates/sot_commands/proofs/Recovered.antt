-- What is said of a mission's recovery.
use Rattle.std.proofs.Common.{◌≡◌, ℕ, List, Result, Ok, Err, inl, inr}
use Rattle.std.specs.Prelude.{IfOk}
use Rattle.std.specs.declared.alloc.AllocError.{AllocError}
use Rattle.sot_sections.specs.declared.mission.Need.TheVariants as needs
use Rattle.sot_lang.specs.Tables.{Tables}
use Rattle.sot_lang.specs.declared.cert.Cert.{Cert}
use Rattle.sot_tube.specs.Refusals.{Refusal}
use Rattle.sot_tube.specs.Certified.{IsWellCertified}
use Rattle.sot_tube.specs.Verdict.{verdict}
use Rattle.sot_world.specs.Headline.{EveryRunIsSafe}
use Rattle.sot_report.specs.declared.fault.Fault.{Fault}
use Rattle.sot_report.specs.Missions.{Mission, HasFault}
use Rattle.sot_report.specs.FaultTexts.{fault_text}
use Rattle.sot_report.specs.RefusalTexts.{refusal_text}
use Rattle.sot_cli.specs.declared.answer.Answer.{Answer}
use Rattle.sot_commands.specs.declared.words.Command.TheVariants.{Recover}
use Rattle.sot_commands.specs.Answers.{SpellsFor, Replies}
use Rattle.sot_commands.specs.Steps.{SaysRecovery, JudgesRecovery}

-- what is said of an accepted program's modules is said of the program with its certificate, and so is a refusal
pub recovery_result : (r : Result Answer AllocError) (t : Tables) (c : Cert) → IsWellCertified t c.jitter c → EveryRunIsSafe t c.jitter
    → IfOk r (λ a. SaysRecovery t c a.status a.text.items) → IfOk r (λ a. JudgesRecovery t c a.status a.text.items)
recovery_result (Ok a) t c certified safe says = inl (certified, safe, says)
recovery_result (Err e) t c certified safe says = tt

pub unrecovered_result : (r : Result Answer AllocError) (t : Tables) (c : Cert) (v : Refusal) → (verdict t c.jitter c).Refuses v → IfOk r (λ a. a.status ≡ 1)
    → IfOk r (λ a. a.text.items ≡ refusal_text t v) → IfOk r (λ a. JudgesRecovery t c a.status a.text.items)
unrecovered_result (Ok a) t c v refuses status text = inr (status, (v, refuses, text))
unrecovered_result (Err e) t c v refuses status text = tt

-- and what is said of these is said of the mission
recovered : (guests : ℕ) (bytes text : List ℕ) (status : ℕ) (m : Mission) → SpellsFor needs.Check 0 bytes m → JudgesRecovery m.tables m.cert status text
    → Replies guests Recover bytes status text
recovered guests bytes text status m spells (inl (certified, safe, inl (zero, all))) = inl (zero, (m, spells, certified, safe, all))
recovered guests bytes text status m spells (inl (certified, safe, inr (one, never))) = inr (inl (one, (m, spells, inr (certified, never))))
recovered guests bytes text status m spells (inr (one, refused)) = inr (inl (one, (m, spells, inl refused)))

pub recovered_result : (guests : ℕ) (r : Result Answer AllocError) (bytes : List ℕ) (m : Mission) → SpellsFor needs.Check 0 bytes m
    → IfOk r (λ a. JudgesRecovery m.tables m.cert a.status a.text.items) → IfOk r (λ a. Replies guests Recover bytes a.status a.text.items)
recovered_result guests (Ok a) bytes m spells judges = recovered guests bytes a.text.items a.status m spells judges
recovered_result guests (Err e) bytes m spells judges = tt

pub unspelled_result : (guests : ℕ) (r : Result Answer AllocError) (bytes : List ℕ) (fault : Fault) → HasFault needs.Check 0 bytes fault
    → IfOk r (λ a. a.status ≡ 3) → IfOk r (λ a. a.text.items ≡ fault_text fault) → IfOk r (λ a. Replies guests Recover bytes a.status a.text.items)
unspelled_result guests (Ok a) bytes fault has status text = inr (inr (status, (fault, has, text)))
unspelled_result guests (Err e) bytes fault has status text = tt
