-- The mission of a program with the regions that it was given.
use Rattle.std.proofs.Common.{◌≡◌, ◌∙◌, ℕ, ◌<◌, ◌≤◌, List, [], ◌∷◌, Result, Ok, Err, inl, inr, length, refl, sym, ap, subst, arith}
use Rattle.std.specs.Prelude.{◌≢◌, IfOk}
use Rattle.std.specs.declared.alloc.AllocError.{AllocError}
use Rattle.sot_lists.specs.Places.{At}
use Rattle.sot_lists.proofs.Places.{at_same}
use Rattle.sot_box.specs.Sides.{Side}
use Rattle.sot_sections.specs.declared.mission.Need.TheVariants as needs
use Rattle.sot_syntax_tree.specs.Trees.{Program}
use Rattle.sot_parser.specs.Programs.{Spells}
use Rattle.sot_parser.proofs.ProgramTexts.{spells_unique}
use Rattle.sot_lang.specs.declared.cert.Cert.{Cert}
use Rattle.sot_lang.specs.declared.tables.ModuleInfo.{ModuleInfo}
use Rattle.sot_lang.specs.Tables.{Tables}
use Rattle.sot_lang.specs.TableRules.{MeetsTableRules}
use Rattle.sot_lang.specs.CertRules.{FitsTables}
use Rattle.sot_certify.specs.declared.fail.CertifyFail.{CertifyFail}
use Rattle.sot_certify.specs.declared.fail.CertifyFail.TheVariants.{Memory}
use Rattle.sot_certify.specs.Certifying.{Certifies}
use Rattle.sot_law_equal_verdicts.proofs.Certify.{certify_alike}
use Rattle.sot_report.specs.Missions.{Mission, Resolves, SpellsMission}
use Rattle.sot_certified_text.specs.ReadAgain.{IsCertificateFor, written_with_jitter}
use Rattle.sot_certified_text.proofs.Written.{made_for}
use Rattle.sot_cli.specs.declared.answer.Answer.{Answer}
use Rattle.sot_regions_program.specs.Findings.{IsInside, HasBoxes}
use Rattle.sot_regions_program.specs.Answers.{SpellsTyped, SpellsSafe, IsMissionAsGiven}
use Rattle.sot_regions_program.specs.Steps.{AnswersSearched, AnswersAtLast}
use Rattle.sot_regions_program.proofs.Spelled.{spells_safe}

-- what was found stays, where firings may be late, or there is a mission
pub late_last : (p : Program) (t : Tables) (jitter status : ℕ) (text : List ℕ) → 0 < jitter → AnswersSearched p t jitter status text
    → AnswersAtLast p t jitter status text
late_last p t jitter status text late said = inl (said, λ one zero. absurd (omega (arith, late, zero)))

pub found_last : (p : Program) (t : Tables) (jitter status : ℕ) (text : List ℕ) → status ≡ 0 → AnswersSearched p t jitter status text
    → AnswersAtLast p t jitter status text
found_last p t jitter status text is said = inl (said, λ one zero. absurd (omega (arith, is, one)))

-- and where halving makes no certificate
pub failed_last : (p : Program) (t : Tables) (jitter status : ℕ) (text : List ℕ) (fail : CertifyFail) → fail ≢ Memory → Certifies t (Err fail)
    → AnswersSearched p t jitter status text → AnswersAtLast p t jitter status text
failed_last p t jitter status text fail not fails said = inl (said, λ one zero cert made. certify_alike t t cert fail refl not made fails)

pub given_last : (r : Result Answer AllocError) (p : Program) (t : Tables) (jitter : ℕ)
    → IfOk r (λ a. (a.status ≡ 0) × IsMissionAsGiven p t jitter a.text.items)
    → IfOk r (λ a. AnswersAtLast p t jitter a.status a.text.items)
given_last (Ok a) p t jitter given = inr given
given_last (Err e) p t jitter given = tt

some_box : (boxes : List (List Side)) → boxes ≢ [] → 1 ≤ length boxes
some_box [] some = absurd (some refl)
some_box (b ∷ bs) some = omega arith

-- the regions for which a certificate is made have 1 to 256 boxes
given_boxes : (t : Tables) (cert : Cert) → MeetsTableRules t → Certifies t (Ok cert) → (m : ℕ) (a : ModuleInfo) → At t.modules m a
    → HasBoxes 256 a.safe × HasBoxes 256 a.safer
given_boxes t cert rules made m a at =
    let both = (made.0.1.0 m a at).1 in
    let fit = rules.modules m a at in
    ((some_box a.safe.boxes both.0, fit.safe.boxes), (some_box a.safer.boxes both.1, fit.safer.boxes))

-- a certificate that is made for the tables of a text is one for the program that it spells
pub certificate_of : (bytes : List ℕ) (p q : Program) (t : Tables) (cert : Cert) → SpellsTyped bytes p t → Spells bytes 0 q → Certifies t (Ok cert)
    → FitsTables t cert → IsCertificateFor q t cert
certificate_of bytes p q t cert typed spells made fits =
    let one : p ≡ q = spells_unique bytes 0 p q typed.0 spells in
    made_for bytes q t cert
    (record { spelled = spells; resolved = subst (λ (x : Program). Resolves x t) one typed.1; made = made; fits = fits })

stays : (t : Tables) (k : ℕ) (a b : ModuleInfo) → At t.modules k a → At t.modules k b → IsInside b.safe a.safe
stays t k a b at_a at_b = subst (λ (x : ModuleInfo). IsInside x.safe a.safe) (at_same t.modules k a b at_a at_b) (λ s inside. inside)

-- what is written of it
pub given_result : (r : Result Answer AllocError) (bytes : List ℕ) (p q : Program) (t : Tables) (jitter : ℕ) (cert : Cert) → SpellsTyped bytes p t
    → Spells bytes 0 q → jitter ≡ 0 → Certifies t (Ok cert) → FitsTables t cert → IfOk r (λ a. a.status ≡ 0)
    → IfOk r (λ a. a.text.items ≡ written_with_jitter q t cert)
    → IfOk r (λ a. (m : Mission) × SpellsMission needs.Check 0 a.text.items m)
    → IfOk r (λ a. (a.status ≡ 0) × IsMissionAsGiven p t jitter a.text.items)
given_result (Ok a) bytes p q t jitter cert typed spells zero made fits status text mission =
    let one : q ≡ p = spells_unique bytes 0 q p spells typed.0 in
    let is : a.text.items ≡ written_with_jitter p t cert = text ∙ ap (λ (x : Program). written_with_jitter x t cert) one in
    let same : cert.jitter ≡ jitter = made.1.jitter ∙ sym zero in
    let safe = spells_safe p t t cert a.text.items (certificate_of bytes p p t cert typed typed.0 made fits) (stays t) is mission in (
      status,
      record {
        on_time = zero;
        cert = cert;
        made = made;
        text_is = is;
        boxes = given_boxes t cert typed.1.rules made;
        spelled = subst (λ (j : ℕ). SpellsSafe p t j a.text.items) same safe;
      },
    )
given_result (Err e) bytes p q t jitter cert typed spells zero made fits status text mission = tt
