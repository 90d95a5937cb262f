-- What is said of the mission in front, and of all that was read.
use Rattle.std.proofs.Common.{◌≡◌, ℕ, ◌<◌, List, [], ◌++◌, Ok, Err, inl, inr, length, take, refl, sym, ap, subst, append-nil, arith}
use Rattle.std.specs.Prelude.{◌≢◌, Result, IfOk}
use Rattle.std.specs.declared.alloc.AllocError.{AllocError}
use Rattle.std.proofs.lemmas.List.{length-append, take-append-le}
use Rattle.std.specs.Io.KnownBytes.{Appends}
use Rattle.sot_ports.specs.Faults.{Rose}
use Rattle.sot_sections.specs.declared.mission.Need.TheVariants.{Check}
use Rattle.sot_lang.specs.Tables.{Tables}
use Rattle.sot_lang.specs.declared.cert.Cert.{Cert}
use Rattle.sot_tube.specs.Admitted.{Admitted}
use Rattle.sot_tube.specs.Certified.{IsWellCertified}
use Rattle.sot_world.specs.Headline.{EveryRunIsSafe}
use Rattle.sot_report.specs.Missions.{Mission, SpellsMission}
use Rattle.sot_report.specs.AcceptedTexts.{accepted_text}
use Rattle.sot_guard_lines.specs.Outline.{outline_text}
use Rattle.sot_cli.specs.declared.answer.Answer.{Answer}
use Rattle.sot_guard_program.specs.Conversations.{unopened}
use Rattle.sot_guard_program.specs.Moments.{Ears, Mouth, Passes, Utters, Ended}
use Rattle.sot_guard_program.specs.Says.{SaysOutline, SaysMission}
use Rattle.sot_guard_program.specs.Tellings.{TellsAnswer}
use Rattle.sot_guard_program.specs.Beginning.{SaysIn, SaysAccepted, SaysJudged}
use Rattle.sot_guard_program.proofs.Passing.{passes_nil, ended_behind, ended_so, ended_well, ended_told, ended_quiet}

-- what a robot has to know was said, and no line was heard: the source or the sink has failed
pub outlined_in_part : (time : ℕ) (acc : Admitted) (e : Ears) → SaysOutline time acc e 4 [] (outline_text acc.program)
outlined_in_part time acc e = (
  [],
  sym (append-nil (outline_text acc.program)),
  inr (inr (inr (inl (record {
    opening = unopened acc;
    started = refl;
    said_is = refl;
    text_is = refl;
  })))),
)

module _ (e f : Ears) (x y : Mouth) (status : ℕ) where
  -- an answer is told
  pub answered : (P : Ears → ℕ → List ℕ → List ℕ → Type 0) (passed : List ℕ) (r : Result Answer AllocError) → Passes e f passed
      → IfOk r (λ a. (a.status ≢ 4) × P f a.status passed a.text.items) → P f 6 passed [] → TellsAnswer r x y status → Ended P e f x y status
  answered P passed (Ok a) passes says silent tells = ended_told P e f x y passed a.text.items a.status status passes says.0 says.1 tells
  answered P passed (Err fail) passes says silent quiet = ended_quiet P e f x y passed status passes silent quiet

  -- behind the answer to an accepted mission
  pub greeted : (time : ℕ) (acc : Admitted) (z : Mouth) (text : List ℕ) → Utters x z text → text ≡ accepted_text acc.program acc.cert
      → Ended (SaysIn (SaysOutline time acc)) e f z y status → Ended (SaysAccepted time acc) e f x y status
  greeted time acc z text utters is r =
      ended_behind (SaysIn (SaysOutline time acc)) (SaysAccepted time acc) e e f x z y [] text status (passes_nil e) utters
      (λ said bytes more says. inl (more, ap (λ l. l ++ more) is, says)) r

  pub judged : (time : ℕ) (p : Tables) (cert : Cert) → IsWellCertified p cert.jitter cert → EveryRunIsSafe p cert.jitter
      → Ended (SaysAccepted time (record { program = p; cert = cert })) e f x y status → Ended (SaysJudged time p cert) e f x y status
  judged time p cert certified safe r =
      ended_so (SaysAccepted time (record { program = p; cert = cert })) (SaysJudged time p cert) e f x y status (λ said bytes text says. inl (certified, safe, says)) r

  says_mission : (time : ℕ) (front : List ℕ) (m : Mission) → SpellsMission Check 0 front m → (said : ℕ) (bytes text : List ℕ)
      → SaysJudged time m.tables m.cert f said bytes text → SaysMission time front f said bytes text
  says_mission time front m spells said bytes text (inl (certified, safe, inl (more, is, says))) =
      inl (m, spells, record { accepted = certified; safe = safe; more = more; text_is = is; says = says })
  says_mission time front m spells said bytes text (inl (certified, safe, inr silent)) = inr (inr (inr silent))
  says_mission time front m spells said bytes text (inr (inl (is, refuses))) = inr (inl (m, spells, is, refuses))
  says_mission time front m spells said bytes text (inr (inr silent)) = inr (inr (inr silent))

  pub accepted : (time : ℕ) (front : List ℕ) (m : Mission) → SpellsMission Check 0 front m → Ended (SaysJudged time m.tables m.cert) e f x y status
      → Ended (SaysMission time front) e f x y status
  accepted time front m spells r = ended_so (SaysJudged time m.tables m.cert) (SaysMission time front) e f x y status (says_mission time front m spells) r

-- the sink failed in the answer to an accepted mission
pub greeted_in_part : (time : ℕ) (acc : Admitted) (e : Ears) (x y : Mouth) (text : List ℕ) (sent : ℕ) → text ≡ accepted_text acc.program acc.cert
    → Rose x.faults y.faults → sent < length text → Appends x.held y.held (take sent text) → Ended (SaysAccepted time acc) e e x y 5
greeted_in_part time acc e x y text sent is rose below taken =
    let more = outline_text acc.program in
    let below_all : sent < length (text ++ more) = omega (arith, below, length-append text more) in
    let same = take-append-le sent text more (omega (arith, below)) in
    ended_well (SaysAccepted time acc) e e x y [] (text ++ more) 4 5 (passes_nil e) (λ four. absurd (omega arith))
    (inl (more, ap (λ l. l ++ more) is, outlined_in_part time acc e))
    (inr (refl, rose, (sent, below_all, subst (Appends x.held y.held) (sym same) taken)))
