-- Which text belongs to which status.
use Rattle.std.specs.Prelude.{◌≡◌, ◌≢◌, ℕ, suc, ◌+◌, ◌≤◌, ◌⊎◌, ◌^◌, ◌-◌, ℤ, Bool, true, false, List}
use Rattle.std.specs.Prelude.{[], ◌∷◌, ◌++◌, if◌then◌else◌, length, Ok, Err, String}
use Rattle.std.specs.Prelude.{slice_index_or}
use Rattle.std.specs.Io.KnownBytes.{IsAtEnd}
use Rattle.std.proofs.Common.{Global}
use Rattle.sot_text.specs.LineEnds.{lines}
use Rattle.sot_sections.specs.declared.mission.Need.TheVariants.{Check}
use Rattle.sot_sections.specs.declared.mission.SectionFault.{SectionFault}
use Rattle.sot_sections.specs.declared.mission.SectionKind.TheVariants.{Missing}
use Rattle.sot_sections.specs.Sections.{Parts, split_of}
use Rattle.sot_tube.specs.Admitted.{Admitted}
use Rattle.sot_tube.specs.Certified.{IsWellCertified}
use Rattle.sot_tube.specs.Verdict.{verdict}
use Rattle.sot_tube.specs.Refusals.{Refusal}
use Rattle.sot_world.specs.Headline.{EveryRunIsSafe}
use Rattle.sot_trace.specs.Traces.{text_of}
use Rattle.sot_trace_lines.specs.LentLines.{lent_lines}
use Rattle.sot_report.specs.declared.fault.Fault.{Fault}
use Rattle.sot_report.specs.declared.fault.Fault.TheVariants as faults
use Rattle.sot_report.specs.Missions.{Mission, SpellsMission, HasFault}
use Rattle.sot_report.specs.FaultTexts.{fault_text}
use Rattle.sot_report.specs.RefusalTexts.{refusal_text, start_text}
use Rattle.sot_report.specs.AcceptedTexts.{accepted_text}
use Rattle.sot_cli.specs.Texts.{input_limit, long_text}
use Rattle.sot_guard_input.specs.Waiting.{longest, has_end}
use Rattle.sot_guard.specs.declared.misheard.Misheard.{Misheard}
use Rattle.sot_guard.specs.declared.misheard.Misheard.TheVariants.{NotALine}
use Rattle.sot_guard.specs.Beginning.{IsStartUnsafe}
use Rattle.sot_guard_lines.specs.Lines.{end_line}
use Rattle.sot_guard_lines.specs.Outline.{outline_text}
use Rattle.sot_guard_protocol.specs.Openings.{Starting, HasAll, IsNoStart}
use Rattle.sot_guard_protocol.specs.Talks.{Talking, tables_of, time_of, IsOver}
use Rattle.sot_guard_input.specs.Fronts.{HasNone, IsFront, IsMark, IsTooLong}
use Rattle.sot_guard_program.specs.Lines.{usage_text, missing_word, at_line}
use Rattle.sot_guard_protocol.specs.Answers.{begins_text, misheard_word}
use Rattle.sot_guard_program.specs.Conversations.{unopened, Starts, Begins, Answers, StaysSafe}
use Rattle.sot_guard_program.specs.Moments.{Ears}

-- the source was seen to end, and nothing is left of it
abbrev pub IsAtEnds : Ears → Type 0
IsAtEnds b = (b.ended ≡ true) × (b.waiting ≡ []) × IsAtEnd b.left

-- a line is longer than a line may be: so many bytes wait, and no line end among them
abbrev pub IsLong : Ears → Type 0
IsLong b = (has_end b.waiting ≡ false) × (length b.waiting ≡ longest)

-- no line of a talk is at fault: each is taken, ignored, or ends the trust in the models
abbrev pub NoFault : List ℕ → Misheard → Type 0
NoFault line why = ⊥

-- what is spoken are lines that were heard, and then a line at fault: this holds of it, or it is
-- longer than a line may be
abbrev pub IsAtFault : (List ℕ → Misheard → Type 0) → List (List ℕ) → List (List ℕ) → Ears
    → Misheard → Type 0
IsAtFault Faults spoken heard b why =
    ((line : List ℕ) × (spoken ≡ heard ++ line ∷ []) × Faults line why)
    ⊎ ((spoken ≡ heard) × (why ≡ NotALine) × IsLong b)

-- 0 where the models are trusted, and 1 where they are not
abbrev pub end_status : Talking → ℕ
end_status u = if u.hearing.guarding.trusted then 0 else 1

-- a talk is over: the last instant was gone through, the lines have ended, or there were 2^64 - 1
pub record Closes (t : Talking) (before : ℕ) (b : Ears) (said : ℕ) (spoken : List (List ℕ))
    (text : List ℕ) : Type 0 where
  pub last : Talking
  pub answers : List ℕ
  pub answered : Answers t spoken last answers
  pub over : IsOver last ⊎ IsAtEnds b ⊎ (suc (before + length spoken) ≡ 2 ^ 64 - 1)
  pub said_is : said ≡ end_status last
  pub text_is : text ≡ answers ++ text_of (end_line (time_of last) last.events ∷ [])

-- a line that is longer than a line may be; lines are numbered behind so many others
pub record Mistakes (t : Talking) (before : ℕ) (b : Ears) (said : ℕ) (spoken : List (List ℕ))
    (text : List ℕ) : Type 0 where
  pub heard : List (List ℕ)
  pub last : Talking
  pub answers : List ℕ
  pub why : Misheard
  pub answered : Answers t heard last answers
  pub fault : IsAtFault NoFault spoken heard b why
  pub said_is : said ≡ 3
  pub text_is : text ≡ answers ++ at_line (suc (before + length heard)) (misheard_word why)

-- the answers to all lines so far: the source has failed
pub record GoesSoFar (t : Talking) (said : ℕ) (spoken : List (List ℕ)) (text : List ℕ) : Type 0
  where
    pub last : Talking
    pub answered : Answers t spoken last text
    pub said_is : said ≡ 4

-- what is said in a talk, of which there were so many lines before
abbrev pub SaysTalk : Talking → ℕ → Ears → ℕ → List (List ℕ) → List ℕ → Type 0
SaysTalk t before b said spoken text =
    Closes t before b said spoken text ⊎ Mistakes t before b said spoken text
    ⊎ GoesSoFar t said spoken text

-- that a talk begins is said first, and then what is said in it
abbrev pub SaysBegun : Talking → ℕ → Ears → ℕ → List (List ℕ) → List ℕ → Type 0
SaysBegun t before b said spoken text =
    (more : List ℕ) × (text ≡ begins_text (tables_of t) (time_of t) ++ more)
    × SaysTalk t before b said spoken more

-- a talk about an accepted program, which begins at this time and stays safe whatever is said
pub record Talks (time : ℕ) (acc : Admitted) (b : Ears) (said : ℕ) (spoken : List (List ℕ))
    (text : List ℕ) : Type 0 where
  pub starts : List (List ℕ)
  pub more : List (List ℕ)
  pub opening : Starting
  pub first : Talking
  pub spoken_are : spoken ≡ starts ++ more
  pub started : Starts (unopened acc) starts opening
  pub begins : Begins time opening first
  pub safe : StaysSafe first
  pub says : SaysBegun first (length starts) b said more text

-- the line of the first module whose plant the first commands do not hold safe until the module's
-- safe node fires, with where that plant was observed
abbrev pub IsUnheldLine : ℕ → Admitted → List (List ℤ) → List ℕ → Type 0
IsUnheldLine time acc starts text =
    (m : ℕ) × (unsafe : IsStartUnsafe acc.program acc.cert.jitter time starts m)
    × (text ≡ start_text acc.program m
    (slice_index_or starts unsafe.2.unheld.module_info.plant []))

-- a plant is not held safe
pub record RefusesStart (time : ℕ) (acc : Admitted) (said : ℕ) (spoken : List (List ℕ))
    (text : List ℕ) : Type 0 where
  pub opening : Starting
  pub started : Starts (unopened acc) spoken opening
  pub all : HasAll opening
  pub unheld : IsUnheldLine time acc opening.starts text
  pub said_is : said ≡ 1

-- the first line that does not say where the next plant is observed, and why; or the lines end
-- before each plant was observed
pub record MistakesStart (acc : Admitted) (b : Ears) (said : ℕ) (spoken : List (List ℕ))
    (text : List ℕ) : Type 0 where
  pub heard : List (List ℕ)
  pub opening : Starting
  pub started : Starts (unopened acc) heard opening
  pub fault : ((why : Misheard)
      × IsAtFault (IsNoStart opening) spoken heard b why
      × (text ≡ at_line (suc (length heard)) (misheard_word why)))
      ⊎ ((spoken ≡ heard) × IsAtEnds b × (text ≡ at_line (suc (length heard)) missing_word))
  pub said_is : said ≡ 3

-- nothing so far: the source has failed
pub record StartsSoFar (acc : Admitted) (said : ℕ) (spoken : List (List ℕ)) (text : List ℕ)
    : Type 0 where
  pub opening : Starting
  pub started : Starts (unopened acc) spoken opening
  pub said_is : said ≡ 4
  pub text_is : text ≡ []

-- there is no memory to say anything
abbrev pub IsSilent : ℕ → List ℕ → Type 0
IsSilent said text = (said ≡ 6) × (text ≡ [])

-- no line was heard yet; or each plant was observed, and nothing was heard behind those lines
abbrev pub IsBefore : Admitted → List (List ℕ) → Type 0
IsBefore acc spoken =
    (spoken ≡ [])
    ⊎ ((opening : Starting) × Starts (unopened acc) spoken opening × HasAll opening)

-- there is no memory for a talk, which does not begin
abbrev pub NeverBegins : Admitted → ℕ → List (List ℕ) → List ℕ → Type 0
NeverBegins acc said spoken text = IsBefore acc spoken × IsSilent said text

-- what belongs to what a robot says, where a talk begins at this time
abbrev pub SaysRobot : ℕ → Admitted → Ears → ℕ → List (List ℕ) → List ℕ → Type 0
SaysRobot time acc b said spoken text =
    Talks time acc b said spoken text ⊎ RefusesStart time acc said spoken text
    ⊎ MistakesStart acc b said spoken text ⊎ StartsSoFar acc said spoken text
    ⊎ NeverBegins acc said spoken text

-- what is said behind the answer to an accepted mission: what a robot has to know of it, and then
-- what belongs to what a robot says
abbrev pub SaysOutline : ℕ → Admitted → Ears → ℕ → List (List ℕ) → List ℕ → Type 0
SaysOutline time acc b said spoken text =
    (more : List ℕ) × (text ≡ outline_text acc.program ++ more)
    × SaysRobot time acc b said spoken more

-- a mission is accepted, every run of it is safe, that is said first, and then what a robot has to
-- know, and what belongs to what a robot says
pub record Accepts (time : ℕ) (m : Mission) (b : Ears) (said : ℕ) (bytes text : List ℕ)
    : Type 0 where
  pub accepted : IsWellCertified m.tables m.cert.jitter m.cert
  pub safe : EveryRunIsSafe m.tables m.cert.jitter
  pub more : List ℕ
  pub text_is : text ≡ accepted_text m.tables m.cert ++ more
  pub says : SaysOutline time (record { program = m.tables; cert = m.cert }) b said
      (lent_lines bytes) more

-- what is said of a front, and of the bytes behind its mark, which says this time
abbrev pub SaysMission : ℕ → List ℕ → Ears → ℕ → List ℕ → List ℕ → Type 0
SaysMission time front b said bytes text =
    ((m : Mission) × SpellsMission Check 0 front m × Accepts time m b said bytes text)
    ⊎ ((m : Mission) × SpellsMission Check 0 front m × (said ≡ 1) × ((r : Refusal)
    × (verdict m.tables m.cert.jitter m.cert).Refuses r × (text ≡ refusal_text m.tables r)))
    ⊎ ((said ≡ 3) × ((f : Fault) × HasFault Check 0 front f × (text ≡ fault_text f)))
    ⊎ IsSilent said text

-- the first fault of the section lines of a text that has no line `%observed`; where they have
-- none, that line is missing at the end
abbrev pub HasSectionFault : List ℕ → SectionFault → Type 0
HasSectionFault text fault =
    (split_of text Check ≡ Err fault)
    ⊎ ((parts : Parts) × (split_of text Check ≡ Ok parts)
    × (fault ≡ record { line = suc (length (lines text)); kind = Missing }))

-- a front and its mark, the time that the mark says, and what is said of them and of what stands
-- behind
pub record Divides (b : Ears) (said : ℕ) (bytes text : List ℕ) : Type 0 where
  pub front : List ℕ
  pub mark : List ℕ
  pub time : ℕ
  pub behind : List ℕ
  pub bytes_are : bytes ≡ front ++ (mark ++ behind)
  pub is_front : IsFront front
  pub is_mark : (whole : Bool) × IsMark mark time whole
  pub short : length (front ++ mark) ≤ input_limit
  pub says : SaysMission time front b said behind text

-- a text has no mark
pub record LacksMark (b : Ears) (said : ℕ) (bytes text : List ℕ) : Type 0 where
  pub none : HasNone bytes
  pub end : IsAtEnds b
  pub short : length bytes ≤ input_limit
  pub fault : SectionFault
  pub has : HasSectionFault bytes fault
  pub said_is : said ≡ 3
  pub text_is : text ≡ fault_text (faults.Section fault)

-- no mark ended among the first 16 MiB
pub record ComesTooLong (b : Ears) (said : ℕ) (bytes text : List ℕ) : Type 0 where
  pub is : IsTooLong bytes b.waiting input_limit
  pub said_is : said ≡ 7
  pub text_is : text ≡ long_text

-- what is said of all that was read
abbrev pub SaysAll : Ears → ℕ → List ℕ → List ℕ → Type 0
SaysAll b said bytes text =
    Divides b said bytes text ⊎ LacksMark b said bytes text ⊎ ComesTooLong b said bytes text
    ⊎ ((said ≡ 4) × (text ≡ [])) ⊎ IsSilent said text

-- what is said of all that was read; and at a word the usage, where nothing is read
abbrev pub Says : List (String Global) → Ears → ℕ → List ℕ → List ℕ → Type 0
Says words b said bytes text =
    ((words ≢ []) × (bytes ≡ []) × (((said ≡ 2) × (text ≡ usage_text)) ⊎ IsSilent said text))
    ⊎ ((words ≡ []) × SaysAll b said bytes text)
