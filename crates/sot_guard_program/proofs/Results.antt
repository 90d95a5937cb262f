-- What belongs to single answers.
use Rattle.std.proofs.Common.{◌≡◌, ℕ, ◌≤◌, Bool, false, List, [], ◌++◌, Ok, Err, inl, inr, length, refl, append_assoc, arith}
use Rattle.std.specs.Prelude.{◌≢◌, Result, IfOk, String}
use Rattle.std.proofs.Common.{Global}
use Rattle.std.proofs.KnownBytes.{Appends-nil}
use Rattle.std.specs.declared.alloc.AllocError.{AllocError}
use Rattle.sot_sections.specs.declared.mission.Need.TheVariants.{Check}
use Rattle.sot_sections.specs.declared.mission.SectionFault.{SectionFault}
use Rattle.sot_lang.specs.Tables.{Tables}
use Rattle.sot_lang.specs.declared.cert.Cert.{Cert}
use Rattle.sot_tube.specs.Verdict.{verdict}
use Rattle.sot_tube.specs.Refusals.{Refusal}
use Rattle.sot_report.specs.declared.fault.Fault.{Fault}
use Rattle.sot_report.specs.declared.fault.Fault.TheVariants as faults
use Rattle.sot_trace.specs.Words.{AreWords}
use Rattle.sot_law_trace_unique.proofs.Named.{names}
use Rattle.sot_report.specs.Missions.{Mission, SpellsMission, HasFault}
use Rattle.sot_report.specs.FaultTexts.{fault_text}
use Rattle.sot_report.specs.RefusalTexts.{refusal_text}
use Rattle.sot_cli.specs.Texts.{input_limit, long_text}
use Rattle.sot_cli.specs.declared.answer.Answer.{Answer}
use Rattle.sot_guard.specs.Beginning.{IsStartUnsafe}
use Rattle.sot_guard_protocol.specs.Openings.{Starting}
use Rattle.sot_ports.specs.Faults.{Rose}
use Rattle.sot_ports.specs.Outside.{Outside}
use Rattle.sot_guard_input.specs.Fronts.{HasNone, IsFront, IsMark, IsTooLong}
use Rattle.sot_guard_input.specs.Reading.{Reads}
use Rattle.sot_guard_program.specs.Lines.{usage_text}
use Rattle.sot_guard_program.specs.Ends.{EndsSome, ears_at, mouth_at}
use Rattle.sot_guard_program.specs.Moments.{Ears, Mouth, Passes, Ended}
use Rattle.sot_guard_program.specs.Says.{IsAtEnds, HasSectionFault, SaysMission, SaysAll, Says}
use Rattle.sot_guard_program.specs.Tellings.{IsStartLine}
use Rattle.sot_guard_program.specs.Beginning.{SaysFrom, SaysOpened, SaysJudged, SaysUnmarked}
use Rattle.sot_guard_program.proofs.Passing.{passes_nil, utters_nil, ended_behind, ended_quiet, ended_so}

-- there is no memory to say anything
pub silent : (P : Ears → ℕ → List ℕ → List ℕ → Type 0) (e : Ears) (x : Mouth) → P e 6 [] [] → Ended P e e x x 6
silent P e x says = ended_quiet P e e x x [] 6 (passes_nil e) says (refl, refl)

one_other : (n : ℕ) → n ≡ 1 → n ≢ 4
one_other n is = λ four. absurd (omega (arith, is, four))

three_other : (n : ℕ) → n ≡ 3 → n ≢ 4
three_other n is = λ four. absurd (omega (arith, is, four))

-- a mission is refused
pub refused_result : (time : ℕ) (r : Result Answer AllocError) (p : Tables) (cert : Cert) (f : Ears) (v : Refusal) → (verdict p cert.jitter cert).Refuses v
    → IfOk r (λ a. a.status ≡ 1) → IfOk r (λ a. a.text.items ≡ refusal_text p v)
    → IfOk r (λ a. (a.status ≢ 4) × SaysJudged time p cert f a.status [] a.text.items)
refused_result time (Ok a) p cert f v refuses status text = (one_other a.status status, inr (inl (status, (v, refuses, text))))
refused_result time (Err e) p cert f v refuses status text = tt

-- a front has a fault
pub faulty_result : (time : ℕ) (r : Result Answer AllocError) (front : List ℕ) (f : Ears) (fault : Fault) → HasFault Check 0 front fault
    → IfOk r (λ a. a.status ≡ 3) → IfOk r (λ a. a.text.items ≡ fault_text fault)
    → IfOk r (λ a. (a.status ≢ 4) × SaysMission time front f a.status [] a.text.items)
faulty_result time (Ok a) front f fault has status text = (three_other a.status status, inr (inr (inl (status, (fault, has, text)))))
faulty_result time (Err e) front f fault has status text = tt

-- a plant is not held safe
pub unheld_result : (time : ℕ) (r : Result Answer AllocError) (b : Starting) (ended : Bool) (f : Ears) (m : ℕ)
    → IsStartUnsafe b.accepted.program b.accepted.cert.jitter time b.starts m → IfOk r (λ a. a.status ≡ 1)
    → IfOk r (λ a. IsStartLine b.accepted.program b.starts m a.text.items)
    → IfOk r (λ a. (a.status ≢ 4) × SaysFrom ended (SaysOpened time b) f a.status [] a.text.items)
unheld_result time (Ok a) b ended f m unsafe status line =
    let first = unsafe.2.unheld in
    (one_other a.status status, (inr (inl (status, refl, (m, unsafe, line first.module_info first.is))), λ _. refl))
unheld_result time (Err e) b ended f m unsafe status line = tt

-- a text has no mark
pub unmarked_result : (r : Result Answer AllocError) (bytes : List ℕ) (f : Ears) → HasNone bytes → IsAtEnds f → length bytes ≤ input_limit
    → IfOk r (λ a. a.status ≡ 3) → IfOk r (λ a. SaysUnmarked bytes a.text.items)
    → IfOk r (λ a. (a.status ≢ 4) × SaysAll f a.status bytes a.text.items)
unmarked_result (Ok a) bytes f none end short status (fault, has, text) = (
  three_other a.status status,
  inr (inl (record {
    none = none;
    end = end;
    short = short;
    fault = fault;
    has = has;
    said_is = status;
    text_is = text;
  })),
)
unmarked_result (Err e) bytes f none end short status text = tt

-- .. or is too long
pub long_result : (r : Result Answer AllocError) (bytes : List ℕ) (f : Ears) → IsTooLong bytes f.waiting input_limit
    → IfOk r (λ a. a.status ≡ 7) → IfOk r (λ a. a.text.items ≡ long_text)
    → IfOk r (λ a. (a.status ≢ 4) × SaysAll f a.status bytes a.text.items)
long_result (Ok a) bytes f long status text =
    ((λ four. absurd (omega (arith, status, four))), inr (inr (inl (record { is = long; said_is = status; text_is = text }))))
long_result (Err e) bytes f long status text = tt

-- behind a front and its mark
pub divided : (time : ℕ) (front mark : List ℕ) (e m f : Ears) (x y : Mouth) (status : ℕ) → IsFront front → IsMark mark time m.ended
    → length (front ++ mark) ≤ input_limit → Passes e m (front ++ mark) → Ended (SaysMission time front) m f x y status → Ended SaysAll e f x y status
divided time front mark e m f x y status is_front is_mark short passes r =
    ended_behind (SaysMission time front) SaysAll e m f x x y (front ++ mark) [] status passes (utters_nil x)
    (λ said bytes text says. inl (record {
      front = front;
      mark = mark;
      time = time;
      behind = bytes;
      bytes_are = append_assoc front mark bytes;
      is_front = is_front;
      is_mark = (m.ended, is_mark);
      short = short;
      says = says;
    })) r

-- the source has failed
pub failed : (e f : Ears) (x : Mouth) (passed : List ℕ) → Reads e.left f.left e.waiting f.waiting passed → Rose e.faults f.faults → Ended SaysAll e f x x 4
failed e f x passed reads rose = record {
  passed = passed;
  said = 4;
  text = [];
  reads = reads;
  says = inr (inr (inr (inl (refl, refl))));
  written = inl (refl, refl, Appends-nil x.held);
  read_well = λ other. absurd (other refl);
  read_fault = λ _. rose;
}

-- a word is asked for nothing
pub usage_result : (r : Result Answer AllocError) (words : List (String Global)) (f : Ears) → words ≢ [] → IfOk r (λ a. a.status ≡ 2)
    → IfOk r (λ a. a.text.items ≡ usage_text) → IfOk r (λ a. (a.status ≢ 4) × Says words f a.status [] a.text.items)
usage_result (Ok a) words f some status text = ((λ four. absurd (omega (arith, status, four))), inl (some, refl, inl (status, text)))
usage_result (Err e) words f some status text = tt

-- without a word
pub no_word : (words : List (String Global)) (before after : Outside) (status : ℕ) → words ≡ [] → EndsSome SaysAll before after status
    → EndsSome (Says words) before after status
no_word words before after status none r = record {
  waiting = r.waiting;
  ended = r.ended;
  is =
      ended_so SaysAll (Says words) (ears_at before [] false) (ears_at after r.waiting r.ended) (mouth_at before) (mouth_at after) status
      (λ said bytes text says. inr (none, says)) r.is;
}

-- the names of a mission's tables are words
pub mission_words : (front : List ℕ) (m : Mission) → SpellsMission Check 0 front m → AreWords m.tables
mission_words front m x = names x.parts.program 0 m.program m.tables x.spelled x.resolved

-- the line of a text without a mark
pub unmarked_text : (r : Result Answer AllocError) (bytes : List ℕ) (fault : SectionFault) → HasSectionFault bytes fault
    → IfOk r (λ a. a.text.items ≡ fault_text (faults.Section fault)) → IfOk r (λ a. SaysUnmarked bytes a.text.items)
unmarked_text (Ok a) bytes fault has text = (fault, has, text)
unmarked_text (Err e) bytes fault has text = tt
