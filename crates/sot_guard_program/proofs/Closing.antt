-- How a talk ends, from what was heard last and what was told then.
use Rattle.std.proofs.Common.{◌≡◌, ℕ, suc, ◌+◌, Bool, true, false, List, [], ◌++◌, inl, inr, length, refl, sym, ap, ◌∙◌, subst, append-nil, arith}
use Rattle.std.specs.Prelude.{◌≢◌, ◌⊎◌, ◌-◌, ◌^◌, if◌then◌else◌}
use Rattle.sot_ports.specs.Faults.{Rose}
use Rattle.sot_trace.specs.Traces.{text_of}
use Rattle.sot_trace_lines.specs.LentLines.{lent_lines}
use Rattle.sot_guard.specs.declared.misheard.Misheard.{Misheard}
use Rattle.sot_guard_protocol.specs.Talks.{Talking, IsOver}
use Rattle.sot_guard_input.specs.Reading.{IsSettled, ends_line}
use Rattle.sot_guard_input.proofs.Pieces.{reads_trans}
use Rattle.sot_guard_program.specs.declared.halt.Stop.{Stop}
use Rattle.sot_guard_program.specs.declared.halt.Stop.TheVariants as stops
use Rattle.sot_guard_program.specs.declared.halt.Halt.{Halt}
use Rattle.sot_guard_program.specs.Lines.{at_line}
use Rattle.sot_guard_protocol.specs.Answers.{misheard_word}
use Rattle.sot_guard_program.specs.Conversations.{Answers}
use Rattle.sot_guard_program.specs.Moments.{Ears, Mouth, Passes, Utters, Ended}
use Rattle.sot_guard_program.specs.Says.{IsAtEnds, IsAtFault, NoFault, SaysTalk, end_status}
use Rattle.sot_guard_program.specs.Hearing.{HearsAll, HaltsAll, StopsNext}
use Rattle.sot_guard_program.specs.Tellings.{Tells, TellsStop, TellsEnd, IsQuiet, last_text}
use Rattle.sot_guard_program.specs.Beginning.{SaysFrom}
use Rattle.sot_guard_program.proofs.Passing.{passes_nil, passes_trans, utters_nil, utters_same, written_behind, ended_well, ended_told}
use Rattle.sot_guard_program.proofs.Answering.{lent_more, answers_more}

one_of_two : (b : Bool) → ◌≢◌ {A = ℕ} (if b then 0 else 1) 4
one_of_two true = λ e. absurd (omega arith)
one_of_two false = λ e. absurd (omega arith)

-- nothing more is told behind a text
pub quiet_behind : (said : ℕ) (x z y : Mouth) (text : List ℕ) (status : ℕ) → Utters x z text → IsQuiet said z y status → Tells said text x y status
quiet_behind said x z y text status utters quiet =
    subst (λ m. Tells said text x m status) (sym quiet.1) (inl (quiet.0, utters.well, utters.taken))

-- when a talk is over, in the words of the last status
over_so : (u : Talking) (f : Ears) (before n : ℕ) → (IsOver u ⊎ IsAtEnds f ⊎ (before + 1 + n ≡ 2 ^ 64 - 1))
    → IsOver u ⊎ IsAtEnds f ⊎ (suc (before + n) ≡ 2 ^ 64 - 1)
over_so u f before n (inl over) = inl over
over_so u f before n (inr (inl ends)) = inr (inl ends)
over_so u f before n (inr (inr count)) = inr (inr (omega (arith, count)))

module _ (t : Talking) (before : ℕ) (e f : Ears) (x y : Mouth) (status : ℕ) where
  -- the lines were heard, and the last line is told
  pub closed : (u : Talking) (z : Mouth) → (h : HearsAll t u (before + 1) e f x z) → (e.ended ≡ true → h.passed ≡ []) → TellsEnd u z y status
      → Ended (SaysFrom e.ended (SaysTalk t before)) e f x y status
  closed u z h none told =
      ended_told (SaysFrom e.ended (SaysTalk t before)) e f x y h.passed (h.text ++ last_text u) (end_status u) status h.passes
      (one_of_two u.hearing.guarding.trusted) (
        inl (record {
          last = u;
          answers = h.text;
          answered = h.answers;
          over = over_so u f before (length (lent_lines h.passed)) h.over;
          said_is = refl;
          text_is = refl;
        }),
        none,
      )
      (written_behind x z y h.text (last_text u) (end_status u) status h.utters told)

  -- the source had ended before, and the last line is told
  pub closed_at_once : f ≡ e → e.ended ≡ true → IsSettled e.left e.waiting e.ended → TellsEnd t x y status
      → Ended (SaysFrom e.ended (SaysTalk t before)) e f x y status
  closed_at_once same ended settled tells =
      let none = settled ended in
      closed t x (record {
        passed = [];
        text = [];
        passes = subst (λ m. Passes e m []) (sym same) (passes_nil e);
        utters = utters_nil x;
        answers = (refl, refl);
        over = inr (inl (subst IsAtEnds (sym same) (ended, none.0, none.1)));
      }) (λ _. refl) tells

  module _ (open_ : e.ended ≡ false) (middle : Ears) (z z' : Mouth) (last : Talking) (passed text : List ℕ) (line_number : ℕ)
      (passes : Passes e middle passed) (utters : Utters x z text) (answers : Answers t (lent_lines passed) last text)
      (whole : ends_line passed ≡ true) (line_is : line_number ≡ before + 1 + length (lent_lines passed)) where
    abbrev Goal : Type 0
    Goal = Ended (SaysFrom e.ended (SaysTalk t before)) e f x y status

    never : {A : Type 0} → e.ended ≡ true → A
    never ended = (let no : false ≡ true = sym open_ ∙ ended in absurd cc)

    number : line_number ≡ suc (before + length (lent_lines passed))
    number = omega (arith, line_is)

    -- a line at fault
    at_fault : (why : Misheard) (more : List ℕ) → Passes middle f more
        → IsAtFault NoFault (lent_lines (passed ++ more)) (lent_lines passed) f why → Utters z z' []
        → Tells 3 (at_line line_number (misheard_word why)) z' y status → Goal
    at_fault why more passes_more fault nothing told =
        ended_told (SaysFrom e.ended (SaysTalk t before)) e f x y (passed ++ more) (text ++ at_line line_number (misheard_word why)) 3 status
        (passes_trans e middle f passed more passes passes_more) (λ four. absurd (omega arith)) (
          inr (inl (record {
            heard = lent_lines passed;
            last = last;
            answers = text;
            why = why;
            answered = answers;
            fault = fault;
            said_is = refl;
            text_is = ap (λ n. text ++ at_line n (misheard_word why)) number;
          })),
          never,
        )
        (written_behind x z' y text (at_line line_number (misheard_word why)) 3 status (utters_same x z z' text utters nothing) told)

    halted_by : (stop : Stop) → StopsNext last middle f z z' stop → TellsStop stop line_number z' y status → Goal
    halted_by (stops.Misheard why) (inl (more, line, passes_more, one, faults), nothing) tells =
        at_fault why more passes_more (inl (line, lent_more passed more line whole one, faults)) nothing tells
    halted_by (stops.Misheard why) (inr (passes_none, not_a_line, long), nothing) tells =
        at_fault why [] passes_none (inr (ap lent_lines (append-nil passed), not_a_line, long)) nothing tells
    halted_by stops.Missing never_comes tells = absurd never_comes
    halted_by stops.Source ((reads, rose), same) tells = record {
      passed = passed ++ [];
      said = 4;
      text = text;
      reads = reads_trans e.left middle.left f.left e.waiting middle.waiting f.waiting passed [] passes.reads reads;
      says = (
        inr (inr (record {
          last = last;
          answered = subst (λ l. Answers t (lent_lines l) last text) (sym (append-nil passed)) answers;
          said_is = refl;
        })),
        never,
      );
      written = quiet_behind 4 x z y text status utters (subst (λ m. IsQuiet 4 m y status) same tells);
      read_well = λ other. absurd (other tells.0);
      read_fault = λ _. subst (λ n. Rose n f.faults) passes.well rose;
    }
    halted_by stops.Sink (more, line, u, passes_more, one, (h, cuts)) tells =
        let lines = lent_more passed more line whole one in
        let answer = text_of h.answer in
        let cut : Tells 4 answer z z' 5 = inr (refl, cuts.0, cuts.1) in
        let all : Tells 4 (text ++ answer) x z' 5 = written_behind x z z' text answer 4 5 utters cut in
        ended_well (SaysFrom e.ended (SaysTalk t before)) e f x y (passed ++ more) (text ++ answer) 4 status
        (passes_trans e middle f passed more passes passes_more) (λ four. absurd (omega (arith, tells.0, four))) (
          inr (inr (record {
            last = u;
            answered = subst (λ ls. Answers t ls u (text ++ answer)) (sym lines) (answers_more t last u (lent_lines passed) line text answers h);
            said_is = refl;
          })),
          never,
        )
        (subst (λ m. Tells 4 (text ++ answer) x m status) (sym tells.1) (subst (Tells 4 (text ++ answer) x z') (sym tells.0) all))

  -- a line was not heard, or not answered, and that is told
  pub halted : (open_ : e.ended ≡ false) (z' : Mouth) (halt : Halt) → (h : HaltsAll t (before + 1) e f x z' halt) → TellsStop halt.stop halt.line z' y status
      → Ended (SaysFrom e.ended (SaysTalk t before)) e f x y status
  halted open_ z' halt h tells =
      halted_by open_ h.middle h.mouth z' h.last h.passed h.text halt.line h.passes h.utters h.answers h.whole h.line halt.stop h.stops tells
