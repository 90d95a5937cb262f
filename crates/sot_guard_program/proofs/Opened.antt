-- What is said where plants are observed first, and behind that.
use Rattle.std.proofs.Common.{◌≡◌, ℕ, suc, true, List, [], ◌++◌, inl, inr, length, refl, sym, ap, ap₂, ◌∙◌, subst, append-nil, ℤ, arith}
use Rattle.std.specs.Prelude.{◌⊎◌}
use Rattle.sot_ports.specs.Faults.{Rose}
use Rattle.sot_tube.specs.Admitted.{Admitted}
use Rattle.sot_trace_lines.specs.LentLines.{lent_lines}
use Rattle.sot_guard.specs.declared.misheard.Misheard.{Misheard}
use Rattle.sot_guard_protocol.specs.Openings.{Starting, HasAll, IsNoStart}
use Rattle.sot_guard_input.specs.Reading.{ends_line}
use Rattle.sot_guard_input.proofs.Pieces.{reads_trans}
use Rattle.sot_guard_program.specs.declared.halt.Stop.{Stop}
use Rattle.sot_guard_program.specs.declared.halt.Stop.TheVariants as stops
use Rattle.sot_guard_program.specs.declared.halt.Halt.{Halt}
use Rattle.sot_guard_program.specs.Lines.{missing_word, at_line}
use Rattle.sot_guard_protocol.specs.Answers.{misheard_word}
use Rattle.sot_guard_program.specs.Conversations.{unopened, Starts}
use Rattle.sot_guard_program.specs.Moments.{Ears, Mouth, Passes, Ended}
use Rattle.sot_guard_program.specs.Says.{IsAtFault, IsUnheldLine, SaysBegun, SaysRobot}
use Rattle.sot_guard_program.specs.Hearing.{HearsFirsts, HaltsFirsts, StopsFirst}
use Rattle.sot_guard_program.specs.Tellings.{Tells, TellsStop}
use Rattle.sot_guard_program.specs.Beginning.{SaysIn, SaysFrom, SaysOpened}
use Rattle.sot_guard_program.proofs.Passing.{passes_trans, utters_nil, ended_behind, ended_told}
use Rattle.sot_guard_program.proofs.Closing.{quiet_behind}
use Rattle.sot_guard_program.proofs.Answering.{lent_behind, lent_more, starts_count, starts_same}

-- no plant was observed yet
pub unopened_so : (a : Starting) (acc : Admitted) → a.accepted ≡ acc → a.starts ≡ [] → a ≡ unopened acc
unopened_so a acc same none =
    let make : Admitted → List (List ℤ) → Starting = λ x s. record { accepted = x; starts = s } in
    ap₂ make same none

module _ (time : ℕ) (acc : Admitted) (e f : Ears) (x y : Mouth) (status : ℕ) where
  abbrev Goal : Type 0
  Goal = Ended (SaysIn (SaysRobot time acc)) e f x y status

  module _ (middle : Ears) (last : Starting) (passed : List ℕ) (line_number : ℕ) (passes : Passes e middle passed)
      (starts : Starts (unopened acc) (lent_lines passed) last) (line_is : line_number ≡ suc (length (lent_lines passed))) where
    -- a line at fault
    at_fault : (why : Misheard) (more : List ℕ) → Passes middle f more
        → IsAtFault (IsNoStart last) (lent_lines (passed ++ more)) (lent_lines passed) f why
        → Tells 3 (at_line line_number (misheard_word why)) x y status → Goal
    at_fault why more passes_more fault told =
        ended_told (SaysIn (SaysRobot time acc)) e f x y (passed ++ more) (at_line line_number (misheard_word why)) 3 status
        (passes_trans e middle f passed more passes passes_more) (λ four. absurd (omega arith))
        (inr (inr (inl (record {
          heard = lent_lines passed;
          opening = last;
          started = starts;
          fault = inl (why, fault, ap (λ n. at_line n (misheard_word why)) line_is);
          said_is = refl;
        }))))
        told

    nothing_more : lent_lines (passed ++ []) ≡ lent_lines passed
    nothing_more = ap lent_lines (append-nil passed)

    stopped_by : (stop : Stop) → (stop ≡ stops.Missing) ⊎ (ends_line passed ≡ true) → StopsFirst last middle f stop → TellsStop stop line_number x y status
        → Goal
    stopped_by (stops.Misheard why) (inl other) stop tells = absurd cc
    stopped_by (stops.Misheard why) (inr whole) (inl (more, line, passes_more, one, faults)) told =
        at_fault why more passes_more (inl (line, lent_more passed more line whole one, faults)) told
    stopped_by (stops.Misheard why) (inr whole) (inr (passes_none, not_a_line, long)) told =
        at_fault why [] passes_none (inr (nothing_more, not_a_line, long)) told
    stopped_by stops.Missing whole (passes_none, ends) told =
        ended_told (SaysIn (SaysRobot time acc)) e f x y (passed ++ []) (at_line line_number missing_word) 3 status
        (passes_trans e middle f passed [] passes passes_none) (λ four. absurd (omega arith))
        (inr (inr (inl (record {
          heard = lent_lines passed;
          opening = last;
          started = starts;
          fault = inr (nothing_more, ends, ap (λ n. at_line n missing_word) line_is);
          said_is = refl;
        }))))
        told
    stopped_by stops.Source whole (reads, rose) tells = record {
      passed = passed ++ [];
      said = 4;
      text = [];
      reads = reads_trans e.left middle.left f.left e.waiting middle.waiting f.waiting passed [] passes.reads reads;
      says = inr (inr (inr (inl (record {
        opening = last;
        started = subst (λ ls. Starts (unopened acc) ls last) (sym nothing_more) starts;
        said_is = refl;
        text_is = refl;
      }))));
      written = quiet_behind 4 x x y [] status (utters_nil x) tells;
      read_well = λ other. absurd (other tells.0);
      read_fault = λ _. subst (λ n. Rose n f.faults) passes.well rose;
    }
    stopped_by stops.Sink whole never_comes tells = absurd never_comes

  -- a line does not say where the next plant is observed, and that is told
  pub stopped_first : (halt : Halt) → HaltsFirsts (unopened acc) e f halt → TellsStop halt.stop halt.line x y status
      → Ended (SaysIn (SaysRobot time acc)) e f x y status
  stopped_first halt h tells = stopped_by h.middle h.last h.passed halt.line h.passes h.starts h.line halt.stop h.whole h.stops tells

  module _ (b : Starting) (m : Ears) (h : HearsFirsts (unopened acc) b e m) (all : HasAll b) where
    joined : (bytes : List ℕ) → (m.ended ≡ true → bytes ≡ []) → lent_lines (h.passed ++ bytes) ≡ lent_lines h.passed ++ lent_lines bytes
    joined bytes none =
        elim h.whole [
          | inl ended ↦ (let empty = none ended in
              ap (λ l. lent_lines (h.passed ++ l)) empty
              ∙ ap lent_lines (append-nil h.passed)
              ∙ sym (append-nil (lent_lines h.passed))
              ∙ ap (λ l. lent_lines h.passed ++ lent_lines l) (sym empty))
          | inr whole ↦ lent_behind h.passed bytes whole
        ]

    same : b.accepted ≡ acc
    same = starts_same (unopened acc) b (lent_lines h.passed) h.starts

    alone : (bytes : List ℕ) → (m.ended ≡ true → bytes ≡ []) → lent_lines bytes ≡ [] → lent_lines (h.passed ++ bytes) ≡ lent_lines h.passed
    alone bytes none empty = joined bytes none ∙ ap (λ l. lent_lines h.passed ++ l) empty ∙ append-nil (lent_lines h.passed)

    says_robot : (said : ℕ) (bytes text : List ℕ) → SaysFrom m.ended (SaysOpened time b) f said bytes text → SaysIn (SaysRobot time acc) f said (h.passed ++ bytes) text
    says_robot said bytes text (inl (t, begins, stays, talk), none) =
        let count : length b.starts ≡ length (lent_lines h.passed) = omega (arith, starts_count (unopened acc) b (lent_lines h.passed) h.starts) in
        inl (record {
          starts = lent_lines h.passed;
          more = lent_lines bytes;
          opening = b;
          first = t;
          spoken_are = joined bytes none;
          started = h.starts;
          begins = begins;
          safe = stays;
          says = subst (λ n. SaysBegun t n f said (lent_lines bytes) text) count talk;
        })
    says_robot said bytes text (inr (inl (is, empty, unheld)), none) =
        inr (inl (record {
          opening = b;
          started = subst (λ ls. Starts (unopened acc) ls b) (sym (alone bytes none empty)) h.starts;
          all = all;
          unheld = subst (λ (a : Admitted). IsUnheldLine time a b.starts text) same unheld;
          said_is = is;
        }))
    says_robot said bytes text (inr (inr (empty, (is, nothing))), none) =
        let started = subst (λ ls. Starts (unopened acc) ls b) (sym (alone bytes none empty)) h.starts in
        inr (inr (inr (inr (inr (b, started, all), (is, nothing)))))

    -- what is said behind the starts of all plants
    pub opened : Ended (SaysFrom m.ended (SaysOpened time b)) m f x y status → Ended (SaysIn (SaysRobot time acc)) e f x y status
    opened r =
        ended_behind (SaysFrom m.ended (SaysOpened time b)) (SaysIn (SaysRobot time acc)) e m f x x y h.passed [] status h.passes (utters_nil x) says_robot r
