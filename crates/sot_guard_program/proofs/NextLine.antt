-- What becomes of the next line.
use Rattle.std.proofs.Common.{◌≡◌, ℕ, Bool, true, false, not, List, [], ◌++◌, Option, Result}
use Rattle.std.proofs.Common.{Ok, Err, inl, take, drop, refl, sym, ap, ◌∙◌, take-append-drop, arith}
use Rattle.std.proofs.Math.ListN.{drop_of_length-le}
use Rattle.sot_guard_protocol.specs.Openings.{Starting}
use Rattle.sot_guard_protocol.specs.Talks.{Talking}
use Rattle.sot_guard_input.specs.declared.ear.Ear.{Ear}
use Rattle.sot_guard_input.specs.Reading.{Reads, IsLine, ends_line}
use Rattle.sot_guard_program.specs.declared.halt.Stop.{Stop}
use Rattle.sot_guard_program.specs.declared.halt.Stop.TheVariants as stops
use Rattle.sot_guard_program.specs.Moments.{Ears, Mouth, Passes, ears}
use Rattle.sot_guard_program.specs.Says.{IsAtEnds}
use Rattle.sot_guard_program.specs.Hearing.{PassesFirst, PassesTaken}
use Rattle.sot_guard_program.specs.Hearing.{AnswersFirst, HearsOne, StopsNext, AnswersNext}

open_after : (b : Bool) → true ≡ not b → b ≡ false
open_after true is = absurd cc
open_after false is = refl

ended_after : (b : Bool) → false ≡ not b → b ≡ true
ended_after true is = refl
ended_after false is = absurd cc

module _ (left left_after : Option (List ℕ)) (faults faults_after : ℕ) (e m : Ear) (reads : Reads left left_after e.buffer m.buffer []) where
  abbrev before : Ears
  before = ears left faults e

  abbrev middle : Ears
  middle = ears left_after faults_after m

  -- there is one, of so many bytes, and it is passed
  module _ (f : Ear) (well : faults_after ≡ faults) (len : ℕ) (is_line : IsLine len left_after m) (waiting : f.buffer ≡ drop len m.buffer)
      (ended : f.ended ≡ m.ended) where
    abbrev after : Ears
    after = ears left_after faults_after f

    abbrev line_bytes : List ℕ
    line_bytes = take len m.buffer

    line_passed : Passes before after line_bytes
    line_passed = record {
      reads = record {
        bytes = reads.bytes;
        taken = reads.taken;
        kept = reads.kept ∙ sym (take-append-drop len m.buffer) ∙ ap (λ l. line_bytes ++ l) (sym waiting);
      };
      well = well;
    }

    at_end : f.ended ≡ true → IsAtEnds after
    at_end is =
        let last = is_line.last (sym ended ∙ is) in (
          is,
          waiting ∙ ap (λ n. drop n m.buffer) last.0 ∙ drop_of_length-le m.buffer (omega arith),
          last.1,
        )

    whole_line : f.ended ≡ false → ends_line line_bytes ≡ true
    whole_line open_ = is_line.whole (sym ended ∙ open_)

    -- it says where the next plant is observed, or not
    pub first_taken : (a b : Starting) (result : Result (Unit {0}) Stop) → PassesFirst a b len m f result → AnswersFirst a b before after result
    first_taken a b (Ok ok) p = record {
      passed = line_bytes;
      line = p.line;
      passes = line_passed;
      is = p.is;
      takes = p.takes;
      whole = whole_line;
      settled = λ is. (let end = at_end is in (end.1, end.2));
    }
    first_taken a b (Err (stops.Misheard why)) p = inl (line_bytes, p.line, line_passed, p.is, p.takes.1)
    first_taken a b (Err stops.Missing) p = absurd p.takes
    first_taken a b (Err stops.Source) p = absurd p.takes
    first_taken a b (Err stops.Sink) p = absurd p.takes

    module _ (t u : Talking) (x y : Mouth) where
      abbrev one_heard : PassesTaken t u len m f x y (Ok tt) → HearsOne t u before after x y
      one_heard p = record {
        passed = line_bytes;
        line = p.line;
        passes = line_passed;
        is = p.is;
        hears = p.answers.0;
        utters = p.answers.1;
      }

      -- it is heard and answered; there may be more only where the source was not seen to end
      pub next_heard : PassesTaken t u len m f x y (Ok tt) → (more : Bool) → more ≡ not f.ended → AnswersNext t u before after x y (Ok more)
      next_heard p true is = (
          let open_ : f.ended ≡ false = open_after f.ended is in
          record { one = one_heard p; whole = whole_line open_; open_ = open_ })
      next_heard p false is = (at_end (ended_after f.ended is), inl (one_heard p))

      -- it is not heard, or not answered
      pub next_stopped : (stop : Stop) → PassesTaken t u len m f x y (Err stop) → StopsNext t before after x y stop
      next_stopped (stops.Misheard why) p = absurd p.answers
      next_stopped stops.Missing p = absurd p.answers
      next_stopped stops.Source p = absurd p.answers
      next_stopped stops.Sink p = (line_bytes, p.line, u, line_passed, p.is, p.answers)
