-- What was heard so far, line by line.
use Rattle.std.proofs.Common.{◌≡◌, ℕ, ◌+◌, Bool, true, false, List, [], ◌∷◌, ◌++◌}
use Rattle.std.proofs.Common.{Result, Ok, Err, inl, inr, length, refl, sym, ap, ◌∙◌, subst, append-nil, arith}
use Rattle.std.proofs.lemmas.List.{length-append}
use Rattle.std.proofs.lemmas.Bool.{cases_Bool}
use Rattle.sot_trace.specs.Traces.{text_of}
use Rattle.sot_trace_lines.specs.LentLines.{lent_lines}
use Rattle.sot_guard_protocol.specs.Openings.{Starting, HasAll}
use Rattle.sot_guard_protocol.specs.Talks.{Talking}
use Rattle.sot_guard_input.specs.Reading.{IsSettled, ends_line}
use Rattle.sot_guard_program.specs.declared.halt.Stop.{Stop}
use Rattle.sot_guard_program.specs.declared.halt.Stop.TheVariants.{Missing}
use Rattle.sot_guard_program.specs.Conversations.{Starts, Answers}
use Rattle.sot_guard_program.specs.Moments.{Ears, Mouth, Passes, Utters}
use Rattle.sot_guard_program.specs.Hearing.{HearsFirst, StopsFirst, HearsFirsts, HaltsFirsts, HearsOne, HearsNext, HearsLast, HearsAll}
use Rattle.sot_guard_program.proofs.Passing.{passes_nil, passes_trans, utters_trans}
use Rattle.sot_guard_program.proofs.Answering.{lent_more, ends_both, starts_more, starts_count, starts_same, answers_more}

-- a call that went well was made before the source was seen to end
pub still_open : (ended : Bool) (result : Result (Unit {0}) Stop) (ok : Unit {0}) → result ≡ Ok ok → (ended ≡ true → result ≡ Err Missing)
    → ended ≡ false
still_open true result ok is missing = (let never : Ok ok ≡ Err Missing = sym is ∙ missing refl in absurd cc)
still_open false result ok is missing = refl

-- why such a call went wrong after the source was seen to end
pub which_stop : (result : Result (Unit {0}) Stop) (stop : Stop) → result ≡ Err stop → result ≡ Err Missing → stop ≡ Missing
which_stop result stop is missing = cc

-- so many lines say where so many plants are observed first
abbrev pub FirstsSoFar : Starting → Starting → ℕ → Ears → Ears → Type 0
FirstsSoFar a b count e f = (h : HearsFirsts a b e f) × (count ≡ length (lent_lines h.passed))

pub firsts_none : (a : Starting) (e : Ears) → IsSettled e.left e.waiting e.ended → FirstsSoFar a a 0 e e
firsts_none a e settled = (
  record {
    passed = [];
    passes = passes_nil e;
    starts = refl;
    whole = inr refl;
    settled = settled;
  },
  refl,
)

module _ (a b : Starting) (count : ℕ) (e m : Ears) (so_far : FirstsSoFar a b count e m) where
  abbrev passed : List ℕ
  passed = so_far.0.passed

  still_whole : m.ended ≡ false → ends_line passed ≡ true
  still_whole open_ = elim so_far.0.whole [ inl ended ↦ (let never : false ≡ true = sym open_ ∙ ended in absurd cc) | inr whole ↦ whole ]

  -- one more line does
  module _ (c : Starting) (f : Ears) (open_ : m.ended ≡ false) (one : HearsFirst b c m f) where
    all_lines : lent_lines (passed ++ one.passed) ≡ lent_lines passed ++ one.line ∷ []
    all_lines = lent_more passed one.passed one.line (still_whole open_) one.is

    pub firsts_more : FirstsSoFar a c (count + 1) e f
    firsts_more = (
      record {
        passed = passed ++ one.passed;
        passes = passes_trans e m f passed one.passed so_far.0.passes one.passes;
        starts = subst (λ ls. Starts a ls c) (sym all_lines) (starts_more a b c (lent_lines passed) one.line so_far.0.starts one.takes);
        whole = elim (cases_Bool f.ended) [
          | inl ended ↦ inl ended
          | inr more ↦ inr (ends_both passed one.passed (still_whole open_) (one.whole more))
        ];
        settled = one.settled;
      },
      (let size = ap length all_lines in omega (arith, size, so_far.1, length-append (lent_lines passed) (one.line ∷ []))),
    )

  -- the next one does not
  pub firsts_halt : (f : Ears) (stop : Stop) → (m.ended ≡ true → stop ≡ Missing) → StopsFirst b m f stop
      → HaltsFirsts a e f (record { line = count + 1; stop = stop })
  firsts_halt f stop missing stopped = record {
    passed = passed;
    middle = m;
    last = b;
    passes = so_far.0.passes;
    starts = so_far.0.starts;
    whole = elim so_far.0.whole [ inl ended ↦ inl (missing ended) | inr whole ↦ inr whole ];
    stops = stopped;
    line = omega (arith, so_far.1);
  }

  -- each plant is observed
  pub firsts_all : a.starts ≡ [] → count ≡ length a.accepted.program.plants → HearsFirsts a b e m × HasAll b
  firsts_all none all = (
    so_far.0,
    (let points = starts_count a b (lent_lines passed) so_far.0.starts in
        let empty = ap length none in
        let same = ap (λ acc. length acc.program.plants) (starts_same a b (lent_lines passed) so_far.0.starts) in
        omega (arith, points, empty, same, all, so_far.1)),
  )

-- lines were heard and answered, the next has this number, and may come
pub record SoFar (t u : Talking) (first line : ℕ) (e f : Ears) (x y : Mouth) : Type 0 where
  pub passed : List ℕ
  pub text : List ℕ
  pub passes : Passes e f passed
  pub utters : Utters x y text
  pub answers : Answers t (lent_lines passed) u text
  pub whole : ends_line passed ≡ true
  pub open_ : f.ended ≡ false
  pub line_is : line ≡ first + length (lent_lines passed)

module _ (t u : Talking) (first line : ℕ) (e m : Ears) (x z : Mouth) (so_far : SoFar t u first line e m x z) where
  module _ (v : Talking) (f : Ears) (y : Mouth) (one : HearsOne u v m f z y) where
    more_lines : lent_lines (so_far.passed ++ one.passed) ≡ lent_lines so_far.passed ++ one.line ∷ []
    more_lines = lent_more so_far.passed one.passed one.line so_far.whole one.is

    abbrev more_text : List ℕ
    more_text = so_far.text ++ text_of one.hears.answer

    more_passes : Passes e f (so_far.passed ++ one.passed)
    more_passes = passes_trans e m f so_far.passed one.passed so_far.passes one.passes

    more_utters : Utters x y more_text
    more_utters = utters_trans x z y so_far.text (text_of one.hears.answer) so_far.utters one.utters

    more_answers : Answers t (lent_lines (so_far.passed ++ one.passed)) v more_text
    more_answers =
        subst (λ ls. Answers t ls v more_text) (sym more_lines)
        (answers_more t u v (lent_lines so_far.passed) one.line so_far.text so_far.answers one.hears)

  -- one more line is
  pub more_so_far : (v : Talking) (f : Ears) (y : Mouth) → HearsNext u v m f z y → SoFar t v first (line + 1) e f x y
  more_so_far v f y next = record {
    passed = so_far.passed ++ next.one.passed;
    text = more_text v f y next.one;
    passes = more_passes v f y next.one;
    utters = more_utters v f y next.one;
    answers = more_answers v f y next.one;
    whole = ends_both so_far.passed next.one.passed so_far.whole next.whole;
    open_ = next.open_;
    line_is = (let size = ap length (more_lines v f y next.one) in
        omega (arith, size, so_far.line_is, length-append (lent_lines so_far.passed) (next.one.line ∷ [])));
  }

  -- the last line is heard, or there is none
  pub last_so_far : (v : Talking) (f : Ears) (y : Mouth) → HearsLast u v m f z y → HearsAll t v first e f x y
  last_so_far v f y (end, inl one) = record {
    passed = so_far.passed ++ one.passed;
    text = more_text v f y one;
    passes = more_passes v f y one;
    utters = more_utters v f y one;
    answers = more_answers v f y one;
    over = inr (inl end);
  }
  last_so_far v f y (end, inr (same, passes, quiet)) = record {
    passed = so_far.passed ++ [];
    text = so_far.text;
    passes = passes_trans e m f so_far.passed [] so_far.passes passes;
    utters = subst (λ w. Utters x w so_far.text) (sym quiet) so_far.utters;
    answers = subst (λ w. Answers t (lent_lines (so_far.passed ++ [])) w so_far.text) (sym same)
        (subst (λ l. Answers t (lent_lines l) u so_far.text) (sym (append-nil so_far.passed)) so_far.answers);
    over = inr (inl end);
  }
