-- How a call ends, from what was answered and what was written.
use Rattle.std.proofs.Common.{◌≡◌, ℕ, ◌≤◌, List, Option, Result, Ok, Err, inl, inr, sym, subst, arith, Global}
use Rattle.std.specs.Prelude.{◌⊎◌, ◌≢◌, String, IfOk, IfErr, IfSome, IsErr, MatchResult}
use Rattle.std.specs.declared.alloc.AllocError.{AllocError}
use Rattle.std.specs.Io.KnownBytes.{Keeps}
use Rattle.sot_ports.specs.Faults.{Rose}
use Rattle.sot_ports.specs.Outside.{Outside, Written}
use Rattle.sot_regions_program.specs.Words.{Asks, AsksNone}
use Rattle.sot_regions_program.specs.Lines.{usage_text}
use Rattle.sot_cli.specs.declared.answer.Answer.{Answer}
use Rattle.sot_cli.specs.declared.status.Status.{Status}
use Rattle.sot_cli.proofs.Endings.{Texts, Says, EndsSaying, ends_saying, never_silent, calm_status, ends_unsaid, never_unsaid}
use Rattle.sot_regions_program.specs.Answers.{Answers, AnswersTyped, Rejects}
use Rattle.sot_regions_program.specs.Ends.{Ends, AsksSome, Done, IsUsage, IsTooLong, Decides, AskSearch}
use Rattle.sot_regions_program.specs.Steps.{AskAnswer, WordAnswer, Silence}
use Rattle.sot_regions_program.proofs.Unique.{only, low}

-- what is said at words that ask for a jitter
pub word_result : (r : Result Answer Status) (words : List (String Global)) (jitter : ℕ) (left left_after : Option (List ℕ))
    → Asks words jitter → IfOk r (λ x. AskAnswer jitter left left_after x.status x.text.items)
    → IfOk r (λ x. WordAnswer words left left_after x.status x.text.items)
word_result (Ok x) words jitter left left_after asks said = inl (jitter, asks, said)
word_result (Err s) words jitter left left_after asks said = tt

silence : (status : ℕ) (words : List (String Global)) (jitter faults faults_after : ℕ) → Asks words jitter
    → ((status ≡ 6) × (faults_after ≡ faults)) ⊎ ((status ≡ 4) × Rose faults faults_after) → Silence words faults faults_after status
silence status words jitter faults faults_after asks (inl six) = inl six
silence status words jitter faults faults_after asks (inr (four, rose)) = inr (four, (jitter, asks), rose)

pub silence_result : (r : Result Answer Status) (words : List (String Global)) (jitter faults faults_after : ℕ) → Asks words jitter
    → IfErr r (λ s. ((s.0 ≡ 6) × (faults_after ≡ faults)) ⊎ ((s.0 ≡ 4) × Rose faults faults_after))
    → IfErr r (λ s. Silence words faults faults_after s.0)
silence_result (Ok x) words jitter faults faults_after asks silent = tt
silence_result (Err s) words jitter faults faults_after asks silent = silence s.0 words jitter faults faults_after asks silent

-- status 0 or 1, with what belongs to it
typed_says : (status jitter : ℕ) (bytes text : List ℕ) → AnswersTyped status jitter bytes text
    → ((status ≡ 0) × AnswersTyped 0 jitter bytes text) ⊎ ((status ≡ 1) × AnswersTyped 1 jitter bytes text)
typed_says status jitter bytes text (p, t, typed, answers) = by answers
  where
    one : status ≡ 1 → ((status ≡ 0) × AnswersTyped 0 jitter bytes text) ⊎ ((status ≡ 1) × AnswersTyped 1 jitter bytes text)
    one is = inr (is, (p, t, typed, subst (λ (s : ℕ). Answers p t jitter s text) is answers))

    by : Answers p t jitter status text → ((status ≡ 0) × AnswersTyped 0 jitter bytes text) ⊎ ((status ≡ 1) × AnswersTyped 1 jitter bytes text)
    by (inl x) = one x.0
    by (inr (inl x)) = one x.0
    by (inr (inr (inl x))) = one x.0
    by (inr (inr (inr (inl x)))) = one x.0
    by (inr (inr (inr (inr (inl x))))) = one x.0
    by (inr (inr (inr (inr (inr x))))) = inl (x.0, (p, t, typed, subst (λ (s : ℕ). Answers p t jitter s text) x.0 answers))

-- what is said at each status
abbrev texts : List (String Global) → Outside → Outside → Texts
texts words before after = record {
  accepted = Done (AnswersTyped 0) words before after;
  refused = Done (AnswersTyped 1) words before after;
  usage = IsUsage words;
  rejected = Done Rejects words before after;
  too_long = IsTooLong words before after;
}

module _ (words : List (String Global)) (before after : Outside) where
  -- with the status that words and bytes decide, it is the end of a call
  ends : (status : ℕ) → EndsSaying (texts words before after) (AsksSome words) before after status
      → ((¬ (Rose before.read_faults after.read_faults)) → (¬ (Rose before.write_faults after.write_faults)) → status ≢ 6
      → IfSome before.left (λ bytes. (s : ℕ) → Decides words bytes s → status ≡ s))
      → ((¬ (Rose before.read_faults after.read_faults)) → (¬ (Rose before.write_faults after.write_faults)) → status ≢ 6
      → IfSome before.left (λ bytes. AskSearch words bytes → status ≤ 1))
      → Ends words before after status
  ends status e decided searched = record {
    known = e.known;
    found = e.accepted;
    refused = e.refused;
    usage = e.usage;
    rejected = e.rejected;
    read_fault = e.read_fault;
    write_fault = e.write_fault;
    too_long = e.too_long;
    read_well = e.read_well;
    wrote_well = e.wrote_well;
    unwritten = e.unwritten;
    decided = decided;
    searched = searched;
  }

  -- nothing was said
  pub ends_silent : (status : ℕ) → Silence words before.read_faults after.read_faults status → after.write_faults ≡ before.write_faults
      → Keeps before.held after.held → Ends words before after status
  ends_silent status silent wrote keeps =
      let never : ¬ (Rose before.read_faults after.read_faults) → status ≢ 6 → ⊥ =
      never_unsaid (AsksSome words) before.read_faults after.read_faults status silent in
      ends status (ends_unsaid (texts words before after) (AsksSome words) before after status silent wrote keeps)
      (λ calm _ enough. absurd (never calm enough)) (λ calm _ enough. absurd (never calm enough))

module _ (words : List (String Global)) (before after : Outside) (text : List ℕ) where
  -- the text belongs to its status
  says : (status : ℕ) → WordAnswer words before.left after.left status text → Says (texts words before after) status text
  says status (inl (jitter, asks, inl (bytes, all, short, inl a))) = by (typed_says status jitter bytes text a)
    where
      by : ((status ≡ 0) × AnswersTyped 0 jitter bytes text) ⊎ ((status ≡ 1) × AnswersTyped 1 jitter bytes text)
          → Says (texts words before after) status text
      by (inl (is, b)) = inl (is, (jitter, asks, (bytes, all, short, b)))
      by (inr (is, b)) = inr (inl (is, (jitter, asks, (bytes, all, short, b))))
  says status (inl (jitter, asks, inl (bytes, all, short, inr (is, a)))) = inr (inr (inr (inl (is, (jitter, asks, (bytes, all, short, a))))))
  says status (inl (jitter, asks, inr (is, count, text_is))) = inr (inr (inr (inr (is, ((jitter, asks), count, text_is)))))
  says status (inr (other, is, text_is)) = inr (inr (inl (is, (other, text_is))))

  -- what was answered was written, or its front
  pub ends_said : (said status : ℕ) → WordAnswer words before.left after.left said text → after.read_faults ≡ before.read_faults
      → Written before.held after.held before.write_faults after.write_faults said text status → Ends words before after status
  ends_said said status answer read written =
      let again : ¬ (Rose before.write_faults after.write_faults) → WordAnswer words before.left after.left status text = λ calm.
      subst (λ (s : ℕ). WordAnswer words before.left after.left s text)
      (sym (calm_status before.held after.held before.write_faults after.write_faults said text status written calm)) answer in
      ends words before after status
      (ends_saying (texts words before after) (AsksSome words) before after text said status (says said answer) read written)
      (λ _ calm _. only words before.left after.left status text (again calm))
      (λ _ calm _. low words before.left after.left status text (again calm))

  -- what is said has a status of its own, so that no silence stands for it
  pub is_said : (said status : ℕ) → WordAnswer words before.left after.left said text
      → Written before.held after.held before.write_faults after.write_faults said text status → (status ≡ 4) ⊎ (status ≡ 6) → ⊥
  is_said said status answer written =
      never_silent (texts words before after) before.held after.held before.write_faults after.write_faults text said status (says said answer) written

-- a jitter that words ask for is at most 999
pub asks_low : (words : List (String Global)) (jitter : ℕ) → Asks words jitter → jitter ≤ 999
asks_low words jitter (inl (none, is)) = omega (arith, is)
asks_low words jitter (inr (one, low)) = low

-- what is said at other words
pub usage_result : (r : Result Answer Status) (a : Result Answer AllocError) (words : List (String Global)) (left left_after : Option (List ℕ))
    → MatchResult r (λ x. a ≡ Ok x) (λ s. (s.0 ≡ 6) × IsErr a) → AsksNone words → IfOk a (λ x. x.status ≡ 2) → IfOk a (λ x. x.text.items ≡ usage_text)
    → IfOk r (λ x. WordAnswer words left left_after x.status x.text.items)
usage_result (Ok x) a words left left_after is none status text =
    inr (
      none,
      subst (λ (y : Result Answer AllocError). IfOk y (λ z. z.status ≡ 2)) is status,
      subst (λ (y : Result Answer AllocError). IfOk y (λ z. z.text.items ≡ usage_text)) is text,
    )
usage_result (Err s) a words left left_after is none status text = tt
