-- How a call ends, from what was answered and what was written.
use Rattle.std.proofs.Common.{◌≡◌, ℕ, ◌≤◌, List, Option, None, Some, Result, Ok, Err, inl, inr, sym, ap, subst, arith, length, Global}
use Rattle.std.specs.Prelude.{◌⊎◌, ◌≢◌, String, IfOk, IfErr, IfSome}
use Rattle.std.specs.Io.KnownBytes.{Keeps}
use Rattle.std.proofs.lemmas.List.{length-append}
use Rattle.sot_ports.specs.Faults.{Rose}
use Rattle.sot_ports.specs.Outside.{Outside, Written}
use Rattle.sot_cli.specs.Texts.{input_limit}
use Rattle.sot_bridge.specs.Words.{Asks}
use Rattle.sot_cli.specs.declared.answer.Answer.{Answer}
use Rattle.sot_cli.specs.declared.status.Status.{Status}
use Rattle.sot_cli.proofs.Endings.{Texts, Says, EndsSaying, ends_saying, never_silent, calm_status, ends_unsaid, never_unsaid}
use Rattle.sot_bridge.specs.Answers.{Accepts, Refutes, Rejects, Replies}
use Rattle.sot_bridge.specs.Ends.{Ends, AskSome, Done, IsUsage, IsTooLong, Decides}
use Rattle.sot_bridge.specs.Steps.{AskAnswer, WordAnswer, Silence}
use Rattle.sot_bridge.proofs.Unique.{only}

-- what is said at words that ask for a bridge
pub word_result : (r : Result Answer Status) (words : List (String Global)) (from to : List ℕ) (delay : ℕ) (left left_after : Option (List ℕ))
    → Asks words from to delay → IfOk r (λ x. AskAnswer from to delay left left_after x.status x.text.items)
    → IfOk r (λ x. WordAnswer words left left_after x.status x.text.items)
word_result (Ok x) words from to delay left left_after asks said = inl (from, to, delay, asks, said)
word_result (Err s) words from to delay left left_after asks said = tt

silence : (status : ℕ) (words : List (String Global)) (from to : List ℕ) (delay faults faults_after : ℕ) → Asks words from to delay
    → ((status ≡ 6) × (faults_after ≡ faults)) ⊎ ((status ≡ 4) × Rose faults faults_after) → Silence words faults faults_after status
silence status words from to delay faults faults_after asks (inl six) = inl six
silence status words from to delay faults faults_after asks (inr (four, rose)) = inr (four, (from, to, delay, asks), rose)

pub silence_result : (r : Result Answer Status) (words : List (String Global)) (from to : List ℕ) (delay faults faults_after : ℕ) → Asks words from to delay
    → IfErr r (λ s. ((s.0 ≡ 6) × (faults_after ≡ faults)) ⊎ ((s.0 ≡ 4) × Rose faults faults_after))
    → IfErr r (λ s. Silence words faults faults_after s.0)
silence_result (Ok x) words from to delay faults faults_after asks silent = tt
silence_result (Err s) words from to delay faults faults_after asks silent = silence s.0 words from to delay faults faults_after asks silent

-- what is answered at the words decides the status
decides : (words : List (String Global)) (left after : Option (List ℕ)) (status : ℕ) (text : List ℕ) → WordAnswer words left after status text
    → IfSome left (λ bytes. Decides words bytes status)
decides words None after status text answer = tt
decides words (Some xs) after status text (inr (other, is, text_is)) = inl (is, other)
decides words (Some xs) after status text (inl (from, to, delay, asks, inl (bytes, all, short, replies))) =
    let is = sym all.0 in
    inr (inr (
      from,
      to,
      delay,
      asks,
      subst (λ (b : List ℕ). length b ≤ input_limit) is short,
      (text, subst (λ (b : List ℕ). Replies from to delay b status text) is replies),
    ))
decides words (Some xs) None status text (inl (from, to, delay, asks, inr (is, (bytes, len, taken), text_is))) = absurd taken
decides words (Some xs) (Some ys) status text (inl (from, to, delay, asks, inr (is, (bytes, len, taken), text_is))) =
    let whole = ap length taken in
    inr (inl (is, (from, to, delay, asks), omega (arith, whole, length-append bytes ys)))

-- what is said at each status
abbrev texts : List (String Global) → Outside → Outside → Texts
texts words before after = record {
  accepted = Done Accepts words before after;
  refused = Done Refutes words before after;
  usage = IsUsage words;
  rejected = Done Rejects words before after;
  too_long = IsTooLong words before after;
}

module _ (words : List (String Global)) (before after : Outside) where
  -- with the status that words and bytes decide, it is the end of a call
  ends : (status : ℕ) → EndsSaying (texts words before after) (AskSome words) before after status
      → ((¬ (Rose before.read_faults after.read_faults)) → (¬ (Rose before.write_faults after.write_faults)) → status ≢ 6
      → IfSome before.left (λ bytes. (s : ℕ) → Decides words bytes s → status ≡ s))
      → Ends words before after status
  ends status e decided = record {
    known = e.known;
    accepted = e.accepted;
    refused = e.refused;
    usage = e.usage;
    rejected = e.rejected;
    read_fault = e.read_fault;
    write_fault = e.write_fault;
    too_long = e.too_long;
    read_well = e.read_well;
    wrote_well = e.wrote_well;
    unwritten = e.unwritten;
    decided = decided;
  }

  -- nothing was said
  pub ends_silent : (status : ℕ) → Silence words before.read_faults after.read_faults status → after.write_faults ≡ before.write_faults
      → Keeps before.held after.held → Ends words before after status
  ends_silent status silent wrote keeps =
      ends status (ends_unsaid (texts words before after) (AskSome words) before after status silent wrote keeps)
      (λ calm _ enough. absurd (never_unsaid (AskSome words) before.read_faults after.read_faults status silent calm enough))

module _ (words : List (String Global)) (before after : Outside) (text : List ℕ) where
  -- the text belongs to its status
  says : (status : ℕ) → WordAnswer words before.left after.left status text → Says (texts words before after) status text
  says status (inl (from, to, delay, asks, inl (bytes, all, short, inl (is, a)))) = inl (is, (from, to, delay, asks, (bytes, all, short, a)))
  says status (inl (from, to, delay, asks, inl (bytes, all, short, inr (inl (is, a))))) = inr (inl (is, (from, to, delay, asks, (bytes, all, short, a))))
  says status (inl (from, to, delay, asks, inl (bytes, all, short, inr (inr (is, a))))) =
      inr (inr (inr (inl (is, (from, to, delay, asks, (bytes, all, short, a))))))
  says status (inl (from, to, delay, asks, inr (is, count, text_is))) = inr (inr (inr (inr (is, ((from, to, delay, asks), count, text_is)))))
  says status (inr (other, is, text_is)) = inr (inr (inl (is, (other, text_is))))

  -- what was answered was written, or its front
  pub ends_said : (said status : ℕ) → WordAnswer words before.left after.left said text → after.read_faults ≡ before.read_faults
      → Written before.held after.held before.write_faults after.write_faults said text status → Ends words before after status
  ends_said said status answer read written =
      ends words before after status
      (ends_saying (texts words before after) (AskSome words) before after text said status (says said answer) read written)
      (λ _ calm _. (let is : status ≡ said = calm_status before.held after.held before.write_faults after.write_faults said text status written calm in
      only words before.left status (decides words before.left after.left status text
      (subst (λ (s : ℕ). WordAnswer words before.left after.left s text) (sym is) answer))))

  -- what is said has a status of its own, so that no silence stands for it
  pub is_said : (said status : ℕ) → WordAnswer words before.left after.left said text
      → Written before.held after.held before.write_faults after.write_faults said text status → (status ≡ 4) ⊎ (status ≡ 6) → ⊥
  is_said said status answer written =
      never_silent (texts words before after) before.held after.held before.write_faults after.write_faults text said status (says said answer) written
