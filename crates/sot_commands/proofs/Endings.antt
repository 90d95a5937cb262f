-- How a call ends, from what was answered and what was written.
use Rattle.std.proofs.Common.{◌≡◌, ℕ, ◌≤◌, List, Option, None, Some, inl, inr, sym, ap, subst, arith, length, Global}
use Rattle.std.specs.Prelude.{◌⊎◌, ◌≢◌, String, IfSome}
use Rattle.std.proofs.lemmas.List.{length-append}
use Rattle.std.specs.Io.KnownBytes.{Keeps}
use Rattle.sot_ports.specs.Faults.{Rose}
use Rattle.sot_cli.specs.Texts.{input_limit}
use Rattle.sot_cli.proofs.Endings.{Texts, Says, EndsSaying, ends_saying, calm_status, ends_unsaid, never_unsaid}
use Rattle.sot_commands.specs.declared.words.Command.{Command}
use Rattle.sot_commands.specs.declared.words.Command.TheVariants.{Check, Fly, Replay, Recover, Watch, Format, Certify, Make, Soak}
use Rattle.sot_commands.specs.Words.{AsksReader}
use Rattle.sot_commands.specs.Answers.{Accepts, Refutes, Rejects, Replies, given_to}
use Rattle.sot_commands.specs.Steps.{WordAnswer, Silence}
use Rattle.sot_ports.specs.Outside.{Outside, Written}
use Rattle.sot_commands.specs.Ends.{Ends, Takes, Done, IsUsage, IsTooLong, Decides, FliesWatched}
use Rattle.sot_commands.proofs.Unique.{decides_once}

-- what a command took of a source is what it works on
given : (c : Command) (xs : List ℕ) (after : Option (List ℕ)) (bytes : List ℕ) → Takes c (Some xs) after bytes → bytes ≡ given_to c xs
given Check xs after bytes all = sym all.0
given Fly xs after bytes all = sym all.0
given Replay xs after bytes all = sym all.0
given Recover xs after bytes all = sym all.0
given (Watch formula) xs after bytes all = sym all.0
given Format xs after bytes all = sym all.0
given Certify xs after bytes all = sym all.0
given (Make n seed) xs after bytes none = none.0
given (Soak n seed) xs after bytes none = none.0

-- what is answered at the words decides the status
decides : (guests : ℕ) (words : List (String Global)) (left after : Option (List ℕ)) (status : ℕ) (text : List ℕ)
    → WordAnswer guests words left after status text
    → IfSome left (λ bytes. Decides guests words bytes status)
decides guests words None after status text answer = tt
decides guests words (Some xs) after status text (inr (other, is, text_is)) = inl (is, other)
decides guests words (Some xs) after status text (inl (c, asks, inl (bytes, takes, short, replies))) =
    let is = given c xs after bytes takes in
    inr (inr (c, asks, subst (λ (b : List ℕ). length b ≤ input_limit) is short, (text, subst (λ (b : List ℕ). Replies guests c b status text) is replies)))
decides guests words (Some xs) None status text (inl (c, asks, inr (reads, is, (bytes, len, taken), text_is))) = absurd taken
decides guests words (Some xs) (Some ys) status text (inl (c, asks, inr (reads, is, (bytes, len, taken), text_is))) =
    let whole = ap length taken in
    inr (inl (is, (c, reads, asks), omega (arith, whole, length-append bytes ys)))

-- it is the one status that words and bytes decide, but for a watched flight
only : (guests : ℕ) (words : List (String Global)) (left : Option (List ℕ)) (status : ℕ) → IfSome left (λ bytes. Decides guests words bytes status)
    → IfSome left (λ bytes. (s : ℕ) → Decides guests words bytes s → (status ≡ s) ⊎ ((status ≤ 1) × (s ≤ 1) × FliesWatched guests words bytes))
only guests words None status one = tt
only guests words (Some bytes) status one = λ s other. decides_once guests words bytes status s one other

-- what is said at each status
abbrev texts : ℕ → List (String Global) → Outside → Outside → Texts
texts guests words before after = record {
  accepted = Done (Accepts guests) words before after;
  refused = Done (Refutes guests) words before after;
  usage = IsUsage words;
  rejected = Done (Rejects guests) words before after;
  too_long = IsTooLong words before after;
}

module _ (guests : ℕ) (words : List (String Global)) (before after : Outside) where
  -- with the status that words and bytes decide, it is the end of a call
  ends : (status : ℕ) → EndsSaying (texts guests words before after) (AsksReader words) before after status
      → ((¬ (Rose before.read_faults after.read_faults)) → (¬ (Rose before.write_faults after.write_faults)) → status ≢ 6
      → IfSome before.left (λ bytes. (s : ℕ) → Decides guests words bytes s → (status ≡ s) ⊎ ((status ≤ 1) × (s ≤ 1) × FliesWatched guests words bytes)))
      → Ends guests words before after status
  ends status e decided = record {
    known = e.known;
    accepted = e.accepted;
    refused = e.refused;
    usage = e.usage;
    rejected = e.rejected;
    read_fault = e.read_fault;
    write_fault = e.write_fault;
    too_long = e.too_long;
    read_well = e.read_well;
    wrote_well = e.wrote_well;
    unwritten = e.unwritten;
    decided = decided;
  }

  -- nothing was said
  pub ends_silent : (status : ℕ) → Silence words before.read_faults after.read_faults status → after.write_faults ≡ before.write_faults
      → Keeps before.held after.held → Ends guests words before after status
  ends_silent status silent wrote keeps =
      ends status (ends_unsaid (texts guests words before after) (AsksReader words) before after status silent wrote keeps)
      (λ calm _ enough. absurd (never_unsaid (AsksReader words) before.read_faults after.read_faults status silent calm enough))

module _ (guests : ℕ) (words : List (String Global)) (before after : Outside) (text : List ℕ) where
  -- the text belongs to its status
  says : (status : ℕ) → WordAnswer guests words before.left after.left status text → Says (texts guests words before after) status text
  says status (inl (c, asks, inl (bytes, all, short, inl (is, a)))) = inl (is, (c, asks, (bytes, all, short, a)))
  says status (inl (c, asks, inl (bytes, all, short, inr (inl (is, a))))) = inr (inl (is, (c, asks, (bytes, all, short, a))))
  says status (inl (c, asks, inl (bytes, all, short, inr (inr (is, a))))) = inr (inr (inr (inl (is, (c, asks, (bytes, all, short, a))))))
  says status (inl (c, asks, inr (reads, is, count, text_is))) = inr (inr (inr (inr (is, ((c, reads, asks), count, text_is)))))
  says status (inr (other, is, text_is)) = inr (inr (inl (is, (other, text_is))))

  -- what was answered was written, or its front
  pub ends_said : (said status : ℕ) → WordAnswer guests words before.left after.left said text → after.read_faults ≡ before.read_faults
      → Written before.held after.held before.write_faults after.write_faults said text status → Ends guests words before after status
  ends_said said status answer read written =
      ends guests words before after status
      (ends_saying (texts guests words before after) (AsksReader words) before after text said status (says said answer) read written)
      (λ _ calm _. (let is : status ≡ said = calm_status before.held after.held before.write_faults after.write_faults said text status written calm in
      only guests words before.left status (decides guests words before.left after.left status text
      (subst (λ (s : ℕ). WordAnswer guests words before.left after.left s text) (sym is) answer))))
