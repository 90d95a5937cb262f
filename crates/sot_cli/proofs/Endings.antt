-- How a call ends that says one of five things, each at a status of its own, or nothing.
use Rattle.std.proofs.Common.{◌≡◌, ◌∙◌, ℕ, ◌<◌, ◌≤◌, List, [], Option, Result, Ok, Err, inl, inr, sym, subst, arith, length, take}
use Rattle.std.specs.Prelude.{◌⊎◌, ◌≢◌, IfOk, IsErr, MatchResult}
use Rattle.std.specs.declared.alloc.AllocError.{AllocError}
use Rattle.std.specs.Io.KnownBytes.{Appends, Keeps}
use Rattle.std.proofs.KnownBytes.{Consumes-nil}
use Rattle.sot_ports.specs.Faults.{Rose}
use Rattle.sot_ports.specs.Outside.{Outside, Written, Writes, WritesPart}
use Rattle.sot_ports.specs.Whole.{ReadsAll, ReadsUpTo}
use Rattle.sot_cli.specs.Texts.{input_limit}
use Rattle.sot_cli.specs.Steps.{InputAnswer, SilentWhere}
use Rattle.sot_cli.specs.declared.answer.Answer.{Answer}
use Rattle.sot_cli.specs.declared.status.Status.{Status}

-- a source that was not read has given no byte
pub reads_nothing : (left : Option (List ℕ)) (most : ℕ) → ReadsUpTo left left most
reads_nothing left most = ([], omega arith, Consumes-nil left)

-- what is said of all bytes that were read
pub input_result : (Replies : List ℕ → ℕ → List ℕ → Type 0) (r : Result Answer Status) (a : Result Answer AllocError) (left left_after : Option (List ℕ))
    (seen bytes : List ℕ) → MatchResult r (λ x. a ≡ Ok x) (λ s. (s.0 ≡ 6) × IsErr a) → seen ≡ bytes → length seen ≤ input_limit
    → ReadsAll left left_after bytes → IfOk a (λ x. Replies seen x.status x.text.items)
    → IfOk r (λ x. InputAnswer Replies left left_after x.status x.text.items)
input_result Replies (Ok x) a left left_after seen bytes is same short all said =
    let replies = subst (λ (y : Result Answer AllocError). IfOk y (λ z. Replies seen z.status z.text.items)) is said in
    inl (
      bytes,
      all,
      subst (λ (b : List ℕ). length b ≤ input_limit) same short,
      subst (λ (b : List ℕ). Replies b x.status x.text.items) same replies,
    )
input_result Replies (Err s) a left left_after seen bytes is same short all said = tt

-- the texts that a call may say at status 0, 1, 2, 3 and 7
pub record Texts : Type 1 where
  pub accepted : List ℕ → Type 0
  pub refused : List ℕ → Type 0
  pub usage : List ℕ → Type 0
  pub rejected : List ℕ → Type 0
  pub too_long : List ℕ → Type 0

-- the text belongs to its status
abbrev pub Says : Texts → ℕ → List ℕ → Type 0
Says t status text =
    ((status ≡ 0) × t.accepted text) ⊎ ((status ≡ 1) × t.refused text) ⊎ ((status ≡ 2) × t.usage text) ⊎ ((status ≡ 3) × t.rejected text)
    ⊎ ((status ≡ 7) × t.too_long text)

-- the text belongs to one of them
abbrev pub IsSaid : Texts → List ℕ → Type 0
IsSaid t text = t.accepted text ⊎ t.refused text ⊎ t.usage text ⊎ t.rejected text ⊎ t.too_long text

-- the end of a call, status by status, but for the status that its words and bytes decide
pub record EndsSaying (t : Texts) (Reads : Type 0) (before after : Outside) (status : ℕ) : Type 0 where
  pub known : status ≤ 7
  pub accepted : status ≡ 0 → Writes before after t.accepted
  pub refused : status ≡ 1 → Writes before after t.refused
  pub usage : status ≡ 2 → Writes before after t.usage
  pub rejected : status ≡ 3 → Writes before after t.rejected
  pub read_fault : status ≡ 4 → Reads × Rose before.read_faults after.read_faults
  pub write_fault : status ≡ 5 → Rose before.write_faults after.write_faults × WritesPart before after (IsSaid t)
  pub too_long : status ≡ 7 → Writes before after t.too_long
  pub read_well : status ≢ 4 → after.read_faults ≡ before.read_faults
  pub wrote_well : status ≢ 5 → after.write_faults ≡ before.write_faults
  pub unwritten : (status ≡ 4) ⊎ (status ≡ 6) → Keeps before.held after.held

module _ (t : Texts) (text : List ℕ) where
  is_said : (status : ℕ) → Says t status text → IsSaid t text
  is_said status (inl s) = inl s.1
  is_said status (inr (inl s)) = inr (inl s.1)
  is_said status (inr (inr (inl s))) = inr (inr (inl s.1))
  is_said status (inr (inr (inr (inl s)))) = inr (inr (inr (inl s.1)))
  is_said status (inr (inr (inr (inr s)))) = inr (inr (inr (inr s.1)))

  -- what is said has none of the other statuses
  is_known : (status : ℕ) → Says t status text → (status ≢ 4) × (status ≢ 5) × (status ≢ 6) × (status ≤ 7)
  is_known status (inl (is, a)) = (omega arith, omega arith, omega arith, omega arith)
  is_known status (inr (inl (is, a))) = (omega arith, omega arith, omega arith, omega arith)
  is_known status (inr (inr (inl (is, a)))) = (omega arith, omega arith, omega arith, omega arith)
  is_known status (inr (inr (inr (inl (is, a))))) = (omega arith, omega arith, omega arith, omega arith)
  is_known status (inr (inr (inr (inr (is, a))))) = (omega arith, omega arith, omega arith, omega arith)

  at_0 : (status : ℕ) → Says t status text → status ≡ 0 → t.accepted text
  at_0 status (inl (is, a)) e = a
  at_0 status (inr (inl (is, a))) e = absurd (omega arith)
  at_0 status (inr (inr (inl (is, a)))) e = absurd (omega arith)
  at_0 status (inr (inr (inr (inl (is, a))))) e = absurd (omega arith)
  at_0 status (inr (inr (inr (inr (is, a))))) e = absurd (omega arith)

  at_1 : (status : ℕ) → Says t status text → status ≡ 1 → t.refused text
  at_1 status (inl (is, a)) e = absurd (omega arith)
  at_1 status (inr (inl (is, a))) e = a
  at_1 status (inr (inr (inl (is, a)))) e = absurd (omega arith)
  at_1 status (inr (inr (inr (inl (is, a))))) e = absurd (omega arith)
  at_1 status (inr (inr (inr (inr (is, a))))) e = absurd (omega arith)

  at_2 : (status : ℕ) → Says t status text → status ≡ 2 → t.usage text
  at_2 status (inl (is, a)) e = absurd (omega arith)
  at_2 status (inr (inl (is, a))) e = absurd (omega arith)
  at_2 status (inr (inr (inl (is, a)))) e = a
  at_2 status (inr (inr (inr (inl (is, a))))) e = absurd (omega arith)
  at_2 status (inr (inr (inr (inr (is, a))))) e = absurd (omega arith)

  at_3 : (status : ℕ) → Says t status text → status ≡ 3 → t.rejected text
  at_3 status (inl (is, a)) e = absurd (omega arith)
  at_3 status (inr (inl (is, a))) e = absurd (omega arith)
  at_3 status (inr (inr (inl (is, a)))) e = absurd (omega arith)
  at_3 status (inr (inr (inr (inl (is, a))))) e = a
  at_3 status (inr (inr (inr (inr (is, a))))) e = absurd (omega arith)

  at_7 : (status : ℕ) → Says t status text → status ≡ 7 → t.too_long text
  at_7 status (inl (is, a)) e = absurd (omega arith)
  at_7 status (inr (inl (is, a))) e = absurd (omega arith)
  at_7 status (inr (inr (inl (is, a)))) e = absurd (omega arith)
  at_7 status (inr (inr (inr (inl (is, a))))) e = absurd (omega arith)
  at_7 status (inr (inr (inr (inr (is, a))))) e = a

module _ (t : Texts) (Reads : Type 0) (before after : Outside) (text : List ℕ) where
  -- all of the text was written
  ends_whole : (status : ℕ) → Says t status text → after.read_faults ≡ before.read_faults → after.write_faults ≡ before.write_faults
      → Appends before.held after.held text → EndsSaying t Reads before after status
  ends_whole status said read wrote appended =
      let known : (status ≢ 4) × (status ≢ 5) × (status ≢ 6) × (status ≤ 7) = is_known t text status said in record {
        known = known.3;
        accepted = λ e. (text, at_0 t text status said e, appended);
        refused = λ e. (text, at_1 t text status said e, appended);
        usage = λ e. (text, at_2 t text status said e, appended);
        rejected = λ e. (text, at_3 t text status said e, appended);
        read_fault = λ e. absurd (known.0 e);
        write_fault = λ e. absurd (known.1 e);
        too_long = λ e. (text, at_7 t text status said e, appended);
        read_well = λ _. read;
        wrote_well = λ _. wrote;
        unwritten = elim [ inl four ↦ absurd (known.0 four) | inr six ↦ absurd (known.2 six) ];
      }

  -- the sink failed before its end
  ends_part : (said status : ℕ) → Says t said text → after.read_faults ≡ before.read_faults → status ≡ 5
      → Rose before.write_faults after.write_faults → ((n : ℕ) × (n < length text) × Appends before.held after.held (take n text))
      → EndsSaying t Reads before after status
  ends_part said status answer read is rose part = record {
    known = omega (arith, is);
    accepted = λ e. absurd (omega (arith, is, e));
    refused = λ e. absurd (omega (arith, is, e));
    usage = λ e. absurd (omega (arith, is, e));
    rejected = λ e. absurd (omega (arith, is, e));
    read_fault = λ e. absurd (omega (arith, is, e));
    write_fault = λ e. (rose, (text, is_said t text said answer, part));
    too_long = λ e. absurd (omega (arith, is, e));
    read_well = λ _. read;
    wrote_well = λ other. absurd (other is);
    unwritten = elim [ inl four ↦ absurd (omega (arith, is, four)) | inr six ↦ absurd (omega (arith, is, six)) ];
  }

  -- what was answered was written, or its front
  pub ends_saying : (said status : ℕ) → Says t said text → after.read_faults ≡ before.read_faults
      → Written before.held after.held before.write_faults after.write_faults said text status → EndsSaying t Reads before after status
  ends_saying said status answer read (inl (is, wrote, appended)) =
      ends_whole status (subst (λ (s : ℕ). Says t s text) (sym is) answer) read wrote appended
  ends_saying said status answer read (inr (is, rose, part)) = ends_part said status answer read is rose part

-- what is said has a status of its own, so that no silence stands for it
pub never_silent : (t : Texts) (held after : Option (List ℕ)) (faults faults_after : ℕ) (text : List ℕ) (said status : ℕ) → Says t said text
    → Written held after faults faults_after said text status → (status ≡ 4) ⊎ (status ≡ 6) → ⊥
never_silent t held after faults faults_after text said status answer (inl (is, wrote, appended)) (inl four) =
    (is_known t text said answer).0 (sym is ∙ four)
never_silent t held after faults faults_after text said status answer (inl (is, wrote, appended)) (inr six) =
    (is_known t text said answer).2 (sym is ∙ six)
never_silent t held after faults faults_after text said status answer (inr (is, rose, part)) (inl four) = absurd (omega (arith, is, four))
never_silent t held after faults faults_after text said status answer (inr (is, rose, part)) (inr six) = absurd (omega (arith, is, six))

-- where no write failed it ends with the status of what is said
pub calm_status : (held after : Option (List ℕ)) (faults faults_after said : ℕ) (text : List ℕ) (status : ℕ)
    → Written held after faults faults_after said text status → ¬ (Rose faults faults_after) → status ≡ said
calm_status held after faults faults_after said text status (inl (is, wrote, appended)) calm = is
calm_status held after faults faults_after said text status (inr (is, rose, part)) calm = absurd (calm rose)

-- nothing was said
pub ends_unsaid : (t : Texts) (Reads : Type 0) (before after : Outside) (status : ℕ)
    → SilentWhere Reads before.read_faults after.read_faults status → after.write_faults ≡ before.write_faults → Keeps before.held after.held
    → EndsSaying t Reads before after status
ends_unsaid t Reads before after status silent wrote keeps = record {
  known = of_silent (λ six. omega (arith, six)) (λ four. omega (arith, four));
  accepted = λ e. absurd (of_silent (λ six. omega (arith, six, e)) (λ four. omega (arith, four, e)));
  refused = λ e. absurd (of_silent (λ six. omega (arith, six, e)) (λ four. omega (arith, four, e)));
  usage = λ e. absurd (of_silent (λ six. omega (arith, six, e)) (λ four. omega (arith, four, e)));
  rejected = λ e. absurd (of_silent (λ six. omega (arith, six, e)) (λ four. omega (arith, four, e)));
  read_fault = elim silent [ inl (six, same) ↦ λ e. absurd (omega (arith, six, e)) | inr (four, reads, rose) ↦ λ e. (reads, rose) ];
  write_fault = λ e. absurd (of_silent (λ six. omega (arith, six, e)) (λ four. omega (arith, four, e)));
  too_long = λ e. absurd (of_silent (λ six. omega (arith, six, e)) (λ four. omega (arith, four, e)));
  read_well = elim silent [ inl (six, same) ↦ λ other. same | inr (four, reads, rose) ↦ λ other. absurd (other four) ];
  wrote_well = λ other. wrote;
  unwritten = λ e. keeps;
}
  where
    of_silent : {A : Type 0} → (status ≡ 6 → A) → (status ≡ 4 → A) → A
    of_silent six four = elim silent [ inl (is, same) ↦ six is | inr (is, reads, rose) ↦ four is ]

-- which takes a fault of the source or want of memory
pub never_unsaid : (Reads : Type 0) (faults faults_after status : ℕ) → SilentWhere Reads faults faults_after status → ¬ (Rose faults faults_after)
    → status ≢ 6 → ⊥
never_unsaid Reads faults faults_after status (inl (six, same)) calm enough = enough six
never_unsaid Reads faults faults_after status (inr (four, reads, rose)) calm enough = calm rose
