-- What is put, and the answer behind it.
use Rattle.std.proofs.Common.{◌≡◌, ℕ, List, [], ◌++◌, Result, Ok, Err, refl}
use Rattle.std.specs.Prelude.{IfOk}
use Rattle.std.specs.declared.alloc.AllocError.{AllocError}
use Rattle.sot_cli.specs.declared.answer.Answer.{Answer}
use Rattle.sot_commands.specs.Steps.{SaysInAll}

module _ {O : Type 0} (puts : O → O → List ℕ → Type 0) where
  -- what follows from what is said in all
  pub says_also : (before after : O) (r : Result Answer AllocError) (P Q : ℕ → List ℕ → Type 0)
      → ((status : ℕ) (said : List ℕ) → P status said → Q status said) → SaysInAll puts before after r P → SaysInAll puts before after r Q
  says_also before after (Ok a) P Q so (front, put, says) = (front, put, so a.status (front ++ a.text.items) says)
  says_also before after (Err e) P Q so same = same

  -- and where two things hold of it, from the first
  pub says_first : (before after : O) (r : Result Answer AllocError) (P Q D : ℕ → List ℕ → Type 0)
      → ((status : ℕ) (said : List ℕ) → P status said → Q status said) → SaysInAll puts before after r (λ status said. P status said × D status said)
      → SaysInAll puts before after r (λ status said. Q status said × D status said)
  says_first before after (Ok a) P Q D so (front, put, (says, did)) = (front, put, (so a.status (front ++ a.text.items) says, did))
  says_first before after (Err e) P Q D so same = same

  -- an answer before which nothing is put says all itself
  pub says_alone : (out : O) (r : Result Answer AllocError) (P Q : ℕ → List ℕ → Type 0) → puts out out [] → IfOk r (λ a. P a.status a.text.items)
      → IfOk r (λ a. Q a.status a.text.items) → SaysInAll puts out out r (λ status said. P status said × Q status said)
  says_alone out (Ok a) P Q nothing first second = ([], nothing, (first, second))
  says_alone out (Err e) P Q nothing first second = refl
