-- The declarations of modules, one after another.
use Rattle.std.proofs.Common.{◌≡◌, ℕ, suc, ◌+◌, ◌-◌, ◌<◌, ◌≤◌, List, [], ◌++◌, sym, ap, ◌∙◌, append_assoc, arith}
use Rattle.std.proofs.lemmas.List.{append-nil}
use Rattle.sot_random_words.specs.Words.{word}
use Rattle.sot_maker.specs.Offsets.{offsets_of}
use Rattle.sot_maker.specs.Declarations.{mission_stream, declarations_text, declarations_from}

-- one module, and then the others
declarations_more : (seed i n : ℕ) → i < n
    → declarations_from seed i (n - i) ≡ declarations_text i (offsets_of (word seed mission_stream i)) ++ declarations_from seed (i + 1) (n - (i + 1))
unfolding declarations_from
declarations_more seed i n lt =
    let e : n - i ≡ suc (n - (i + 1)) = omega arith in
    let s : suc i ≡ i + 1 = omega arith in
    rw e (ap (λ k. declarations_text i (offsets_of (word seed mission_stream i)) ++ declarations_from seed k (n - (i + 1))) s)

-- what is written, and then what is left, stays the same
pub module_more : (seed i n w : ℕ) (before after whole : List ℕ) → i < n → w ≡ word seed mission_stream i → after ≡ before ++ declarations_text i (offsets_of w)
    → before ++ declarations_from seed i (n - i) ≡ whole → after ++ declarations_from seed (i + 1) (n - (i + 1)) ≡ whole
module_more seed i n w before after whole lt drawn more is =
    let rest = declarations_from seed (i + 1) (n - (i + 1)) in
    ap (λ z. z ++ rest) (more ∙ ap (λ v. before ++ declarations_text i (offsets_of v)) drawn)
    ∙ append_assoc before (declarations_text i (offsets_of (word seed mission_stream i))) rest
    ∙ ap (λ z. before ++ z) (sym (declarations_more seed i n lt)) ∙ is

-- all that is left is none
pub modules_all : (seed i n : ℕ) (after whole : List ℕ) → n ≤ i → after ++ declarations_from seed i (n - i) ≡ whole → after ≡ whole
unfolding declarations_from
modules_all seed i n after whole past is =
    let e : n - i ≡ 0 = omega arith in
    let none : after ++ [] ≡ whole = rw e at is in
    sym (append-nil after) ∙ none
