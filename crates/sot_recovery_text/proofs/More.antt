-- One line more, and what follows at the end.
use Rattle.std.proofs.Common.{◌≡◌, ℕ, zero, suc, ◌+◌, ◌⊎◌, inl, inr, ⊎_elim, List, []}
use Rattle.std.proofs.Common.{◌∷◌, ◌++◌, true, false, length, refl, sym, ap, ◌∙◌, subst, arith}
use Rattle.std.proofs.Common.{append_assoc, ap₂, Result, Ok, Err, codes}
use Rattle.std.specs.Prelude.{ℤ, Bool, MatchBool, OnOk, ◌==◌}
use Rattle.std.specs.declared.alloc.AllocError.{AllocError}
use Rattle.std.proofs.lemmas.Bool.{false≢true, eq-eqb, eqb-true}
use Rattle.std.proofs.lemmas.List.{append-nil, length-append}
use Rattle.std.proofs.lemmas.Option.{same_Some, none-some}
use Rattle.sot_lists.specs.Places.{At, Has}
use Rattle.sot_lang.specs.declared.cert.Cert.{Cert}
use Rattle.sot_lang.specs.Tables.{Tables}
use Rattle.sot_report.specs.RefusalTexts.{gap_line}
use Rattle.sot_law_runs.specs.Holds.{Guarded}
use Rattle.sot_law_runs.specs.Ranks.{HasNoRank}
use Rattle.sot_recover.specs.declared.fail.RecoverFail.{RecoverFail}
use Rattle.sot_recover.specs.declared.fail.RecoverFail.TheVariants.{Never as NeverFail, Memory}
use Rattle.sot_recover.specs.Answers.{IfNever}
use Rattle.sot_recovery_text.specs.Lines.{Outcome, Within, Never, recover_line, line_within, line_never, recover_lines, never_lines}
use Rattle.sot_recovery_text.specs.Recovery.{Recovers, HasOutcome, AllRecover, SomeNever}
use Rattle.sot_recovery_text.specs.Steps.{IsNever, TellsMore, TellsSoFar}

-- lines of one module more
within_more : (t : Tables) (jitter m : ℕ) (os : List Outcome) (o : Outcome)
    → recover_lines t jitter m (os ++ o ∷ []) ≡ recover_lines t jitter m os ++ line_within t jitter (m + length os) o
within_more t jitter m [] o =
    (let e : m + 0 ≡ m = omega arith in append-nil (line_within t jitter m o) ∙ ap (λ k. line_within t jitter k o) (sym e))
within_more t jitter m (x ∷ os) o =
    let e : m + 1 + length os ≡ m + suc (length os) = omega arith in
    ap (λ l. line_within t jitter m x ++ l) (within_more t jitter (m + 1) os o ∙ ap (λ k. recover_lines t jitter (m + 1) os ++ line_within t jitter k o) e)
    ∙ sym (append_assoc (line_within t jitter m x) (recover_lines t jitter (m + 1) os) (line_within t jitter (m + suc (length os)) o))

never_more : (t : Tables) (m : ℕ) (os : List Outcome) (o : Outcome)
    → never_lines t m (os ++ o ∷ []) ≡ never_lines t m os ++ line_never t (m + length os) o
never_more t m [] o =
    (let e : m + 0 ≡ m = omega arith in append-nil (line_never t m o) ∙ ap (λ k. line_never t k o) (sym e))
never_more t m (x ∷ os) o =
    let e : m + 1 + length os ≡ m + suc (length os) = omega arith in
    ap (λ l. line_never t m x ++ l) (never_more t (m + 1) os o ∙ ap (λ k. never_lines t (m + 1) os ++ line_never t k o) e)
    ∙ sym (append_assoc (line_never t m x) (never_lines t (m + 1) os) (line_never t (m + suc (length os)) o))

-- what is at a place of a list with one more
at_end : (os : List Outcome) (o : Outcome) (k : ℕ) (x : Outcome) → At (os ++ o ∷ []) k x → At os k x ⊎ ((k ≡ length os) × (x ≡ o))
at_end [] o zero x at = inr (refl, sym (same_Some o x at))
at_end [] o (suc k) x at = absurd (none-some x at)
at_end (y ∷ os) o zero x at = inl at
at_end (y ∷ os) o (suc k) x at = ⊎_elim (λ here. inl here) (λ last. inr (ap suc last.0, last.1)) (at_end os o k x at)

cons_none : (x : ℕ) (xs : List ℕ) → x ∷ xs ≡ [] → ⊥
cons_none x xs e = absurd (cc)

two_kinds : (o : Outcome) (n : ℕ) (point : List ℤ) → o ≡ Within n → o ≡ Never point → ⊥
two_kinds o n point e f = absurd (cc)

-- where some module never recovers there is a line that says so
some_line : (t : Tables) (m : ℕ) (os : List Outcome) (point : List ℤ) → Has os (Never point) → never_lines t m os ≡ [] → ⊥
some_line t m [] point (k, at) none = none-some (Never point) at
some_line t m (Never s ∷ os) point has none = cons_none _ _ none
some_line t m (Within n ∷ os) point (zero, at) none = two_kinds (Within n) n point refl (same_Some (Within n) (Never point) at)
some_line t m (Within n ∷ os) point (suc k, at) none = some_line t (m + 1) os point (k, at) none

-- and where there is none, no module is such
some_never : (t : Tables) (m : ℕ) (os : List Outcome) → (never_lines t m os ≡ [] → ⊥) → (point : List ℤ) × Has os (Never point)
some_never t m [] some = absurd (some refl)
some_never t m (Never s ∷ os) some = (s, (0, refl))
some_never t m (Within n ∷ os) some = (let x = some_never t (m + 1) os some in (x.0, (suc x.1.0, x.1.1)))

-- a test for an empty list
emptiness : (all : Bool) (xs : List ℕ) (n : ℕ) → all ≡ (n == 0) → n ≡ length xs → MatchBool all (xs ≡ []) (xs ≡ [] → ⊥)
emptiness true [] n test is = refl
emptiness false [] n test is = absurd (false≢true (test ∙ eq-eqb n 0 is))
emptiness true (x ∷ xs) n test is = (let e : n ≡ 0 = eqb-true n 0 (sym test) in absurd (omega (arith, e, is)))
emptiness false (x ∷ xs) n test is = cons_none x xs

module _ (t : Tables) (cert : Cert) where
  -- the line of a module that recovers was put, from tables and a jitter that are those of the program
  pub tells_within : (r : Result (Unit {0}) AllocError) (m n : ℕ) (never within within' : List ℕ) (q : Tables) (j : ℕ) → q ≡ t → j ≡ cert.jitter
      → Recovers t cert m n → OnOk r (within' ≡ within ++ recover_line q j m n) → OnOk r (TellsMore t cert m never within never within')
  tells_within (Ok u) m n never within within' q j q_is j_is has is = record {
    outcome = Within n;
    has = has;
    never_is = sym (append-nil never);
    within_is = is ∙ ap₂ (λ p i. within ++ recover_line p i m n) q_is j_is;
  }
  tells_within (Err e) m n never within within' q j q_is j_is has is = tt

  -- and that of one that never does
  pub tells_never : (r : Result (Unit {0}) AllocError) (m : ℕ) (fail : RecoverFail) (never within never' : List ℕ) (q : Tables) → q ≡ t
      → (g : Guarded t cert m) → IfNever fail (λ s. HasNoRank g s) → OnOk r (IsNever fail (λ s. never' ≡ never ++ gap_line (codes "recover") q m s))
      → OnOk r (TellsMore t cert m never within never' within)
  tells_never (Ok u) m (NeverFail s) never within never' q q_is g none is = record {
    outcome = Never s;
    has = record { parts = g; none = none };
    never_is = is ∙ ap (λ p. never ++ gap_line (codes "recover") p m s) q_is;
    within_is = sym (append-nil within);
  }
  tells_never (Ok u) m Memory never within never' q q_is g none is = absurd is
  tells_never (Err e) m fail never within never' q q_is g none is = tt

  -- nothing is said of no module
  pub so_far_none : (never within : List ℕ) → never ≡ [] → within ≡ [] → TellsSoFar t cert 0 never within
  so_far_none never within no_never no_within = record {
    outcomes = [];
    are = record { count = refl; each = λ k o at. absurd (none-some o at) };
    never_is = no_never;
    within_is = no_within;
  }

  pub so_far_more : (m : ℕ) (never within never' within' : List ℕ) → TellsSoFar t cert m never within → TellsMore t cert m never within never' within'
      → TellsSoFar t cert (m + 1) never' within'
  so_far_more m never within never' within' so more =
      let os = so.outcomes in
      let o = more.outcome in
      let count = so.are.count in
      let last : 0 + length os ≡ m = omega (arith, count) in
      record {
        outcomes = os ++ o ∷ [];
        are = record {
          count = length-append os (o ∷ []) ∙ ap (λ k. k + 1) so.are.count;
          each = λ k x at.
              ⊎_elim
              (λ here. so.are.each k x here)
              (λ end. subst (λ j. HasOutcome t cert j x) (sym (end.0 ∙ so.are.count)) (subst (λ y. HasOutcome t cert m y) (sym end.1) more.has))
              (at_end os o k x at);
        };
        never_is =
            more.never_is ∙ ap (λ l. l ++ line_never t m o) so.never_is
            ∙ ap (λ k. never_lines t 0 os ++ line_never t k o) (sym last) ∙ sym (never_more t 0 os o);
        within_is =
            more.within_is ∙ ap (λ l. l ++ line_within t cert.jitter m o) so.within_is
            ∙ ap (λ k. recover_lines t cert.jitter 0 os ++ line_within t cert.jitter k o) (sym last)
            ∙ sym (within_more t cert.jitter 0 os o);
      }

  told_of : (all : Bool) (never within text : List ℕ) → TellsSoFar t cert (length t.modules) never within → text ≡ never ++ within
      → MatchBool all (never ≡ []) (never ≡ [] → ⊥) → MatchBool all (AllRecover t cert text) (SomeNever t cert text)
  told_of true never within text so is none = record {
    outcomes = so.outcomes;
    tells = record { are = so.are; said = is ∙ ap (λ l. l ++ within) so.never_is ∙ ap (λ l. never_lines t 0 so.outcomes ++ l) so.within_is };
    all = λ point has. some_line t 0 so.outcomes point has (sym so.never_is ∙ none);
  }
  told_of false never within text so is some =
      let x = some_never t 0 so.outcomes (λ none. some (so.never_is ∙ none)) in
      record {
        outcomes = so.outcomes;
        tells = record { are = so.are; said = is ∙ ap (λ l. l ++ within) so.never_is ∙ ap (λ l. never_lines t 0 so.outcomes ++ l) so.within_is };
        point = x.0;
        never = x.1;
      }

  -- what is said of all modules
  pub told : (all : Bool) (never within text : List ℕ) (n : ℕ) → TellsSoFar t cert (length t.modules) never within → text ≡ never ++ within
      → all ≡ (n == 0) → n ≡ length never → MatchBool all (AllRecover t cert text) (SomeNever t cert text)
  told all never within text n so is test n_is = told_of all never within text so is (emptiness all never n test n_is)
