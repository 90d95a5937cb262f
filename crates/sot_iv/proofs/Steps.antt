-- One more statement, one more turn, the branches of a condition, and what stops them.
use Rattle.std.proofs.Common.{◌≡◌, ℕ, zero, suc, ◌+◌, ◌<◌, true, false, List, [], ◌∷◌, ◌++◌, Result, Ok, Err, take, drop, length, get_or, refl, sym, ap, ◌∙◌}
use Rattle.std.proofs.Common.{arith, add-one}
use Rattle.std.specs.Global.{Vec}
use Rattle.std.proofs.lemmas.List.{take-append-drop, take_more, drop_more}
use Rattle.sot_box.specs.Sides.{Side}
use Rattle.sot_lang.specs.declared.act.Act.{Act, If}
use Rattle.sot_lang.specs.declared.term.Term.{Term}
use Rattle.sot_lang.specs.declared.tables.NodeInfo.{NodeInfo}
use Rattle.sot_lang.specs.Tables.{Tables}
use Rattle.sot_iv.specs.declared.may_trap.MayTrap.{MayTrap}
use Rattle.sot_iv.specs.declared.drafted.Drafted.{Drafted}
use Rattle.sot_iv.specs.TermIntervals.{OrMayTrap}
use Rattle.sot_iv.specs.BodyIntervals.{Intervals}
use Rattle.sot_iv.specs.Ends.{is_always, is_ever}
use Rattle.sot_iv.specs.Evaluation.{and_then, joined, join_of, term_interval, repeated, Leaves}
use Rattle.sot_iv.specs.Firings.{state, step_of, run_of}
use Rattle.sot_iv.proofs.Rows.{act_intervals-If, body_intervals-++}

module _ (p : Tables) (node : NodeInfo) (seen : List Side) where
  -- one more statement
  pub run_more : (us : List Act) (i : ℕ) (one : Act) (f g h : Intervals) → i < length us → one ≡ get_or us i one → run_of p node seen (take i us) f ≡ Ok g
      → step_of p node seen one g ≡ Ok h → run_of p node seen (take (i + 1) us) f ≡ Ok h
  run_more us i one f g h lt is before now =
      ap (λ l. run_of p node seen l f) (take_more us i one lt ∙ ap (λ x. take i us ++ x ∷ []) (sym is))
      ∙ body_intervals-++ _ _ _ (take i us) (one ∷ []) f
      ∙ ap (λ o. and_then o (run_of p node seen (one ∷ []))) before
      ∙ ap (λ o. and_then o (run_of p node seen [])) now

  -- a statement that traps stops the list
  pub run_stops : (us : List Act) (i : ℕ) (one : Act) (f g : Intervals) (t : MayTrap) → i < length us → one ≡ get_or us i one
      → run_of p node seen (take i us) f ≡ Ok g → step_of p node seen one g ≡ Err t → run_of p node seen us f ≡ Err t
  run_stops us i one f g t lt is before now =
      ap (λ l. run_of p node seen l f) (sym (take-append-drop i us) ∙ ap (λ l. take i us ++ l) (drop_more us i one lt ∙ ap (λ x. x ∷ drop (i + 1) us) (sym is)))
      ∙ body_intervals-++ _ _ _ (take i us) (one ∷ drop (i + 1) us) f
      ∙ ap (λ o. and_then o (run_of p node seen (one ∷ drop (i + 1) us))) before
      ∙ ap (λ o. and_then o (run_of p node seen (drop (i + 1) us))) now

  -- the branch that is taken, or both
  pub takes_second : (t : Term) (u v : Vec Act) (f : Intervals) (c : Side) → term_interval t (seen ++ f.locals) ≡ Ok c → is_ever c ≡ false
      → step_of p node seen (If t u v) f ≡ run_of p node seen v.items f
  takes_second t u v f c e never = act_intervals-If _ _ _ t u v f ∙ rw (e, never) refl

  pub takes_first : (t : Term) (u v : Vec Act) (f : Intervals) (c : Side) → term_interval t (seen ++ f.locals) ≡ Ok c → is_ever c ≡ true → is_always c ≡ true
      → step_of p node seen (If t u v) f ≡ run_of p node seen u.items f
  takes_first t u v f c e ever always = act_intervals-If _ _ _ t u v f ∙ rw (e, ever, always) refl

  pub takes_both : (t : Term) (u v : Vec Act) (f : Intervals) (c : Side) → term_interval t (seen ++ f.locals) ≡ Ok c → is_ever c ≡ true → is_always c ≡ false
      → step_of p node seen (If t u v) f ≡ joined join_of (run_of p node seen u.items f) (run_of p node seen v.items f)
  takes_both t u v f c e ever undecided = act_intervals-If _ _ _ t u v f ∙ rw (e, ever, undecided) refl

repeated_shift : (n : ℕ) (block : Intervals → OrMayTrap Intervals) (f : Intervals) → repeated (suc n) block f ≡ and_then (repeated n block f) block
repeated_shift zero block f = last (block f)
  where
    last : (o : OrMayTrap Intervals) → and_then o (repeated zero block) ≡ o
    last (Ok g) = refl
    last (Err t) = refl
repeated_shift (suc n) block f = go (block f) (λ g. repeated_shift n block g)
  where
    go : (o : OrMayTrap Intervals) → ((g : Intervals) → repeated (suc n) block g ≡ and_then (repeated n block g) block)
        → and_then o (repeated (suc n) block) ≡ and_then (and_then o (repeated n block)) block
    go (Ok g) ih = ih g
    go (Err t) ih = refl

-- one more turn
pub turn_more : (k : ℕ) (block : Intervals → OrMayTrap Intervals) (f g h : Intervals) → repeated k block f ≡ Ok g → block g ≡ Ok h
    → repeated (k + 1) block f ≡ Ok h
turn_more k block f g h before now = rw add-one (repeated_shift k block f ∙ ap (λ o. and_then o block) before ∙ now)

-- a turn that traps stops the rest
pub turns_stop : (k n : ℕ) (block : Intervals → OrMayTrap Intervals) (f g : Intervals) (t : MayTrap) → k < n → repeated k block f ≡ Ok g → block g ≡ Err t
    → repeated n block f ≡ Err t
turns_stop k zero block f g t lt before now = absurd (omega arith)
turns_stop zero (suc n) block f g t lt before now =
    (let e : f ≡ g = cc in ap (λ x. and_then (block x) (repeated n block)) e ∙ ap (λ o. and_then o (repeated n block)) now)
turns_stop (suc k) (suc n) block f g t lt before now = go (block f) before (λ x b. turns_stop k n block x g t (omega arith) b now)
  where
    go : (o : OrMayTrap Intervals) → and_then o (repeated k block) ≡ Ok g → ((x : Intervals) → repeated k block x ≡ Ok g → repeated n block x ≡ Err t)
        → and_then o (repeated n block) ≡ Err t
    go (Ok x) b ih = ih x b
    go (Err u) b ih = cc

pub leaves_same : {U : Type 0} (o : Result U MayTrap) (locals : List Side) (draft : List Drafted) (x y : OrMayTrap Intervals) → x ≡ y → Leaves o locals draft x
    → Leaves o locals draft y
leaves_same (Ok u) locals draft x y e h = sym e ∙ h
leaves_same (Err t) locals draft x y e h = sym e ∙ h

-- what a run that ends, or that traps, says of the evaluation
pub leaves_ok : {U : Type 0} (o : Result U MayTrap) (locals : List Side) (draft : List Drafted) (x : OrMayTrap Intervals) (u : U) → o ≡ Ok u
    → Leaves o locals draft x → x ≡ Ok (state locals draft)
leaves_ok (Ok v) locals draft x u e h = h
leaves_ok (Err t) locals draft x u e h = cc

pub leaves_err : {U : Type 0} (o : Result U MayTrap) (locals : List Side) (draft : List Drafted) (x : OrMayTrap Intervals) (t : MayTrap) → o ≡ Err t
    → Leaves o locals draft x → x ≡ Err t
leaves_err (Ok v) locals draft x t e h = cc
leaves_err (Err u) locals draft x t e h = (let same : u ≡ t = cc in h ∙ ap Err same)

-- both branches, where the first traps, where the second does, and where none does
pub first_stops : (o p : OrMayTrap Intervals) (t : MayTrap) → o ≡ Err t → joined join_of o p ≡ Err t
first_stops o p t e = rw e refl

pub second_stops : (o p : OrMayTrap Intervals) (f : Intervals) (t : MayTrap) → o ≡ Ok f → p ≡ Err t → joined join_of o p ≡ Err t
second_stops o p f t e h = rw (e, h) refl

pub both_join : (o p : OrMayTrap Intervals) (f g : Intervals) → o ≡ Ok f → p ≡ Ok g → joined join_of o p ≡ join_of f g
both_join o p f g e h = rw (e, h) refl
