-- One more statement, one more turn, and what stops them.
use Rattle.std.proofs.Common.{◌≡◌, ℕ, zero, suc, ◌+◌, ◌<◌, ℤ, pos, negsuc, true, false, Option, Some, List, [], ◌∷◌, ◌++◌, Result, Ok, Err, take, drop, length}
use Rattle.std.proofs.Common.{get_or, refl, sym, ap, ◌∙◌, arith, add-one, FitsSigned, of_z, w64}
use Rattle.std.specs.Prelude.{slice_set}
use Rattle.std.specs.Global.{Vec}
use Rattle.std.proofs.Math.Seq.{take-set-lt}
use Rattle.std.proofs.lemmas.List.{take-append-drop, take_more, drop_more, drop-set-add}
use Rattle.sot_text.specs.declared.token.Span.{Span}
use Rattle.sot_lang.specs.declared.act.Act.{Act, If}
use Rattle.sot_lang.specs.declared.term.Term.{Term}
use Rattle.sot_lang.specs.declared.trap.Trap.{Trap}
use Rattle.sot_lang.specs.declared.tables.NodeInfo.{NodeInfo}
use Rattle.sot_lang.specs.Tables.{Tables}
use Rattle.sot_lang.specs.Ranges.{local_ranges, write_ranges}
use Rattle.sot_lang.specs.Values.{Outcome, value_of, then_with, is_true}
use Rattle.sot_lang.specs.Bodies.{Fired, times, in_range}
use Rattle.sot_lang.proofs.ActRows.{act-If, body-++}
use Rattle.sot_code.specs.Firings.{Ends, fired_at, assign_of, publish_of, step_of, run_of}

-- an assignment that is in its range
pub assign_ends : (node : NodeInfo) (k : ℕ) (at : Span) (o : Outcome ℤ) (z : ℤ) (numbers : List ℤ) (draft : List (Option ℤ))
    → then_with o (in_range (local_ranges node) k at) ≡ Ok z
    → assign_of node k at o (fired_at node numbers draft) ≡ Ok (fired_at node (slice_set numbers (length node.reads.items + k) z) draft)
assign_ends node k at o z numbers draft e =
    let base = length node.reads.items in
    let set : drop base (slice_set numbers (base + k) z) ≡ slice_set (drop base numbers) k z = drop-set-add base numbers k z in
    rw e (ap (λ l. Ok (record { locals = l; draft = take (length node.writes.items) draft })) (sym set))

module _ (p : Tables) (node : NodeInfo) where
  -- a draft that is in its range
  pub publish_ends : (k : ℕ) (at : Span) (o : Outcome ℤ) (z : ℤ) (numbers : List ℤ) (draft : List (Option ℤ)) → k < length node.writes.items
      → then_with o (in_range (write_ranges p node) k at) ≡ Ok z
      → publish_of p node k at o (fired_at node numbers draft) ≡ Ok (fired_at node numbers (slice_set draft k (Some z)))
  publish_ends k at o z numbers draft lt e =
      let count = length node.writes.items in
      let set : take count (slice_set draft k (Some z)) ≡ slice_set (take count draft) k (Some z) = take-set-lt count draft k (Some z) lt in
      rw e (ap (λ d. Ok (record { locals = drop (length node.reads.items) numbers; draft = d })) (sym set))

  -- one more statement
  pub run_more : (numbers : List ℤ) (us : List Act) (i : ℕ) (one : Act) (f g h : Fired) → i < length us → one ≡ get_or us i one
      → run_of p node numbers (take i us) f ≡ Ok g → step_of p node numbers one g ≡ Ok h → run_of p node numbers (take (i + 1) us) f ≡ Ok h
  run_more numbers us i one f g h lt is before now =
      ap (λ l. run_of p node numbers l f) (take_more us i one lt ∙ ap (λ x. take i us ++ x ∷ []) (sym is))
      ∙ body-++ _ _ _ (take i us) (one ∷ []) f
      ∙ ap (λ o. then_with o (run_of p node numbers (one ∷ []))) before
      ∙ ap (λ o. then_with o (run_of p node numbers [])) now

  -- a statement that traps stops the list
  pub run_stops : (numbers : List ℤ) (us : List Act) (i : ℕ) (one : Act) (f g : Fired) (t : Trap) → i < length us → one ≡ get_or us i one
      → run_of p node numbers (take i us) f ≡ Ok g → step_of p node numbers one g ≡ Err t → run_of p node numbers us f ≡ Err t
  run_stops numbers us i one f g t lt is before now =
      ap (λ l. run_of p node numbers l f) (sym (take-append-drop i us)
      ∙ ap (λ l. take i us ++ l) (drop_more us i one lt ∙ ap (λ x. x ∷ drop (i + 1) us) (sym is)))
      ∙ body-++ _ _ _ (take i us) (one ∷ drop (i + 1) us) f
      ∙ ap (λ o. then_with o (run_of p node numbers (one ∷ drop (i + 1) us))) before
      ∙ ap (λ o. then_with o (run_of p node numbers (drop (i + 1) us))) now

  -- the branch that is taken
  pub takes_first : (numbers : List ℤ) (t : Term) (u v : Vec Act) (draft : List (Option ℤ)) (z : ℤ) → value_of t numbers ≡ Ok z → is_true z ≡ true
      → step_of p node numbers (If t u v) (fired_at node numbers draft) ≡ run_of p node numbers u.items (fired_at node numbers draft)
  takes_first numbers t u v draft z e first =
      act-If _ _ _ t u v (fired_at node numbers draft) ∙ rw (take-append-drop (length node.reads.items) numbers, e, first) refl

  pub takes_second : (numbers : List ℤ) (t : Term) (u v : Vec Act) (draft : List (Option ℤ)) (z : ℤ) → value_of t numbers ≡ Ok z → is_true z ≡ false
      → step_of p node numbers (If t u v) (fired_at node numbers draft) ≡ run_of p node numbers v.items (fired_at node numbers draft)
  takes_second numbers t u v draft z e second =
      act-If _ _ _ t u v (fired_at node numbers draft) ∙ rw (take-append-drop (length node.reads.items) numbers, e, second) refl

times_shift : (n : ℕ) (block : Fired → Outcome Fired) (f : Fired) → times (suc n) block f ≡ then_with (times n block f) block
times_shift zero block f = last (block f)
  where
    last : (o : Outcome Fired) → then_with o (times zero block) ≡ o
    last (Ok g) = refl
    last (Err t) = refl
times_shift (suc n) block f = go (block f) (λ g. times_shift n block g)
  where
    go : (o : Outcome Fired) → ((g : Fired) → times (suc n) block g ≡ then_with (times n block g) block)
        → then_with o (times (suc n) block) ≡ then_with (then_with o (times n block)) block
    go (Ok g) ih = ih g
    go (Err t) ih = refl

-- one more turn
pub turn_more : (k : ℕ) (block : Fired → Outcome Fired) (f g h : Fired) → times k block f ≡ Ok g → block g ≡ Ok h → times (k + 1) block f ≡ Ok h
turn_more k block f g h before now = rw add-one (times_shift k block f ∙ ap (λ o. then_with o block) before ∙ now)

-- a turn that traps stops the rest
pub turns_stop : (k n : ℕ) (block : Fired → Outcome Fired) (f g : Fired) (t : Trap) → k < n → times k block f ≡ Ok g → block g ≡ Err t → times n block f ≡ Err t
turns_stop k zero block f g t lt before now = absurd (omega arith)
turns_stop zero (suc n) block f g t lt before now =
    (let e : f ≡ g = cc in ap (λ x. then_with (block x) (times n block)) e ∙ ap (λ o. then_with o (times n block)) now)
turns_stop (suc k) (suc n) block f g t lt before now = go (block f) before (λ x b. turns_stop k n block x g t (omega arith) b now)
  where
    go : (o : Outcome Fired) → then_with o (times k block) ≡ Ok g → ((x : Fired) → times k block x ≡ Ok g → times n block x ≡ Err t)
        → then_with o (times n block) ≡ Err t
    go (Ok x) b ih = ih x b
    go (Err u) b ih = cc

pub ends_same : {U : Type 0} (node : NodeInfo) (o : Result U Trap) (numbers : List ℤ) (draft : List (Option ℤ)) (x y : Outcome Fired) → x ≡ y
    → Ends node o numbers draft x → Ends node o numbers draft y
ends_same node (Ok u) numbers draft x y e h = sym e ∙ h
ends_same node (Err t) numbers draft x y e h = sym e ∙ h

pub zero_of_bits : (z : ℤ) → FitsSigned w64 z → of_z w64 z ≡ 0 → z ≡ pos 0
zero_of_bits (pos n) f e = ap pos e
zero_of_bits (negsuc n) f e = absurd (omega (arith, f.sfits))
