-- What steps carry, statement by statement.
use Rattle.std.proofs.Common.{◌≡◌, ℕ, zero, suc, ◌+◌, ◌<◌, ◌≤◌, ℤ, pos, List, [], ◌∷◌, ◌++◌, Some, Ok, take, drop, length, get_or, refl, sym, ap}
use Rattle.std.proofs.Common.{ap₂, ◌∙◌, subst, arith, add-one, ⊎_elim}
use Rattle.std.proofs.lemmas.Bool.{cases_Bool}
use Rattle.std.proofs.lemmas.List.{length-set, take-set-le, take-append-drop, get_or-set_same, get_or-set_other, drop-set-lt}
use Rattle.std.proofs.lemmas.Option.{slice_get_within}
use Rattle.std.proofs.Math.Seq.{take-take, take-set-lt}
use Rattle.std.specs.Global.{Vec}
use Rattle.std.specs.Prelude.{slice_set, ◌≢◌}
use Rattle.sot_lists.specs.Places.{At}
use Rattle.sot_text.specs.declared.token.Span.{Span}
use Rattle.sot_lang.specs.declared.act.Act.{Act, If, Repeat}
use Rattle.sot_lang.specs.declared.act.Act.TheVariants.{Assign, Publish}
use Rattle.sot_lang.specs.declared.term.Term.{Term}
use Rattle.sot_lang.specs.declared.tables.LocalInfo.{LocalInfo}
use Rattle.sot_lang.specs.declared.tables.ScalarInfo.{ScalarInfo}
use Rattle.sot_lang.specs.declared.tables.NodeInfo.{NodeInfo}
use Rattle.sot_lang.specs.Tables.{Tables}
use Rattle.sot_lang.specs.Ranges.{local_ranges, write_ranges}
use Rattle.sot_lang.specs.Values.{value_of, then_with, is_true}
use Rattle.sot_lang.specs.Bodies.{Fired, body, times}
use Rattle.sot_lang.proofs.ActRows.{act-Repeat, body-++}
use Rattle.sot_code.specs.Firings.{fired_at, run_of, step_of, assign_of, publish_of}
use Rattle.sot_code.proofs.RangeReads.{local_value, scalar_value}
use Rattle.sot_code.proofs.Steps.{assign_ends, publish_ends, takes_first, takes_second, turn_more}
use Rattle.sot_eval_flat.specs.declared.instruction.Instruction.{Instruction}
use Rattle.sot_eval_flat.specs.declared.step.Step.{Step, Choice}
use Rattle.sot_eval_flat.specs.Instructions.{number_at, Runs}
use Rattle.sot_eval_flat.specs.Flows.{State, state, Flows, FlowAll, Rounds}
use Rattle.sot_eval_flat.specs.Shapes.{IsRoom, Gives, Bounds}
use Rattle.sot_eval_flat.specs.Carries.{name_count, names_of, fired_of, left_from, Leaves, Carries, FlowOpen}
use Rattle.sot_eval_flat.proofs.Lines.{runs_part}
use Rattle.sot_eval_flat.proofs.Walks.{chosen}
use Rattle.sot_eval_flat.proofs.Reckoning.{same_at, shorter, room_stays}

-- instructions that are in no step yet, and more behind them
pub open_part : (steps : List Step) (line more : List Instruction) (s t : State) → FlowOpen steps (line ++ more) s t
    → (m : State) × FlowOpen steps line s m × Runs more m.room t.room × (t.draft ≡ m.draft)
open_part steps line more s t f =
    let r = runs_part line more f.0.room t.room f.2 in
    (state r.0 f.0.draft, (f.0, f.1, r.1, refl), r.2, f.3)

module _ (p : Tables) (node : NodeInfo) (stated : List ℤ) where
  -- what is read is the same in both
  same_read : (s m : State) → take (length node.reads.items) m.room ≡ take (length node.reads.items) s.room
      → take (length node.reads.items) (names_of node m) ≡ take (length node.reads.items) (names_of node s)
  same_read s m e =
      take-take (length node.reads.items) (name_count node) m.room (omega arith) ∙ e
      ∙ sym (take-take (length node.reads.items) (name_count node) s.room (omega arith))

  same_outcome : (acts : List Act) (s m : State) (f : Fired) → take (length node.reads.items) m.room ≡ take (length node.reads.items) s.room
      → run_of p node (names_of node s) acts f ≡ run_of p node (names_of node m) acts f
  same_outcome acts s m f e = ap (λ l. body l (local_ranges node) (write_ranges p node) acts f) (sym (same_read s m e))

  pub leaves_none : (s t : State) → IsRoom (name_count node) stated s.room → t ≡ s → Leaves node stated (left_from p node [] s) s t
  leaves_none s t room e =
      subst (Leaves node stated (left_from p node [] s) s) (sym e) (record { room = room; read = refl; ends = refl; unused = refl; slots = refl })

  pub leaves_join : (us vs : List Act) (s m t : State) → Leaves node stated (left_from p node us s) s m → Leaves node stated (left_from p node vs m) m t
      → Leaves node stated (left_from p node (us ++ vs) s) s t
  leaves_join us vs s m t a b = record {
    room = b.room;
    read = b.read ∙ a.read;
    ends =
        body-++ _ _ _ us vs (fired_of node s) ∙ ap (λ o. then_with o (run_of p node (names_of node s) vs)) a.ends
        ∙ same_outcome vs s m (fired_of node m) a.read ∙ b.ends;
    unused = b.unused ∙ a.unused;
    slots = b.slots ∙ a.slots;
  }

  one_step : (numbers : List ℤ) (one : Act) (f g : Fired) → step_of p node numbers one f ≡ Ok g → run_of p node numbers (one ∷ []) f ≡ Ok g
  one_step numbers one f g e = ap (λ o. then_with o (run_of p node numbers [])) e

  -- an assignment
  pub leaves_assign : (k : ℕ) (value : Term) (at : Span) (info : LocalInfo) (to : ℕ) (line : List Instruction) (s t : State) → k < length node.locals.items
      → info ≡ get_or node.locals.items k info → to ≡ length node.reads.items + k → Bounds (name_count node) stated value info.lo info.hi to line
      → IsRoom (name_count node) stated s.room → Runs line s.room t.room → t.draft ≡ s.draft
      → Leaves node stated (left_from p node (Assign k value at ∷ []) s) s t
  leaves_assign k value at info to line s t lt is to_is bounds room runs draft =
      let n = name_count node in
      let r = length node.reads.items in
      let b = bounds s.room t.room room runs in
      let ms = b.0 in
      let z = b.2 in
      let inside : to < n = omega (arith, to_is, lt) in
      let names : take n ms ≡ names_of node s = shorter s.room ms n (n + length stated) (omega arith) b.3 in
      let value_is = local_value node k info at (value_of value (names_of node s)) b.1 lt is b.5 ∙ b.6 at in
      let assigned = assign_ends node k at (value_of value (names_of node s)) z (names_of node s) s.draft value_is in
      let target : slice_set (names_of node s) (r + k) z ≡ names_of node t =
      ap₂ (λ l i. slice_set l i z) (sym names) (sym to_is) ∙ sym (take-set-lt n ms to z inside) ∙ ap (take n) (sym b.7) in
      record {
        room = (
          ap length b.7 ∙ length-set ms to z ∙ b.4,
          λ i y here.
              let other : n + i ≢ to = omega (arith, inside) in
              let stays : n + i < n + length stated = omega (arith, inside_of i y here) in
              ap (λ l. number_at l (n + i)) b.7 ∙ get_or-set_other ms to (n + i) z (pos 0) other ∙ same_at s.room ms (n + length stated) (n + i) b.3 stays
              ∙ room.1 i y here,
        );
        read = ap (take r) b.7 ∙ take-set-le r ms to z (omega (arith, to_is)) ∙ shorter s.room ms r (n + length stated) (omega arith) b.3;
        ends =
            one_step (names_of node s) (Assign k value at) (fired_of node s) (fired_of node t)
            (ap (λ l. assign_of node k at (value_of value l) (fired_of node s)) (take-append-drop r (names_of node s)) ∙ assigned
            ∙ ap₂ (λ l d. Ok (fired_at node l d)) target (sym draft));
        unused = ap (drop (length node.writes.items)) draft;
        slots = ap length draft;
      }
    where
      inside_of : (i : ℕ) (y : ℤ) → At stated i y → i < length stated
      inside_of i y here = slice_get_within stated i y here

  -- a publication
  pub leaves_publish : (k place : ℕ) (value : Term) (at : Span) (info : ScalarInfo) (to : ℕ) (line : List Instruction) (s m t : State)
      → k < length node.writes.items → place ≡ get_or node.writes.items k place → place < length p.scalars → info ≡ get_or p.scalars place info
      → to ≡ name_count node + length stated → to ≤ 255 → Bounds (name_count node) stated value info.lo info.hi to line
      → IsRoom (name_count node) stated s.room → Runs line s.room m.room → m.draft ≡ s.draft → t.room ≡ m.room
      → t.draft ≡ slice_set m.draft k (Some (number_at m.room to)) → Leaves node stated (left_from p node (Publish k value at ∷ []) s) s t
  leaves_publish k place value at info to line s m t lt place_is below is to_is few bounds room runs draft same drafted =
      let n = name_count node in
      let r = length node.reads.items in
      let base = n + length stated in
      let b = bounds s.room m.room room runs in
      let ms = b.0 in
      let z = b.2 in
      let set_is : t.room ≡ slice_set ms to z = same ∙ b.7 in
      let low : take base t.room ≡ take base s.room = ap (take base) set_is ∙ take-set-le base ms to z (omega (arith, to_is)) ∙ b.3 in
      let size : length t.room ≡ 256 = ap length set_is ∙ length-set ms to z ∙ b.4 in
      let names : names_of node t ≡ names_of node s = shorter s.room t.room n base (omega arith) low in
      let number : number_at m.room to ≡ z = ap (λ l. number_at l to) b.7 ∙ get_or-set_same ms to z (pos 0) (omega (arith, b.4, few)) in
      let draft_is : t.draft ≡ slice_set s.draft k (Some z) = drafted ∙ ap₂ (λ d x. slice_set d k (Some x)) draft number in
      let value_is = scalar_value p node k place info at (value_of value (names_of node s)) b.1 lt place_is below is b.5 ∙ b.6 at in
      let published = publish_ends p node k at (value_of value (names_of node s)) z (names_of node s) s.draft lt value_is in
      record {
        room = room_stays n stated s.room t.room base (omega arith) low size room;
        read = shorter s.room t.room r base (omega arith) low;
        ends =
            one_step (names_of node s) (Publish k value at) (fired_of node s) (fired_of node t)
            (ap (λ l. publish_of p node k at (value_of value l) (fired_of node s)) (take-append-drop r (names_of node s)) ∙ published
            ∙ ap₂ (λ l d. Ok (fired_at node l d)) (sym names) (sym draft_is));
        unused = ap (drop (length node.writes.items)) draft_is ∙ drop-set-lt (length node.writes.items) s.draft k (Some z) lt;
        slots = ap length draft_is ∙ length-set s.draft k (Some z);
      }

  -- the way that is taken
  pub leaves_if : (cond : Term) (u v : Vec Act) (place : ℕ) (a b : Vec Step) (line : List Instruction) (s m t : State)
      → Gives (name_count node) stated (name_count node + length stated) cond line place → IsRoom (name_count node) stated s.room
      → Runs line s.room m.room → m.draft ≡ s.draft → Flows (Choice place a b) m t → Carries p node stated a.items u.items
      → Carries p node stated b.items v.items → Leaves node stated (left_from p node (If cond u v ∷ []) s) s t
  leaves_if cond u v place a b line s m t reckons room runs draft flows first second =
      let n = name_count node in
      let base = n + length stated in
      let r = reckons.1 s.room m.room room runs in
      let names : names_of node m ≡ names_of node s = shorter s.room m.room n base (omega arith) r.0 in
      let read : take (length node.reads.items) m.room ≡ take (length node.reads.items) s.room =
      shorter s.room m.room (length node.reads.items) base (omega arith) r.0 in
      let there : IsRoom n stated m.room = room_stays n stated s.room m.room base (omega arith) r.0 r.1 room in
      let ways = chosen place a b m t flows in
      let z = number_at m.room place in
      let fired : fired_of node m ≡ fired_of node s = ap₂ (λ l d. fired_at node l d) names draft in
      let goes : (us : List Act) → left_from p node us m ≡ left_from p node us s =
      λ us. ap₂ (λ l f. run_of p node l us f) names fired in
      ⊎_elim
      (λ e. let l = first m t there (ways.0 e) in record {
        room = l.room;
        read = l.read ∙ read;
        ends =
            one_step (names_of node s) (If cond u v) (fired_of node s) (fired_of node t)
            (takes_first p node (names_of node s) cond u v s.draft z r.2 e ∙ sym (goes u.items) ∙ l.ends);
        unused = l.unused ∙ ap (drop (length node.writes.items)) draft;
        slots = l.slots ∙ ap length draft;
      })
      (λ e. let l = second m t there (ways.1 e) in record {
        room = l.room;
        read = l.read ∙ read;
        ends =
            one_step (names_of node s) (If cond u v) (fired_of node s) (fired_of node t)
            (takes_second p node (names_of node s) cond u v s.draft z r.2 e ∙ sym (goes v.items) ∙ l.ends);
        unused = l.unused ∙ ap (drop (length node.writes.items)) draft;
        slots = l.slots ∙ ap length draft;
      })
      (cases_Bool (is_true z))

  -- so many turns
  rounds_leave : (k : ℕ) (acts : List Act) (steps : List Step) (s t : State) → Carries p node stated steps acts → IsRoom (name_count node) stated s.room
      → Rounds k (FlowAll steps) s t → Leaves node stated (times k (run_of p node (names_of node s) acts) (fired_of node s)) s t
  rounds_leave zero acts steps s t carries room e =
      subst (Leaves node stated (Ok (fired_of node s)) s) (sym e) (record { room = room; read = refl; ends = refl; unused = refl; slots = refl })
  rounds_leave (suc k) acts steps s t carries room flow =
      let a = rounds_leave k acts steps s flow.0 carries room flow.1 in
      let b = carries flow.0 t a.room flow.2 in
      record {
        room = b.room;
        read = b.read ∙ a.read;
        ends =
            subst (λ j. times j (run_of p node (names_of node s) acts) (fired_of node s) ≡ Ok (fired_of node t)) (add-one k)
            (turn_more k (run_of p node (names_of node s) acts) _ _ _ a.ends (same_outcome acts s flow.0 (fired_of node flow.0) a.read ∙ b.ends));
        unused = b.unused ∙ a.unused;
        slots = b.slots ∙ a.slots;
      }

  pub leaves_repeat : (k : ℕ) (u : Vec Act) (steps : List Step) (s t : State) → Carries p node stated steps u.items → IsRoom (name_count node) stated s.room
      → Rounds k (FlowAll steps) s t → Leaves node stated (left_from p node (Repeat k u ∷ []) s) s t
  leaves_repeat k u steps s t carries room flow =
      let l = rounds_leave k u.items steps s t carries room flow in
      record {
        room = l.room;
        read = l.read;
        ends = one_step (names_of node s) (Repeat k u) (fired_of node s) (fired_of node t) (act-Repeat _ _ _ _ _ _ ∙ l.ends);
        unused = l.unused;
        slots = l.slots;
      }
