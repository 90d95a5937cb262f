-- What holds up to the first event and not in every run.
use Rattle.std.proofs.Common.{◌≡◌, ◌≢◌, ℕ, zero, suc, ◌+◌, ℤ, pos, true, false, refl, sym, ap, ◌∙◌, subst, Some, Ok, List, [], ◌∷◌, arith}
use Rattle.std.specs.Prelude.{slice_index_or, None}
use Rattle.std.proofs.lemmas.Bool.{false≢true}
use Rattle.std.proofs.lemmas.Option.{same_Some, none-some}
use Rattle.std.specs.Global.{Global}
use Rattle.sot_lang.specs.declared.tables.NodeInfo.{NodeInfo}
use Rattle.sot_lang.specs.Bodies.{Fired, execution}
use Rattle.sot_lang.specs.declared.act.Act.{Act}
use Rattle.sot_lang.specs.Ranges.{local_ranges, write_ranges}
use Rattle.sot_lang.specs.Readings.{reading}
use Rattle.sot_lang.specs.TableRules.{IsCoded}
use Rattle.sot_lang.specs.Values.{Outcome}
use Rattle.sot_lists.specs.Places.{At}
use Rattle.sot_lists.proofs.ShortLists.{at_none, at_one, at_two}
use Rattle.sot_calendar.specs.Due.{IsLastDue}
use Rattle.sot_calendar.proofs.Clock.{last_now}
use Rattle.sot_world.specs.Configurations.{Configuration, IsOpening, locals_of, number_of}
use Rattle.sot_world.specs.Steps.{Event, Input, Code, Guest, Decide, Tick, Step, published}
use Rattle.sot_world.specs.Runs.{Run}
use Rattle.sot_world.specs.Headline.{InEveryRun}
use Rattle.sot_world.specs.Examples.{relay, relaying, copy, copy_acts, e_topic, m_topic}
use Rattle.sot_world.proofs.Writes.{write_other}
use Rattle.sot_world.proofs.RelaySteps.{input_5, copy_5}
use Rattle.sot_law_runs.specs.Examples.{relay_at, nothing, nothing_at}
use Rattle.sot_law_runs.proofs.FreeNodes.{opens}

ok_fired : (a b : Fired) → ◌≡◌ {A = Outcome Fired} (Ok a) (Ok b) → a ≡ b
ok_fired a b e = cc

pos_same : ◌≡◌ {A = ℤ} (pos 5) (pos 0) → ⊥
pos_same e = cc

-- the one configuration of the program with nothing in it ticks on
nothing_opens : IsOpening nothing [] (nothing_at 0)
nothing_opens = record {
  time = refl;
  left = at_none _;
  left_dm = at_none _;
  modes = refl;
  scalars = refl;
  locals = refl;
  points = refl;
  sizes = record { left = refl; left_dm = refl; modes = refl; scalars = refl; locals = refl; points = refl };
  widths = at_none _;
}

nothing_ticks : (t : ℕ) → Step nothing 0 (nothing_at t) (Tick []) (nothing_at (suc t))
nothing_ticks t = record {
  may = record { nodes = λ n node d at is. absurd (none-some node at); modules = λ m a d at is. absurd (none-some a at) };
  each = refl;
  bounded = at_none _;
  moves = at_none _;
  time = refl;
  left = at_none _;
  left_dm = at_none _;
  sizes = record { left = refl; left_dm = refl; modes = refl; scalars = refl; locals = refl; points = refl };
  rest = refl;
}

-- n ticks from time t
ticks : ℕ → List Event
ticks zero = []
ticks (suc n) = Tick [] ∷ ticks n

times : ℕ → ℕ → List Configuration
times t zero = []
times t (suc n) = nothing_at (suc t) ∷ times (suc t) n

run : (t n : ℕ) → Run nothing 0 (nothing_at t) (ticks n) (times t n)
unfolding ticks times
run t zero = tt
run t (suc n) = (nothing_ticks t, run (suc t) n)

last : (t n : ℕ) → At (nothing_at t ∷ times t n) n (nothing_at (t + n))
unfolding times
last t zero = (let e : t ≡ t + 0 = omega arith in ap (λ u. Some (nothing_at u)) e)
last t (suc n) = (let e : suc t + n ≡ t + suc n = omega arith in last (suc t) n ∙ ap (λ u. Some (nothing_at u)) e)

pub any_time : (t : ℕ) → InEveryRun nothing 0 (λ C. C.time ≢ t) → ⊥
any_time t every = every [] (nothing_at 0) (ticks t) (times 0 t) nothing_opens (at_none _) (run 0 t) t (nothing_at (0 + t)) (last 0 t) (omega arith)

module _ (g : Global) where
  pub two_events : InEveryRun (relay g) 0 (λ C. number_of C 1 ≡ pos 0) → ⊥
  two_events every =
      pos_same (every [] (relaying (pos 0) (pos 0)) (Input 0 (pos 5 ∷ []) ∷ Code 0 ∷ []) (relaying (pos 5) (pos 0) ∷ relay_at 0 false (pos 5) ∷ []) (opens g)
      (at_none _) (input_5 g, (copy_5 g, tt)) 2 (relay_at 0 false (pos 5)) refl)

  -- with 0 on both topics the node publishes 0
  copies_0 : (points : List (List ℤ)) (fired : Fired) → execution (copy_acts g) (local_ranges (copy g)) (write_ranges (relay g) (copy g))
      (reading (copy g) (pos 0 ∷ pos 0 ∷ []) points) [] ≡ Ok fired
      → slice_index_or (published true (relay g) (1 ∷ []) fired.draft (pos 0 ∷ pos 0 ∷ [])) 1 (pos 0) ≡ pos 0
  unfolding execution
  copies_0 points fired e =
      let same = ok_fired (record { locals = []; draft = Some (pos 0) ∷ [] }) fired e in
      subst (λ (f : Fired). slice_index_or (published true (relay g) (1 ∷ []) f.draft (pos 0 ∷ pos 0 ∷ [])) 1 (pos 0) ≡ pos 0) same refl

  acts_same : (node : NodeInfo) (n : ℕ) (acts : List Act) → At (relay g).nodes n node → IsCoded node acts → (n ≡ 0) × (node ≡ copy g) × (acts ≡ copy_acts g)
  acts_same node n acts at coded =
      at_one (λ n node. IsCoded node acts → (n ≡ 0) × (node ≡ copy g) × (acts ≡ copy_acts g)) (copy g)
      (λ c. (refl, refl, sym c.2 ∙ sym (ap (λ v. v.items) (same_Some _ c.0 c.1)))) n node at coded

  module _ (start : List (List ℤ)) (C D : Configuration) (o : IsOpening (relay g) start C) where
    still_0 : number_of C 1 ≡ pos 0
    still_0 = ap (λ xs. slice_index_or xs 1 (pos 0)) o.scalars

    code_0 : (n : ℕ) → Step (relay g) 0 C (Code n) D → number_of D 1 ≡ pos 0
    code_0 n s =
        let is = acts_same s.node n s.acts s.is s.coded in
        let runs_1 = subst (λ (x : NodeInfo). execution s.acts (local_ranges x) (write_ranges (relay g) x) (reading x C.scalars C.points) (locals_of C n)
        ≡ Ok s.fired) is.1 s.runs in
        let runs_2 = subst (λ acts. execution acts (local_ranges (copy g)) (write_ranges (relay g) (copy g)) (reading (copy g) C.scalars C.points)
        (locals_of C n) ≡ Ok s.fired) is.2 runs_1 in
        let runs_3 = subst (λ xs. execution (copy_acts g) (local_ranges (copy g)) (write_ranges (relay g) (copy g)) (reading (copy g) xs C.points)
        (locals_of C n) ≡ Ok s.fired) o.scalars runs_2 in
        let none : locals_of C n ≡ [] = ap (λ k. locals_of C k) is.0 ∙ ap (λ ls. slice_index_or ls 0 []) o.locals in
        let runs_4 = subst (λ ls. execution (copy_acts g) (local_ranges (copy g)) (write_ranges (relay g) (copy g))
        (reading (copy g) (pos 0 ∷ pos 0 ∷ []) C.points) ls ≡ Ok s.fired) none runs_3 in
        let published_1 = subst (λ (x : NodeInfo). D.scalars ≡ published true (relay g) x.writes.items s.fired.draft C.scalars) is.1 s.fires.scalars in
        let published_2 = subst (λ xs. D.scalars ≡ published true (relay g) (1 ∷ []) s.fired.draft xs) o.scalars published_1 in
        ap (λ xs. slice_index_or xs 1 (pos 0)) published_2 ∙ copies_0 C.points s.fired runs_4

    after_0 : (e : Event) → Step (relay g) 0 C e D → number_of D 1 ≡ pos 0
    after_0 (Input topic value) s =
        let info = at_two (λ t info. info.outside ≡ true → (info.first ≡ 0) × (info.count ≡ 1)) (e_topic g) (m_topic g) (λ e. (refl, refl))
        (λ e. absurd (false≢true e)) topic s.info s.is s.outside in
        ap (λ xs. slice_index_or xs 1 (pos 0)) s.scalars ∙ write_other s.info.first value C.scalars 1 (λ i lt e. omega (arith, lt, e, info.0, info.1, s.size))
        ∙ still_0
    after_0 (Code n) s = code_0 n s
    after_0 (Guest n draft) s = absurd (at_one (λ n node. node.body ≡ None → ⊥) (copy g) (λ e. none-some _ (sym e)) n s.node s.is s.external)
    after_0 (Decide m) s = absurd (none-some s.module_info s.is)
    after_0 (Tick noise) s =
        absurd (s.may.nodes 0 (copy g) 0 refl ((o.left 0 (copy g) refl).1 (omega arith, refl))
        (subst (λ t. IsLastDue 6 0 t 0) (sym o.time) (last_now 6 0 0 (omega arith, refl))) (omega (arith, o.time)))

  pub one_event : (start : List (List ℤ)) (C D : Configuration) (e : Event) → IsOpening (relay g) start C → Step (relay g) 0 C e D
      → (number_of C 1 ≡ pos 0) × (number_of D 1 ≡ pos 0)
  one_event start C D e o s = (still_0 start C D o, after_0 start C D o e s)
