-- One more statement is carried by what is made for it.
use Rattle.std.proofs.Common.{◌≡◌, ℕ, ℤ, ◌+◌, ◌<◌, ◌≤◌, List, [], ◌∷◌, ◌++◌, length, get_or, sym, ap, ◌∙◌, subst}
use Rattle.std.specs.Global.{Vec}
use Rattle.sot_text.specs.declared.token.Span.{Span}
use Rattle.sot_lang.specs.declared.act.Act.{Act, If, Repeat}
use Rattle.sot_lang.specs.declared.act.Act.TheVariants.{Assign, Publish}
use Rattle.sot_lang.specs.declared.term.Term.{Term}
use Rattle.sot_lang.specs.declared.tables.LocalInfo.{LocalInfo}
use Rattle.sot_lang.specs.declared.tables.ScalarInfo.{ScalarInfo}
use Rattle.sot_lang.specs.declared.tables.NodeInfo.{NodeInfo}
use Rattle.sot_lang.specs.Tables.{Tables}
use Rattle.sot_eval_flat.specs.declared.instruction.Instruction.{Instruction}
use Rattle.sot_eval_flat.specs.declared.step.Step.{Step, Choice, Turns}
use Rattle.sot_eval_flat.specs.declared.step.Step.TheVariants as step
use Rattle.sot_eval_flat.specs.Instructions.{Runs}
use Rattle.sot_eval_flat.specs.Flows.{State, Flows, FlowAll}
use Rattle.sot_eval_flat.specs.Shapes.{Gives, Bounds}
use Rattle.sot_eval_flat.specs.Carries.{name_count, Carries, CarriesOpen, FlowOpen, OneMore}
use Rattle.sot_eval_flat.proofs.Walks.{flow_part, turned}
use Rattle.sot_eval_flat.proofs.Statements.{open_part, leaves_none, leaves_join, leaves_assign, leaves_publish, leaves_if, leaves_repeat}

-- the instructions that are in no step yet become one
pub closed : (steps : List Step) (line : Vec Instruction) (s t : State) → FlowAll (steps ++ step.Line line ∷ []) s t → FlowOpen steps line.items s t
closed steps line s t flow =
    let f = flow_part steps (step.Line line ∷ []) s t flow in
    (f.0, f.1, subst (λ x. Runs line.items f.0.room x.room) (sym f.2.2) f.2.1.0, ap (λ x. x.draft) f.2.2 ∙ f.2.1.1)

same_state : (t u : State) → t.room ≡ u.room → t.draft ≡ u.draft → t ≡ u
same_state t u a b i = record { room = a i; draft = b i }

-- a last step, and no instruction behind it
last_step : (s0 s1 : List Step) (one : Step) (line : List Instruction) (s t : State) → s1 ≡ s0 ++ one ∷ [] → line ≡ [] → FlowOpen s1 line s t
    → (m : State) × FlowAll s0 s m × Flows one m t
last_step s0 s1 one line s t steps_are none opened =
    let f = flow_part s0 (one ∷ []) s opened.0 (subst (λ l. FlowAll l s opened.0) steps_are opened.1) in
    let rest : t.room ≡ opened.0.room = subst (λ l. Runs l opened.0.room t.room) none opened.2 in
    let same : t ≡ f.2.0 = same_state t f.2.0 (rest ∙ ap (λ x. x.room) f.2.2) (opened.3 ∙ ap (λ x. x.draft) f.2.2) in
    (f.0, f.1, subst (Flows one f.0) (sym same) f.2.1)

module _ (p : Tables) (node : NodeInfo) (stated : List ℤ) where
  pub one_assign : (k : ℕ) (value : Term) (at : Span) (info : LocalInfo) (to : ℕ) (steps : List Step) (l0 l1 added : List Instruction)
      → k < length node.locals.items → info ≡ get_or node.locals.items k info → to ≡ length node.reads.items + k
      → Bounds (name_count node) stated value info.lo info.hi to added → l1 ≡ l0 ++ added → OneMore p node stated (Assign k value at) steps l0 steps l1
  one_assign k value at info to steps l0 l1 added lt is to_is bounds line_is acts carries s t room opened =
      let o = open_part steps l0 added s t (subst (λ l. FlowOpen steps l s t) line_is opened) in
      let a = carries s o.0 room o.1 in
      leaves_join p node stated acts (Assign k value at ∷ []) s o.0 t a
      (leaves_assign p node stated k value at info to added o.0 t lt is to_is bounds a.room o.2 o.3)

  pub one_publish : (k place : ℕ) (value : Term) (at : Span) (info : ScalarInfo) (to : ℕ) (s0 s1 s2 : List Step) (l0 l1 l2 added : List Instruction)
      → k < length node.writes.items → place ≡ get_or node.writes.items k place → place < length p.scalars → info ≡ get_or p.scalars place info
      → to ≡ name_count node + length stated → to ≤ 255 → Bounds (name_count node) stated value info.lo info.hi to added → l1 ≡ l0 ++ added
      → ((s t : State) → FlowAll s1 s t → FlowOpen s0 l1 s t) → s2 ≡ s1 ++ step.Publish k to ∷ [] → l2 ≡ []
      → OneMore p node stated (Publish k value at) s0 l0 s2 l2
  one_publish k place value at info to s0 s1 s2 l0 l1 l2 added lt place_is below is to_is few bounds line_is closes steps_are none acts carries s t room
      opened =
      let f = last_step s1 s2 (step.Publish k to) l2 s t steps_are none opened in
      let o = open_part s0 l0 added s f.0 (subst (λ l. FlowOpen s0 l s f.0) line_is (closes s f.0 f.1)) in
      let a = carries s o.0 room o.1 in
      leaves_join p node stated acts (Publish k value at ∷ []) s o.0 t a
      (leaves_publish p node stated k place value at info to added o.0 f.0 t lt place_is below is to_is few bounds a.room o.2 o.3 f.2.0 f.2.1)

  pub one_if : (cond : Term) (u v : Vec Act) (place : ℕ) (a b : Vec Step) (s0 s1 s2 : List Step) (l0 l1 l2 added : List Instruction)
      → Gives (name_count node) stated (name_count node + length stated) cond added place → l1 ≡ l0 ++ added
      → ((s t : State) → FlowAll s1 s t → FlowOpen s0 l1 s t) → s2 ≡ s1 ++ Choice place a b ∷ [] → l2 ≡ [] → Carries p node stated a.items u.items
      → Carries p node stated b.items v.items → OneMore p node stated (If cond u v) s0 l0 s2 l2
  one_if cond u v place a b s0 s1 s2 l0 l1 l2 added reckons line_is closes steps_are none first second acts carries s t room opened =
      let f = last_step s1 s2 (Choice place a b) l2 s t steps_are none opened in
      let o = open_part s0 l0 added s f.0 (subst (λ l. FlowOpen s0 l s f.0) line_is (closes s f.0 f.1)) in
      let l = carries s o.0 room o.1 in
      leaves_join p node stated acts (If cond u v ∷ []) s o.0 t l
      (leaves_if p node stated cond u v place a b added o.0 f.0 t reckons l.room o.2 o.3 f.2 first second)

  pub one_repeat : (k : ℕ) (u : Vec Act) (a : Vec Step) (s0 s1 s2 : List Step) (l0 l2 : List Instruction)
      → ((s t : State) → FlowAll s1 s t → FlowOpen s0 l0 s t) → s2 ≡ s1 ++ Turns k a ∷ [] → l2 ≡ [] → Carries p node stated a.items u.items
      → OneMore p node stated (Repeat k u) s0 l0 s2 l2
  one_repeat k u a s0 s1 s2 l0 l2 closes steps_are none block acts carries s t room opened =
      let f = last_step s1 s2 (Turns k a) l2 s t steps_are none opened in
      let l = carries s f.0 room (closes s f.0 f.1) in
      leaves_join p node stated acts (Repeat k u ∷ []) s f.0 t l
      (leaves_repeat p node stated k u a.items f.0 t block l.room (turned k a f.0 t f.2))

  -- no statement
  pub none_carried : (steps : List Step) (line : List Instruction) → steps ≡ [] → line ≡ [] → CarriesOpen p node stated steps line []
  none_carried steps line no_steps no_line s t room opened =
      let m : opened.0 ≡ s = subst (λ l. FlowAll l s opened.0) no_steps opened.1 in
      let r : t.room ≡ opened.0.room = subst (λ l. Runs l opened.0.room t.room) no_line opened.2 in
      leaves_none p node stated s t room (same_state t s (r ∙ ap (λ x. x.room) m) (opened.3 ∙ ap (λ x. x.draft) m))
