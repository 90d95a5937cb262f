-- Who is due after a tick.
use Rattle.std.proofs.Common.{◌≡◌, ◌↔◌, ℕ, suc, ℤ, List, Bool, true, false, ◌&&◌, Option, None, Some, inl, inr, refl, ap, sym, ◌∙◌, subst}
use Rattle.std.proofs.lemmas.Bool.{leb-true, le-leb, eqb-true, eq-eqb}
use Rattle.std.specs.Prelude.{MatchOption}
use Rattle.std.proofs.lemmas.Option.{none-some}
use Rattle.sot_lists.specs.Places.{At}
use Rattle.sot_lists.proofs.Places.{at_same}
use Rattle.sot_calendar.specs.Due.{IsDue}
use Rattle.sot_lang.specs.declared.tables.NodeInfo.{NodeInfo}
use Rattle.sot_lang.specs.Tables.{Tables}
use Rattle.sot_lang.specs.TableRules.{MeetsTableRules, IsCoded}
use Rattle.sot_lang.specs.declared.act.Act.{Act}
use Rattle.sot_world.specs.Configurations.{Configuration, is_left}
use Rattle.sot_tube.specs.Admitted.{Admitted}
use Rattle.sot_guard.specs.Beginning.{IsOpeningAt}
use Rattle.sot_guard.specs.declared.outside.Outside.{Outside}
use Rattle.sot_guard.specs.Guarding.{Guarding}
use Rattle.sot_guard.specs.Changes.{IsSafeNode, AsksSafeNodes}
use Rattle.sot_guard.specs.Hearing.{Hearing, program_of, GoesThrough, TakesTick}
use Rattle.sot_guard_lines.specs.Lines.{is_due}

true_false : (a : Bool) → a ≡ true → a ≡ false → ⊥
true_false a x y = cc

both : (a b : Bool) → (a && b) ≡ true → (a ≡ true) × (b ≡ true)
both true b is = (refl, is)
both false b is = absurd cc

both_so : (a b : Bool) → a ≡ true → b ≡ true → (a && b) ≡ true
both_so true b x y = y
both_so false b x y = absurd cc

-- the test is that of the calendar
pub due_is : (node : NodeInfo) (t : ℕ) → is_due node t ≡ true → IsDue node.period node.offset t
due_is node t is = (let (later, due) = both _ _ is in (leb-true node.offset t later, eqb-true _ 0 due))

pub is_due_where : (node : NodeInfo) (t : ℕ) → IsDue node.period node.offset t → is_due node t ≡ true
is_due_where node t (later, due) = both_so _ _ (le-leb node.offset t later) (eq-eqb _ 0 due)

-- an external node is the safe node of no module
none_safe : (p : Tables) (n : ℕ) (node : NodeInfo) → MeetsTableRules p → At p.nodes n node → node.body ≡ None → IsSafeNode p.modules n → ⊥
none_safe p n node rules at none (m, a, is, same) = from (rules.typed.sc_is m a is)
  where
    from : (coded : NodeInfo) × (acts : List Act) × At p.nodes a.sc coded × IsCoded coded acts → ⊥
    from (coded, acts, there, (v, body, items)) =
        let one : coded ≡ node = at_same p.nodes n coded node (subst (λ k. At p.nodes k coded) same there) at in
        none-some v (sym none ∙ ap (λ (x : NodeInfo). x.body) (sym one) ∙ body)

module _ (p : Tables) (n : ℕ) (node : NodeInfo) (rules : MeetsTableRules p) (at : At p.nodes n node) (none : node.body ≡ None) where
  -- what is left where safe nodes are asked or not
  asked_or_not : (moved after : Guarding) (outside : Option Outside) → after.accepted.program ≡ p
      → MatchOption outside (after ≡ moved) (λ o. AsksSafeNodes moved after) → (is_left after.at n ≡ true) ↔ (is_left moved.at n ≡ true)
  asked_or_not moved after None program same =
      let left : is_left after.at n ≡ is_left moved.at n = ap (λ (g : Guarding). is_left g.at n) same in
      (λ l. sym left ∙ l, λ l. left ∙ l)
  asked_or_not moved after (Some o) program asks =
      let same : moved.accepted.program ≡ p = sym (ap (λ (g : Guarding). g.accepted.program) asks.rest) ∙ program in
      let safe : IsSafeNode moved.accepted.program.modules n → ⊥ = λ s. none_safe p n node rules at none (subst (λ (q : Tables). IsSafeNode q.modules n) same s) in (
        λ l. elim ((asks.left n).0 l) [
          | inl was ↦ was
          | inr s ↦ absurd (safe s)
        ],
        λ l. (asks.left n).1 (inl l),
      )

-- what `ready` named is left behind the tick, and no other external node is
pub ready_heard : (h k u : Hearing) (points : List (List ℤ)) (outside : Option Outside) → MeetsTableRules (program_of h) → GoesThrough h k
    → TakesTick k points outside u → (n : ℕ) (node : NodeInfo) → At (program_of h).nodes n node → node.body ≡ None
    → (is_left u.guarding.at n ≡ true) ↔ (is_due node (suc h.guarding.at.time) ≡ true)
ready_heard h k u points outside rules goes takes n node at none =
    let program : program_of k ≡ program_of h = ap (λ (a : Admitted). a.program) goes.accepted in
    let after : u.guarding.accepted.program ≡ program_of h = ap (λ (a : Admitted). a.program) takes.accepted ∙ program in
    let there = subst (λ (p : Tables). At p.nodes n node) (sym program) at in
    let time : takes.moved.at.time ≡ suc h.guarding.at.time = takes.moves.time ∙ ap suc goes.time in
    let was : is_left k.guarding.at n ≡ false = goes.settled.nodes n node at in
    let asked = asked_or_not (program_of h) n node rules at none takes.moved u.guarding outside after takes.asked in
    let left = takes.moves.left n node there in (
      λ l. elim (left.0 (asked.0 l)) [
        | inl old ↦ absurd (true_false _ old was)
        | inr due ↦ is_due_where node _ (subst (IsDue node.period node.offset) time due)
      ],
      λ is. asked.1 (left.1 (inr (subst (IsDue node.period node.offset) (sym time) (due_is node _ is)))),
    )

-- at the opening what is due is left
pub begins_heard : (p : Tables) (t : ℕ) (starts : List (List ℤ)) (C : Configuration) → IsOpeningAt p t starts C → (n : ℕ) (node : NodeInfo)
    → At p.nodes n node → (is_left C n ≡ true) ↔ (is_due node C.time ≡ true)
begins_heard p t starts C opening n node at =
    let left = opening.left n node at in (
      λ l. is_due_where node _ (subst (IsDue node.period node.offset) (sym opening.time_is) (left.0 l)),
      λ is. left.1 (subst (IsDue node.period node.offset) opening.time_is (due_is node _ is)),
    )
