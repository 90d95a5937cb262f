-- Firings and decisions are counted by due times.
use Rattle.std.proofs.Common.{◌≡◌, ◌≢◌, ℕ, zero, suc, ◌+◌, ◌<◌, Bool, true, false, ◌⊎◌, ◌↔◌, inl, inr, ⊎_elim, List, [], ◌∷◌, take, refl, sym, ap, ◌∙◌, subst}
use Rattle.std.proofs.Common.{arith}
use Rattle.std.specs.Prelude.{slice_index_or, slice_set, ◌==◌}
use Rattle.std.proofs.lemmas.Bool.{cases_eq, false≢true, eq-eqb, ne_eqb}
use Rattle.std.proofs.lemmas.Option.{same_Some}
use Rattle.sot_lists.specs.Places.{At}
use Rattle.sot_lang.specs.declared.tables.NodeInfo.{NodeInfo}
use Rattle.sot_lang.specs.declared.tables.ModuleInfo.{ModuleInfo}
use Rattle.sot_lang.specs.Tables.{Tables}
use Rattle.sot_calendar.specs.Due.{IsDue, IsLastDue, IsStillDue, IsDueCount}
use Rattle.sot_calendar.proofs.Clock.{due_gap, last_now, still_due_tick}
use Rattle.sot_world.specs.Configurations.{Configuration, is_left, is_left_dm, IsOpening}
use Rattle.sot_world.specs.Steps.{Event, Input, Code, Guest, Decide, Tick, Step}
use Rattle.sot_world.specs.Runs.{Run}
use Rattle.sot_world.proofs.Modes.{left_same, left_none}
use Rattle.sot_law_runs.specs.Firings.{is_firing, is_decision, count_of, one_if, FiringsAreDueTimes}

-- at time t there have been as many due times as the count says, and one more where it is left; what is left is not yet late
record Owed (jitter period offset t count : ℕ) (left : Bool) : Type 0 where
  pub times : IsDueCount period offset t (count + one_if left)
  pub due : left ≡ true → IsStillDue jitter period offset t

owed_along : (j p o s t c d : ℕ) (a b : Bool) → s ≡ t → c ≡ d → a ≡ b → Owed j p o s c a → Owed j p o t d b
owed_along j p o s t c d a b times counts flags h =
    subst (λ x. Owed j p o t d x) flags (subst (λ x. Owed j p o t x a) counts (subst (λ x. Owed j p o x c a) times h))

-- at the opening
owed_first : (j p o : ℕ) (left : Bool) → (left ≡ true) ↔ IsDue p o 0 → Owed j p o 0 0 left
owed_first j p o true is = record { times = inl (is.0 refl, refl); due = λ e. (0, last_now p o 0 (is.0 refl), omega arith) }
owed_first j p o false is = record { times = inr ((λ due. false≢true (is.1 due)), refl); due = λ e. absurd (false≢true e) }

-- a firing takes the flag back
owed_fired : (j p o t c : ℕ) → Owed j p o t c true → Owed j p o t (suc c) false
owed_fired j p o t c h = record { times = (let e : c + 1 ≡ suc c + 0 = omega arith in subst (IsDueCount p o t) e h.times); due = λ e. absurd (false≢true e) }

tick_times : (p o t c : ℕ) (a b : Bool) → (a ≡ true → IsDue p o (suc t) → ⊥) → ((b ≡ true) ↔ ((a ≡ true) ⊎ IsDue p o (suc t))) → IsDueCount p o t (c + one_if a)
    → IsDueCount p o (suc t) (c + one_if b)
tick_times p o t c true true not_again sets h = (c + 1, h, inr (not_again refl, refl))
tick_times p o t c true false not_again sets h = absurd (false≢true (sets.1 (inl refl)))
tick_times p o t c false true not_again sets h =
    ⊎_elim (λ e. absurd (false≢true e)) (λ due. (let e : c + 1 ≡ suc (c + 0) = omega arith in (c + 0, h, inl (due, e)))) (sets.0 refl)
tick_times p o t c false false not_again sets h = (c + 0, h, inr ((λ due. false≢true (sets.1 (inr due))), refl))

-- a tick: what is left is not due again, since its deadline comes first
owed_tick : (j p o t c : ℕ) (a b : Bool) → o < p → j < p → ((d : ℕ) → a ≡ true → IsLastDue p o t d → d + j ≢ t)
    → ((b ≡ true) ↔ ((a ≡ true) ⊎ IsDue p o (suc t))) → Owed j p o t c a → Owed j p o (suc t) c b
owed_tick j p o t c a b begins short may sets h =
    record { times = tick_times p o t c a b not_again sets h.times; due = still_due_tick j a b p o t h.due may sets }
  where
    not_again : a ≡ true → IsDue p o (suc t) → ⊥
    not_again left due =
        let still = h.due left in
        let not_now = may still.0 left still.1 in
        let gap = due_gap p o still.0 (suc t) begins still.1.due due (omega (arith, still.1.past)) in
        omega (arith, gap, not_now, still.2, short)

-- what fires or is decided has its flag taken back, and no other
taken_back : (j p o t c n k : ℕ) (flags after : List Bool) → slice_index_or flags k false ≡ true → after ≡ slice_set flags k false
    → Owed j p o t c (slice_index_or flags n false) → Owed j p o t (c + one_if (k == n)) (slice_index_or after n false)
taken_back j p o t c n k flags after was is h =
    ⊎_elim
    (λ (same : k ≡ n).
    let set : slice_index_or flags n false ≡ true = subst (λ i. slice_index_or flags i false ≡ true) same was in
    let gone : false ≡ slice_index_or after n false = sym (ap (λ xs. slice_index_or xs n false) is
    ∙ ap (λ i. slice_index_or (slice_set flags i false) n false) same ∙ left_none flags n) in
    let one : suc c ≡ c + one_if (k == n) = (let e : c + 1 ≡ suc c = omega arith in sym (ap (λ b. c + one_if b) (eq-eqb k n same) ∙ e)) in
    owed_along j p o t t (suc c) (c + one_if (k == n)) false (slice_index_or after n false) refl one gone (owed_fired j p o t c (subst (Owed j p o t c) set h)))
    (λ (other : k ≡ n → ⊥).
    let stays : slice_index_or flags n false ≡ slice_index_or after n false =
    sym (ap (λ xs. slice_index_or xs n false) is ∙ left_same flags k n (λ e. other (sym e))) in
    let none : c ≡ c + one_if (k == n) = (let e : c + 0 ≡ c = omega arith in sym (ap (λ b. c + one_if b) (ne_eqb k n other) ∙ e)) in
    owed_along j p o t t c (c + one_if (k == n)) (slice_index_or flags n false) (slice_index_or after n false) refl none stays h)
    (cases_eq k n)

pub one_more : (is : Event → Bool) (e : Event) (es : List Event) → count_of is (e ∷ es) ≡ one_if (is e) + count_of is es
one_more is e es = by_flag (is e) refl
  where
    by_flag : (b : Bool) → is e ≡ b → count_of is (e ∷ es) ≡ one_if (is e) + count_of is es
    by_flag true eq = rw eq (omega arith)
    by_flag false eq = rw eq (omega arith)

module _ (p : Tables) (j : ℕ) where
  module _ (n : ℕ) (node : NodeInfo) (at : At p.nodes n node) (begins : node.offset < node.period) (short : j < node.period) where
    OwedNode : ℕ → Configuration → Type 0
    OwedNode c C = Owed j node.period node.offset C.time c (is_left C n)

    node_stays : (C D : Configuration) (c : ℕ) → D.time ≡ C.time → D.left ≡ C.left → OwedNode c C → OwedNode (c + 0) D
    unfolding OwedNode
    node_stays C D c time left h =
        (let e : c ≡ c + 0 = omega arith in owed_along j node.period node.offset C.time D.time c (c + 0) _ _ (sym time) e
        (ap (λ xs. slice_index_or xs n false) (sym left)) h)

    node_step : (C D : Configuration) (e : Event) (c : ℕ) → Step p j C e D → OwedNode c C → OwedNode (c + one_if (is_firing n e)) D
    unfolding OwedNode
    node_step C D (Input topic value) c s h = node_stays C D c (ap (λ (x : Configuration). x.time) s.rest) (ap (λ (x : Configuration). x.left) s.rest) h
    node_step C D (Code k) c s h =
        subst (λ t. Owed j node.period node.offset t (c + one_if (k == n)) (is_left D n)) (sym s.fires.time)
        (taken_back j node.period node.offset C.time c n k C.left D.left s.fires.was_left s.fires.left h)
    node_step C D (Guest k draft) c s h =
        subst (λ t. Owed j node.period node.offset t (c + one_if (k == n)) (is_left D n)) (sym s.fires.time)
        (taken_back j node.period node.offset C.time c n k C.left D.left s.fires.was_left s.fires.left h)
    node_step C D (Decide m) c s h = node_stays C D c (ap (λ (x : Configuration). x.time) s.rest) (ap (λ (x : Configuration). x.left) s.rest) h
    node_step C D (Tick noise) c s h =
        let e : c ≡ c + 0 = omega arith in
        let sets = subst (λ t. (is_left D n ≡ true) ↔ ((is_left C n ≡ true) ⊎ IsDue node.period node.offset t)) s.time (s.left n node at) in
        owed_along j node.period node.offset (suc C.time) D.time c (c + 0) _ _ (sym s.time) e refl
        (owed_tick j node.period node.offset C.time c (is_left C n) (is_left D n) begins short (λ d left last. s.may.nodes n node d at left last) sets h)

    node_run : (C : Configuration) (c : ℕ) (events : List Event) (Ds : List Configuration) (i : ℕ) (D : Configuration) → OwedNode c C → Run p j C events Ds
        → At (C ∷ Ds) i D → OwedNode (c + count_of (is_firing n) (take i events)) D
    node_run C c events Ds zero D h run at_i = (let e : c ≡ c + 0 = omega arith in subst (λ k. OwedNode k D) e (subst (OwedNode c) (same_Some C D at_i) h))
    node_run C c [] [] (suc i) D h run at_i = absurd cc
    node_run C c (e ∷ es) (E ∷ Ds) (suc i) D h run at_i =
        let more : (c + one_if (is_firing n e)) + count_of (is_firing n) (take i es) ≡ c + count_of (is_firing n) (e ∷ take i es) =
        omega (arith, one_more (is_firing n) e (take i es)) in
        subst (λ k. OwedNode k D) more (node_run E (c + one_if (is_firing n e)) es Ds i D (node_step C E e c run.0 h) run.1 at_i)
    node_run C c [] (E ∷ Ds) i D h run at_i = absurd run
    node_run C c (e ∷ es) [] i D h run at_i = absurd run

    pub node_counted : (start : List _) (C : Configuration) (events : List Event) (Ds : List Configuration) (i : ℕ) (D : Configuration) → IsOpening p start C
        → Run p j C events Ds → At (C ∷ Ds) i D → IsDueCount node.period node.offset D.time (count_of (is_firing n) (take i events) + one_if (is_left D n))
    unfolding OwedNode
    node_counted start C events Ds i D o run at_i =
        let first : OwedNode 0 C = subst (λ t. Owed j node.period node.offset t 0 (is_left C n)) (sym o.time)
        (owed_first j node.period node.offset (is_left C n) (o.left n node at)) in
        let h = node_run C 0 events Ds i D first run at_i in
        let e : 0 + count_of (is_firing n) (take i events) + one_if (is_left D n) ≡ count_of (is_firing n) (take i events) + one_if (is_left D n) =
        omega arith in
        subst (IsDueCount node.period node.offset D.time) e h.times

  module _ (m : ℕ) (a : ModuleInfo) (at : At p.modules m a) (begins : a.offset < a.period) (short : j < a.period) where
    OwedDecision : ℕ → Configuration → Type 0
    OwedDecision c C = Owed j a.period a.offset C.time c (is_left_dm C m)

    decision_stays : (C D : Configuration) (c : ℕ) → D.time ≡ C.time → D.left_dm ≡ C.left_dm → OwedDecision c C → OwedDecision (c + 0) D
    unfolding OwedDecision
    decision_stays C D c time left h =
        (let e : c ≡ c + 0 = omega arith in owed_along j a.period a.offset C.time D.time c (c + 0) _ _ (sym time) e
        (ap (λ xs. slice_index_or xs m false) (sym left)) h)

    decision_step : (C D : Configuration) (e : Event) (c : ℕ) → Step p j C e D → OwedDecision c C → OwedDecision (c + one_if (is_decision m e)) D
    unfolding OwedDecision
    decision_step C D (Input topic value) c s h =
        decision_stays C D c (ap (λ (x : Configuration). x.time) s.rest) (ap (λ (x : Configuration). x.left_dm) s.rest) h
    decision_step C D (Code k) c s h = decision_stays C D c s.fires.time s.fires.left_dm h
    decision_step C D (Guest k draft) c s h = decision_stays C D c s.fires.time s.fires.left_dm h
    decision_step C D (Decide k) c s h =
        subst (λ t. Owed j a.period a.offset t (c + one_if (k == m)) (is_left_dm D m)) (sym (ap (λ (x : Configuration). x.time) s.rest))
        (taken_back j a.period a.offset C.time c m k C.left_dm D.left_dm s.was_left s.left_dm h)
    decision_step C D (Tick noise) c s h =
        let e : c ≡ c + 0 = omega arith in
        let sets = subst (λ t. (is_left_dm D m ≡ true) ↔ ((is_left_dm C m ≡ true) ⊎ IsDue a.period a.offset t)) s.time (s.left_dm m a at) in
        owed_along j a.period a.offset (suc C.time) D.time c (c + 0) _ _ (sym s.time) e refl
        (owed_tick j a.period a.offset C.time c (is_left_dm C m) (is_left_dm D m) begins short (λ d left last. s.may.modules m a d at left last) sets h)

    decision_run : (C : Configuration) (c : ℕ) (events : List Event) (Ds : List Configuration) (i : ℕ) (D : Configuration) → OwedDecision c C
        → Run p j C events Ds → At (C ∷ Ds) i D → OwedDecision (c + count_of (is_decision m) (take i events)) D
    decision_run C c events Ds zero D h run at_i =
        (let e : c ≡ c + 0 = omega arith in subst (λ k. OwedDecision k D) e (subst (OwedDecision c) (same_Some C D at_i) h))
    decision_run C c [] [] (suc i) D h run at_i = absurd cc
    decision_run C c (e ∷ es) (E ∷ Ds) (suc i) D h run at_i =
        let more : (c + one_if (is_decision m e)) + count_of (is_decision m) (take i es) ≡ c + count_of (is_decision m) (e ∷ take i es) =
        omega (arith, one_more (is_decision m) e (take i es)) in
        subst (λ k. OwedDecision k D) more (decision_run E (c + one_if (is_decision m e)) es Ds i D (decision_step C E e c run.0 h) run.1 at_i)
    decision_run C c [] (E ∷ Ds) i D h run at_i = absurd run
    decision_run C c (e ∷ es) [] i D h run at_i = absurd run

    pub decision_counted : (start : List _) (C : Configuration) (events : List Event) (Ds : List Configuration) (i : ℕ) (D : Configuration)
        → IsOpening p start C → Run p j C events Ds → At (C ∷ Ds) i D
        → IsDueCount a.period a.offset D.time (count_of (is_decision m) (take i events) + one_if (is_left_dm D m))
    unfolding OwedDecision
    decision_counted start C events Ds i D o run at_i =
        let first : OwedDecision 0 C = subst (λ t. Owed j a.period a.offset t 0 (is_left_dm C m)) (sym o.time)
        (owed_first j a.period a.offset (is_left_dm C m) (o.left_dm m a at)) in
        let h = decision_run C 0 events Ds i D first run at_i in
        let e : 0 + count_of (is_decision m) (take i events) + one_if (is_left_dm D m) ≡ count_of (is_decision m) (take i events) + one_if (is_left_dm D m) =
        omega arith in
        subst (IsDueCount a.period a.offset D.time) e h.times

pub firings_are_due_times : FiringsAreDueTimes
firings_are_due_times p j start C events Ds i D o run at_i = (
  (λ n node at begins short. node_counted p j n node at begins short start C events Ds i D o run at_i),
  (λ m a at begins short. decision_counted p j m a at begins short start C events Ds i D o run at_i),
)
