-- The spring is at 0 after a hold, wherever it was pulled to.
use Rattle.std.proofs.Common.{◌≡◌, ℕ, zero, suc, ◌+◌, ◌≤◌, ℤ, pos, ◌⊎◌, inl, inr, ⊎_elim, List, [], ◌∷◌, ◌++◌, Ok, Some, Option, refl, sym, ap, ◌∙◌, subst}
use Rattle.std.proofs.Common.{length, arith}
use Rattle.std.proofs.lemmas.Int.{ints}
use Rattle.std.proofs.lemmas.Option.{same_Some, none-some}
use Rattle.std.specs.Global.{Global}
use Rattle.sot_lists.specs.Places.{At, Has}
use Rattle.sot_lists.proofs.ShortLists.{at_one}
use Rattle.sot_box.specs.Boxes.{IsWithin}
use Rattle.sot_box.specs.Regions.{IsInRegion}
use Rattle.sot_lang.specs.declared.tables.Slot.TheVariants.{State}
use Rattle.sot_lang.specs.Bodies.{Fired, execution}
use Rattle.sot_lang.specs.Values.{Outcome}
use Rattle.sot_lang.specs.Ticks.{next_state, joined}
use Rattle.sot_lang.specs.Reach.{TicksTo}
use Rattle.sot_lang.specs.Ranges.{input_ranges}
use Rattle.sot_tube.specs.WellFormed.{FiresTo, Agrees}
use Rattle.sot_world.specs.Steps.{Event, Code}
use Rattle.sot_law_runs.specs.Firings.{is_firing, count_of}
use Rattle.sot_law_runs.specs.Holds.{IsHold, IsHeldPath, AreHolds, IsRecovered, last_of, start_at}
use Rattle.sot_law_runs.specs.RunHolds.{HaveHolds, is_tick}
use Rattle.sot_law_runs.specs.Spring.{spring, spring_plant, lets_go, let_go_acts, spring_module, spring_parts, tick, letting_go}
use Rattle.sot_law_runs.proofs.Landing.{last_at}
use Rattle.sot_law_runs.proofs.Firings.{one_more}

ok_fired : (a b : Fired) → ◌≡◌ {A = Outcome Fired} (Ok a) (Ok b) → a ≡ b
ok_fired a b e = cc

ok_point : (a b : List ℤ) → ◌≡◌ {A = Outcome (List ℤ)} (Ok a) (Ok b) → a ≡ b
ok_point a b e = cc

module _ (g : Global) where
  -- whatever the safe node reads, it drafts 0
  drafts_0 : (scalars : List ℤ) (points : List (List ℤ)) (locals : List ℤ) (fired : Fired)
      → FiresTo (spring g) (lets_go g) (let_go_acts g) scalars points locals fired → fired.draft ≡ Some (pos 0) ∷ []
  unfolding execution
  drafts_0 scalars points locals fired e = ap (λ f. f.draft) (sym (ok_fired (record { locals = locals; draft = Some (pos 0) ∷ [] }) fired e))

  -- so the command is 0
  command_0 : (draft : List (Option ℤ)) (c : List ℤ) → draft ≡ Some (pos 0) ∷ [] → IsWithin (input_ranges (spring g) (spring_plant g)) c
      → Agrees (spring_plant g) (lets_go g) draft c → c ≡ pos 0 ∷ []
  command_0 draft [] is w agrees = absurd w
  command_0 draft (z ∷ []) is w agrees =
      let at : At draft 0 (Some (pos 0)) = subst (λ d. At d 0 (Some (pos 0))) (sym is) refl in
      let same : z ≡ pos 0 = same_Some z (pos 0) (agrees 0 0 0 (pos 0) refl refl at) in
      ap (λ x. x ∷ []) same
  command_0 draft (z ∷ y ∷ ys) is w agrees = absurd w.2

  -- and a tick comes to 0
  next_0 : (x : ℤ) (c seen w : List ℤ) → c ≡ pos 0 ∷ [] → next_state (spring_plant g) (x ∷ []) c seen w ≡ Ok (pos 0 ∷ [])
  unfolding next_state
  next_0 x c seen w c_is = rw c_is refl

  tick_0 : (x : ℤ) (c t : List ℤ) → c ≡ pos 0 ∷ [] → TicksTo (spring g) (spring_plant g) (λ d. d ≡ c) (x ∷ []) (Ok t) → t ≡ pos 0 ∷ []
  tick_0 x c t c_is k = ok_point t (pos 0 ∷ []) (k.is ∙ next_0 x k.c (joined k.seen) k.w (k.allowed ∙ c_is))

  -- so is each point of a path under it
  path_0 : (x : ℤ) (c : List ℤ) (path : List (List ℤ)) (j : ℕ) (t : List ℤ) → c ≡ pos 0 ∷ [] → IsHeldPath (spring_parts g) c (x ∷ []) path → At path j t
      → t ≡ pos 0 ∷ []
  path_0 x c [] j t c_is held at = absurd (none-some t at)
  path_0 x c (u ∷ path) zero t c_is held at = sym (same_Some u t at) ∙ tick_0 x c u c_is held.0
  path_0 x c (u ∷ path) (suc j) t c_is held at =
      path_0 (pos 0) c path j t c_is (subst (λ s. IsHeldPath (spring_parts g) c s path) (tick_0 x c u c_is held.0) held.1) at

  hold_0 : (x : ℤ) (path : List (List ℤ)) → IsHold (spring_parts g) (x ∷ []) path → (j : ℕ) (t : List ℤ) → At path j t → t ≡ pos 0 ∷ []
  hold_0 x path h j t at =
      path_0 x h.c path j t (command_0 h.fired.draft h.c (drafts_0 h.scalars h.points h.locals h.fired h.fires) h.types h.agrees) h.ticks at

  -- and the last one, as a hold has a tick
  last_0 : (x : ℤ) (path : List (List ℤ)) → IsHold (spring_parts g) (x ∷ []) path → last_of (spring_parts g) (x ∷ []) path ≡ pos 0 ∷ []
  last_0 x [] h = absurd (omega (arith, h.least))
  last_0 x (u ∷ path) h =
      hold_0 x (u ∷ path) h (length path) (last_of (spring_parts g) u path) (last_at (spring_parts g) u path)

  rows_0 : (x : ℤ) (paths : List (List (List ℤ))) (i j : ℕ) (path : List (List ℤ)) (t : List ℤ) → AreHolds (spring_parts g) (x ∷ []) paths
      → (1 ≤ i) ⊎ (x ≡ pos 0) → At paths i path → At (start_at (spring_parts g) (x ∷ []) paths i ∷ path) j t → t ≡ pos 0 ∷ []
  rows_0 x [] i j path t holds from at at_t = absurd (none-some path at)
  rows_0 x (first ∷ paths) zero j path t holds (inl h) at at_t = absurd (omega (arith, h))
  rows_0 x (first ∷ paths) zero zero path t holds (inr x_is) at at_t = sym (same_Some (x ∷ []) t at_t) ∙ ap (λ z. z ∷ []) x_is
  rows_0 x (first ∷ paths) zero (suc j) path t holds (inr x_is) at at_t =
      hold_0 x first holds.0 j t (subst (λ q. At q j t) (sym (same_Some first path at)) at_t)
  rows_0 x (first ∷ paths) (suc i) j path t holds from at at_t =
      let last = last_0 x first holds.0 in
      rows_0 (pos 0) paths i j path t (subst (λ s. AreHolds (spring_parts g) s paths) last holds.1) (inr refl) at
      (subst (λ s. At (start_at (spring_parts g) s paths i ∷ path) j t) last at_t)

  in_safer : (t : List ℤ) → t ≡ pos 0 ∷ [] → IsInRegion (spring_module g).safer.boxes t
  in_safer t is = subst (IsInRegion (spring_module g).safer.boxes) (sym is) (inl (omega (arith, ints), omega (arith, ints), tt))

  pub recovered : IsRecovered (spring_parts g) 1
  recovered [] paths i j path t safe holds le at at_t = ⊎_elim (λ w. absurd w) (λ no'. absurd no') safe
  recovered (x ∷ []) paths i j path t safe holds le at at_t = in_safer t (rows_0 x paths i j path t holds (inl le) at at_t)
  recovered (x ∷ y ∷ s) paths i j path t safe holds le at at_t = ⊎_elim (λ w. absurd w.2) (λ no'. absurd no') safe

  -- from 2 a hold starts outside the safer region
  from_2 : IsHold (spring_parts g) (pos 2 ∷ []) ((pos 0 ∷ []) ∷ [])
  unfolding execution next_state
  from_2 = record {
    scalars = pos 0 ∷ [];
    points = (pos 2 ∷ []) ∷ [];
    locals = [];
    fired = record { locals = []; draft = Some (pos 0) ∷ [] };
    c = pos 0 ∷ [];
    reads = record {
      here = refl;
      scalars_in = (omega (arith, ints), omega (arith, ints), tt);
      others_in = λ k v has ne. absurd (ne (other k v has));
      locals_in = tt;
    };
    fires = refl;
    types = (omega (arith, ints), omega (arith, ints), tt);
    agrees = at_0;
    ticks = (record { c = pos 0 ∷ []; seen = []; w = []; allowed = refl; safe = tt; bounded = tt; is = refl }, tt);
    least = omega arith;
    most = omega arith;
  }
    where
      slot : (a b c d : ℕ) → State a b ≡ State c d → a ≡ c
      slot a b c d e = cc

      other : (k v : ℕ) → Has (State 0 0 ∷ []) (State k v) → k ≡ 0
      other k v has = (let e : State 0 0 ≡ State k v = at_one (λ i s. State 0 0 ≡ s) (State 0 0) refl has.0 (State k v) has.1 in sym (slot 0 0 k v e))

      at_0 : Agrees (spring_plant g) (lets_go g) (Some (pos 0) ∷ []) (pos 0 ∷ [])
      at_0 zero zero k z in_writes in_inputs drafted = ap Some (same_Some (pos 0) z (same_Some (Some (pos 0)) (Some z) drafted))
      at_0 (suc i) j k z in_writes in_inputs drafted = absurd (none-some k in_writes)
      at_0 zero (suc j) k z in_writes in_inputs drafted = absurd (none-some k in_inputs)

  pub not_recovered_at_once : IsRecovered (spring_parts g) 0 → ⊥
  not_recovered_at_once within =
      let safer : IsInRegion (spring_module g).safer.boxes (pos 2 ∷ []) = within (pos 2 ∷ []) (((pos 0 ∷ []) ∷ []) ∷ []) 0 0 ((pos 0 ∷ []) ∷ []) (pos 2 ∷ [])
      (inl (omega (arith, ints), omega (arith, ints), tt)) (from_2, tt) (omega arith) refl refl in
      ⊎_elim (λ w. absurd (omega (arith, ints, w.1))) (λ no'. no') safer

  -- whole holds in stretches
  pub two_firings : HaveHolds (spring_parts g) 1 (Code 1 ∷ Code 1 ∷ [])
  two_firings = inl (omega arith)

  pub a_tick_after : HaveHolds (spring_parts g) 1 (letting_go ++ tick ∷ [])
  a_tick_after = inr (record { before = letting_go; present = tick ∷ []; are = refl; fired = omega arith; long = omega arith })

  pub no_tick_after : HaveHolds (spring_parts g) 1 letting_go → ⊥
  no_tick_after (inl h) = omega (arith, h)
  no_tick_after (inr h) = short h.before h.present h.are h.fired h.long
    where
      head_same : (e b : Event) (es bs : List Event) → e ∷ es ≡ b ∷ bs → e ≡ b
      head_same e b es bs is = cc

      tail_same : (e b : Event) (es bs : List Event) → e ∷ es ≡ b ∷ bs → es ≡ bs
      tail_same e b es bs is = cc

      short : (before present : List Event) → letting_go ≡ before ++ present → 1 ≤ count_of (is_firing 1) before → 1 ≤ count_of is_tick present + 0 → ⊥
      short [] present are fired long = omega (arith, fired)
      short (a ∷ []) present are fired long =
          let e : tick ≡ a = head_same tick a (Code 1 ∷ []) present are in
          let none : 1 ≤ count_of (is_firing 1) (tick ∷ []) = subst (λ x. 1 ≤ count_of (is_firing 1) (x ∷ [])) (sym e) fired in
          omega (arith, none)
      short (a ∷ b ∷ []) present are fired long =
          let e : [] ≡ present = tail_same (Code 1) b [] present (tail_same tick a (Code 1 ∷ []) (b ∷ present) are) in
          let none : 1 ≤ count_of is_tick [] + 0 = subst (λ es. 1 ≤ count_of is_tick es + 0) (sym e) long in
          omega (arith, none)
      short (a ∷ b ∷ d ∷ before) present are fired long =
          let e = tail_same (Code 1) b [] (d ∷ (before ++ present)) (tail_same tick a (Code 1 ∷ []) (b ∷ d ∷ (before ++ present)) are) in
          cc

  pub one_firing_is_one : HaveHolds (spring_parts g) 2 (letting_go ++ tick ∷ []) → ⊥
  one_firing_is_one (inl h) = omega (arith, h)
  one_firing_is_one (inr h) =
      let all : 2 ≤ count_of (is_firing 1) (letting_go ++ tick ∷ []) = subst (λ es. 2 ≤ count_of (is_firing 1) es) (sym h.are)
      (more h.before h.present 2 h.fired) in
      omega (arith, all)
    where
      more : (before present : List Event) → (n : ℕ) → n ≤ count_of (is_firing 1) before → n ≤ count_of (is_firing 1) (before ++ present)
      more [] present n le = omega (arith, le)
      more (e ∷ before) present n le =
          let one = one_more (is_firing 1) e before in
          let all = one_more (is_firing 1) e (before ++ present) in
          let rest = more before present (count_of (is_firing 1) before) (omega arith) in
          omega (arith, le, one, all, rest)
