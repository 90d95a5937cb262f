-- A hold leads one step down the stairs.
use Rattle.std.proofs.Common.{◌≡◌, ℕ, zero, suc, ◌≤◌, ℤ, pos, negsuc, inl, ⊎_elim, List, [], ◌∷◌, Ok, Some, Option, refl, sym, ap, ◌∙◌, subst}
use Rattle.std.proofs.Common.{arith}
use Rattle.std.proofs.lemmas.Int.{ints}
use Rattle.std.proofs.lemmas.Option.{same_Some, none-some}
use Rattle.std.specs.Global.{Global}
use Rattle.sot_lists.specs.Places.{At, Has}
use Rattle.sot_lists.proofs.ShortLists.{at_one}
use Rattle.sot_box.specs.Boxes.{IsWithin}
use Rattle.sot_box.specs.Regions.{IsInRegion}
use Rattle.sot_lang.specs.declared.tables.Slot.TheVariants.{State}
use Rattle.sot_lang.specs.Bodies.{Fired, execution}
use Rattle.sot_lang.specs.Values.{Outcome}
use Rattle.sot_lang.specs.Ticks.{next_state, joined}
use Rattle.sot_lang.specs.Reach.{TicksTo}
use Rattle.sot_lang.specs.Ranges.{input_ranges}
use Rattle.sot_tube.specs.WellFormed.{FiresTo, Agrees}
use Rattle.sot_law_runs.specs.Holds.{IsHold, AreHolds, IsRecovered, last_of, start_at}
use Rattle.sot_law_runs.specs.Spring.{spring_module, lets_go, let_go_acts}
use Rattle.sot_law_recovery.specs.Stairs.{stairs, stairs_plant, stairs_parts}

-- the step below
abbrev pub below : ℕ → ℕ
below zero = zero
below (suc n) = n

ok_fired : (a b : Fired) → ◌≡◌ {A = Outcome Fired} (Ok a) (Ok b) → a ≡ b
ok_fired a b e = cc

ok_point : (a b : List ℤ) → ◌≡◌ {A = Outcome (List ℤ)} (Ok a) (Ok b) → a ≡ b
ok_point a b e = cc

module _ (g : Global) where
  -- whatever the safe node reads, it drafts 0
  drafts_0 : (scalars : List ℤ) (points : List (List ℤ)) (locals : List ℤ) (fired : Fired)
      → FiresTo (stairs g) (lets_go g) (let_go_acts g) scalars points locals fired → fired.draft ≡ Some (pos 0) ∷ []
  unfolding execution
  drafts_0 scalars points locals fired e = ap (λ f. f.draft) (sym (ok_fired (record { locals = locals; draft = Some (pos 0) ∷ [] }) fired e))

  -- so the command is 0
  command_0 : (draft : List (Option ℤ)) (c : List ℤ) → draft ≡ Some (pos 0) ∷ [] → IsWithin (input_ranges (stairs g) (stairs_plant g)) c
      → Agrees (stairs_plant g) (lets_go g) draft c → c ≡ pos 0 ∷ []
  command_0 draft [] is w agrees = absurd w
  command_0 draft (z ∷ []) is w agrees =
      let at : At draft 0 (Some (pos 0)) = subst (λ d. At d 0 (Some (pos 0))) (sym is) refl in
      let same : z ≡ pos 0 = same_Some z (pos 0) (agrees 0 0 0 (pos 0) refl refl at) in
      ap (λ x. x ∷ []) same
  command_0 draft (z ∷ y ∷ ys) is w agrees = absurd w.2

  -- a tick from 2 comes to 1, and one from 1 or 0 to 0
  next_down : (n : ℕ) (seen w : List ℤ) → n ≤ 2 → next_state (stairs_plant g) (pos n ∷ []) (pos 0 ∷ []) seen w ≡ Ok (pos (below n) ∷ [])
  unfolding next_state
  next_down zero seen w le = refl
  next_down (suc zero) seen w le = refl
  next_down (suc (suc zero)) seen w le = refl
  next_down (suc (suc (suc n))) seen w le = absurd (omega (arith, le))

  tick_down : (n : ℕ) (c t : List ℤ) → n ≤ 2 → c ≡ pos 0 ∷ [] → TicksTo (stairs g) (stairs_plant g) (λ d. d ≡ c) (pos n ∷ []) (Ok t)
      → t ≡ pos (below n) ∷ []
  tick_down n c t le c_is k =
      ok_point t (pos (below n) ∷ [])
      (k.is ∙ ap (λ d. next_state (stairs_plant g) (pos n ∷ []) d (joined k.seen) k.w) (k.allowed ∙ c_is) ∙ next_down n (joined k.seen) k.w le)

  -- a hold has one tick
  hold_down : (n : ℕ) (path : List (List ℤ)) → n ≤ 2 → IsHold (stairs_parts g) (pos n ∷ []) path → path ≡ (pos (below n) ∷ []) ∷ []
  hold_down n [] le h = absurd (omega (arith, h.least))
  hold_down n (t ∷ []) le h =
      let c_is = command_0 h.fired.draft h.c (drafts_0 h.scalars h.points h.locals h.fired h.fires) h.types h.agrees in
      ap (λ u. u ∷ []) (tick_down n h.c t le c_is h.ticks.0)
  hold_down n (t ∷ u ∷ path) le h = absurd (omega (arith, h.most))

  below_le : (n k : ℕ) → n ≤ suc k → below n ≤ k
  below_le zero k le = omega arith
  below_le (suc n) k le = omega (arith, le)

  on_the_ground : (j : ℕ) (t : List ℤ) → At ((pos 0 ∷ []) ∷ (pos 0 ∷ []) ∷ []) j t → t ≡ pos 0 ∷ []
  on_the_ground zero t at = sym (same_Some (pos 0 ∷ []) t at)
  on_the_ground (suc zero) t at = sym (same_Some (pos 0 ∷ []) t at)
  on_the_ground (suc (suc j)) t at = absurd (none-some t at)

  -- after as many holds as there are steps each point is on the ground
  rows_down : (n : ℕ) (paths : List (List (List ℤ))) (i j : ℕ) (path : List (List ℤ)) (t : List ℤ) → n ≤ 2
      → AreHolds (stairs_parts g) (pos n ∷ []) paths → n ≤ i → At paths i path → At (start_at (stairs_parts g) (pos n ∷ []) paths i ∷ path) j t
      → t ≡ pos 0 ∷ []
  rows_down n [] i j path t le holds from at at_t = absurd (none-some path at)
  rows_down zero (first ∷ paths) zero j path t le holds from at at_t =
      let is : path ≡ (pos 0 ∷ []) ∷ [] = sym (same_Some first path at) ∙ hold_down zero first le holds.0 in
      on_the_ground j t (subst (λ q. At ((pos 0 ∷ []) ∷ q) j t) is at_t)
  rows_down (suc n) (first ∷ paths) zero j path t le holds from at at_t = absurd (omega (arith, from))
  rows_down n (first ∷ paths) (suc i) j path t le holds from at at_t =
      let last : last_of (stairs_parts g) (pos n ∷ []) first ≡ pos (below n) ∷ [] =
      ap (λ q. last_of (stairs_parts g) (pos n ∷ []) q) (hold_down n first le holds.0) in
      rows_down (below n) paths i j path t (below_le n 2 (omega (arith, le))) (subst (λ s. AreHolds (stairs_parts g) s paths) last holds.1)
      (below_le n i from) at (subst (λ s. At (start_at (stairs_parts g) s paths i ∷ path) j t) last at_t)

  in_safer : (t : List ℤ) → t ≡ pos 0 ∷ [] → IsInRegion (spring_module g).safer.boxes t
  in_safer t is = subst (IsInRegion (spring_module g).safer.boxes) (sym is) (inl (omega (arith, ints), omega (arith, ints), tt))

  pub recovered : IsRecovered (stairs_parts g) 2
  recovered [] paths i j path t safe holds le at at_t = ⊎_elim (λ w. absurd w) (λ no'. absurd no') safe
  recovered (pos n ∷ []) paths i j path t safe holds le at at_t =
      let most : n ≤ 2 = ⊎_elim (λ w. omega (arith, ints, w.1)) (λ no'. absurd no') safe in
      in_safer t (rows_down n paths i j path t most holds (omega (arith, most, le)) at at_t)
  recovered (negsuc n ∷ []) paths i j path t safe holds le at at_t = ⊎_elim (λ w. absurd (omega (arith, ints, w.0))) (λ no'. absurd no') safe
  recovered (x ∷ y ∷ s) paths i j path t safe holds le at at_t = ⊎_elim (λ w. absurd w.2) (λ no'. absurd no') safe

  -- there is such a hold from each step
  hold_from : (n : ℕ) → n ≤ 2 → IsHold (stairs_parts g) (pos n ∷ []) ((pos (below n) ∷ []) ∷ [])
  unfolding execution
  hold_from n le = record {
    scalars = pos 0 ∷ [];
    points = (pos n ∷ []) ∷ [];
    locals = [];
    fired = record { locals = []; draft = Some (pos 0) ∷ [] };
    c = pos 0 ∷ [];
    reads = record {
      here = refl;
      scalars_in = (omega (arith, ints), omega (arith, ints), tt);
      others_in = λ k v has ne. absurd (ne (other k v has));
      locals_in = tt;
    };
    fires = refl;
    types = (omega (arith, ints), omega (arith, ints), tt);
    agrees = at_0;
    ticks = (record { c = pos 0 ∷ []; seen = []; w = []; allowed = refl; safe = tt; bounded = tt; is = sym (next_down n [] [] le) }, tt);
    least = omega arith;
    most = omega arith;
  }
    where
      slot : (a b c d : ℕ) → State a b ≡ State c d → a ≡ c
      slot a b c d e = cc

      other : (k v : ℕ) → Has (State 0 0 ∷ []) (State k v) → k ≡ 0
      other k v has = (let e : State 0 0 ≡ State k v = at_one (λ i s. State 0 0 ≡ s) (State 0 0) refl has.0 (State k v) has.1 in sym (slot 0 0 k v e))

      at_0 : Agrees (stairs_plant g) (lets_go g) (Some (pos 0) ∷ []) (pos 0 ∷ [])
      at_0 zero zero k z in_writes in_inputs drafted = ap Some (same_Some (pos 0) z (same_Some (Some (pos 0)) (Some z) drafted))
      at_0 (suc i) j k z in_writes in_inputs drafted = absurd (none-some k in_writes)
      at_0 zero (suc j) k z in_writes in_inputs drafted = absurd (none-some k in_inputs)

  -- two holds in a row from 2: the second one starts at 1
  pub not_after_one : IsRecovered (stairs_parts g) 1 → ⊥
  not_after_one within =
      let safer : IsInRegion (spring_module g).safer.boxes (pos 1 ∷ []) = within (pos 2 ∷ []) (((pos 1 ∷ []) ∷ []) ∷ ((pos 0 ∷ []) ∷ []) ∷ []) 1 0
      ((pos 0 ∷ []) ∷ []) (pos 1 ∷ []) (inl (omega (arith, ints), omega (arith, ints), tt)) (hold_from 2 (omega arith), (hold_from 1 (omega arith), tt))
      (omega arith) refl refl in
      ⊎_elim (λ w. absurd (omega (arith, ints, w.1))) (λ no'. no') safer
