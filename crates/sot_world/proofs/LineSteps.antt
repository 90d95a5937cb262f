-- One step of each kind on the running example.
use Rattle.std.proofs.Common.{◌≡◌, ℕ, ℤ, pos, negsuc, ◌⊎◌, ⊎_elim, ◌↔◌, true, false, inl, inr, refl, sym, ap, ◌∙◌, Ok, Some, None, List, [], ◌∷◌, length, arith}
use Rattle.std.specs.Prelude.{slice_index_or}
use Rattle.std.proofs.lemmas.Option.{same_Some, none-some}
use Rattle.std.proofs.lemmas.Bool.{false≢true}
use Rattle.std.proofs.lemmas.Int.{ints}
use Rattle.std.specs.Global.{Global}
use Rattle.sot_lang.specs.Line.{line, fast, slow, nav, pos_plant, slow_acts}
use Rattle.sot_lang.specs.Bodies.{execution}
use Rattle.sot_lang.specs.Ticks.{next_state, joined}
use Rattle.sot_lang.specs.Ranges.{bounds}
use Rattle.sot_box.specs.Boxes.{IsWithin}
use Rattle.sot_box.specs.Regions.{IsInRegion}
use Rattle.sot_lists.proofs.ShortLists.{at_one, at_two}
use Rattle.sot_calendar.specs.Due.{IsDue}
use Rattle.sot_calendar.proofs.Clock.{last_now}
use Rattle.sot_world.specs.Configurations.{Configuration, IsOpening, IsSafer, is_left, is_left_dm, point_of, commands, seen_points}
use Rattle.sot_world.specs.Steps.{Step, MayTick, Code, Guest, Decide, Tick}
use Rattle.sot_world.specs.Outcomes.{Records, NodeFired}
use Rattle.sot_world.specs.Examples.{at_opening, decided, refused, drafted, settled, ticked, second, braking, counting, counter, count_acts, idle_counter}

-- nothing becomes what it is not
no_one : ◌≡◌ {A = ℕ} 1 0 → ⊥
no_one e = omega (arith, e)

module _ (g : Global) where
  pub opens : IsOpening (line g) ((pos 0 ∷ []) ∷ []) at_opening
  opens = record {
    time = refl;
    left =
        at_two (λ n node. (is_left at_opening n ≡ true) ↔ IsDue node.period node.offset 0) (fast g) (slow g) ((λ e. (omega arith, refl)), (λ d. refl))
        ((λ e. (omega arith, refl)), (λ d. refl));
    left_dm = at_one (λ m a. (is_left_dm at_opening m ≡ true) ↔ IsDue a.period a.offset 0) (nav g) ((λ e. (omega arith, refl)), (λ d. refl));
    modes = refl;
    scalars = refl;
    locals = refl;
    points = refl;
    sizes = record { left = refl; left_dm = refl; modes = refl; scalars = refl; locals = refl; points = refl };
    widths = at_one (λ k plant. length (point_of at_opening k) ≡ length plant.states.items) (pos_plant g) refl;
  }

  pub safer : IsSafer (line g) at_opening
  safer = at_one (λ m a. IsInRegion a.safer.boxes (point_of at_opening a.plant)) (nav g) (inl (omega (arith, ints), omega (arith, ints), tt))

  pub one_point : (s : List ℤ) (C : Configuration) → IsOpening (line g) ((pos 0 ∷ []) ∷ s ∷ []) C → ⊥
  one_point s C o = (let e : ◌≡◌ {A = ℕ} 2 1 = sym (ap length o.points) ∙ o.sizes.points in omega (arith, e))

  pub one_number : (C : Configuration) → IsOpening (line g) ((pos 0 ∷ pos 0 ∷ []) ∷ []) C → ⊥
  one_number C o =
      let e : ◌≡◌ {A = ℕ} 2 1 = sym (ap (λ ps. length (slice_index_or ps 0 [])) o.points) ∙ o.widths 0 (pos_plant g) refl in omega (arith, e)

  pub decides : Step (line g) 0 at_opening (Decide 0) decided
  decides = record {
    module_info = nav g;
    is = refl;
    was_left = refl;
    left_dm = refl;
    modes = refl;
    mode = ((λ e. inl (refl, inl (omega (arith, ints), omega (arith, ints), tt))), (λ e. refl));
    rest = refl;
  }

  pub decides_once : (D : Configuration) → Step (line g) 0 decided (Decide 0) D → ⊥
  decides_once D s = false≢true s.was_left

  pub takes_2 : Step (line g) 0 decided (Guest 0 (Some (pos 2) ∷ [])) drafted
  takes_2 =
      record {
        node = fast g;
        is = refl;
        external = refl;
        slots = refl;
        fires = record { was_left = refl; time = refl; left = refl; left_dm = refl; modes = refl; points = refl; locals_set = refl; scalars = refl };
      }

  pub refuses_7 : Step (line g) 0 decided (Guest 0 (Some (pos 7) ∷ [])) refused
  refuses_7 =
      record {
        node = fast g;
        is = refl;
        external = refl;
        slots = refl;
        fires = record { was_left = refl; time = refl; left = refl; left_dm = refl; modes = refl; points = refl; locals_set = refl; scalars = refl };
      }

  pub blank : Step (line g) 0 decided (Guest 0 (None ∷ [])) refused
  blank =
      record {
        node = fast g;
        is = refl;
        external = refl;
        slots = refl;
        fires = record { was_left = refl; time = refl; left = refl; left_dm = refl; modes = refl; points = refl; locals_set = refl; scalars = refl };
      }

  pub fires_once : (D : Configuration) → Step (line g) 0 drafted (Guest 0 (Some (pos 2) ∷ [])) D → ⊥
  fires_once D s = false≢true s.fires.was_left

  pub no_fewer : (D : Configuration) → Step (line g) 0 decided (Guest 0 []) D → ⊥
  no_fewer D s = (let e : ◌≡◌ {A = ℕ} 0 1 = s.slots ∙ ap (λ x. length x.writes.items) (sym (same_Some (fast g) s.node s.is)) in omega (arith, e))

  pub no_more : (D : Configuration) → Step (line g) 0 decided (Guest 0 (Some (pos 7) ∷ Some (pos 9) ∷ [])) D → ⊥
  no_more D s = (let e : ◌≡◌ {A = ℕ} 2 1 = s.slots ∙ ap (λ x. length x.writes.items) (sym (same_Some (fast g) s.node s.is)) in omega (arith, e))

  pub no_code : (D : Configuration) → Step (line g) 0 decided (Code 0) D → ⊥
  no_code D s = none-some s.coded.0 (ap (λ x. x.body) (same_Some (fast g) s.node s.is) ∙ s.coded.1)

  pub no_guest : (D : Configuration) → Step (line g) 0 decided (Guest 1 (Some (pos 2) ∷ [])) D → ⊥
  no_guest D s = none-some _ (sym s.external ∙ ap (λ x. x.body) (sym (same_Some (slow g) s.node s.is)))

  pub idle : Step (line g) 0 drafted (Code 1) settled
  unfolding execution
  idle = record {
    node = slow g;
    is = refl;
    acts = slow_acts g;
    coded = (_, refl, refl);
    fired = record { locals = []; draft = Some (pos 0) ∷ [] };
    runs = refl;
    fires = record { was_left = refl; time = refl; left = refl; left_dm = refl; modes = refl; points = refl; locals_set = refl; scalars = refl };
  }

  pub idle_recorded : Records (line g) drafted (Code 1) settled (NodeFired (Some (pos 0) ∷ []) false)
  unfolding execution
  idle_recorded =
      record {
        node = slow g;
        is = refl;
        acts = slow_acts g;
        coded = (_, refl, refl);
        fired = record { locals = []; draft = Some (pos 0) ∷ [] };
        runs = refl;
        recorded = refl;
      }

  pub advanced_idle : Step (line g) 0 braking (Guest 0 (Some (pos 2) ∷ [])) (record braking { left = false ∷ true ∷ [] })
  advanced_idle =
      record {
        node = fast g;
        is = refl;
        external = refl;
        slots = refl;
        fires = record { was_left = refl; time = refl; left = refl; left_dm = refl; modes = refl; points = refl; locals_set = refl; scalars = refl };
      }

  pub advanced_recorded : Records (line g) braking (Guest 0 (Some (pos 2) ∷ [])) (record braking { left = false ∷ true ∷ [] })
      (NodeFired (Some (pos 2) ∷ []) false)
  advanced_recorded = refl

  pub brakes : Step (line g) 0 braking (Code 1) (record braking { left = true ∷ false ∷ []; scalars = negsuc 1 ∷ [] })
  unfolding execution
  brakes = record {
    node = slow g;
    is = refl;
    acts = slow_acts g;
    coded = (_, refl, refl);
    fired = record { locals = []; draft = Some (negsuc 1) ∷ [] };
    runs = refl;
    fires = record { was_left = refl; time = refl; left = refl; left_dm = refl; modes = refl; points = refl; locals_set = refl; scalars = refl };
  }

  pub counts : Step (counting g) 0 (idle_counter (pos 1)) (Code 1) (record (idle_counter (pos 2)) { left = false ∷ false ∷ [] })
  unfolding execution
  counts = record {
    node = counter g;
    is = refl;
    acts = count_acts g;
    coded = (_, refl, refl);
    fired = record { locals = pos 2 ∷ []; draft = Some (pos 2) ∷ [] };
    runs = refl;
    fires = record { was_left = refl; time = refl; left = refl; left_dm = refl; modes = refl; points = refl; locals_set = refl; scalars = refl };
  }

  -- with something left, no tick
  pub not_yet : (w : List (List ℤ)) (D : Configuration) → Step (line g) 0 drafted (Tick w) D → ⊥
  not_yet w D s = s.may.nodes 1 (slow g) 0 refl refl (last_now 2 0 0 (omega arith, refl)) refl

  pub no_decision : (w : List (List ℤ)) (D : Configuration) → Step (line g) 0 (record settled { left_dm = true ∷ [] }) (Tick w) D → ⊥
  no_decision w D s = s.may.modules 0 (nav g) 0 refl refl (last_now 4 0 0 (omega arith, refl)) refl

  pub out_of_bounds : (D : Configuration) → Step (line g) 0 settled (Tick ((pos 2 ∷ []) ∷ [])) D → ⊥
  out_of_bounds D s = (let b = s.bounded 0 (pos_plant g) refl in omega (arith, ints, b.1))

  pub no_plant : (D : Configuration) → Step (line g) 0 settled (Tick []) D → ⊥
  no_plant D s = (let e : ◌≡◌ {A = ℕ} 0 1 = s.each in omega (arith, e))

  pub one_plant : (w : List ℤ) (D : Configuration) → Step (line g) 0 settled (Tick ((pos 1 ∷ []) ∷ w ∷ [])) D → ⊥
  one_plant w D s = (let e : ◌≡◌ {A = ℕ} 2 1 = s.each in omega (arith, e))

  pub none_left : (C : Configuration) → C.left ≡ false ∷ false ∷ [] → C.left_dm ≡ false ∷ [] → MayTick (line g) 0 C
  none_left C l m = record {
    nodes =
        λ n node d at is. absurd (at_two (λ n node. slice_index_or C.left n false ≡ true → ⊥) (fast g) (slow g)
        (λ e. false≢true (sym (ap (λ x. slice_index_or x 0 false) l) ∙ e)) (λ e. false≢true (sym (ap (λ x. slice_index_or x 1 false) l) ∙ e)) n node at is);
    modules =
        λ k a d at is. absurd (at_one (λ k a. slice_index_or C.left_dm k false ≡ true → ⊥) (nav g)
        (λ e. false≢true (sym (ap (λ x. slice_index_or x 0 false) m) ∙ e)) k a at is);
  }

  pub ticks : Step (line g) 0 settled (Tick ((pos 1 ∷ []) ∷ [])) ticked
  unfolding next_state
  ticks = record {
    may = none_left settled refl refl;
    each = refl;
    bounded =
        at_one (λ k plant. IsWithin (bounds plant) (slice_index_or ((pos 1 ∷ []) ∷ []) k [])) (pos_plant g) (omega (arith, ints), omega (arith, ints), tt);
    moves =
        at_one (λ k plant. next_state plant (point_of settled k) (commands plant settled) (joined (seen_points plant settled))
        (slice_index_or ((pos 1 ∷ []) ∷ []) k []) ≡ Ok (point_of ticked k)) (pos_plant g) refl;
    time = refl;
    left = at_two (λ n node. (is_left ticked n ≡ true) ↔ ((is_left settled n ≡ true) ⊎ IsDue node.period node.offset 1)) (fast g) (slow g)
        ((λ e. absurd (false≢true e)), (λ o. ⊎_elim (λ e. e) (λ d. absurd (no_one d.1)) o))
        ((λ e. absurd (false≢true e)), (λ o. ⊎_elim (λ e. e) (λ d. absurd (no_one d.1)) o));
    left_dm =
        at_one (λ m a. (is_left_dm ticked m ≡ true) ↔ ((is_left_dm settled m ≡ true) ⊎ IsDue a.period a.offset 1)) (nav g)
        ((λ e. absurd (false≢true e)), (λ o. ⊎_elim (λ e. e) (λ d. absurd (no_one d.1)) o));
    sizes = record { left = refl; left_dm = refl; modes = refl; scalars = refl; locals = refl; points = refl };
    rest = refl;
  }

  -- 3 + 2 - 1, and the safe node is due at 2
  pub ticks_again : Step (line g) 0 ticked (Tick ((negsuc 0 ∷ []) ∷ [])) second
  unfolding next_state
  ticks_again = record {
    may = none_left ticked refl refl;
    each = refl;
    bounded =
        at_one (λ k plant. IsWithin (bounds plant) (slice_index_or ((negsuc 0 ∷ []) ∷ []) k [])) (pos_plant g) (omega (arith, ints), omega (arith, ints), tt);
    moves =
        at_one (λ k plant. next_state plant (point_of ticked k) (commands plant ticked) (joined (seen_points plant ticked))
        (slice_index_or ((negsuc 0 ∷ []) ∷ []) k []) ≡ Ok (point_of second k)) (pos_plant g) refl;
    time = refl;
    left = at_two (λ n node. (is_left second n ≡ true) ↔ ((is_left ticked n ≡ true) ⊎ IsDue node.period node.offset 2)) (fast g) (slow g)
        ((λ e. absurd (false≢true e)), (λ o. ⊎_elim (λ e. e) (λ d. absurd (no_two d.1)) o))
        ((λ e. inr (omega arith, refl)), (λ o. refl));
    left_dm =
        at_one (λ m a. (is_left_dm second m ≡ true) ↔ ((is_left_dm ticked m ≡ true) ⊎ IsDue a.period a.offset 2)) (nav g)
        ((λ e. absurd (false≢true e)), (λ o. ⊎_elim (λ e. e) (λ d. absurd (no_two d.1)) o));
    sizes = record { left = refl; left_dm = refl; modes = refl; scalars = refl; locals = refl; points = refl };
    rest = refl;
  }
    where
      no_two : ◌≡◌ {A = ℕ} 2 0 → ⊥
      no_two e = omega (arith, e)
