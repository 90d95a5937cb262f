-- Worked refusals, and what else the running example shows.
use Rattle.std.proofs.Common.{suc, zero, ◌+◌, ◌-◌, Option, ◌≡◌, ◌≢◌, ℕ, ◌<◌, ◌≤◌, ℤ, pos, negsuc, ◌⊎◌, inl, inr, ⊎_elim, refl, sym, ap, ◌∙◌, Ok, Err, Some}
use Rattle.std.proofs.Common.{None, List, [], ◌∷◌, arith, subst}
use Rattle.std.specs.Prelude.{slice_get, slice_index_or}
use Rattle.std.proofs.lemmas.Int.{ints}
use Rattle.std.proofs.lemmas.Option.{same_Some, none-some}
use Rattle.std.specs.Global.{Global, Vec}
use Rattle.sot_box.specs.Sides.{Side}
use Rattle.sot_lists.specs.Places.{At, Has}
use Rattle.sot_box.specs.Boxes.{IsWithin, IsBefore}
use Rattle.sot_box.specs.Regions.{IsInRegion, IsGap}
use Rattle.sot_lang.specs.declared.act.Act.{Act}
use Rattle.sot_lang.specs.declared.cert.Cells.{Cells}
use Rattle.sot_lang.specs.declared.tables.NodeInfo.{NodeInfo}
use Rattle.sot_lang.specs.declared.tables.ModuleInfo.{ModuleInfo}
use Rattle.sot_lang.specs.declared.tables.Slot.{Slot}
use Rattle.sot_lang.specs.declared.tables.Slot.TheVariants.{Scalar, State}
use Rattle.sot_lang.specs.declared.trap.TrapKind.TheVariants.{ZeroDivisor}
use Rattle.sot_lang.specs.SafeRegions.{safe_of}
use Rattle.sot_lang.specs.Line.{vec, line_cells, side, somewhere, pos_plant, fast, slow, nav, cmd_number}
use Rattle.sot_lists.proofs.ShortLists.{at_one, at_two, at_more}
use Rattle.sot_iv.specs.declared.may_trap.MayTrap.{MayTrap}
use Rattle.sot_iv.specs.declared.drafted.Drafted.TheVariants.{Sure}
use Rattle.sot_tube.specs.declared.leave.Leave.TheVariants.{Out, Trap}
use Rattle.sot_tube.specs.Topics.{WritesTopic, IsInputTopic}
use Rattle.sot_tube.specs.Composition.{UsesNode, ArePartners, NoSharedNode, NoSharedOutput}
use Rattle.sot_tube.specs.Verdict.{ShareNode, code, IsLonger, IsWrittenByOne, ShareOutput, IsForeignInput}
use Rattle.sot_tube.specs.Tubes.{IsNextBox}
use Rattle.sot_tube.specs.Refusals.{ClosedLeaves, ReachLeaves}
use Rattle.sot_tube.specs.Examples.{segment, at_x, nav_with, line_body, line_nodes, cells_with, divider, with_unread, WholeCellLeaves, WideCellLeavesAtOnce}
use Rattle.sot_tube.specs.Examples.{UnreadPlantsAreNoPremise}
use Rattle.sot_tube.specs.RefusalExamples.{slow_5, fast_5, fast_alt, slow_alt, two_topics, third_writer, two_inputs, foreign, calc_acts, crossed, rivals}
use Rattle.sot_tube.specs.RefusalExamples.{other_fast, other_slow, dividing, WideReachIsRefused, OneClosedCellIsRefused, GapsAreRefused, LongPeriodsAreRefused}
use Rattle.sot_tube.specs.RefusalExamples.{OtherOutputsAreRefused, EmptyRegionsAreRefused, SharedNodesAreRefused, SharedOutputsAreRefused}
use Rattle.sot_tube.specs.RefusalExamples.{ForeignInputsAreRefused, TrapsAreRefused, CrossedNodesAreRefused, RivalsAreRefusedInOrder, OtherTopicsAreNoInputs}
use Rattle.sot_tube.specs.RefusalExamples.{VerdictsAreInOrder, TrapsOfCellsAreRefused, ShapeIsWellFormed}
use Rattle.sot_tube.proofs.LineBoxes.{covers, near, undecided}
use Rattle.sot_tube.proofs.LineTubes.{gap_above, later, low_end, wide_leaves}
use Rattle.sot_tube.proofs.LineCertified.{hulls, one_module, same_outputs, short, composition_passes, shape_passes, code_passes, closed_covers, closed_cells}
use Rattle.sot_tube.proofs.LineCertified.{cells_refused, drafts, safer_10, some_10}

plant_no : Slot → ℕ
plant_no (Scalar k) = k
plant_no (State k v) = k

module _ (g : Global) where
  pub whole_cell_leaves : WholeCellLeaves g
  whole_cell_leaves = inr (
    covers g (negsuc 39) (pos 40) (omega (arith, ints)) (omega (arith, ints)),
    record { locals = []; draft = Sure (side (negsuc 1) (pos 2)) ∷ [] },
    drafts g (safer_10 g) (side (negsuc 39) (pos 40)) (side (negsuc 1) (pos 2)) (undecided g) refl refl,
    record {
      hulls = [];
      are = tt;
      leaves = later g 1 0 (negsuc 39) (pos 40) (Out 1 (segment (negsuc 42) (pos 43)) (at_x (negsuc 42))) (omega (arith, ints))
          (omega (arith, ints)) (omega (arith, ints)) (inl (low_end g 1 (negsuc 42) (pos 43) (omega (arith, ints)) (omega (arith, ints))));
    },
  )

  pub wide_cell_leaves : WideCellLeavesAtOnce g
  wide_cell_leaves =
      inl (at_x (pos 41), gap_above (negsuc 39) (pos 40) (negsuc 9) (pos 41) (omega (arith, ints)) (omega (arith, ints)) (omega (arith, ints)), refl)

  pub unread_plants : UnreadPlantsAreNoPremise g
  unfolding plant_no
  unread_plants = (
    (λ points safe. safe 1 (pos_plant g) refl),
    record {
      scalars_in = (omega (arith, ints), omega (arith, ints), tt);
      plants_in =
          λ k v has. at_one (λ i x. IsInRegion (safe_of (with_unread g).modules (plant_no x)) (slice_index_or (at_x (pos 0) ∷ []) (plant_no x) [])) (State 0 0)
          (inl (omega (arith, ints), omega (arith, ints), tt)) has.0 (State k v) has.1;
      locals_in = tt;
    },
  )

  pub wide_reach : WideReachIsRefused g
  wide_reach = inr (
    composition_passes g safer (slow g).body,
    inr (
      shape_passes g safer (slow g).body some cells,
      inr (
        code_passes g safer,
        cells_refused g safer cells (ReachLeaves 0 0 8 (segment (negsuc 40) (pos 41)) (at_x (negsuc 40)))
            (inr (
              closed_covers g safer,
              inr (
                closed_cells g safer,
                inr (
                  (λ s i. i),
                  (
                    0,
                    segment (negsuc 16) (pos 17),
                    refl,
                    (
                      Out 8 (segment (negsuc 40) (pos 41)) (at_x (negsuc 40)),
                      record { hulls = []; are = tt; leaves = wide_leaves g },
                      refl,
                    ),
                    (λ j y lt at. absurd (omega (arith, lt))),
                  ),
                ),
              ),
            )),
      ),
    ),
  )
    where
      safer : List (List Side)
      safer = segment (negsuc 16) (pos 17) ∷ []

      cells : Cells
      cells = cells_with g (line_cells g).closed.boxes (segment (negsuc 16) (pos 17) ∷ [])

      some : segment (negsuc 16) (pos 17) ∷ [] ≢ []
      some e = none-some _ (ap (λ r. slice_get r 0) (sym e))

  pub one_closed_cell : OneClosedCellIsRefused g
  one_closed_cell = inr (
    composition_passes g (safer_10 g) (slow g).body,
    inr (
      shape_passes g (safer_10 g) (slow g).body (some_10 g) (cells_with g (segment (negsuc 39) (pos 40) ∷ []) (safer_10 g)),
      inr (
        code_passes g (safer_10 g),
        cells_refused g (safer_10 g) (cells_with g (segment (negsuc 39) (pos 40) ∷ []) (safer_10 g))
            (ClosedLeaves 0 0 1 (segment (negsuc 42) (pos 43)) (at_x (negsuc 42)))
            (inr (
              (λ s i. i),
              inl (
                0,
                segment (negsuc 39) (pos 40),
                refl,
                (Out 1 (segment (negsuc 42) (pos 43)) (at_x (negsuc 42)), whole_cell_leaves, refl),
                (λ j y lt at. absurd (omega (arith, lt))),
              ),
            )),
      ),
    ),
  )

  -- the gap in the middle
  middle_gap : IsGap (segment (negsuc 39) (negsuc 10) ∷ segment (pos 11) (pos 40) ∷ []) (segment (negsuc 39) (pos 40)) (at_x (negsuc 9))
  middle_gap = record {
    inside = (omega (arith, ints), omega (arith, ints), tt);
    outside = λ i. ⊎_elim (λ w. omega (arith, ints, w.1)) (λ more. ⊎_elim (λ w. omega (arith, ints, w.0)) (λ no'. no') more) i;
    least = least;
  }
    where
      least : (t : List ℤ) → IsWithin (segment (negsuc 39) (pos 40)) t → IsBefore t (at_x (negsuc 9))
          → IsInRegion (segment (negsuc 39) (negsuc 10) ∷ segment (pos 11) (pos 40) ∷ []) t
      least [] w before = absurd w
      least (x ∷ []) w before = ⊎_elim (λ less. inl (w.0, omega (arith, ints, less), tt)) (λ same. absurd same.1) before
      least (x ∷ y ∷ ys) w before = absurd w.2

  pub gaps : GapsAreRefused g
  gaps = (
    (at_x (negsuc 9), inl middle_gap, refl),
    (at_x (pos 10), inl (gap_above (negsuc 9) (pos 9) (negsuc 9) (pos 10) (omega (arith, ints)) (omega (arith, ints)) (omega (arith, ints))), refl),
  )

  not_longer : IsLonger (line_nodes g (fast g) (slow_5 g)) (nav g) 0 → ⊥
  not_longer h = let e : fast g ≡ h.0 = same_Some (fast g) h.0 h.1 in let four : h.0.period ≡ 4 = ap (λ x. x.period) (sym e) in omega (arith, h.2, four)

  pub long_periods : LongPeriodsAreRefused g
  long_periods = (
    inr ((line_cells g, refl), inl (inr (not_longer, (slow_5 g, refl, omega arith), refl))),
    inr ((line_cells g, refl), inl (inl ((fast_5 g, refl, omega arith), refl))),
  )

  -- a node that writes the first scalar alone writes the first topic alone
  writes_first : (ac sc : NodeInfo) (node : NodeInfo) (t : ℕ) → node.writes.items ≡ 0 ∷ [] → WritesTopic (two_topics g ac sc) node t → t ≡ 0
  writes_first ac sc node t e h =
      let k : h.0 ≡ 0 = at_one (λ i x. x ≡ 0) 0 refl h.1.0 h.0 (subst (λ q. At q h.1.0 h.0) e h.1.1) in
      let at : At (two_topics g ac sc).scalars 0 h.2.0 = subst (λ q. At (two_topics g ac sc).scalars q h.2.0) k h.2.1 in
      let info : cmd_number g ≡ h.2.0 = same_Some (cmd_number g) h.2.0 at in
      sym h.2.2 ∙ ap (λ x. x.topic) (sym info)

  -- of the two topics the second is the least that one node writes alone
  alone : (ac sc : NodeInfo) → Has ac.writes.items 0 → Has sc.writes.items 0 → (u : ℕ) → u < 1 → IsWrittenByOne (two_topics g ac sc) (nav g) u → ⊥
  alone ac sc a s u lt h =
      let zero' : u ≡ 0 = omega arith in
      let ea : ac ≡ h.0 = same_Some ac h.0 h.2 in
      let es : sc ≡ h.1 = same_Some sc h.1 h.3 in
      let wa : WritesTopic (two_topics g ac sc) h.0 u = subst (λ q. WritesTopic (two_topics g ac sc) q u) ea
      (subst (λ q. WritesTopic (two_topics g ac sc) ac q) (sym zero') (0, a, (cmd_number g, refl, refl))) in
      let ws : WritesTopic (two_topics g ac sc) h.1 u = subst (λ q. WritesTopic (two_topics g ac sc) q u) es
      (subst (λ q. WritesTopic (two_topics g ac sc) sc q) (sym zero') (0, s, (cmd_number g, refl, refl))) in
      ⊎_elim (λ x. x.1 ws) (λ y. y.1 wa) h.4

  second : (ac sc node : NodeInfo) → At node.writes.items 1 1 → WritesTopic (two_topics g ac sc) node 1
  second ac sc node at = (1, (1, at), (record (cmd_number g) { topic = 1 }, refl, refl))

  not_second : (ac sc node : NodeInfo) → node.writes.items ≡ 0 ∷ [] → WritesTopic (two_topics g ac sc) node 1 → ⊥
  not_second ac sc node e h = let z = writes_first ac sc node 1 e h in omega (arith, z)

  short_two : (ac sc : NodeInfo) → ac.period ≤ 4 → sc.period ≤ 4 → (node : NodeInfo)
      → (At (two_topics g ac sc).nodes 0 node ⊎ At (two_topics g ac sc).nodes 1 node) → node.period ≤ 4
  short_two ac sc a s node o = ⊎_elim (λ at. subst (λ q. q.period ≤ 4) (same_Some ac node at) a) (λ at. subst (λ q. q.period ≤ 4) (same_Some sc node at) s) o

  not_longer_alt : IsLonger (two_topics g (fast_alt g) (slow_5 g)) (nav g) 0 → ⊥
  not_longer_alt h =
      let e : fast_alt g ≡ h.0 = same_Some (fast_alt g) h.0 h.1 in let four : h.0.period ≡ 4 = ap (λ x. x.period) (sym e) in omega (arith, h.2, four)

  pub other_outputs : OtherOutputsAreRefused g
  other_outputs = (
    inr (
      (line_cells g, refl),
      inr (
        short_two (fast_alt g) (slow g) (omega arith) (omega arith),
        inl (
          1,
          record {
            has = (fast_alt g, slow g, refl, refl, inl (second (fast_alt g) (slow g) (fast_alt g) refl, not_second (fast_alt g) (slow g) (slow g) refl));
            least = alone (fast_alt g) (slow g) (0, refl) (0, refl);
          },
          refl,
        ),
      ),
    ),
    inr (
      (line_cells g, refl),
      inr (
        short_two (fast g) (slow_alt g) (omega arith) (omega arith),
        inl (
          1,
          record {
            has = (fast g, slow_alt g, refl, refl, inr (second (fast g) (slow_alt g) (slow_alt g) refl, not_second (fast g) (slow_alt g) (fast g) refl));
            least = alone (fast g) (slow_alt g) (0, refl) (0, refl);
          },
          refl,
        ),
      ),
    ),
    inr ((line_cells g, refl), inl (inr (not_longer_alt, (slow_5 g, refl, omega arith), refl))),
  )

  pub empty_regions : EmptyRegionsAreRefused g
  empty_regions = (
    inr ((line_cells g, refl), inr (short g [] (slow g).body, inr (same_outputs g [] (slow g).body, inr (some, refl, refl)))),
    inl ((λ cells has. none-some cells (same_Some None (Some cells) has)), refl),
    inl (refl, refl),
  )
    where
      some : segment (negsuc 39) (pos 40) ∷ [] ≢ []
      some e = none-some _ (ap (λ r. slice_get r 0) (sym e))

  pub shared_nodes : SharedNodesAreRefused g
  shared_nodes = (
    inl (
      0,
      0,
      1,
      record {
        before = omega arith;
        clash = (nav g, nav g, refl, refl, inl refl, inl refl);
        least_x = λ y i k lt le c. omega (arith, lt);
        least_a = λ i k lt le c. omega (arith, lt);
        least_b = λ k lt le c. omega (arith, lt, le);
      },
      refl,
    ),
    (
      0,
      0,
      1,
      record {
        before = omega arith;
        clash = (nav g, nav g, refl, refl, refl, refl);
        least_x = λ y i k lt le c. omega (arith, lt);
        least_a = λ i k lt le c. omega (arith, lt);
        least_b = λ k lt le c. omega (arith, lt, le);
      },
      refl,
    ),
  )

  pub shared_outputs : SharedOutputsAreRefused g
  shared_outputs = inr (
    (λ m m' a b n at_a at_b x y. one_module g (safer_10 g) (slow g).body m m' a b at_a at_b),
    inl (
      0,
      0,
      2,
      record {
        before = omega arith;
        clash = (fast g, fast g, refl, refl, (0, (0, refl), (cmd_number g, refl, refl)), (0, (0, refl), (cmd_number g, refl, refl)), no_partners);
        least_x = λ y i k lt le c. omega (arith, lt);
        least_a = λ i k lt le c. omega (arith, lt);
        least_b = partners;
      },
      refl,
    ),
  )
    where
      no_partners : (m : ℕ) × (a : ModuleInfo) × At (third_writer g).modules m a × (((a.ac ≡ 0) × (a.sc ≡ 2)) ⊎ ((a.sc ≡ 0) × (a.ac ≡ 2))) → ⊥
      no_partners h =
          at_one (λ m a. (((a.ac ≡ 0) × (a.sc ≡ 2)) ⊎ ((a.sc ≡ 0) × (a.ac ≡ 2))) → ⊥) (nav g)
          (λ o. ⊎_elim (λ x. omega (arith, x.1)) (λ y. omega (arith, y.0)) o) h.0 h.1 h.2 h.3

      partners : (k : ℕ) → k < 2 → 0 < k → ShareOutput (third_writer g) 0 0 k → ⊥
      partners k lt le c = let one : k ≡ 1 = omega arith in c.6 (0, nav g, refl, inl (refl, sym one))

  pub foreign_inputs : ForeignInputsAreRefused g
  foreign_inputs = (
    1,
    record {
      has = (two_inputs g, slow g, refl, refl, (1, (1, refl), (record (cmd_number g) { topic = 1 }, refl, refl)), not_second (fast g) (slow g) (slow g) refl);
      least = own;
    },
    refl,
  )
    where
      own : (u : ℕ) → u < 1 → IsForeignInput (foreign g) (nav g) u → ⊥
      own u lt h =
          let zero' : u ≡ 0 = omega arith in
          let es : slow g ≡ h.1 = same_Some (slow g) h.1 h.3 in
          h.5 (subst (λ q. WritesTopic (foreign g) q u) es (subst (λ q. WritesTopic (foreign g) (slow g) q) (sym zero')
          (0, (0, refl), (cmd_number g, refl, refl))))

  pub traps : TrapsAreRefused g
  traps = (
    calc_acts g,
    (_, refl, refl),
    (
      trap,
      (
        [],
        (refl, λ k plant at. absurd (none-some plant at)),
        (
          Err trap,
          (
            Err trap,
            (Ok (side (pos 10) (pos 10)), refl, (Ok (side (pos 0) (pos 5)), refl, inl ((omega (arith, ints), omega (arith, ints)), refl))),
            refl,
          ),
          refl,
        ),
      ),
      refl,
    ),
  )
    where
      trap : MayTrap
      trap = record { at = somewhere; kind = ZeroDivisor; lo = pos 0; hi = pos 5 }

  pub crossed_nodes : CrossedNodesAreRefused g
  crossed_nodes = inl (
    1,
    0,
    1,
    record {
      before = omega arith;
      clash = (nav g, record (nav g) { ac = 1; sc = 2 }, refl, refl, inr refl, inl refl);
      least_x = none_0;
      least_a = λ i k lt le c. omega (arith, lt);
      least_b = λ k lt le c. omega (arith, lt, le);
    },
    refl,
  )
    where
      -- module 0 alone uses node 0
      uses_0 : (i : ℕ) (a : ModuleInfo) → At (crossed g).modules i a → UsesNode a 0 → i ≡ 0
      uses_0 =
          at_two (λ i a. UsesNode a 0 → i ≡ 0) (nav g) (record (nav g) { ac = 1; sc = 2 }) (λ u. refl)
          (λ u. ⊎_elim (λ x. absurd (omega (arith, x))) (λ y. absurd (omega (arith, y))) u)

      none_0 : (y i k : ℕ) → y < 1 → i < k → ShareNode (crossed g) y i k → ⊥
      none_0 y i k lt le c =
          let z : y ≡ 0 = omega arith in
          let at_0 = uses_0 i c.0 c.2 (subst (UsesNode c.0) z c.4) in
          let at_1 = uses_0 k c.1 c.3 (subst (UsesNode c.1) z c.5) in
          omega (arith, at_0, at_1, le)

  -- the modules of the rivals share no node
  rivals_nodes : (ac sc : NodeInfo) → NoSharedNode (rivals g ac sc)
  rivals_nodes ac sc m m' a b n at_a at_b x y = same (low m a at_a n x) (low m' b at_b n y)
    where
      Low : ℕ → ℕ → Type 0
      Low m n = ((m ≡ 0) × (n < 2)) ⊎ ((m ≡ 1) × (1 < n))

      low : (m : ℕ) (a : ModuleInfo) → At (rivals g ac sc).modules m a → (n : ℕ) → UsesNode a n → Low m n
      low m a at n = at_two (λ m a. UsesNode a n → Low m n) (nav g) (record (nav g) { ac = 2; sc = 3 })
          (λ u. inl (refl, ⊎_elim (λ e. omega (arith, e)) (λ e. omega (arith, e)) u))
          (λ u. inr (refl, ⊎_elim (λ e. omega (arith, e)) (λ e. omega (arith, e)) u)) m a at

      same : Low m n → Low m' n → m ≡ m'
      same p q =
          ⊎_elim (λ x. ⊎_elim (λ x'. x.0 ∙ sym x'.0) (λ y'. absurd (omega (arith, x.1, y'.1))) q)
          (λ y. ⊎_elim (λ x'. absurd (omega (arith, y.1, x'.1))) (λ y'. y.0 ∙ sym y'.0) q) p

  -- a node that writes the second scalar alone writes the second topic alone
  writes_second : (ac sc : NodeInfo) (node : NodeInfo) (t : ℕ) → node.writes.items ≡ 1 ∷ [] → WritesTopic (two_topics g ac sc) node t → t ≡ 1
  writes_second ac sc node t e h =
      let k : h.0 ≡ 1 = at_one (λ i x. x ≡ 1) 1 refl h.1.0 h.0 (subst (λ q. At q h.1.0 h.0) e h.1.1) in
      let at : At (two_topics g ac sc).scalars 1 h.2.0 = subst (λ q. At (two_topics g ac sc).scalars q h.2.0) k h.2.1 in
      let info : record (cmd_number g) { topic = 1 } ≡ h.2.0 = same_Some (record (cmd_number g) { topic = 1 }) h.2.0 at in
      sym h.2.2 ∙ ap (λ x. x.topic) (sym info)

  -- two numbers below 2 that differ
  pairs : (P : ℕ → ℕ → Type 0) → P 0 1 → P 1 0 → (m n : ℕ) → m < 2 → n < 2 → m ≢ n → P m n
  pairs P a b zero zero lt lt' ne = absurd (ne refl)
  pairs P a b zero (suc zero) lt lt' ne = a
  pairs P a b (suc zero) zero lt lt' ne = b
  pairs P a b (suc zero) (suc zero) lt lt' ne = absurd (ne refl)
  pairs P a b (suc (suc m)) n lt lt' ne = absurd (omega arith)
  pairs P a b zero (suc (suc n)) lt lt' ne = absurd (omega arith)
  pairs P a b (suc zero) (suc (suc n)) lt lt' ne = absurd (omega arith)

  -- the nodes of either rival write a topic of their own
  rivals_outputs : NoSharedOutput (rivals g (other_fast g) (other_slow g))
  rivals_outputs n n' a b t at_a at_b w w' ne =
      ⊎_elim
      (λ x. ⊎_elim
      (λ x'. first x.0 x'.0)
      (λ y'. absurd (omega (arith, x.1, y'.2))) (part n' b at_b w'))
      (λ y. ⊎_elim
      (λ x'. absurd (omega (arith, y.2, x'.1)))
      (λ y'. second' y.0 y.1 y'.0 y'.1) (part n' b at_b w'))
      (part n a at_a w)
    where
      Part : ℕ → Type 0
      Part n = ((n < 2) × (t ≡ 0)) ⊎ ((1 < n) × (n < 4) × (t ≡ 1))

      part : (n : ℕ) (a : NodeInfo) → At (rivals g (other_fast g) (other_slow g)).nodes n a → WritesTopic (rivals g (other_fast g) (other_slow g)) a t → Part n
      part =
          at_more (λ n a. WritesTopic (rivals g (other_fast g) (other_slow g)) a t → Part n) (fast g) (slow g ∷ other_fast g ∷ other_slow g ∷ [])
          (λ w. inl (omega arith, writes_first (fast g) (slow g) (fast g) t refl w))
          (at_more (λ n a. WritesTopic (rivals g (other_fast g) (other_slow g)) a t → Part (suc n)) (slow g) (other_fast g ∷ other_slow g ∷ [])
          (λ w. inl (omega arith, writes_first (fast g) (slow g) (slow g) t refl w))
          (at_two (λ n a. WritesTopic (rivals g (other_fast g) (other_slow g)) a t → Part (suc (suc n))) (other_fast g) (other_slow g)
          (λ w. inr (omega arith, omega arith, writes_second (fast g) (slow g) (other_fast g) t refl w))
          (λ w. inr (omega arith, omega arith, writes_second (fast g) (slow g) (other_slow g) t refl w))))

      first : n < 2 → n' < 2 → ArePartners (rivals g (other_fast g) (other_slow g)) n n'
      first lt lt' =
          pairs (ArePartners (rivals g (other_fast g) (other_slow g))) (0, nav g, refl, inl (refl, refl)) (0, nav g, refl, inr (refl, refl)) n n' lt lt' ne

      second' : 1 < n → n < 4 → 1 < n' → n' < 4 → ArePartners (rivals g (other_fast g) (other_slow g)) n n'
      second' gt lt gt' lt' =
          let up : n - 2 + 2 ≡ n = omega arith in
          let up' : n' - 2 + 2 ≡ n' = omega arith in
          let p = pairs (λ i k. ArePartners (rivals g (other_fast g) (other_slow g)) (i + 2) (k + 2))
          (1, record (nav g) { ac = 2; sc = 3 }, refl, inl (refl, refl)) (1, record (nav g) { ac = 2; sc = 3 }, refl, inr (refl, refl)) (n - 2) (n' - 2)
          (omega arith) (omega arith) (λ e. ne (omega (arith, e))) in
          subst (λ q. ArePartners (rivals g (other_fast g) (other_slow g)) q n') up
          (subst (λ q. ArePartners (rivals g (other_fast g) (other_slow g)) (n - 2 + 2) q) up' p)

  pub rivals_in_order : RivalsAreRefusedInOrder g
  rivals_in_order = (
    inr (
      rivals_nodes (fast g) (slow g),
      inl (
        0,
        0,
        2,
        record {
          before = omega arith;
          clash = (fast g, fast g, refl, refl, (0, (0, refl), (cmd_number g, refl, refl)), (0, (0, refl), (cmd_number g, refl, refl)), no_partners);
          least_x = λ y i k lt le c. omega (arith, lt);
          least_a = λ i k lt le c. omega (arith, lt);
          least_b = partners;
        },
        refl,
      ),
    ),
    inr (
      rivals_nodes (other_fast g) (other_slow g),
      inr (
        rivals_outputs,
        inl (
          0,
          0,
          1,
          record {
            before = omega arith;
            clash = (nav g, record (nav g) { ac = 2; sc = 3 }, refl, refl, refl, refl);
            least_x = λ y i k lt le c. omega (arith, lt);
            least_a = λ i k lt le c. omega (arith, lt);
            least_b = λ k lt le c. omega (arith, lt, le);
          },
          refl,
        ),
      ),
    ),
  )
    where
      no_partners : ArePartners (rivals g (fast g) (slow g)) 0 2 → ⊥
      no_partners h =
          at_two (λ m a. (((a.ac ≡ 0) × (a.sc ≡ 2)) ⊎ ((a.sc ≡ 0) × (a.ac ≡ 2))) → ⊥) (nav g) (record (nav g) { ac = 2; sc = 3 })
          (λ o. ⊎_elim (λ x. omega (arith, x.1)) (λ y. omega (arith, y.0)) o) (λ o. ⊎_elim (λ x. omega (arith, x.0)) (λ y. omega (arith, y.0)) o) h.0 h.1 h.2
          h.3

      partners : (k : ℕ) → k < 2 → 0 < k → ShareOutput (rivals g (fast g) (slow g)) 0 0 k → ⊥
      partners k lt le c = let one : k ≡ 1 = omega arith in c.6 (0, nav g, refl, inl (refl, sym one))

  pub no_inputs : OtherTopicsAreNoInputs g
  no_inputs plant sc t at_p at_s i =
      let ep : pos_plant g ≡ plant = same_Some (pos_plant g) plant at_p in
      let es : slow g ≡ sc = same_Some (slow g) sc at_s in
      subst (λ q. IsInputTopic (two_topics g (fast g) (slow g)) q t → WritesTopic (two_topics g (fast g) (slow g)) sc t) ep
      (subst (λ q. IsInputTopic (two_topics g (fast g) (slow g)) (pos_plant g) t → WritesTopic (two_topics g (fast g) (slow g)) q t) es (λ x. x)) i

  pub in_order : VerdictsAreInOrder g
  in_order = (
    inl shared_nodes.0,
    inr (
      composition_passes g [] body,
      inl (
        0,
        nav_with g [],
        refl,
        inr ((cells_with g [] [], refl), inr (short g [] body, inr (same_outputs g [] body, inr (some, refl, refl)))),
        (λ j y lt at. absurd (omega (arith, lt))),
      ),
    ),
    inr (
      composition_passes g (safer_10 g) body,
      inr (
        shape_passes g (safer_10 g) body (some_10 g) (cells_with g [] []),
        inl (
          1,
          record (slow g) { body = body },
          refl,
          (
            dividing g ∷ [],
            (_, refl, refl),
            (
              trap,
              (
                segment (negsuc 39) (pos 40) ∷ [],
                hulls g (safer_10 g),
                (
                  Err trap,
                  (
                    Err trap,
                    (
                      Ok (side (pos 10) (pos 10)),
                      refl,
                      (Ok (side (negsuc 39) (pos 40)), refl, inl ((omega (arith, ints), omega (arith, ints)), refl)),
                    ),
                    refl,
                  ),
                  refl,
                ),
              ),
              refl,
            ),
          ),
          earlier,
        ),
      ),
    ),
  )
    where
      body : Option (Vec Act)
      body = Some (vec g (dividing g ∷ []) refl)

      trap : MayTrap
      trap = record { at = somewhere; kind = ZeroDivisor; lo = negsuc 39; hi = pos 40 }

      some : segment (negsuc 39) (pos 40) ∷ [] ≢ []
      some e = none-some _ (ap (λ r. slice_get r 0) (sym e))

      earlier : (j : ℕ) (y : NodeInfo) → j < 1 → At (line_body g (safer_10 g) body).nodes j y → (code (line_body g (safer_10 g) body) j y).Passes
      earlier zero y lt at acts coded = absurd (none-some coded.0 (ap (λ x. x.body) (same_Some (fast g) y at) ∙ coded.1))
      earlier (suc j) y lt at acts coded = absurd (omega (arith, lt))

  pub traps_of_cells : TrapsOfCellsAreRefused g
  traps_of_cells = (
    (
      Trap 0 somewhere,
      inr (
        covers g (negsuc 9) (pos 10) (omega (arith, ints)) (omega (arith, ints)),
        record { locals = []; draft = Sure (side (pos 0) (pos 0)) ∷ [] },
        drafts g (safer_10 g) (side (negsuc 9) (pos 10)) (side (pos 0) (pos 0))
            (near g (side (negsuc 9) (pos 10)) (omega (arith, ints)) (omega (arith, ints)) (omega (arith, ints))) refl refl,
        record {
          hulls = [];
          are = tt;
          leaves = inr (inl (
            covers g (negsuc 9) (pos 10) (omega (arith, ints)) (omega (arith, ints)),
            _,
            divides (segment (pos 0) (pos 0)),
            refl,
          ));
        },
      ),
      refl,
    ),
    (
      Trap 0 somewhere,
      record {
        hulls = [];
        are = tt;
        leaves =
            inr (inl (covers g (negsuc 9) (pos 10) (omega (arith, ints)) (omega (arith, ints)), _, divides (segment (negsuc 1) (pos 2)), refl));
      },
      refl,
    ),
  )
    where
      divides : (commands : List Side) → IsNextBox (divider g) (segment (negsuc 9) (pos 10)) commands []
          (Err (record { at = somewhere; kind = ZeroDivisor; lo = negsuc 9; hi = pos 10 }))
      divides commands = (
        Err (record { at = somewhere; kind = ZeroDivisor; lo = negsuc 9; hi = pos 10 }),
        (Ok (side (pos 10) (pos 10)), refl, (Ok (side (negsuc 9) (pos 10)), refl, inl ((omega (arith, ints), omega (arith, ints)), refl))),
        refl,
      )

  pub shapes : ShapeIsWellFormed g
  shapes = (
    (λ w. let le = w.periods 0 (nav g) refl (fast_5 g) (inl refl) in omega (arith, le)),
    (λ w. let le = w.periods 0 (nav g) refl (slow_5 g) (inr refl) in omega (arith, le)),
    (λ w. not_second (fast_alt g) (slow g) (slow g) refl ((w.outputs 0 (nav g) refl (fast_alt g) (slow g) 1 refl refl).0
        (second (fast_alt g) (slow g) (fast_alt g) refl))),
    (λ w. not_second (fast g) (slow_alt g) (fast g) refl ((w.outputs 0 (nav g) refl (fast g) (slow_alt g) 1 refl refl).1
        (second (fast g) (slow_alt g) (slow_alt g) refl))),
  )
