-- A landing is one step down the stairs.
use Rattle.std.proofs.Common.{◌≡◌, ℕ, zero, suc, ◌<◌, ◌≤◌, ℤ, pos, negsuc, inl, inr, ⊎_elim, List, [], ◌∷◌, Ok, refl, sym, ap, ◌∙◌, subst}
use Rattle.std.proofs.Common.{arith}
use Rattle.std.specs.Prelude.{slice_index_or, slice_set}
use Rattle.std.proofs.lemmas.Int.{ints}
use Rattle.std.proofs.lemmas.Option.{same_Some, none-some}
use Rattle.std.specs.Global.{Global}
use Rattle.sot_lists.specs.Places.{At, Has}
use Rattle.sot_lists.proofs.ShortLists.{at_one}
use Rattle.sot_box.specs.Sides.{Side}
use Rattle.sot_box.specs.Boxes.{IsWithin}
use Rattle.sot_box.specs.Regions.{IsInRegion, Covers, IsHull}
use Rattle.sot_lang.specs.declared.tables.ModuleInfo.{ModuleInfo}
use Rattle.sot_lang.specs.Line.{side}
use Rattle.sot_lang.specs.Ranges.{local_ranges, write_ranges}
use Rattle.sot_lang.specs.SafeRegions.{safe_of, AreHulls, joined_boxes}
use Rattle.sot_iv.specs.declared.drafted.Drafted.TheVariants.{Sure}
use Rattle.sot_iv.specs.TermIntervals.{OrMayTrap, IsTermInterval}
use Rattle.sot_iv.specs.BodyIntervals.{Intervals}
use Rattle.sot_iv.specs.NodeIntervals.{IsNodeIntervals, reading_intervals}
use Rattle.sot_iv.specs.PlantIntervals.{IsNextBox}
use Rattle.sot_iv.proofs.BodyUnique.{execution_same}
use Rattle.sot_tube.specs.Examples.{segment}
use Rattle.sot_tube.specs.Certified.{DraftsFrom, command_intervals}
use Rattle.sot_tube.proofs.LineBoxes.{greater_true, greater_false, one_can, one_only, nought_can, nought_only}
use Rattle.sot_law_runs.specs.Spring.{spring_module, lets_go, let_go_acts}
use Rattle.sot_law_runs.specs.TubeBoxes.{IsBoxAfter}
use Rattle.sot_law_runs.specs.Ranks.{StaysSafer, IsLanding, LandsIn, KeepToThemselves, HasRank, Reaches, IsRank}
use Rattle.sot_law_runs.proofs.TubeBoxes.{unique}
use Rattle.sot_law_recovery.specs.Stairs.{stairs, stairs_plant, stairs_parts, stairs_next, one_down}
use Rattle.sot_law_recovery.proofs.StairHolds.{below}

-- the cell of a step
abbrev cell : ℕ → List Side
cell n = segment (pos n) (pos n)

-- what the safe node drafts, whatever it reads
abbrev at_rest : Intervals
at_rest = record { locals = []; draft = Sure (side (pos 0) (pos 0)) ∷ [] }

ok_fired : (a b : Intervals) → ◌≡◌ {A = OrMayTrap Intervals} (Ok a) (Ok b) → a ≡ b
ok_fired a b e = cc

no_hulls : (ms : List ModuleInfo) (hulls : List (List Side)) → AreHulls ms [] hulls → hulls ≡ []
no_hulls ms [] are = refl
no_hulls ms (b ∷ bs) are = absurd are

at_step : (n k : ℕ) (c : List Side) → cell k ≡ c → IsWithin c (pos n ∷ []) → (k ≡ n) × (c ≡ cell n)
at_step n k c is w =
    let v : IsWithin (cell k) (pos n ∷ []) = subst (λ b. IsWithin b (pos n ∷ [])) (sym is) w in
    let same : k ≡ n = omega (arith, ints, v.0, v.1) in
    (same, sym is ∙ ap cell same)

module _ (g : Global) where
  runs : (boxes : List (List Side)) → IsNodeIntervals (stairs g) (lets_go g) (let_go_acts g) boxes at_rest
  runs boxes = (Ok at_rest, (Ok (side (pos 0) (pos 0)), refl, (Ok (side (pos 0) (pos 0)), refl, refl)), refl)

  hull : IsHull (spring_module g).safe.boxes (segment (pos 0) (pos 2))
  hull = record {
    has_point = (pos 0 ∷ [], inl (omega (arith, ints), omega (arith, ints), tt));
    holds = λ s i. ⊎_elim (λ w. w) (λ no'. absurd no') i;
    low = at_one (λ i r. (s : List ℤ) × IsInRegion (spring_module g).safe.boxes s × At s i r.lo) (side (pos 0) (pos 2))
        (pos 0 ∷ [], inl (omega (arith, ints), omega (arith, ints), tt), refl);
    high = at_one (λ i r. (s : List ℤ) × IsInRegion (spring_module g).safe.boxes s × At s i r.hi) (side (pos 0) (pos 2))
        (pos 2 ∷ [], inl (omega (arith, ints), omega (arith, ints), tt), refl);
  }

  drafts : (n : ℕ) → DraftsFrom (stairs g) (spring_module g) (lets_go g) (let_go_acts g) (cell n) at_rest
  drafts n = record {
    hulls = segment (pos 0) (pos 2) ∷ [];
    are = (
      refl,
      at_one (λ k plant. IsHull (safe_of (stairs g).modules k) (slice_index_or (segment (pos 0) (pos 2) ∷ []) k [])) (stairs_plant g) hull,
    );
    runs = runs (cell n ∷ []);
  }

  fired_is : (n : ℕ) (fired : Intervals) → DraftsFrom (stairs g) (spring_module g) (lets_go g) (let_go_acts g) (cell n) fired → fired ≡ at_rest
  fired_is n fired d =
      let boxes : List (List Side) = slice_set d.hulls 0 (cell n) in
      ok_fired fired at_rest
      (execution_same (let_go_acts g) (local_ranges (lets_go g)) (write_ranges (stairs g) (lets_go g)) (reading_intervals (stairs g) (lets_go g) boxes)
      (local_ranges (lets_go g)) (Ok fired) (Ok at_rest) d.runs (runs boxes))

  down : (n : ℕ) → n ≤ 2 → IsTermInterval (one_down g) (side (pos n) (pos n) ∷ side (pos 0) (pos 0) ∷ []) (Ok (side (pos (below n)) (pos (below n))))
  down zero le = (
    Ok (side (pos 0) (pos 0)),
    (
      Ok (side (pos 0) (pos 0)),
      refl,
      (
        Ok (side (pos 1) (pos 1)),
        refl,
        greater_false (side (pos 0) (pos 0)) (side (pos 1) (pos 1)) (omega (arith, ints)) (omega (arith, ints)) (omega (arith, ints)),
      ),
    ),
    inr (inl (nought_can, nought_only, refl)),
  )
  down (suc zero) le = (
    Ok (side (pos 0) (pos 0)),
    (
      Ok (side (pos 1) (pos 1)),
      refl,
      (
        Ok (side (pos 1) (pos 1)),
        refl,
        greater_false (side (pos 1) (pos 1)) (side (pos 1) (pos 1)) (omega (arith, ints)) (omega (arith, ints)) (omega (arith, ints)),
      ),
    ),
    inr (inl (nought_can, nought_only, refl)),
  )
  down (suc (suc zero)) le = (
    Ok (side (pos 1) (pos 1)),
    (
      Ok (side (pos 2) (pos 2)),
      refl,
      (
        Ok (side (pos 1) (pos 1)),
        refl,
        greater_true (side (pos 2) (pos 2)) (side (pos 1) (pos 1)) (omega (arith, ints)) (omega (arith, ints)) (omega (arith, ints)),
      ),
    ),
    inl (one_can, one_only, refl),
  )
  down (suc (suc (suc n))) le = absurd (omega (arith, le))

  next : (n : ℕ) → n ≤ 2 → IsNextBox (stairs_plant g) (cell n) (segment (pos 0) (pos 0)) [] (Ok (cell (below n)))
  next n le = (Ok (side (pos (below n)) (pos (below n))), term, (Ok [], refl, refl))
    where
      term : IsTermInterval (stairs_next g) (side (pos n) (pos n) ∷ side (pos 0) (pos 0) ∷ []) (Ok (side (pos (below n)) (pos (below n))))
      term = (
        Ok (side (pos 0) (pos 0)),
        (
          Ok (side (pos 0) (pos 0)),
          refl,
          (
            Ok (side (pos 0) (pos 0)),
            refl,
            greater_false (side (pos 0) (pos 0)) (side (pos 0) (pos 0)) (omega (arith, ints)) (omega (arith, ints)) (omega (arith, ints)),
          ),
        ),
        inr (inl (nought_can, nought_only, down n le)),
      )

  -- the one landing of a cell
  landing : (n : ℕ) → n ≤ 2 → IsLanding (stairs_parts g) (cell n) (cell (below n))
  landing n le = record {
    fired = at_rest;
    drafts = drafts n;
    hulls = [];
    are = tt;
    tick = 1;
    least = omega arith;
    most = omega arith;
    is = (cell n, refl, next n le);
  }

  landing_is : (n : ℕ) (box : List Side) → n ≤ 2 → IsLanding (stairs_parts g) (cell n) box → box ≡ cell (below n)
  landing_is n box le l =
      let fired = fired_is n l.fired l.drafts in
      let hulls : l.hulls ≡ [] = no_hulls (stairs g).modules l.hulls l.are in
      let tick : l.tick ≡ 1 = omega (arith, l.least, l.most) in
      let is = subst (λ f. IsBoxAfter (stairs_plant g) (command_intervals (stairs g) (stairs_plant g) (lets_go g) f.draft) (joined_boxes l.hulls) (cell n)
      l.tick box) fired l.is in
      let seen = subst (λ hs. IsBoxAfter (stairs_plant g) (segment (pos 0) (pos 0)) (joined_boxes hs) (cell n) l.tick box) hulls is in
      let once = subst (λ k. IsBoxAfter (stairs_plant g) (segment (pos 0) (pos 0)) [] (cell n) k box) tick seen in
      unique (stairs_plant g) (segment (pos 0) (pos 0)) [] (cell n) 1 box (cell (below n)) once (cell n, refl, next n le)

  cell_at : (n : ℕ) → n ≤ 2 → At (stairs_parts g).cells.closed.boxes n (cell n)
  cell_at zero le = refl
  cell_at (suc zero) le = refl
  cell_at (suc (suc zero)) le = refl
  cell_at (suc (suc (suc n))) le = absurd (omega (arith, le))

  below_le : (n : ℕ) → n ≤ 2 → below n ≤ 2
  below_le zero le = omega arith
  below_le (suc n) le = omega (arith, le)

  lands : (Of : ℕ → Type 0) (n : ℕ) → n ≤ 2 → Of (below n) → LandsIn (stairs_parts g) Of n
  lands Of n le of =
      (cell n, cell_at n le, λ box s l w. (below n, cell (below n), of, cell_at (below n) (below_le n le), subst (λ b. IsWithin b s) (landing_is n box le l) w))

  -- the ground keeps to itself
  on_ground : Covers (spring_module g).safer.boxes (cell 0)
  on_ground s w = inl w

  stays : StaysSafer (stairs_parts g) (cell 0)
  stays = record {
    fired = at_rest;
    drafts = drafts 0;
    stays = record { hulls = []; are = tt; stays = (on_ground, (cell 0, next 0 (omega arith), on_ground)) };
  }

  keeps : KeepToThemselves (stairs_parts g) (0 ∷ [])
  keeps i has =
      at_one (λ k i. ((c : List Side) × At (stairs_parts g).cells.closed.boxes i c × StaysSafer (stairs_parts g) c)
      × LandsIn (stairs_parts g) (Has (0 ∷ [])) i) 0
      ((cell 0, refl, stays), lands (Has (0 ∷ [])) 0 (omega arith) (0, refl)) has.0 i has.1

  pub rank_of : (n : ℕ) → n ≤ 2 → HasRank (stairs_parts g) n n
  rank_of zero le = (0 ∷ [], (0, refl), keeps)
  rank_of (suc n) le = inr (lands (HasRank (stairs_parts g) n) (suc n) le (rank_of n (omega (arith, le))))

  -- a point is in the cell of its step alone
  only_in : (n i : ℕ) (c : List Side) → At (stairs_parts g).cells.closed.boxes i c → IsWithin c (pos n ∷ []) → (i ≡ n) × (c ≡ cell n)
  only_in n zero c at w = at_step n 0 c (same_Some (cell 0) c at) w
  only_in n (suc zero) c at w = at_step n 1 c (same_Some (cell 1) c at) w
  only_in n (suc (suc zero)) c at w = at_step n 2 c (same_Some (cell 2) c at) w
  only_in n (suc (suc (suc i))) c at w = absurd (none-some c at)

  -- above the ground no cell is inside the safer region
  pub never_0 : (n : ℕ) → 1 ≤ n → n ≤ 2 → HasRank (stairs_parts g) 0 n → ⊥
  never_0 n above le rank =
      let stays = (rank.2 n rank.1).0 in
      let is : cell n ≡ stays.0 = same_Some (cell n) stays.0 (sym (cell_at n le) ∙ stays.1) in
      let in_safer : IsInRegion (spring_module g).safer.boxes (pos n ∷ []) = stays.2.stays.stays.0 (pos n ∷ [])
      (subst (λ c. IsWithin c (pos n ∷ [])) is (omega (arith, ints), omega (arith, ints), tt)) in
      ⊎_elim (λ w. absurd (omega (arith, ints, above, w.1))) (λ no'. no') in_safer

  -- the highest one does not land on the ground
  pub never_1 : HasRank (stairs_parts g) 1 2 → ⊥
  never_1 (inl rank) = never_0 2 (omega arith) (omega arith) rank
  never_1 (inr into) =
      let is : cell 2 ≡ into.0 = same_Some (cell 2) into.0 into.1 in
      let there = into.2 (cell 1) (pos 1 ∷ []) (subst (λ c. IsLanding (stairs_parts g) c (cell 1)) is (landing 2 (omega arith)))
      (omega (arith, ints), omega (arith, ints), tt) in
      let one = only_in 1 there.0 there.1 there.3 there.4 in
      never_0 1 (omega arith) (omega arith) (subst (HasRank (stairs_parts g) 0) one.0 there.2)

  raised : (n : ℕ) → n ≤ 2 → HasRank (stairs_parts g) 2 n
  raised zero le = inl (inl (rank_of 0 le))
  raised (suc zero) le = inl (rank_of 1 le)
  raised (suc (suc zero)) le = rank_of 2 le
  raised (suc (suc (suc n))) le = absurd (omega (arith, le))

  reaches : Reaches (stairs_parts g) 2
  reaches [] safe = ⊎_elim (λ w. absurd w) (λ no'. absurd no') safe
  reaches (pos n ∷ []) safe =
      let le : n ≤ 2 = ⊎_elim (λ w. omega (arith, ints, w.1)) (λ no'. absurd no') safe in
      (n, cell n, raised n le, cell_at n le, (omega (arith, ints), omega (arith, ints), tt))
  reaches (negsuc n ∷ []) safe = ⊎_elim (λ w. absurd (omega (arith, ints, w.0))) (λ no'. absurd no') safe
  reaches (x ∷ y ∷ s) safe = ⊎_elim (λ w. absurd w.2) (λ no'. absurd no') safe

  -- from 2 no rank below 2 shows that the stairs come back
  least : (l : ℕ) → l < 2 → Reaches (stairs_parts g) l → ⊥
  least l lt reached =
      let there = reached (pos 2 ∷ []) (inl (omega (arith, ints), omega (arith, ints), tt)) in
      let one = only_in 2 there.0 there.1 there.3 there.4 in
      too_low l lt (subst (HasRank (stairs_parts g) l) one.0 there.2)
    where
      too_low : (l : ℕ) → l < 2 → HasRank (stairs_parts g) l 2 → ⊥
      too_low zero lt rank = never_0 2 (omega arith) (omega arith) rank
      too_low (suc zero) lt rank = never_1 rank
      too_low (suc (suc l)) lt rank = absurd (omega (arith, lt))

  pub rank : IsRank (stairs_parts g) 2
  rank = record { reaches = reaches; least = least }
