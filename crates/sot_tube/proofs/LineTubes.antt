-- Worked tubes of the running example.
use Rattle.std.proofs.Common.{◌≡◌, ℕ, suc, ◌+◌, ◌*◌, ℤ, pos, negsuc, ◌+ℤ◌, ◌≤ℤ◌, inl, inr, ⊎_elim, refl, sym, Ok, Err, List, [], ◌∷◌, arith, subst}
use Rattle.std.specs.Prelude.{◌<ℤ◌}
use Rattle.std.proofs.lemmas.Int.{ints}
use Rattle.std.proofs.lemmas.Option.{same_Some}
use Rattle.std.specs.Global.{Global}
use Rattle.sot_box.specs.Sides.{Side}
use Rattle.sot_lists.specs.Places.{At}
use Rattle.sot_box.specs.Boxes.{IsWithin, IsBefore}
use Rattle.sot_box.specs.Regions.{IsInRegion, Covers, IsGap, IsHull}
use Rattle.sot_lang.specs.Line.{side, somewhere, pos_plant, nav}
use Rattle.sot_lists.proofs.ShortLists.{at_one}
use Rattle.sot_tube.specs.declared.leave.Leave.{Leave}
use Rattle.sot_tube.specs.declared.leave.Leave.TheVariants.{Out}
use Rattle.sot_lang.specs.declared.trap.TrapKind.TheVariants.{ZeroDivisor}
use Rattle.sot_tube.specs.Tubes.{IsNextBox, AnyTubeInside, Keeps}
use Rattle.sot_tube.specs.Leaves.{GoesOut, Leaves}
use Rattle.sot_tube.specs.Examples.{segment, at_x, line1, follower, divider, KeptAt12, JitterIsTwice, TubesOfTheLine, CommandsAreSureOrWhole}
use Rattle.sot_tube.specs.Examples.{SeenPlantsAreInHulls, OutComesBeforeTrap}
use Rattle.sot_tube.proofs.LineBoxes.{add_box, any_box, any_stays, covers}
use Rattle.sot_tube.proofs.Leaving.{tube_leaves_not}

-- on one axis the region from a to b covers what lies in it
pub covers_segment : (a b lo hi : ℤ) → a ≤ℤ lo → hi ≤ℤ b → Covers (segment a b ∷ []) (segment lo hi)
covers_segment a b lo hi p q [] w = absurd w
covers_segment a b lo hi p q (x ∷ []) w = inl (omega (arith, ints, w.0), omega (arith, ints, w.1), tt)
covers_segment a b lo hi p q (x ∷ y ∷ ys) w = absurd w.2

-- a box that begins below the region has its low end as its gap
pub gap_below : (a b lo hi : ℤ) → lo <ℤ a → lo ≤ℤ hi → IsGap (segment a b ∷ []) (segment lo hi) (at_x lo)
gap_below a b lo hi below le = record {
  inside = (omega (arith, ints), le, tt);
  outside = λ i. ⊎_elim (λ w. omega (arith, ints, w.0)) (λ no'. no') i;
  least = least;
}
  where
    least : (t : List ℤ) → IsWithin (segment lo hi) t → IsBefore t (at_x lo) → IsInRegion (segment a b ∷ []) t
    least [] w before = absurd w
    least (x ∷ []) w before = absurd (⊎_elim (λ less. omega (arith, ints, w.0, less)) (λ same. same.1) before)
    least (x ∷ y ∷ ys) w before = absurd w.2

-- a box that begins in the region and ends above it has as its gap the first number above
pub gap_above : (a b lo hi : ℤ) → a ≤ℤ lo → lo ≤ℤ (b +ℤ pos 1) → b <ℤ hi → IsGap (segment a b ∷ []) (segment lo hi) (at_x (b +ℤ pos 1))
gap_above a b lo hi in' meets above = record {
  inside = (meets, omega (arith, ints), tt);
  outside = λ i. ⊎_elim (λ w. omega (arith, ints, w.1)) (λ no'. no') i;
  least = least;
}
  where
    least : (t : List ℤ) → IsWithin (segment lo hi) t → IsBefore t (at_x (b +ℤ pos 1)) → IsInRegion (segment a b ∷ []) t
    least [] w before = absurd w
    least (x ∷ []) w before = ⊎_elim (λ less. inl (omega (arith, ints, w.0), omega (arith, ints, less), tt)) (λ same. absurd same.1) before
    least (x ∷ y ∷ ys) w before = absurd w.2

module _ (g : Global) where
  -- a tube with any commands that goes on, and leaves later
  pub later : (k n : ℕ) (lo hi : ℤ) (leave : Leave) → lo ≤ℤ hi → negsuc 39 ≤ℤ lo → hi ≤ℤ pos 40
      → Leaves (pos_plant g) (segment (negsuc 1) (pos 2)) [] (nav g).safe.boxes (segment (lo +ℤ negsuc 1 +ℤ negsuc 0) (hi +ℤ pos 2 +ℤ pos 1)) (suc n) k leave
      → Leaves (pos_plant g) (segment (negsuc 1) (pos 2)) [] (nav g).safe.boxes (segment lo hi) n (suc k) leave
  later k n lo hi leave le low high rest = inr (inr (covers g lo hi low high, _, any_box g lo hi le (omega (arith, ints)) (omega (arith, ints)), rest))

  pub low_end : (n : ℕ) (lo hi : ℤ) → lo <ℤ negsuc 39 → lo ≤ℤ hi → GoesOut (nav g).safe.boxes (segment lo hi) n (Out n (segment lo hi) (at_x lo))
  low_end n lo hi below le = (at_x lo, gap_below (negsuc 39) (pos 40) lo hi below le, refl)

  pub wide_leaves : Leaves (pos_plant g) (segment (negsuc 1) (pos 2)) [] (nav g).safe.boxes (segment (negsuc 16) (pos 17)) 0 8
      (Out 8 (segment (negsuc 40) (pos 41)) (at_x (negsuc 40)))
  wide_leaves =
      later 7 0 (negsuc 16) (pos 17) end (omega (arith, ints)) (omega (arith, ints)) (omega (arith, ints))
      (later 6 1 (negsuc 19) (pos 20) end (omega (arith, ints)) (omega (arith, ints)) (omega (arith, ints))
      (later 5 2 (negsuc 22) (pos 23) end (omega (arith, ints)) (omega (arith, ints)) (omega (arith, ints))
      (later 4 3 (negsuc 25) (pos 26) end (omega (arith, ints)) (omega (arith, ints)) (omega (arith, ints))
      (later 3 4 (negsuc 28) (pos 29) end (omega (arith, ints)) (omega (arith, ints)) (omega (arith, ints))
      (later 2 5 (negsuc 31) (pos 32) end (omega (arith, ints)) (omega (arith, ints)) (omega (arith, ints))
      (later 1 6 (negsuc 34) (pos 35) end (omega (arith, ints)) (omega (arith, ints)) (omega (arith, ints))
      (later 0 7 (negsuc 37) (pos 38) end (omega (arith, ints)) (omega (arith, ints)) (omega (arith, ints))
      (low_end 8 (negsuc 40) (pos 41) (omega (arith, ints)) (omega (arith, ints))))))))))
    where
      end : Leave
      end = Out 8 (segment (negsuc 40) (pos 41)) (at_x (negsuc 40))

  pub tubes_of_the_line : TubesOfTheLine g
  tubes_of_the_line = (
    record { hulls = []; are = tt; stays = any_stays g 8 (negsuc 15) (pos 16) (omega (arith, ints)) (omega (arith, ints)) (omega (arith, ints)) },
    record { hulls = []; are = tt; leaves = wide_leaves },
  )

  kept : (jitter : ℕ) (x : ℤ) → (negsuc 39 +ℤ pos (3 * (2 * (4 + jitter)))) ≤ℤ x → (x +ℤ pos (3 * (2 * (4 + jitter)))) ≤ℤ pos 40
      → Keeps (line1 g) jitter (nav g) (at_x x)
  kept jitter x low high =
      record {
        plant = pos_plant g;
        is = refl;
        inside = record
            { hulls = []; are = tt; stays = any_stays g (2 * (4 + jitter)) x x (omega (arith, ints)) low high };
      }

  pub high_end : (n : ℕ) (lo hi : ℤ) → negsuc 39 ≤ℤ lo → lo ≤ℤ pos 41 → pos 40 <ℤ hi
      → GoesOut (nav g).safe.boxes (segment lo hi) n (Out n (segment lo hi) (at_x (pos 41)))
  high_end n lo hi in' meets above = (at_x (pos 41), gap_above (negsuc 39) (pos 40) lo hi in' meets above, refl)

  not_kept : (jitter : ℕ) (x : ℤ) (leave : Leave) → Leaves (pos_plant g) (segment (negsuc 1) (pos 2)) [] (nav g).safe.boxes (segment x x) 0 (2 * (4 + jitter))
      leave → Keeps (line1 g) jitter (nav g) (at_x x) → ⊥
  not_kept jitter x leave leaves keeps =
      let same : keeps.plant ≡ pos_plant g = sym (same_Some (pos_plant g) keeps.plant keeps.is) in
      tube_leaves_not (line1 g) (pos_plant g) (segment (negsuc 1) (pos 2)) (nav g).safe.boxes (segment x x) (2 * (4 + jitter)) leave
      (record { hulls = []; are = tt; leaves = leaves })
      (subst (λ q. AnyTubeInside (line1 g) q (nav g).safe.boxes (segment x x) (2 * (4 + jitter))) same keeps.inside)

  leaves_from_20 : Leaves (pos_plant g) (segment (negsuc 1) (pos 2)) [] (nav g).safe.boxes (segment (pos 20) (pos 20)) 0 8
      (Out 7 (segment (negsuc 0) (pos 41)) (at_x (pos 41)))
  leaves_from_20 =
      later 7 0 (pos 20) (pos 20) end (omega (arith, ints)) (omega (arith, ints)) (omega (arith, ints))
      (later 6 1 (pos 17) (pos 23) end (omega (arith, ints)) (omega (arith, ints)) (omega (arith, ints))
      (later 5 2 (pos 14) (pos 26) end (omega (arith, ints)) (omega (arith, ints)) (omega (arith, ints))
      (later 4 3 (pos 11) (pos 29) end (omega (arith, ints)) (omega (arith, ints)) (omega (arith, ints))
      (later 3 4 (pos 8) (pos 32) end (omega (arith, ints)) (omega (arith, ints)) (omega (arith, ints))
      (later 2 5 (pos 5) (pos 35) end (omega (arith, ints)) (omega (arith, ints)) (omega (arith, ints))
      (later 1 6 (pos 2) (pos 38) end (omega (arith, ints)) (omega (arith, ints)) (omega (arith, ints))
      (inl (high_end 7 (negsuc 0) (pos 41) (omega (arith, ints)) (omega (arith, ints)) (omega (arith, ints))))))))))
    where
      end : Leave
      end = Out 7 (segment (negsuc 0) (pos 41)) (at_x (pos 41))

  leaves_from_11 : Leaves (pos_plant g) (segment (negsuc 1) (pos 2)) [] (nav g).safe.boxes (segment (pos 11) (pos 11)) 0 10
      (Out 10 (segment (negsuc 18) (pos 41)) (at_x (pos 41)))
  leaves_from_11 =
      later 9 0 (pos 11) (pos 11) end (omega (arith, ints)) (omega (arith, ints)) (omega (arith, ints))
      (later 8 1 (pos 8) (pos 14) end (omega (arith, ints)) (omega (arith, ints)) (omega (arith, ints))
      (later 7 2 (pos 5) (pos 17) end (omega (arith, ints)) (omega (arith, ints)) (omega (arith, ints))
      (later 6 3 (pos 2) (pos 20) end (omega (arith, ints)) (omega (arith, ints)) (omega (arith, ints))
      (later 5 4 (negsuc 0) (pos 23) end (omega (arith, ints)) (omega (arith, ints)) (omega (arith, ints))
      (later 4 5 (negsuc 3) (pos 26) end (omega (arith, ints)) (omega (arith, ints)) (omega (arith, ints))
      (later 3 6 (negsuc 6) (pos 29) end (omega (arith, ints)) (omega (arith, ints)) (omega (arith, ints))
      (later 2 7 (negsuc 9) (pos 32) end (omega (arith, ints)) (omega (arith, ints)) (omega (arith, ints))
      (later 1 8 (negsuc 12) (pos 35) end (omega (arith, ints)) (omega (arith, ints)) (omega (arith, ints))
      (later 0 9 (negsuc 15) (pos 38) end (omega (arith, ints)) (omega (arith, ints)) (omega (arith, ints))
      (high_end 10 (negsuc 18) (pos 41) (omega (arith, ints)) (omega (arith, ints)) (omega (arith, ints))))))))))))
    where
      end : Leave
      end = Out 10 (segment (negsuc 18) (pos 41)) (at_x (pos 41))

  pub kept_at_12 : KeptAt12 g
  kept_at_12 =
      (kept 0 (pos 12) (omega (arith, ints)) (omega (arith, ints)), not_kept 0 (pos 20) (Out 7 (segment (negsuc 0) (pos 41)) (at_x (pos 41))) leaves_from_20)

  pub jitter_is_twice : JitterIsTwice g
  jitter_is_twice =
      (kept 1 (pos 10) (omega (arith, ints)) (omega (arith, ints)), not_kept 1 (pos 11) (Out 10 (segment (negsuc 18) (pos 41)) (at_x (pos 41))) leaves_from_11)

  pub commands_are_sure_or_whole : CommandsAreSureOrWhole g
  commands_are_sure_or_whole = (refl, refl, refl, refl)

  -- the tick of the follower
  follows : IsNextBox (follower g) (segment (pos 0) (pos 0)) (segment (negsuc 1) (pos 2)) (segment (negsuc 39) (pos 40)) (Ok (segment (negsuc 39) (pos 40)))
  follows = (
    Ok (side (negsuc 39) (pos 40)),
    (
      Ok (side (pos 0) (pos 0)),
      refl,
      (
        Ok (side (negsuc 39) (pos 40)),
        refl,
        add_box (side (pos 0) (pos 0)) (side (negsuc 39) (pos 40)) (omega (arith, ints)) (omega (arith, ints)) (refl, refl),
      ),
    ),
    (Ok [], refl, refl),
  )

  follower_leaves : Leaves (follower g) (segment (negsuc 1) (pos 2)) (segment (negsuc 39) (pos 40)) (segment (negsuc 38) (pos 40) ∷ [])
      (segment (pos 0) (pos 0)) 0 1 (Out 1 (segment (negsuc 39) (pos 40)) (at_x (negsuc 39)))
  follower_leaves = inr (inr (
    covers_segment (negsuc 38) (pos 40) (pos 0) (pos 0) (omega (arith, ints)) (omega (arith, ints)),
    _,
    follows,
    (at_x (negsuc 39), gap_below (negsuc 38) (pos 40) (negsuc 39) (pos 40) (omega (arith, ints)) (omega (arith, ints)), refl),
  ))

  -- the hull of a region on one axis, of which both ends are points
  hull_between : (region : List (List Side)) (lo hi : ℤ) → IsInRegion region (at_x lo) → IsInRegion region (at_x hi)
      → ((s : List ℤ) → IsInRegion region s → IsWithin (segment lo hi) s) → IsHull region (segment lo hi)
  hull_between region lo hi low high holds = record {
    has_point = (at_x lo, low);
    holds = holds;
    low = at_one (λ i r. (s : List ℤ) × IsInRegion region s × At s i r.lo) (side lo hi) (at_x lo, low, refl);
    high = at_one (λ i r. (s : List ℤ) × IsInRegion region s × At s i r.hi) (side lo hi) (at_x hi, high, refl);
  }

  pub nav_hull : IsHull (nav g).safe.boxes (segment (negsuc 39) (pos 40))
  nav_hull =
      hull_between (nav g).safe.boxes (negsuc 39) (pos 40) (inl (omega (arith, ints), omega (arith, ints), tt))
      (inl (omega (arith, ints), omega (arith, ints), tt)) (λ s i. ⊎_elim (λ w. w) (λ no'. absurd no') i)

  pieces : (s : List ℤ) → IsInRegion (segment (negsuc 39) (negsuc 29) ∷ segment (pos 30) (pos 40) ∷ []) s → IsWithin (segment (negsuc 39) (pos 40)) s
  pieces [] i = ⊎_elim (λ w. absurd w) (λ more. ⊎_elim (λ w. absurd w) (λ no'. absurd no') more) i
  pieces (x ∷ []) i = ⊎_elim (λ w. (w.0, omega (arith, ints, w.1), tt)) (λ more. ⊎_elim (λ w. (omega (arith, ints, w.0), w.1, tt)) (λ no'. absurd no') more) i
  pieces (x ∷ y ∷ ys) i = ⊎_elim (λ w. absurd w.2) (λ more. ⊎_elim (λ w. absurd w.2) (λ no'. absurd no') more) i

  split_hull : IsHull (segment (negsuc 39) (negsuc 29) ∷ segment (pos 30) (pos 40) ∷ []) (segment (negsuc 39) (pos 40))
  split_hull =
      hull_between (segment (negsuc 39) (negsuc 29) ∷ segment (pos 30) (pos 40) ∷ []) (negsuc 39) (pos 40) (inl (omega (arith, ints), omega (arith, ints), tt))
      (inr (inl (omega (arith, ints), omega (arith, ints), tt))) pieces

  pub seen_plants_are_in_hulls : SeenPlantsAreInHulls g
  seen_plants_are_in_hulls = (
    record { hulls = segment (negsuc 39) (pos 40) ∷ []; are = (nav_hull, tt); leaves = follower_leaves },
    record { hulls = segment (negsuc 39) (pos 40) ∷ []; are = (split_hull, tt); leaves = follower_leaves },
  )

  -- the divider's step from 0 to 2 may divide by 0
  divides : IsNextBox (divider g) (segment (pos 0) (pos 2)) (segment (negsuc 1) (pos 2)) []
      (Err (record { at = somewhere; kind = ZeroDivisor; lo = pos 0; hi = pos 2 }))
  divides = (
    Err (record { at = somewhere; kind = ZeroDivisor; lo = pos 0; hi = pos 2 }),
    (Ok (side (pos 10) (pos 10)), refl, (Ok (side (pos 0) (pos 2)), refl, inl ((omega (arith, ints), omega (arith, ints)), refl))),
    refl,
  )

  pub out_comes_before_trap : OutComesBeforeTrap g
  out_comes_before_trap = (
    record {
      hulls = [];
      are = tt;
      leaves = inl (
        at_x (pos 6),
        gap_above (pos 0) (pos 5) (pos 0) (pos 6) (omega (arith, ints)) (omega (arith, ints)) (omega (arith, ints)),
        refl,
      );
    },
    record {
      hulls = [];
      are = tt;
      leaves = inr (inl (
        covers_segment (pos 0) (pos 5) (pos 0) (pos 2) (omega (arith, ints)) (omega (arith, ints)),
        _,
        divides,
        refl,
      ));
    },
    record { hulls = []; are = tt; stays = covers_segment (pos 0) (pos 5) (pos 0) (pos 2) (omega (arith, ints)) (omega (arith, ints)) },
  )
