-- A module has one rank at most, or one point.
use Rattle.std.proofs.Common.{◌≡◌, ℕ, zero, suc, ◌+◌, ◌<◌, ◌≤◌, ℤ, ◌⊎◌, inl, inr, ⊎_elim, List, [], ◌∷◌, Some, map, refl, sym, ap, ◌∙◌, subst}
use Rattle.std.proofs.Common.{arith}
use Rattle.std.specs.Prelude.{slice_index_or}
use Rattle.std.proofs.lemmas.Option.{same_Some, none-some}
use Rattle.sot_lists.specs.Places.{At, Has}
use Rattle.sot_lists.proofs.Places.{at_same}
use Rattle.sot_box.specs.Sides.{Side}
use Rattle.sot_box.specs.Boxes.{IsWithin}
use Rattle.sot_box.specs.Regions.{IsInRegion, Covers, IsGap, IsFirstGap}
use Rattle.sot_box.proofs.Laws.{first_gap_unique}
use Rattle.sot_lang.specs.declared.cert.Cert.{Cert}
use Rattle.sot_lang.specs.declared.cert.Cells.{Cells}
use Rattle.sot_lang.specs.Tables.{Tables}
use Rattle.sot_lang.specs.SafeRegions.{AreHulls, joined_boxes}
use Rattle.sot_iv.specs.BodyIntervals.{Intervals}
use Rattle.sot_tube.specs.Tubes.{TubeInside}
use Rattle.sot_tube.specs.Certified.{DraftsFrom, command_intervals}
use Rattle.sot_law_runs.specs.TubeBoxes.{IsBoxAfter}
use Rattle.sot_law_runs.specs.Holds.{Guarded}
use Rattle.sot_law_runs.specs.Ranks.{StaysSafer, IsLanding, IsInCells, LandsIn, HasRank, Reaches, IsRank, HasNoRank}
use Rattle.sot_law_runs.specs.RecoveryLaws.{RanksAreOne}

-- two accounts of one module have the same parts
pub record Same {p : Tables} {cert : Cert} {m : ℕ} (g h : Guarded p cert m) : Type 0 where
  pub info : g.info ≡ h.info
  pub plant : g.plant ≡ h.plant
  pub sc : g.sc ≡ h.sc
  pub acts : g.acts ≡ h.acts
  pub cells : g.cells ≡ h.cells

pub same : {p : Tables} {cert : Cert} {m : ℕ} (g h : Guarded p cert m) → Same g h
same {p} {cert} {m} g h =
    let info : g.info ≡ h.info = at_same p.modules m g.info h.info g.info_is h.info_is in
    let plant : g.plant ≡ h.plant = at_same p.plants h.info.plant g.plant h.plant (subst (λ a. At p.plants a.plant g.plant) info g.plant_is) h.plant_is in
    let sc : g.sc ≡ h.sc = at_same p.nodes h.info.sc g.sc h.sc (subst (λ a. At p.nodes a.sc g.sc) info g.sc_is) h.sc_is in
    let a = g.coded in
    let b = h.coded in
    let body : g.sc.body ≡ h.sc.body = ap (λ n. n.body) sc in
    let one : a.0 ≡ b.0 = same_Some a.0 b.0 (sym a.1 ∙ body ∙ b.1) in
    record {
      info = info;
      plant = plant;
      sc = sc;
      acts = sym a.2 ∙ ap (λ v. v.items) one ∙ b.2;
      cells = some_same g.cells h.cells (same_Some (Some g.cells) (Some h.cells) (sym g.cells_are ∙ h.cells_are));
    }
  where
    some_same : (x y : Cells) → Some x ≡ Some y → x ≡ y
    some_same x y e = same_Some x y e

module _ {p : Tables} {cert : Cert} {m : ℕ} (g h : Guarded p cert m) (s : Same g h) where
  drafts_same : (cell : List Side) (fired : Intervals) → DraftsFrom p g.info g.sc g.acts cell fired → DraftsFrom p h.info h.sc h.acts cell fired
  drafts_same cell fired d =
      subst (λ a. DraftsFrom p a h.sc h.acts cell fired) s.info
      (subst (λ n. DraftsFrom p g.info n h.acts cell fired) s.sc (subst (λ x. DraftsFrom p g.info g.sc x cell fired) s.acts d))

  landing_same : (cell box : List Side) → IsLanding g cell box → IsLanding h cell box
  landing_same cell box l = record {
    fired = l.fired;
    drafts = drafts_same cell l.fired l.drafts;
    hulls = l.hulls;
    are = subst (λ q. AreHulls p.modules q.sees.items l.hulls) s.plant l.are;
    tick = l.tick;
    least = subst (λ n. n.period ≤ l.tick + cert.jitter) s.sc l.least;
    most = subst (λ n. l.tick ≤ n.period + cert.jitter) s.sc l.most;
    is =
        subst (λ q. IsBoxAfter q (command_intervals p q h.sc l.fired.draft) (joined_boxes l.hulls) cell l.tick box) s.plant
        (subst (λ n. IsBoxAfter g.plant (command_intervals p g.plant n l.fired.draft) (joined_boxes l.hulls) cell l.tick box) s.sc l.is);
  }

  stays_same : (cell : List Side) → StaysSafer g cell → StaysSafer h cell
  stays_same cell t = record {
    fired = t.fired;
    drafts = drafts_same cell t.fired t.drafts;
    stays = subst (λ a. TubeInside p h.plant (command_intervals p h.plant h.sc t.fired.draft) a.safer.boxes cell (h.sc.period + cert.jitter)) s.info
        (subst (λ q. TubeInside p q (command_intervals p q h.sc t.fired.draft) g.info.safer.boxes cell (h.sc.period + cert.jitter)) s.plant
        (subst (λ n. TubeInside p g.plant (command_intervals p g.plant n t.fired.draft) g.info.safer.boxes cell (n.period + cert.jitter)) s.sc t.stays));
  }

  cell_same : (i : ℕ) (cell : List Side) → At g.cells.closed.boxes i cell → At h.cells.closed.boxes i cell
  cell_same i cell at = subst (λ q. At q.closed.boxes i cell) s.cells at

  in_cells_same : (Of Also : ℕ → Type 0) → ((i : ℕ) → Of i → Also i) → (t : List ℤ) → IsInCells g Of t → IsInCells h Also t
  in_cells_same Of Also more t c = (c.0, c.1, more c.0 c.2, cell_same c.0 c.1 c.3, c.4)

back : {p : Tables} {cert : Cert} {m : ℕ} (g h : Guarded p cert m) → Same g h → Same h g
back g h s = record { info = sym s.info; plant = sym s.plant; sc = sym s.sc; acts = sym s.acts; cells = sym s.cells }

module _ {p : Tables} {cert : Cert} {m : ℕ} (g h : Guarded p cert m) (s : Same g h) where
  pub lands_same : (Of Also : ℕ → Type 0) → ((i : ℕ) → Of i → Also i) → (i : ℕ) → LandsIn g Of i → LandsIn h Also i
  lands_same Of Also more i l =
      (l.0, cell_same g h s i l.0 l.1, λ box t landing w. in_cells_same g h s Of Also more t (l.2 box t (landing_same h g (back g h s) l.0 box landing) w))

  rank_same : (k i : ℕ) → HasRank g k i → HasRank h k i
  rank_same zero i r = (
    r.0,
    r.1,
    λ j has. let keeps = r.2 j has in (
      (keeps.0.0, cell_same g h s j keeps.0.0 keeps.0.1, stays_same g h s keeps.0.0 keeps.0.2),
      lands_same (Has r.0) (Has r.0) (λ n x. x) j keeps.1,
    ),
  )
  rank_same (suc k) i (inl r) = inl (rank_same k i r)
  rank_same (suc k) i (inr l) = inr (lands_same (HasRank g k) (HasRank h k) (rank_same k) i l)

  reaches_same : (k : ℕ) → Reaches g k → Reaches h k
  reaches_same k r t in_safe =
      in_cells_same g h s (HasRank g k) (HasRank h k) (rank_same k) t (r t (subst (λ a. IsInRegion a.safe.boxes t) (sym s.info) in_safe))

order : (a b : ℕ) → (a ≡ b) ⊎ ((a < b) ⊎ (b < a))
order zero zero = inl refl
order zero (suc b) = inr (inl (omega arith))
order (suc a) zero = inr (inr (omega arith))
order (suc a) (suc b) = ⊎_elim (λ e. inl (ap suc e)) (λ r. inr (⊎_elim (λ l. inl (omega (arith, l))) (λ l. inr (omega (arith, l))) r)) (order a b)

-- what lies in some chosen cells
module _ (of : ℕ → List Side) where
  pub chosen : (places : List ℕ) (t : List ℤ) → IsInRegion (map of places) t → (i : ℕ) × Has places i × IsWithin (of i) t
  chosen [] t h = absurd h
  chosen (i ∷ is) t h = ⊎_elim (λ w. (i, (0, refl), w)) (λ more. let r = chosen is t more in (r.0, (suc r.1.0, r.1.1), r.2)) h

  pub choose : (places : List ℕ) (t : List ℤ) (i n : ℕ) → At places n i → IsWithin (of i) t → IsInRegion (map of places) t
  choose [] t i n at w = absurd (none-some i at)
  choose (j ∷ is) t i zero at w = inl (subst (λ k. IsWithin (of k) t) (sym (same_Some j i at)) w)
  choose (j ∷ is) t i (suc n) at w = inr (choose is t i n at w)

covers_same : (r q : List (List Side)) (b : List Side) → ((t : List ℤ) → IsInRegion r t → IsInRegion q t) → Covers r b → Covers q b
covers_same r q b more h t w = more t (h t w)

gap_same : (r q : List (List Side)) (b : List Side) (t : List ℤ) → ((u : List ℤ) → IsInRegion r u → IsInRegion q u)
    → ((u : List ℤ) → IsInRegion q u → IsInRegion r u) → IsGap r b t → IsGap q b t
gap_same r q b t more less h = record { inside = h.inside; outside = λ i. h.outside (less t i); least = λ u w before. more u (h.least u w before) }

first_same : (bs r q : List (List Side)) (t : List ℤ) → ((u : List ℤ) → IsInRegion r u → IsInRegion q u) → ((u : List ℤ) → IsInRegion q u → IsInRegion r u)
    → IsFirstGap bs r t → IsFirstGap bs q t
first_same [] r q t more less h = h
first_same (b ∷ bs) r q t more less (inl gap) = inl (gap_same r q b t more less gap)
first_same (b ∷ bs) r q t more less (inr rest) = inr (covers_same r q b more rest.0, first_same bs r q t more less rest.1)

pub ranks_are_one : RanksAreOne
ranks_are_one p cert m g h k l s t = (one, points, never)
  where
    so : Same g h
    so = same g h

    one : IsRank g k → IsRank h l → k ≡ l
    one a b =
        ⊎_elim (λ e. e) (λ r. ⊎_elim (λ lt. absurd (b.least k lt (reaches_same g h so k a.reaches)))
        (λ lt. absurd (a.least l lt (reaches_same h g (back g h so) l b.reaches))) r) (order k l)

    never : IsRank g k → HasNoRank h s → ⊥
    never a b = b.none k (reaches_same g h so k a.reaches)

    -- places that have a rank in the one account are those of the other
    across : {x y : Guarded p cert m} → Same x y → (a : HasNoRank x s) (b : HasNoRank y t) → (u : List ℤ)
        → IsInRegion (map (λ i. slice_index_or x.cells.closed.boxes i []) a.places) u
        → IsInRegion (map (λ i. slice_index_or y.cells.closed.boxes i []) b.places) u
    across {x} {y} e a b u inside =
        let c = chosen (λ i. slice_index_or x.cells.closed.boxes i []) a.places u inside in
        let rank = (a.are c.0).0 c.1 in
        let has = (b.are c.0).1 (rank.0, rank_same x y e rank.0 c.0 rank.1) in
        choose (λ i. slice_index_or y.cells.closed.boxes i []) b.places u c.0 has.0 has.1
        (subst (λ q. IsWithin (slice_index_or q.closed.boxes c.0 []) u) e.cells c.2)

    across2 : (a : HasNoRank g s) (b : HasNoRank h t) → (u : List ℤ) → IsInRegion (map (λ i. slice_index_or h.cells.closed.boxes i []) b.places) u
        → IsInRegion (map (λ i. slice_index_or g.cells.closed.boxes i []) a.places) u
    across2 a b u inside =
        let e = back g h so in
        let c = chosen (λ i. slice_index_or h.cells.closed.boxes i []) b.places u inside in
        let rank = (b.are c.0).0 c.1 in
        let has = (a.are c.0).1 (rank.0, rank_same h g e rank.0 c.0 rank.1) in
        choose (λ i. slice_index_or g.cells.closed.boxes i []) a.places u c.0 has.0 has.1
        (subst (λ q. IsWithin (slice_index_or q.closed.boxes c.0 []) u) e.cells c.2)

    points : HasNoRank g s → HasNoRank h t → s ≡ t
    points a b =
        let r = map (λ i. slice_index_or g.cells.closed.boxes i []) a.places in
        let q = map (λ i. slice_index_or h.cells.closed.boxes i []) b.places in
        first_gap_unique h.info.safe.boxes q s t
        (first_same h.info.safe.boxes r q s (across so a b) (across2 a b) (subst (λ x. IsFirstGap x.safe.boxes r s) so.info a.first))
        b.first
