-- Where holds from a cell go.
use Rattle.std.proofs.Common.{◌≡◌, ℕ, zero, suc, ◌+◌, ◌≤◌, ℤ, List, [], ◌∷◌, Ok, refl, sym, subst, arith, length}
use Rattle.std.proofs.lemmas.Option.{same_Some, none-some}
use Rattle.sot_lists.specs.Places.{At}
use Rattle.sot_lists.proofs.Places.{at_same}
use Rattle.sot_box.specs.Sides.{Side}
use Rattle.sot_box.specs.Boxes.{IsWithin}
use Rattle.sot_box.specs.Regions.{IsInRegion}
use Rattle.sot_lang.specs.declared.cert.Cert.{Cert}
use Rattle.sot_lang.specs.Tables.{Tables}
use Rattle.sot_lang.specs.TableRules.{IsTyped}
use Rattle.sot_lang.specs.Values.{Outcome}
use Rattle.sot_lang.specs.Reach.{ComesTo}
use Rattle.sot_iv.specs.BodyIntervals.{Intervals}
use Rattle.sot_tube.specs.Tubes.{TubeInside}
use Rattle.sot_tube.specs.Certified.{DraftsFrom, command_intervals, IsWellCertified}
use Rattle.sot_tube.proofs.Tubes.{tube_inside}
use Rattle.sot_law_runs.proofs.TubeBoxes.{boxes, held}
use Rattle.sot_law_runs.specs.Holds.{Guarded, IsHeldPath, last_of}
use Rattle.sot_law_runs.specs.Ranks.{IsLanding, IsInCells, LandsIn}
use Rattle.sot_law_runs.proofs.Commands.{IsBegun, commands_lie}

ok_same : (a b : List ℤ) → ◌≡◌ {A = Outcome (List ℤ)} (Ok a) (Ok b) → a ≡ b
ok_same a b e = cc

module _ {p : Tables} {cert : Cert} {m : ℕ} (g : Guarded p cert m) where
  path_comes : (c s0 s : List ℤ) (i : ℕ) (path : List (List ℤ)) (j : ℕ) (t : List ℤ) → ComesTo p g.plant (λ d. d ≡ c) s0 i (Ok s) → IsHeldPath g c s path
      → At (s ∷ path) j t → ComesTo p g.plant (λ d. d ≡ c) s0 (j + i) (Ok t)
  path_comes c s0 s i path zero t from h at =
      let e : i ≡ 0 + i = omega arith in
      subst (λ n. ComesTo p g.plant (λ d. d ≡ c) s0 n (Ok t)) e (subst (λ q. ComesTo p g.plant (λ d. d ≡ c) s0 i (Ok q)) (same_Some s t at) from)
  path_comes c s0 s i [] (suc j) t from h at = absurd (none-some t at)
  path_comes c s0 s i (u ∷ path) (suc j) t from h at =
      let e : j + suc i ≡ suc j + i = omega arith in
      subst (λ n. ComesTo p g.plant (λ d. d ≡ c) s0 n (Ok t)) e (path_comes c s0 u (suc i) path j t (s, from, h.0) h.1 at)

  -- each point of a hold comes after as many ticks as its place says
  point_comes : (s : List ℤ) (path : List (List ℤ)) (h : IsBegun g s path) (j : ℕ) (t : List ℤ) → At (s ∷ path) j t
      → ComesTo p g.plant (λ d. d ≡ h.c) s j (Ok t)
  point_comes s path h j t at =
      let e : j + 0 ≡ j = omega arith in
      subst (λ n. ComesTo p g.plant (λ d. d ≡ h.c) s n (Ok t)) e (path_comes h.c s s 0 path j t refl h.ticks at)

  at_most : (s : List ℤ) (path : List (List ℤ)) (j : ℕ) (t : List ℤ) → At (s ∷ path) j t → j ≤ length path
  at_most s path zero t at = omega arith
  at_most s [] (suc j) t at = absurd (none-some t at)
  at_most s (u ∷ path) (suc j) t at = (let h = at_most u path j t at in omega (arith, h))

  pub last_at : (s : List ℤ) (path : List (List ℤ)) → At (s ∷ path) (length path) (last_of g s path)
  last_at s [] = refl
  last_at s (t ∷ path) = last_at t path

  module _ (typed : IsTyped p) where
    -- a tube inside a region holds each point of a hold from its cell there
    pub points_inside : (region : List (List Side)) (cell : List Side) (s : List ℤ) (path : List (List ℤ)) (fired : Intervals)
        → DraftsFrom p g.info g.sc g.acts cell fired → TubeInside p g.plant (command_intervals p g.plant g.sc fired.draft) region cell
        (g.sc.period + cert.jitter) → IsWithin cell s → IsBegun g s path → (j : ℕ) (t : List ℤ) → At (s ∷ path) j t → IsInRegion region t
    points_inside region cell s path fired drafts stays in_cell h j t at =
        let lies = commands_lie g typed cell s path fired drafts h in_cell in
        let le = at_most s path j t at in
        let most = h.most in
        tube_inside p g.plant (λ d. d ≡ h.c) (command_intervals p g.plant g.sc fired.draft) region cell (g.sc.period + cert.jitter) s
        (λ d is. subst (IsWithin (command_intervals p g.plant g.sc fired.draft)) (sym is) lies) in_cell stays (Ok t)
        (j, omega (arith, le, most), point_comes s path h j t at)

    -- the last point of a hold is in a landing of its cell
    pub lands : IsWellCertified p cert.jitter cert → (Of : ℕ → Type 0) (i : ℕ) (cell : List Side) (s : List ℤ) (path : List (List ℤ))
        → At g.cells.closed.boxes i cell → IsWithin cell s → IsBegun g s path → g.sc.period ≤ length path + cert.jitter → LandsIn g Of i
        → IsInCells g Of (last_of g s path)
    lands c Of i cell s path at in_cell h least into =
        let is = c.closed_cells m g.info g.plant g.sc g.acts g.cells i cell g.info_is g.plant_is g.sc_is g.coded g.cells_are at in
        let commands = command_intervals p g.plant g.sc is.fired.draft in
        let lies = commands_lie g typed cell s path is.fired is.drafts h in_cell in
        let box = boxes p g.plant commands g.info.safe.boxes cell (g.sc.period + cert.jitter) is.stays (length path) h.most in
        let point = held p g.plant commands is.stays.hulls cell box.0 (length path) s h.c (Ok (last_of g s path)) lies is.stays.are box.1 in_cell
        (point_comes s path h (length path) (last_of g s path) (last_at s path)) in
        let same : last_of g s path ≡ point.0 = ok_same (last_of g s path) point.0 point.1 in
        let one : into.0 ≡ cell = at_same g.cells.closed.boxes i into.0 cell into.1 at in
        let landing : IsLanding g cell box.0 = record {
          fired = is.fired;
          drafts = is.drafts;
          hulls = is.stays.hulls;
          are = is.stays.are;
          tick = length path;
          least = least;
          most = h.most;
          is = box.1;
        } in
        into.2 box.0 (last_of g s path) (subst (λ q. IsLanding g q box.0) (sym one) landing) (subst (IsWithin box.0) (sym same) point.2)
