-- Rows of holds, and ranks.
use Rattle.std.proofs.Common.{◌≡◌, ℕ, zero, suc, ◌≤◌, ℤ, inl, inr, List, [], ◌∷◌, sym, subst, arith, length}
use Rattle.std.proofs.lemmas.Option.{same_Some, none-some}
use Rattle.sot_lists.specs.Places.{At, Has}
use Rattle.sot_lists.proofs.Places.{at_same, at_below}
use Rattle.sot_box.specs.Boxes.{IsWithin}
use Rattle.sot_box.specs.Regions.{IsInRegion}
use Rattle.sot_lang.specs.declared.cert.Cert.{Cert}
use Rattle.sot_lang.specs.Tables.{Tables}
use Rattle.sot_lang.specs.TableRules.{IsTyped}
use Rattle.sot_tube.specs.Certified.{IsWellCertified}
use Rattle.sot_law_runs.specs.Holds.{Guarded, IsHold, AreHolds, last_of, start_at}
use Rattle.sot_law_runs.specs.Ranks.{IsInCells, LandsIn, HasRank}
use Rattle.sot_law_runs.specs.RecoveryLaws.{RanksRecover, RankZeroKeeps, HoldsStaySafe, GuardedModules}
use Rattle.sot_tube.proofs.Certificate.{in_some_box}
use Rattle.sot_law_runs.proofs.Commands.{begun}
use Rattle.sot_law_runs.proofs.Landing.{points_inside, lands, last_at}

-- one less, or 0
abbrev pub less : ℕ → ℕ
less zero = zero
less (suc k) = k

less_most : (k i : ℕ) → k ≤ suc i → less k ≤ i
less_most zero i le = omega arith
less_most (suc k) i le = omega (arith, le)

module _ {p : Tables} {cert : Cert} {m : ℕ} (g : Guarded p cert m) where
  lands_more : (Of Also : ℕ → Type 0) (i : ℕ) → ((j : ℕ) → Of j → Also j) → LandsIn g Of i → LandsIn g Also i
  lands_more Of Also i more h = (h.0, h.1, λ box s landing w. (let c = h.2 box s landing w in (c.0, c.1, more c.0 c.2, c.3, c.4)))

  -- a cell lands in cells of one rank less, or of rank 0
  pub ranks_land : (k i : ℕ) → HasRank g k i → LandsIn g (HasRank g (less k)) i
  ranks_land zero i h = lands_more (Has h.0) (HasRank g zero) i (λ j has. (h.0, has, h.2)) (h.2 i h.1).1
  ranks_land (suc k) i (inr h) = h
  ranks_land (suc zero) i (inl h) = ranks_land zero i h
  ranks_land (suc (suc k)) i (inl h) = lands_more (HasRank g k) (HasRank g (suc k)) i (λ j r. inl r) (ranks_land (suc k) i h)

  -- a row of holds from cells of rank k is in the safer region after k holds
  rows : IsTyped p → IsWellCertified p cert.jitter cert → (k : ℕ) (s : List ℤ) (paths : List (List (List ℤ))) (i j : ℕ) (path : List (List ℤ)) (t : List ℤ)
      → IsInCells g (HasRank g k) s → AreHolds g s paths → k ≤ i → At paths i path → At (start_at g s paths i ∷ path) j t → IsInRegion g.info.safer.boxes t
  rows typed c k s [] i j path t in_cells holds le at at_t = absurd (none-some path at)
  rows typed c (suc k) s (first ∷ paths) zero j path t in_cells holds le at at_t = absurd (omega (arith, le))
  rows typed c zero s (first ∷ paths) zero j path t in_cells holds le at at_t =
      let stays = (in_cells.2.2 in_cells.0 in_cells.2.1).0 in
      let one : stays.0 ≡ in_cells.1 = at_same g.cells.closed.boxes in_cells.0 stays.0 in_cells.1 stays.1 in_cells.3 in
      let same : first ≡ path = same_Some first path at in
      points_inside g typed g.info.safer.boxes stays.0 s first stays.2.fired stays.2.drafts stays.2.stays (subst (λ q. IsWithin q s) (sym one) in_cells.4)
      (begun g s first holds.0) j t (subst (λ q. At (s ∷ q) j t) (sym same) at_t)
  rows typed c k s (first ∷ paths) (suc i) j path t in_cells holds le at at_t =
      let next = lands g typed c (HasRank g (less k)) in_cells.0 in_cells.1 s first in_cells.3 in_cells.4 (begun g s first holds.0) holds.0.least
      (ranks_land k in_cells.0 in_cells.2) in
      rows typed c (less k) (last_of g s first) paths i j path t next holds.1 (less_most k i le) at at_t

  in_hold : IsTyped p → IsWellCertified p cert.jitter cert → (s : List ℤ) (path : List (List ℤ)) → IsInRegion g.info.safe.boxes s → IsHold g s path
      → (j : ℕ) (t : List ℤ) → At (s ∷ path) j t → IsInRegion g.info.safe.boxes t
  in_hold typed c s path safe h j t at =
      let box = in_some_box g.cells.closed.boxes s (c.closed_cover m g.info g.cells g.info_is g.cells_are s safe) in
      let is = c.closed_cells m g.info g.plant g.sc g.acts g.cells box.0 box.1 g.info_is g.plant_is g.sc_is g.coded g.cells_are box.2 in
      points_inside g typed g.info.safe.boxes box.1 s path is.fired is.drafts is.stays box.3 (begun g s path h) j t at

  -- a row of holds from the safe region stays there
  stay_safe : IsTyped p → IsWellCertified p cert.jitter cert → (s : List ℤ) (paths : List (List (List ℤ))) (i j : ℕ) (path : List (List ℤ)) (t : List ℤ)
      → IsInRegion g.info.safe.boxes s → AreHolds g s paths → At paths i path → At (start_at g s paths i ∷ path) j t → IsInRegion g.info.safe.boxes t
  stay_safe typed c s [] i j path t safe holds at at_t = absurd (none-some path at)
  stay_safe typed c s (first ∷ paths) zero j path t safe holds at at_t =
      let same : first ≡ path = same_Some first path at in
      in_hold typed c s first safe holds.0 j t (subst (λ q. At (s ∷ q) j t) (sym same) at_t)
  stay_safe typed c s (first ∷ paths) (suc i) j path t safe holds at at_t =
      stay_safe typed c (last_of g s first) paths i j path t (in_hold typed c s first safe holds.0 (length first) (last_of g s first) (last_at g s first))
      holds.1 at at_t

pub ranks_recover : RanksRecover
ranks_recover p cert m g k typed c reaches s paths i j path t safe holds le at at_t = rows g typed c k s paths i j path t (reaches s safe) holds le at at_t

pub zero_keeps : RankZeroKeeps
zero_keeps p cert m g set down up i has =
    let r = down i has in
    let k = r.2 i r.1 in
    (k.0, lands_more g (Has r.0) (Has set) i (λ j h. up j (r.0, h, r.2)) k.1)

pub holds_stay_safe : HoldsStaySafe
holds_stay_safe p cert m g s paths i j path t typed c safe holds at at_t = stay_safe g typed c s paths i j path t safe holds at at_t

pub guarded_modules : GuardedModules
guarded_modules p cert m typed c lt =
    let a = at_below p.modules m lt in
    let plant = typed.plant_is m a.0 a.1 in
    let sc = typed.sc_is m a.0 a.1 in
    let cells = c.entries m a.0 a.1 in
    record {
      info = a.0;
      info_is = a.1;
      plant = plant.0;
      plant_is = plant.1;
      sc = sc.0;
      sc_is = sc.2;
      acts = sc.1;
      coded = sc.3;
      cells = cells.0;
      cells_are = cells.1;
    }
