-- Which ranks cover the safe region of a module.
use Rattle.std.proofs.Common.{◌≡◌, ℕ, suc, ◌+◌, ◌<◌, ◌≤◌, inl, inr, ⊎_elim, List, [], ◌∷◌, map, length, refl, sym, subst, arith}
use Rattle.std.specs.Prelude.{ℤ, slice_index_or}
use Rattle.std.proofs.lemmas.Option.{slice_get_within, get_or_from_slice_get}
use Rattle.sot_lists.specs.Places.{At, Has}
use Rattle.sot_lists.proofs.Places.{at_below}
use Rattle.sot_box.specs.Sides.{Side}
use Rattle.sot_box.specs.Boxes.{IsWithin}
use Rattle.sot_box.specs.Regions.{IsInRegion, CoversAll, IsFirstGap}
use Rattle.sot_box.proofs.Laws.{first_gap_uncovered}
use Rattle.sot_lang.specs.declared.cert.Cert.{Cert}
use Rattle.sot_lang.specs.Tables.{Tables}
use Rattle.sot_rta.proofs.CellChecks.{covers_points}
use Rattle.sot_law_runs.specs.Holds.{Guarded}
use Rattle.sot_law_runs.specs.Ranks.{HasRank, Reaches, IsRank, HasNoRank}
use Rattle.sot_law_runs.proofs.OneRank.{choose}
use Rattle.sot_recover.specs.Chosen.{places_from, IsLeastCover}
use Rattle.sot_recover.specs.Found.{AreRanksOf}
use Rattle.sot_recover.proofs.Chosen.{chosen_has, has_chosen}

-- the cells of rank k at most, by the name that proofs give them
abbrev pub cells_at_most : List (List Side) → List ℕ → ℕ → List (List Side)
cells_at_most cells ranks k = map (λ i. slice_index_or cells i []) (places_from k 0 ranks)

-- a region covers boxes of whose points it has each
covers_each : (boxes region : List (List Side)) → ((s : List ℤ) → IsInRegion boxes s → IsInRegion region s) → CoversAll boxes region
covers_each [] region h = tt
covers_each (b ∷ bs) region h = (λ s w. h s (inl w), covers_each bs region (λ s r. h s (inr r)))

chosen_in : (of : ℕ → List Side) (places : List ℕ) (t : List ℤ) → IsInRegion (map of places) t → (i : ℕ) × (n : ℕ) × At places n i × IsWithin (of i) t
chosen_in of [] t h = absurd h
chosen_in of (i ∷ is) t h = ⊎_elim (λ w. (i, 0, refl, w)) (λ more. let r = chosen_in of is t more in (r.0, suc r.1, r.2, r.3)) h

module _ {p : Tables} {cert : Cert} {m : ℕ} (g : Guarded p cert m) (ranks : List ℕ) (are : AreRanksOf g ranks) (few : length ranks ≤ 4096) where
  -- a place is chosen where its cell has that rank
  chosen_rank : (k i n : ℕ) → k < 4294967295 → At (places_from k 0 ranks) n i → HasRank g k i
  chosen_rank k i n small at =
      let h = has_chosen k 0 ranks i n at in
      let same : i ≡ h.0 = (let e = h.2 in omega (arith, e)) in
      let lt = slice_get_within ranks h.0 h.1 h.3 in
      let read = get_or_from_slice_get ranks h.0 h.1 0 h.3 in
      let le = h.4 in
      (are.are k i small).1 (omega (arith, same, lt), subst (λ q. slice_index_or ranks q 0 ≤ k) (sym same) (omega (arith, read, le)))

  rank_chosen : (k i : ℕ) → k < 4294967295 → HasRank g k i → Has (places_from k 0 ranks) i
  rank_chosen k i small r =
      let h = (are.are k i small).0 r in
      let x = at_below ranks i h.0 in
      let read = get_or_from_slice_get ranks i x.0 0 x.1 in
      let le = h.1 in
      let e : 0 + i ≡ i = omega arith in
      subst (Has (places_from k 0 ranks)) e (chosen_has k 0 ranks i x.0 x.1 (omega (arith, read, le)))

  pub covers_reach : (k : ℕ) → k < 4294967295 → CoversAll g.info.safe.boxes (cells_at_most g.cells.closed.boxes ranks k) → Reaches g k
  covers_reach k small covers s safe =
      let c = chosen_in (λ i. slice_index_or g.cells.closed.boxes i []) (places_from k 0 ranks) s
      (covers_points g.info.safe.boxes (cells_at_most g.cells.closed.boxes ranks k) covers s safe) in
      let rank = chosen_rank k c.0 c.1 small c.2 in
      let lt : c.0 < length g.cells.closed.boxes = (let a = ((are.are k c.0 small).0 rank).0 in let b = are.count in omega (arith, a, b)) in
      let cell = at_below g.cells.closed.boxes c.0 lt in
      let read = get_or_from_slice_get g.cells.closed.boxes c.0 cell.0 [] cell.1 in
      (c.0, cell.0, rank, cell.1, subst (λ b. IsWithin b s) read c.3)

  pub reach_covers : (k : ℕ) → k < 4294967295 → Reaches g k → CoversAll g.info.safe.boxes (cells_at_most g.cells.closed.boxes ranks k)
  reach_covers k small r = covers_each g.info.safe.boxes (cells_at_most g.cells.closed.boxes ranks k) (λ s safe.
      (let c = r s safe in
      let has = rank_chosen k c.0 small c.2 in
      let read = get_or_from_slice_get g.cells.closed.boxes c.0 c.1 [] c.3 in
      choose (λ i. slice_index_or g.cells.closed.boxes i []) (places_from k 0 ranks) s c.0 has.0 has.1 (subst (λ b. IsWithin b s) (sym read) c.4)))

  pub is_rank : (k : ℕ) → IsLeastCover g.info.safe.boxes g.cells.closed.boxes ranks (length ranks) k → IsRank g k
  is_rank k h = (let le = h.few in record {
    reaches = covers_reach k (omega (arith, le, few)) h.covers;
    least = λ l lt r. h.least l lt (reach_covers l (omega (arith, le, few, lt)) r);
  })

  pub no_rank : (s : List ℤ) → IsFirstGap g.info.safe.boxes (cells_at_most g.cells.closed.boxes ranks (length ranks)) s → HasNoRank g s
  no_rank s gap = record {
    none = λ k r. first_gap_uncovered g.info.safe.boxes (cells_at_most g.cells.closed.boxes ranks (length ranks)) s gap
        (reach_covers (length ranks) (omega (arith, few)) (λ t safe. (let c = r t safe in (c.0, c.1, are.top k c.0 c.2, c.3, c.4))));
    places = places_from (length ranks) 0 ranks;
    are = λ i. (
      λ has. (length ranks, chosen_rank (length ranks) i has.0 (omega (arith, few)) has.1),
      λ h. rank_chosen (length ranks) i (omega (arith, few)) (are.top h.0 i h.1),
    );
    first = gap;
  }
