-- Ranks are the same in tables that look the same.
use Rattle.std.proofs.Common.{ℕ, zero, suc, ℤ, inl, inr, List, [], map, subst}
use Rattle.std.specs.Prelude.{slice_index_or}
use Rattle.sot_lists.specs.Places.{At, Has}
use Rattle.sot_box.specs.Sides.{Side}
use Rattle.sot_box.specs.Regions.{IsInRegion, IsFirstGap}
use Rattle.sot_lang.specs.declared.cert.Cells.{Cells}
use Rattle.sot_lang.specs.declared.cert.Cert.{Cert}
use Rattle.sot_lang.specs.declared.tables.ModuleInfo.{ModuleInfo}
use Rattle.sot_lang.specs.Tables.{Tables}
use Rattle.sot_law_runs.specs.Holds.{Guarded}
use Rattle.sot_law_runs.specs.Ranks.{IsInCells, LandsIn, HasRank, Reaches, IsRank, HasNoRank}
use Rattle.sot_law_runs.proofs.OneRank.{ranks_are_one}
use Rattle.sot_law_equal_ranks.specs.Laws.{LookTheSame, RanksAlike, OneAnswer}
use Rattle.sot_law_equal_ranks.proofs.Parts.{Alike, alike, back, turned, landing_alike, stays_alike}

module _ {t u : Tables} {c d : Cert} {m : ℕ} (g : Guarded t c m) (h : Guarded u d m) (s : LookTheSame t u c d) (a : Alike g h) where
  cell_alike : (i : ℕ) (cell : List Side) → At g.cells.closed.boxes i cell → At h.cells.closed.boxes i cell
  cell_alike i cell at = subst (λ (q : Cells). At q.closed.boxes i cell) a.cells at

  in_cells_alike : (Of Also : ℕ → Type 0) → ((i : ℕ) → Of i → Also i) → (p : List ℤ) → IsInCells g Of p → IsInCells h Also p
  in_cells_alike Of Also more p x = (x.0, x.1, more x.0 x.2, cell_alike x.0 x.1 x.3, x.4)

  lands_alike : (Of Also : ℕ → Type 0) → ((i : ℕ) → Of i → Also i) → (i : ℕ) → LandsIn g Of i → LandsIn h Also i
  lands_alike Of Also more i l = (
    l.0,
    cell_alike i l.0 l.1,
    λ box p landing w. in_cells_alike Of Also more p (l.2 box p (landing_alike h g (turned t u c d s) (back g h a) l.0 box landing) w),
  )

  rank_alike : (k i : ℕ) → HasRank g k i → HasRank h k i
  rank_alike zero i r = (
    r.0,
    r.1,
    λ j has. let keeps = r.2 j has in (
      (keeps.0.0, cell_alike j keeps.0.0 keeps.0.1, stays_alike g h s a keeps.0.0 keeps.0.2),
      lands_alike (Has r.0) (Has r.0) (λ n x. x) j keeps.1,
    ),
  )
  rank_alike (suc k) i (inl r) = inl (rank_alike k i r)
  rank_alike (suc k) i (inr l) = inr (lands_alike (HasRank g k) (HasRank h k) (rank_alike k) i l)

-- the cells of a rank cover the safe region alike
reaches_alike : {t u : Tables} {c d : Cert} {m : ℕ} (g : Guarded t c m) (h : Guarded u d m) → LookTheSame t u c d → Alike g h → (k : ℕ) → Reaches g k
    → Reaches h k
reaches_alike g h s a k r p inside =
    in_cells_alike g h s a (HasRank g k) (HasRank h k) (rank_alike g h s a k) p
    (r p (subst (λ (i : ModuleInfo). IsInRegion i.safe.boxes p) (back g h a).info inside))

module _ {t u : Tables} {c d : Cert} {m : ℕ} (g : Guarded t c m) (h : Guarded u d m) (s : LookTheSame t u c d) where
  so : Alike g h
  so = alike t u c d m g h s

  reaches_back : (k : ℕ) → Reaches h k → Reaches g k
  reaches_back = reaches_alike h g (turned t u c d s) (back g h so)

  ranked : (k : ℕ) → IsRank g k → IsRank h k
  ranked k r = record {
    reaches = reaches_alike g h s so k r.reaches;
    least = λ l less reaches. r.least l less (reaches_back l reaches);
  }

  unranked : (p : List ℤ) → HasNoRank g p → HasNoRank h p
  unranked p r = record {
    none = λ k reaches. r.none k (reaches_back k reaches);
    places = r.places;
    are = λ i. (
      λ has. let rank = (r.are i).0 has in (rank.0, rank_alike g h s so rank.0 i rank.1),
      λ rank. (r.are i).1 (rank.0, rank_alike h g (turned t u c d s) (back g h so) rank.0 i rank.1),
    );
    first =
        subst (λ (q : Cells). IsFirstGap h.info.safe.boxes (map (λ i. slice_index_or q.closed.boxes i []) r.places) p) so.cells
        (subst (λ (i : ModuleInfo). IsFirstGap i.safe.boxes (map (λ j. slice_index_or g.cells.closed.boxes j []) r.places) p) so.info r.first);
  }

pub ranks_alike : RanksAlike
ranks_alike t u c d m g h s = (ranked g h s, unranked g h s)

pub one_answer : OneAnswer
one_answer t u c d m g h s = (
  λ k l a b. (ranks_are_one u d m h h k l [] []).0 (ranked g h s k a) b,
  λ p r a b. (ranks_are_one u d m h h 0 0 p r).1 (unranked g h s p a) b,
  λ k r a b. (ranks_are_one u d m h h k 0 r []).2 (ranked g h s k a) b,
)
