-- Plants in their places that are read one by one, with what is kept of their coordinates.
use Rattle.std.proofs.Common.{◌≡◌, ℕ, ◌+◌, List, ◌∷◌, ◌++◌, Option, Some, None, drop, codes, refl, sym, ap, ap₂, ◌∙◌}
use Rattle.std.specs.Prelude.{ℤ}
use Rattle.sot_lang.specs.declared.tables.PlantInfo.{PlantInfo}
use Rattle.sot_trace_lines.specs.Pieces.{◌>>=◌, behind}
use Rattle.sot_trace_lines.specs.Kept.{Kept, put_all, kept_row}
use Rattle.sot_trace_lines.proofs.Pieces.{parts_same}
use Rattle.sot_trace_lines.proofs.KeptMoves.{put_both}
use Rattle.sot_guard_lines.specs.Readers.{closed_at, place_at, places_at}

-- numbers with a `)` behind them, or without
module _ (kept next : Kept) where
  pub closed : (r rest : List ℕ) (o : Option (List ℤ × List ℕ)) → kept_row kept o ≡ Some (next, r) → behind (codes ")") r ≡ Some rest
      → kept_row kept (o >>= closed_at) ≡ Some (next, rest)
  closed r rest None e is = absurd cc
  closed r rest (Some row) e is =
      let same = parts_same (put_all kept row.0) next row.1 r e in
      ap (λ t. kept_row kept (behind (codes ")") t >>= λ x. Some (row.0, x))) same.1
      ∙ ap (λ o. kept_row kept (o >>= λ x. Some (row.0, x))) is
      ∙ ap (λ k. Some (k, rest)) same.0

  pub open_ : (r : List ℕ) (o : Option (List ℤ × List ℕ)) → kept_row kept o ≡ Some (next, r) → behind (codes ")") r ≡ None
      → kept_row kept (o >>= closed_at) ≡ None
  open_ r None e none = refl
  open_ r (Some row) e none =
      let same = parts_same (put_all kept row.0) next row.1 r e in
      ap (λ t. kept_row kept (behind (codes ")") t >>= λ x. Some (row.0, x))) same.1
      ∙ ap (λ o. kept_row kept (o >>= λ x. Some (row.0, x))) none

pub unread : (kept : Kept) (f : List ℤ × List ℕ → Option (List ℤ × List ℕ)) (o : Option (List ℤ × List ℕ)) → kept_row kept o ≡ None
    → kept_row kept (o >>= f) ≡ None
unread kept f None e = refl
unread kept f (Some row) e = absurd cc

-- one plant before others
abbrev pub before : Option (List ℤ × List ℕ) → List PlantInfo → Option (List ℤ × List ℕ)
before o ks = o >>= λ m. places_at ks m.1 >>= λ n. Some (m.0 ++ n.0, n.1)

abbrev pub joined : List ℤ → Option (List ℤ × List ℕ) → Option (List ℤ × List ℕ)
joined a o = o >>= λ n. Some (a ++ n.0, n.1)

kept_joined : (kept : Kept) (a : List ℤ) (o : Option (List ℤ × List ℕ)) → kept_row kept (joined a o) ≡ kept_row (put_all kept a) o
kept_joined kept a None = refl
kept_joined kept a (Some n) = ap (λ k. Some (k, n.1)) (put_both kept a n.0)

kept_before : (kept next : Kept) (ks : List PlantInfo) (rest : List ℕ) (o : Option (List ℤ × List ℕ)) → kept_row kept o ≡ Some (next, rest)
    → kept_row next (places_at ks rest) ≡ kept_row kept (before o ks)
kept_before kept next ks rest None e = absurd cc
kept_before kept next ks rest (Some (a, r)) e =
    let same = parts_same (put_all kept a) next r rest e in
    sym (kept_joined kept a (places_at ks r) ∙ ap₂ (λ k t. kept_row k (places_at ks t)) same.0 same.1)

none_before : (kept : Kept) (ks : List PlantInfo) (o : Option (List ℤ × List ℕ)) → kept_row kept o ≡ None → before o ks ≡ None
none_before kept ks None e = refl
none_before kept ks (Some m) e = absurd cc

-- a plant was read
pub placed : (ks : List PlantInfo) (i : ℕ) (k : PlantInfo) (kept next : Kept) (text rest : List ℕ) → drop i ks ≡ k ∷ drop (i + 1) ks
    → kept_row kept (place_at k text) ≡ Some (next, rest)
    → kept_row next (places_at (drop (i + 1) ks) rest) ≡ kept_row kept (places_at (drop i ks) text)
placed ks i k kept next text rest at is =
    kept_before kept next (drop (i + 1) ks) rest (place_at k text) is ∙ ap (λ l. kept_row kept (places_at l text)) (sym at)

-- .. or none
pub unplaced : (ks : List PlantInfo) (i : ℕ) (k : PlantInfo) (kept : Kept) (text : List ℕ) → drop i ks ≡ k ∷ drop (i + 1) ks
    → kept_row kept (place_at k text) ≡ None
    → None ≡ kept_row kept (places_at (drop i ks) text)
unplaced ks i k kept text at is =
    sym (ap (λ l. kept_row kept (places_at l text)) at ∙ ap (kept_row kept) (none_before kept (drop (i + 1) ks) (place_at k text) is))
