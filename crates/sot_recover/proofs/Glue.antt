-- Flags and lists of places, and ranks.
use Rattle.std.proofs.Common.{◌≡◌, ℕ, zero, suc, ◌+◌, ◌<◌, ◌≤◌, Bool, true, false, ◌↔◌, inl, inr, ⊎_elim, List, [], ◌∷◌, Some, length, refl, sym, ap}
use Rattle.std.proofs.Common.{◌∙◌, subst, arith}
use Rattle.std.specs.Prelude.{slice_index_or, slice_set}
use Rattle.std.proofs.lemmas.Bool.{cases_eq, false≢true}
use Rattle.std.proofs.lemmas.List.{length-set, get_or-set_other}
use Rattle.std.proofs.lemmas.Option.{same_Some, none-some, slice_get_within}
use Rattle.sot_lists.specs.Places.{At, Has}
use Rattle.sot_box.specs.Sides.{Side}
use Rattle.sot_lang.specs.declared.cert.Cert.{Cert}
use Rattle.sot_lang.specs.Tables.{Tables}
use Rattle.sot_law_runs.specs.Holds.{Guarded}
use Rattle.sot_law_runs.specs.Ranks.{StaysSafer, LandsIn, HasRank}
use Rattle.sot_recover.specs.Sets.{IsSet, KeepIn, AreRanks, at_most}
use Rattle.sot_recover.proofs.Sets.{put_there, kept_others}
use Rattle.sot_recover.proofs.Levels.{at_set, set_at}
use Rattle.sot_recover.specs.Found.{AreRanksOf}

-- the flagged cells are those whose tubes stay safer
abbrev pub AreFlagged : {p : Tables} {cert : Cert} {m : ℕ} → Guarded p cert m → List Bool → Type 0
AreFlagged g flags = (i : ℕ) → IsSet flags i ↔ ((cell : List Side) × At g.cells.closed.boxes i cell × StaysSafer g cell)

-- what a place lands in
abbrev pub lands_of : {p : Tables} {cert : Cert} {m : ℕ} → Guarded p cert m → List Bool → ℕ → Type 0
lands_of g flags i = LandsIn g (IsSet flags) i

-- the flagged places
placed : ℕ → List Bool → List ℕ
placed n [] = []
placed n (true ∷ xs) = n ∷ placed (suc n) xs
placed n (false ∷ xs) = placed (suc n) xs

placed_has : (n : ℕ) (xs : List Bool) (i : ℕ) → IsSet xs i → Has (placed n xs) (n + i)
unfolding placed
placed_has n [] i e = absurd (false≢true e)
placed_has n (true ∷ xs) zero e = (let s : n ≡ n + 0 = omega arith in (0, ap Some s))
placed_has n (false ∷ xs) zero e = absurd (false≢true e)
placed_has n (true ∷ xs) (suc i) e =
    (let s : suc n + i ≡ n + suc i = omega arith in let h = placed_has (suc n) xs i e in subst (Has (n ∷ placed (suc n) xs)) s (suc h.0, h.1))
placed_has n (false ∷ xs) (suc i) e = (let s : suc n + i ≡ n + suc i = omega arith in subst (Has (placed (suc n) xs)) s (placed_has (suc n) xs i e))

has_placed : (n : ℕ) (xs : List Bool) (j k : ℕ) → At (placed n xs) k j → (i : ℕ) × (j ≡ n + i) × IsSet xs i
unfolding placed
has_placed n [] j k at = absurd (none-some j at)
has_placed n (true ∷ xs) j zero at = (let e = same_Some n j at in (0, omega (arith, e), refl))
has_placed n (true ∷ xs) j (suc k) at = (let h = has_placed (suc n) xs j k at in let e = h.1 in (suc h.0, omega (arith, e), h.2))
has_placed n (false ∷ xs) j k at = (let h = has_placed (suc n) xs j k at in let e = h.1 in (suc h.0, omega (arith, e), h.2))

set_of : (xs : List Bool) (j : ℕ) → Has (placed 0 xs) j → IsSet xs j
set_of xs j has = (let h = has_placed 0 xs j has.0 has.1 in let e : h.0 ≡ j = (let a = h.1 in omega (arith, a)) in subst (IsSet xs) e h.2)

of_set : (xs : List Bool) (j : ℕ) → IsSet xs j → Has (placed 0 xs) j
of_set xs j e = (let s : 0 + j ≡ j = omega arith in subst (Has (placed 0 xs)) s (placed_has 0 xs j e))

-- so many flags, of which those of a list's places are set
blank : ℕ → List Bool
blank zero = []
blank (suc n) = false ∷ blank n

blank_length : (n : ℕ) → length (blank n) ≡ n
unfolding blank
blank_length zero = refl
blank_length (suc n) = ap suc (blank_length n)

blank_none : (n i : ℕ) → IsSet (blank n) i → ⊥
unfolding blank
blank_none zero i e = false≢true e
blank_none (suc n) zero e = false≢true e
blank_none (suc n) (suc i) e = blank_none n i e

flagged : ℕ → List ℕ → List Bool
flagged n [] = blank n
flagged n (k ∷ ks) = slice_set (flagged n ks) k true

flagged_length : (n : ℕ) (ks : List ℕ) → length (flagged n ks) ≡ n
unfolding flagged
flagged_length n [] = blank_length n
flagged_length n (k ∷ ks) = length-set (flagged n ks) k true ∙ flagged_length n ks

flagged_has : (n : ℕ) (ks : List ℕ) (i k : ℕ) → i < n → At ks k i → IsSet (flagged n ks) i
unfolding flagged
flagged_has n [] i k lt at = absurd (none-some i at)
flagged_has n (j ∷ ks) i zero lt at =
    (let e = same_Some j i at in let room : j < length (flagged n ks) = (let a = flagged_length n ks in omega (arith, lt, e, a)) in
    subst (IsSet (slice_set (flagged n ks) j true)) e (put_there (flagged n ks) j room))
flagged_has n (j ∷ ks) i (suc k) lt at = ⊎_elim
    (λ (here : i ≡ j). let room : i < length (flagged n ks) = (let a = flagged_length n ks in omega (arith, lt, a)) in
    subst (λ q. IsSet (slice_set (flagged n ks) q true) i) here (put_there (flagged n ks) i room))
    (λ (ne : i ≡ j → ⊥). kept_others (flagged n ks) j i true ne (flagged_has n ks i k lt at))
    (cases_eq i j)

has_flagged : (n : ℕ) (ks : List ℕ) (i : ℕ) → IsSet (flagged n ks) i → Has ks i
unfolding flagged
has_flagged n [] i e = absurd (blank_none n i e)
has_flagged n (j ∷ ks) i e = ⊎_elim
    (λ (here : i ≡ j). (0, ap Some (sym here)))
    (λ (ne : i ≡ j → ⊥). let h = has_flagged n ks i (sym (other (flagged n ks) j i ne) ∙ e) in (suc h.0, h.1))
    (cases_eq i j)
  where
    other : (xs : List Bool) (k q : ℕ) → (q ≡ k → ⊥) → slice_index_or (slice_set xs k true) q false ≡ slice_index_or xs q false
    other xs k q ne = get_or-set_other xs k q true false ne

module _ {p : Tables} {cert : Cert} {m : ℕ} (g : Guarded p cert m) where
  lands_more : (Of Also : ℕ → Type 0) (i : ℕ) → ((j : ℕ) → j < length g.cells.closed.boxes → Of j → Also j) → LandsIn g Of i → LandsIn g Also i
  lands_more Of Also i more h =
      (h.0, h.1, λ box s landing w. (let c = h.2 box s landing w in (c.0, c.1, more c.0 (slice_get_within g.cells.closed.boxes c.0 c.1 c.3) c.2, c.3, c.4)))

  module _ (flags set : List Bool) (ranks : List ℕ) (are : AreFlagged g flags) (fewer : (i : ℕ) → IsSet set i → IsSet flags i)
      (keeps : (i : ℕ) → IsSet set i → lands_of g set i) (greatest : (all : List Bool) → KeepIn (lands_of g) all flags → KeepIn (lands_of g) all set)
      (size : length ranks ≡ length g.cells.closed.boxes) (are_ranks : AreRanks (lands_of g) set ranks) where
    below : (i : ℕ) (cell : List Side) → At g.cells.closed.boxes i cell → i < length ranks
    below i cell at = (let lt = slice_get_within g.cells.closed.boxes i cell at in omega (arith, lt, size))

    zero_set : (i : ℕ) → HasRank g 0 i → IsSet set i
    zero_set i r =
        let n = length g.cells.closed.boxes in
        let all = flagged n r.0 in
        let inside : (j : ℕ) → IsSet all j → IsSet flags j = λ j e. (are j).1 ((r.2 j (has_flagged n r.0 j e)).0) in
        let land : (j : ℕ) → IsSet all j → lands_of g all j = λ j e.
        lands_more (Has r.0) (IsSet all) j (λ q lt has. flagged_has n r.0 q has.0 lt has.1) ((r.2 j (has_flagged n r.0 j e)).1) in
        let cell = (r.2 i r.1).0 in
        (greatest all (record { inside = inside; land = land })).inside i
        (flagged_has n r.0 i r.1.0 (slice_get_within g.cells.closed.boxes i cell.0 cell.1) r.1.1)

    set_zero : (i : ℕ) → IsSet set i → HasRank g 0 i
    set_zero i e = (
      placed 0 set,
      of_set set i e,
      λ j has. let s = set_of set j has in
          ((are j).0 (fewer j s), lands_more (IsSet set) (Has (placed 0 set)) j (λ q lt x. of_set set q x) (keeps j s)),
    )

    so : (k i : ℕ) → k < 4294967295 → HasRank g k i ↔ ((i < length ranks) × (slice_index_or ranks i 0 ≤ k))
    so zero i lt = (
      λ r. (let s = zero_set i r in let cell = (are i).0 (fewer i s) in let there = below i cell.0 cell.1 in let z = (are_ranks.zero_are i there).1 s in
          (there, omega (arith, z))),
      λ h. (let le = h.1 in set_zero i ((are_ranks.zero_are i h.0).0 (omega (arith, le)))),
    )
    so (suc k) i lt =
        let low : k < 4294967294 = omega (arith, lt) in
        let small : k < 4294967295 = omega (arith, lt) in
        let out : (j : ℕ) → j < length g.cells.closed.boxes → HasRank g k j
        → IsSet (at_most k ranks) j = λ j there r. (let h = (so k j small).0 r in set_at k ranks j h.0 h.1) in
        let back : (j : ℕ) → j < length g.cells.closed.boxes → IsSet (at_most k ranks) j
        → HasRank g k j = λ j there e. (let h = at_set k ranks j e in (so k j small).1 h) in (
          λ r. ⊎_elim
              (λ (old : HasRank g k i). let h = (so k i small).0 old in let le = h.1 in (h.0, omega (arith, le)))
              (λ (l : LandsIn g (HasRank g k) i). let there = below i l.0 l.1 in
              (there, (at_set (suc k) ranks i ((are_ranks.next_are k i low there).1 (inr (lands_more (HasRank g k) (IsSet (at_most k ranks)) i out l)))).1))
              r,
          λ h. ⊎_elim
              (λ (e : IsSet (at_most k ranks) i). inl ((so k i small).1 (at_set k ranks i e)))
              (λ (l : LandsIn g (IsSet (at_most k ranks)) i). inr (lands_more (IsSet (at_most k ranks)) (HasRank g k) i back l))
              ((are_ranks.next_are k i low h.0).0 (set_at (suc k) ranks i h.0 h.1)),
        )

    top : length ranks ≤ 4096 → (k i : ℕ) → HasRank g k i → HasRank g (length ranks) i
    top few k i r = (so (length ranks) i (omega (arith, few))).1 (low k i r)
      where
        low : (k i : ℕ) → HasRank g k i → (i < length ranks) × (slice_index_or ranks i 0 ≤ length ranks)
        low zero i r = (let h = (so zero i (omega arith)).0 r in let le = h.1 in (h.0, omega (arith, le)))
        low (suc k) i (inl r) = low k i r
        low (suc k) i (inr l) =
            let there = below i l.0 l.1 in
            let into : lands_of g (at_most (length ranks) ranks) i =
            lands_more (HasRank g k) (IsSet (at_most (length ranks) ranks)) i (λ j lt r. let h = low k j r in set_at (length ranks) ranks j h.0 h.1) l in
            (there, (at_set (length ranks) ranks i (are_ranks.last_are i there into)).1)

    pub ranks_are_so : length ranks ≤ 4096 → AreRanksOf g ranks
    ranks_are_so few = record { count = size; are = so; top = top few }
