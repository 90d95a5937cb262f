-- The plants of a tick that are read one by one, with what is kept of their disturbances.
use Rattle.std.proofs.Common.{◌≡◌, ℕ, ◌+◌, List, [], ◌∷◌, ◌++◌, Option, Some, None, drop, refl, sym, ap, ap₂, ◌∙◌}
use Rattle.std.specs.Prelude.{ℤ}
use Rattle.sot_lang.specs.declared.tables.PlantInfo.{PlantInfo}
use Rattle.sot_trace_lines.specs.Pieces.{◌>>=◌}
use Rattle.sot_trace_lines.specs.Readers.{move_at, moves_at}
use Rattle.sot_trace_lines.specs.Kept.{bounded, Kept, put_one, put_all, kept_noise}
use Rattle.sot_trace_lines.proofs.Pieces.{parts_same}

pub put_both : (kept : Kept) (a b : List ℤ) → put_all kept (a ++ b) ≡ put_all (put_all kept a) b
put_both kept [] b = refl
put_both kept (z ∷ a) b = put_both (put_one kept (bounded z)) a b

-- one plant before others
abbrev pub before : Option (List ℤ × List ℤ × List ℕ) → List PlantInfo → Option (List ℤ × List ℤ × List ℕ)
before o ks = o >>= λ m. moves_at ks m.2 >>= λ n. Some (m.0 ++ n.0, m.1 ++ n.1, n.2)

abbrev pub joined : List ℤ → List ℤ → Option (List ℤ × List ℤ × List ℕ) → Option (List ℤ × List ℤ × List ℕ)
joined a b o = o >>= λ n. Some (a ++ n.0, b ++ n.1, n.2)

kept_joined : (kept : Kept) (a b : List ℤ) (o : Option (List ℤ × List ℤ × List ℕ)) → kept_noise kept (joined a b o) ≡ kept_noise (put_all kept a) o
kept_joined kept a b None = refl
kept_joined kept a b (Some n) = ap (λ k. Some (k, n.2)) (put_both kept a n.0)

kept_before : (kept next : Kept) (ks : List PlantInfo) (rest : List ℕ) (o : Option (List ℤ × List ℤ × List ℕ)) → kept_noise kept o ≡ Some (next, rest)
    → kept_noise next (moves_at ks rest) ≡ kept_noise kept (before o ks)
kept_before kept next ks rest None e = absurd cc
kept_before kept next ks rest (Some (a, b, r)) e =
    let same = parts_same (put_all kept a) next r rest e in
    sym (kept_joined kept a b (moves_at ks r) ∙ ap₂ (λ k t. kept_noise k (moves_at ks t)) same.0 same.1)

none_before : (kept : Kept) (ks : List PlantInfo) (o : Option (List ℤ × List ℤ × List ℕ)) → kept_noise kept o ≡ None → before o ks ≡ None
none_before kept ks None e = refl
none_before kept ks (Some m) e = absurd cc

-- a plant was read
pub moved : (ks : List PlantInfo) (i : ℕ) (k : PlantInfo) (kept next : Kept) (text rest : List ℕ) → drop i ks ≡ k ∷ drop (i + 1) ks
    → kept_noise kept (move_at k text) ≡ Some (next, rest)
    → kept_noise next (moves_at (drop (i + 1) ks) rest) ≡ kept_noise kept (moves_at (drop i ks) text)
moved ks i k kept next text rest at is = kept_before kept next (drop (i + 1) ks) rest (move_at k text) is ∙ ap (λ l. kept_noise kept (moves_at l text)) (sym at)

-- .. or none
pub unmoved : (ks : List PlantInfo) (i : ℕ) (k : PlantInfo) (kept : Kept) (text : List ℕ) → drop i ks ≡ k ∷ drop (i + 1) ks
    → kept_noise kept (move_at k text) ≡ None
    → None ≡ kept_noise kept (moves_at (drop i ks) text)
unmoved ks i k kept text at is =
    sym (ap (λ l. kept_noise kept (moves_at l text)) at ∙ ap (kept_noise kept) (none_before kept (drop (i + 1) ks) (move_at k text) is))
