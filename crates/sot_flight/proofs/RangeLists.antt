-- Ranges put into a list, one after another.
use Rattle.std.proofs.Common.{◌≡◌, ℕ, zero, suc, ◌+◌, List, [], ◌∷◌, ◌++◌, take, drop, sym, ap, ap₂, ◌∙◌, arith}
use Rattle.std.proofs.lemmas.List.{take_more}
use Rattle.std.proofs.lemmas.Option.{slice_get_within, get_or_from_slice_get, none-some}
use Rattle.std.specs.Prelude.{slice_get}
use Rattle.sot_lists.specs.Places.{At}
use Rattle.sot_box.specs.Sides.{Side}
use Rattle.sot_box.proofs.Equals.{interval_ends}

pub range_more : (found rs : List Side) (i : ℕ) (r s : Side) → At rs i s → found ≡ take i rs → r.lo ≡ s.lo → r.hi ≡ s.hi → found ++ r ∷ [] ≡ take (i + 1) rs
range_more found rs i r s at so_far low high =
    ap₂ (λ l x. l ++ x ∷ []) so_far (interval_ends r s low high ∙ sym (get_or_from_slice_get rs i s s at)) ∙ sym (take_more rs i s (slice_get_within rs i s at))

pub at_dropped : {A : Type 0} (xs : List A) (n i : ℕ) (x : A) → At xs (n + i) x → At (drop n xs) i x
at_dropped xs zero i x at = (let e : zero + i ≡ i = omega arith in ap (λ k. slice_get xs k) (sym e) ∙ at)
at_dropped [] (suc n) i x at = absurd (none-some x at)
at_dropped (y ∷ ys) (suc n) i x at = (let e : suc n + i ≡ suc (n + i) = omega arith in at_dropped ys n i x (ap (λ k. slice_get (y ∷ ys) k) (sym e) ∙ at))
