-- Lists that are written one element after another.
use Rattle.std.proofs.Common.{◌≡◌, ℕ, ◌+◌, ◌<◌, List, [], ◌∷◌, ◌++◌, length, take, sym, ap, ◌∙◌}
use Rattle.std.proofs.Math.ListN.{set}
use Rattle.std.proofs.lemmas.List.{take_more, take_more_set}
use Rattle.std.proofs.lemmas.Option.{slice_get_within, get_or_from_slice_get}
use Rattle.sot_lists.specs.Places.{At}

pub filled : {A : Type 0} (xs ys : List A) (i : ℕ) (x : A) → i < length xs → At ys i x → take i xs ≡ take i ys → take (i + 1) (set xs i x) ≡ take (i + 1) ys
filled xs ys i x lt at done =
    take_more_set xs i x lt ∙ ap (λ l. l ++ x ∷ []) done ∙ sym
    (take_more ys i x (slice_get_within ys i x at) ∙ ap (λ y. take i ys ++ y ∷ []) (get_or_from_slice_get ys i x x at))
