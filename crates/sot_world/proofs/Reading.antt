-- What reads of lists tell.
use Rattle.std.proofs.Common.{◌≡◌, ℕ, Bool, false, List, get_or, slice_index_or, sym, subst}

-- a flag that was read as false
pub read_false : (xs ys : List Bool) (k : ℕ) (x : Bool) → xs ≡ ys → x ≡ get_or xs k x → x ≡ false → slice_index_or ys k false ≡ false
read_false xs ys k x same is e = sym (subst (λ y. y ≡ slice_index_or ys k y) e (subst (λ l. x ≡ get_or l k x) same is))
